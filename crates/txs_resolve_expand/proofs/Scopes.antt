-- The names in scope as a list whose nearest is first.
use Rattle.std.proofs.Common.{◌≡◌, ◌<◌, ◌≤◌, ◌+◌, ◌-◌, ℕ, List, [], ◌∷◌, ◌++◌, Option, None, Some, length, take, drop, get_or, map, min, reverse, cond, bytes_eq, refl, sym, ap, ◌∙◌, arith, length-drop}
use Rattle.std.proofs.lemmas.List.{reverse-append, length-reverse, take-append-drop, take-map, take-take, take_min, map_more, length-map, length-take-le}
use Rattle.std.proofs.lemmas.Cmp.{nat_list_eq_equiv}
use Rattle.std.specs.Borrow.{Bor}
use Rattle.std.specs.Map.{lookup}
use Rattle.std.specs.Option.{option_copied}
use Rattle.txs_resolve_expand.specs.Scope.{number_in, definition_of}
use Rattle.txs_resolve_expand.specs.Viewed.{entries_of, lent}
use Rattle.txs_resolve_expand.specs.declared.scope.Definition.{Definition}

drop_front : {X : Type 0} (a b : List X) → drop (length a) (a ++ b) ≡ b
drop_front [] b = refl
drop_front (x ∷ a) b = drop_front a b

-- what is left of the names where the outermost stay
pub reverse_take : {X : Type 0} (n : ℕ) (xs : List X) → reverse (take n xs) ≡ drop (length (reverse xs) - n) (reverse xs)
reverse_take n xs =
    let whole : reverse xs ≡ reverse (drop n xs) ++ reverse (take n xs) = ap reverse (sym (take-append-drop n xs)) ∙ reverse-append (take n xs) (drop n xs) in
    let count : length (reverse xs) - n ≡ length (reverse (drop n xs)) = omega (arith, length-reverse xs, length-reverse (drop n xs), length-drop n xs) in
    sym (ap (λ k. drop k (reverse xs)) count ∙ ap (drop (length (reverse (drop n xs)))) whole ∙ drop_front (reverse (drop n xs)) (reverse (take n xs)))

-- the last of the first names is the nearest of them
pub local_more : {X : Type 0} (f : X → List ℕ) (name : List ℕ) (xs : List X) (i : ℕ) (d : X) → i < length xs → number_in name (reverse (take (i + 1) (map f xs))) ≡ cond (bytes_eq name (f (get_or xs i d))) (Some i) (number_in name (reverse (take i (map f xs))))
local_more f name xs i d lt =
    let list : reverse (take (i + 1) (map f xs)) ≡ f (get_or xs i d) ∷ reverse (take i (map f xs)) =
    ap reverse (take-map f (i + 1) xs ∙ map_more f xs i d lt ∙ ap (λ l. l ++ f (get_or xs i d) ∷ []) (sym (take-map f i xs))) ∙ reverse-append (take i (map f xs)) (f (get_or xs i d) ∷ []) in
    let count : length (reverse (take i (map f xs))) ≡ i = length-reverse (take i (map f xs)) ∙ ap length (take-map f i xs) ∙ length-map (take i xs) f ∙ length-take-le i xs (omega arith) in
    ap (number_in name) list ∙ ap (λ (k : ℕ). cond (bytes_eq name (f (get_or xs i d))) (Some k) (number_in name (reverse (take i (map f xs))))) count

-- a definition behind the others
pub entries_more : (es : List (Bor (List ℕ) × Definition)) (k : Bor (List ℕ)) (d : Definition) → entries_of (es ++ (k, d) ∷ []) ≡ entries_of es ++ record { name = k.now; what = d } ∷ []
entries_more [] k d = refl
entries_more (e ∷ es) k d = ap (λ l. record { name = e.0.now; what = e.1 } ∷ l) (entries_more es k d)

-- a look-up by the bytes of a name finds what it is defined as
pub looked_up : (name : List ℕ) (es : List (Bor (List ℕ) × Definition)) → lookup (λ k. bytes_eq name k.now) es ≡ definition_of name (entries_of es)
looked_up name [] = refl
looked_up name (e ∷ es) =
    ap (λ b. cond b (Some e.1) (lookup (λ k. bytes_eq name k.now) es)) (nat_list_eq_equiv.symm name e.0.now)
    ∙ ap (λ o. cond (bytes_eq e.0.now name) (Some e.1) o) (looked_up name es)

pub lent_copied : (o : Option (Bor Definition)) → lent o ≡ option_copied o
lent_copied None = refl
lent_copied (Some d) = refl

-- the outermost of the first names
pub outermost : {X : Type 0} (f : X → List ℕ) (count len : ℕ) (xs : List X) → count ≤ length xs → reverse (map f (take (min count len) xs)) ≡ drop (length (reverse (map f (take count xs))) - len) (reverse (map f (take count xs)))
outermost f count len xs le =
    let names = map f (take count xs) in
    let least : min count len ≡ min len (length (take count xs)) = omega (arith, length-take-le count xs le) in
    let both : take (min count len) xs ≡ take len (take count xs) =
    sym (take-take (min count len) count xs (omega arith)) ∙ ap (λ (k : ℕ). take k (take count xs)) least ∙ take_min len (take count xs) in
    ap (λ l. reverse (map f l)) both ∙ ap reverse (sym (take-map f len (take count xs))) ∙ reverse_take len names

-- so many names are held
pub held : {X : Type 0} (f : X → List ℕ) (count : ℕ) (xs : List X) → count ≤ length xs → length (reverse (map f (take count xs))) ≡ count
held f count xs le = length-reverse (map f (take count xs)) ∙ length-map (take count xs) f ∙ length-take-le count xs le
