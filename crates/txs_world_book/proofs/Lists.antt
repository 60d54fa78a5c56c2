-- Lists that a loop makes, one item after another.
use Rattle.std.proofs.Common.{◌≡◌, ◌<◌, ◌+◌, ◌∙◌, ℕ, zero, suc, true, List, [], ◌∷◌, ◌++◌, ap, arith, drop, get_or, length, length-append, map, refl, subst, sym, take}
use Rattle.std.proofs.lemmas.List.{take_more}
use Rattle.txs_value_data.specs.declared.value.CellId.{CellId}
use Rattle.txs_world_book.specs.Book.{has_ref, has_refs}
use Rattle.txs_world_book.specs.declared.cell.StoreCell.{StoreCell}
use Rattle.txs_world_book.proofs.Outcomes.{both}

-- one item more
pub one_more : {A : Type 0} (ys zs : List A) (y : A) (i : ℕ) → length ys ≡ i → zs ≡ ys ++ y ∷ [] → length zs ≡ i + 1
one_more ys zs y i many is = ap length is ∙ length-append ys (y ∷ []) ∙ ap (λ n. n + 1) many

-- the same items, one more of them
pub take_next : {A : Type 0} (xs : List A) (i : ℕ) (x : A) (ys zs : List A) (y : A) → i < length xs → x ≡ get_or xs i x → ys ≡ take i xs → zs ≡ ys ++ y ∷ [] → y ≡ x → zs ≡ take (i + 1) xs
take_next xs i x ys zs y lt at h is same =
    is ∙ ap (λ l. l ++ y ∷ []) h ∙ ap (λ v. take i xs ++ v ∷ []) (same ∙ at) ∙ sym (take_more xs i x lt)

pub map_push : {A B : Type 0} (f : A → B) (xs : List A) (x : A) → map f (xs ++ x ∷ []) ≡ map f xs ++ f x ∷ []
map_push f [] x = refl
map_push f (y ∷ xs) x = ap (λ l. f y ∷ l) (map_push f xs x)

-- what a function makes of them, of one more of them
pub map_next : {A B : Type 0} (f : A → B) (xs : List A) (i : ℕ) (x : A) (ys zs : List B) (y : B) → i < length xs → x ≡ get_or xs i x → ys ≡ map f (take i xs) → zs ≡ ys ++ y ∷ [] → y ≡ f x → zs ≡ map f (take (i + 1) xs)
map_next f xs i x ys zs y lt at h is made =
    is ∙ ap (λ l. l ++ y ∷ []) h ∙ ap (λ v. map f (take i xs) ++ v ∷ []) made ∙ sym (map_push f (take i xs) x)
    ∙ ap (map f) (ap (λ v. take i xs ++ v ∷ []) at ∙ sym (take_more xs i x lt))

-- the same, where the item is one of plain numbers
pub map_more : {A B : Type 0} (f : A → B) (xs : List A) (i : ℕ) (d : A) (ys zs : List B) (y : B) → i < length xs → ys ≡ map f (take i xs) → zs ≡ ys ++ y ∷ [] → y ≡ f (get_or xs i d) → zs ≡ map f (take (i + 1) xs)
map_more f xs i d ys zs y lt h is made =
    is ∙ ap (λ l. l ++ y ∷ []) h ∙ ap (λ v. map f (take i xs) ++ v ∷ []) made ∙ sym (map_push f (take i xs) (get_or xs i d)) ∙ ap (map f) (sym (take_more xs i d lt))

-- the refs behind the first of those to come
pub refs_later : (cells : List StoreCell) (cs : List CellId) (i : ℕ) → has_refs cells (drop i cs) ≡ true → has_refs cells (drop (i + 1) cs) ≡ true
refs_later cells cs i h =
    let e : suc i ≡ i + 1 = omega arith in
    subst (λ k. has_refs cells (drop k cs) ≡ true) e (go cs i h)
  where
    go : (ds : List CellId) (k : ℕ) → has_refs cells (drop k ds) ≡ true → has_refs cells (drop (suc k) ds) ≡ true
    go [] k g = refl
    go (d ∷ ds) zero g = (both (has_ref cells d) (has_refs cells ds) g).1
    go (d ∷ ds) (suc k) g = go ds k g
