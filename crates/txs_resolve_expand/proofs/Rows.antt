-- Forms in a row, one after the other, and answers one after the other.
use Rattle.std.proofs.Common.{◌≡◌, ◌<◌, ◌≤◌, ◌+◌, ◌-◌, ℕ, zero, suc, true, false, ◌&&◌, List, [], ◌∷◌, Ok, Err, length, drop, get_or, refl, sym, ap, ◌∙◌, arith, length-drop, drop-cons, add-one}
use Rattle.txs_reader.specs.declared.form.Form.{Form}
use Rattle.txs_reader.specs.Tree.{tree, first, parts}
use Rattle.txs_resolve_expand.specs.declared.error.ResolveError.{ResolveError}
use Rattle.txs_resolve_expand.specs.declared.error.ResolveErrorKind.TheVariants.{TooMany}
use Rattle.txs_resolve_expand.specs.declared.shapes.Spot.{Spot}
use Rattle.txs_resolve_expand.specs.Expressions.{Answer, are_pairs, in_room, is_symbol, some_room}
use Rattle.txs_resolve_expand.specs.Parts.{plain}
use Rattle.txs_resolve_expand.specs.Answers.{◌>>=◌, refuse}

-- a form and what stands behind it
pub plain_at : (fs : List Form) (i : ℕ) (d : Form) → i < length fs → plain (drop i fs) ≡ first (tree (get_or fs i d)) (plain (drop (i + 1) fs))
plain_at fs i d lt = ap plain (drop-cons fs i d lt) ∙ ap (λ (k : ℕ). first (tree (get_or fs i d)) (plain (drop k fs))) (sym (add-one i))

pub parts_plain : (fs : List Form) → parts (plain fs) ≡ length fs
parts_plain [] = refl
parts_plain (f ∷ fs) = ap suc (parts_plain fs)

pub drop_all : {X : Type 0} (xs : List X) (i : ℕ) → length xs ≤ i → drop i xs ≡ []
drop_all [] zero h = refl
drop_all [] (suc i) h = refl
drop_all (x ∷ xs) zero h = absurd (omega (arith, h))
drop_all (x ∷ xs) (suc i) h = drop_all xs i (omega (arith, h))

-- what follows a first answer
pub then_err : {A B : Type 0} (a : Answer A) (f : A → Answer B) (e : ResolveError) → a ≡ Err e → (a >>= f) ≡ Err e
then_err a f e p = ap (λ x. x >>= f) p

pub then_ok : {A B : Type 0} (a : Answer A) (f : A → Answer B) (x : A) → a ≡ Ok x → (a >>= f) ≡ f x
then_ok a f x p = ap (λ y. y >>= f) p

-- a node that finds room
pub roomy : {A : Type 0} (s : Spot) (next : Answer A) → (s.room ≡ 0 → ⊥) → in_room s next ≡ next
roomy s next h = some s.room h where
  some : (n : ℕ) → (n ≡ 0 → ⊥) → some_room n (refuse TooMany s.span) next ≡ next
  some zero h = absurd (h refl)
  some (suc n) h = refl

pub roomless : {A : Type 0} (s : Spot) (next : Answer A) → s.room ≡ 0 → in_room s next ≡ refuse TooMany s.span
roomless s next h = ap (λ n. some_room n (refuse TooMany s.span) next) h

-- ---- pairs

pub pairs_pair : (fs : List Form) (i : ℕ) (d e : Form) → i + 1 < length fs → are_pairs (plain (drop i fs)) ≡ (is_symbol (tree (get_or fs i d)) && are_pairs (plain (drop (i + 2) fs)))
pairs_pair fs i d e lt =
    ap are_pairs
    (plain_at fs i d (omega arith) ∙ ap (first (tree (get_or fs i d))) (plain_at fs (i + 1) e lt ∙ ap (λ (k : ℕ). first (tree (get_or fs (i + 1) e)) (plain (drop k fs))) (omega arith)))

pub pairs_no : (fs : List Form) (i : ℕ) (d e : Form) → i + 1 < length fs → is_symbol (tree (get_or fs i d)) ≡ false → are_pairs (plain (drop i fs)) ≡ false
pairs_no fs i d e lt p = pairs_pair fs i d e lt ∙ ap (λ b. b && are_pairs (plain (drop (i + 2) fs))) p

pub pairs_yes : (fs : List Form) (i : ℕ) (d e : Form) → i + 1 < length fs → is_symbol (tree (get_or fs i d)) ≡ true → are_pairs (plain (drop i fs)) ≡ are_pairs (plain (drop (i + 2) fs))
pairs_yes fs i d e lt p = pairs_pair fs i d e lt ∙ ap (λ b. b && are_pairs (plain (drop (i + 2) fs))) p

pub pairs_end : (fs : List Form) (i : ℕ) → length fs ≤ i → are_pairs (plain (drop i fs)) ≡ true
pairs_end fs i le = ap (λ l. are_pairs (plain l)) (drop_all fs i le)

one_form : (fs : List Form) → length fs ≡ 1 → are_pairs (plain fs) ≡ false
one_form [] one = absurd (omega (arith, one))
one_form (f ∷ []) one = refl
one_form (f ∷ g ∷ fs) one = absurd (omega (arith, one))

pub pairs_odd_at : (fs : List Form) (i : ℕ) → i + 1 ≡ length fs → are_pairs (plain (drop i fs)) ≡ false
pairs_odd_at fs i one = one_form (drop i fs) (omega (arith, one, length-drop i fs))
