-- What a test of two values tells, and of lists item by item.
use Rattle.std.proofs.Common.{◌≡◌, ℕ, ◌+◌, ◌<◌, ◌≤◌, List, [], ◌∷◌, ◌++◌, length, get_or, take, false, true, refl, sym, ap, ◌∙◌, subst}
use Rattle.std.specs.Prelude.{IsTrue, slice_index_or}
use Rattle.std.proofs.lemmas.Bool.{false≢true}
use Rattle.std.proofs.lemmas.List.{get_or_default, take_all, take_more}

-- values that differ
pub differ : {A : Type 0} → (A → ⊥) → (IsTrue false → A) × (A → IsTrue false)
differ n = (λ t. absurd (false≢true t), λ e. absurd (n e))

-- values that are one
pub agree : {A : Type 0} → A → (IsTrue true → A) × (A → IsTrue true)
agree e = (λ t. e, λ s. refl)

-- lists of one length, whose first items are the same
module _ {A : Type 0} (xs ys : List A) (long : length xs ≡ length ys) (i : ℕ) where
  -- and so is the next of each
  pub one_more : (x y : A) → i < length xs → x ≡ get_or xs i x → y ≡ get_or ys i y → take i xs ≡ take i ys → x ≡ y → take (i + 1) xs ≡ take (i + 1) ys
  one_more x y lt ex ey so_far e =
      let item = sym ex ∙ e ∙ ey in
      take_more xs i x lt ∙ (λ k. so_far k ++ item k ∷ []) ∙ sym (take_more ys i y (subst (λ n. i < n) long lt))

  -- or there is no next
  pub all_same : length xs ≤ i → take i xs ≡ take i ys → xs ≡ ys
  all_same le so_far = sym (take_all i xs le) ∙ so_far ∙ take_all i ys (subst (λ n. n ≤ i) long le)

  -- items at a place of lists that are the same
  pub item_same : (x y : A) → i < length xs → x ≡ get_or xs i x → y ≡ get_or ys i y → xs ≡ ys → x ≡ y
  item_same x y lt ex ey e = ex ∙ ap (λ zs. get_or zs i x) e ∙ get_or_default ys i x y (subst (λ n. i < n) long lt) ∙ sym ey

  -- so of items that can be copied
  pub copy_more : (d : A) → i < length xs → take i xs ≡ take i ys → slice_index_or xs i d ≡ slice_index_or ys i d → take (i + 1) xs ≡ take (i + 1) ys
  copy_more d lt so_far e =
      let x = slice_index_or xs i d in
      let y = slice_index_or ys i d in
      one_more x y lt (get_or_default xs i d x lt) (get_or_default ys i d y (subst (λ n. i < n) long lt)) so_far e
