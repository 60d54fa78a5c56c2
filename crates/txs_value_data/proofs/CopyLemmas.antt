-- A list that is copied item by item.
use Rattle.std.proofs.Common.{◌≡◌, ℕ, ◌+◌, ◌<◌, ◌++◌, ◌∷◌, [], ◌∙◌, List, ap, get_or, length, sym, take}
use Rattle.std.proofs.lemmas.List.{take_more}

-- one more item of a copy
pub copied : {A : Type 0} (xs : List A) (i : ℕ) (x : A) (ys zs : List A) (y : A) → i < length xs → x ≡ get_or xs i x → ys ≡ take i xs → zs ≡ ys ++ y ∷ [] → y ≡ x → zs ≡ take (i + 1) xs
copied xs i x ys zs y lt at so_far put same = put ∙ ap (λ l. l ++ y ∷ []) so_far ∙ ap (λ z. take i xs ++ z ∷ []) (same ∙ at) ∙ sym (take_more xs i x lt)
