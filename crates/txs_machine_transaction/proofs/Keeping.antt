-- The values at the top of a stack, copied one by one.
use Rattle.std.proofs.Common.{◌≡◌, ℕ, ◌+◌, ◌-◌, ◌<◌, ◌≤◌, List, [], ◌∷◌, ◌++◌, length, take, get_or, sym, ap, ◌∙◌, arith}
use Rattle.std.proofs.lemmas.List.{take_all, take_more, get_or-drop, take-take}
use Rattle.txs_value_data.specs.declared.value.Value.{Value}
use Rattle.txs_value_data.specs.declared.value.Value.TheVariants.{Nil}
use Rattle.txs_machine_loop.specs.Values.{topmost, under, below, but_last}
use Rattle.txs_machine_loop.proofs.Lists.{length_topmost, length_below}

-- one more of them
pub copied_more : (vs copies new : List Value) (n i : ℕ) (v : Value) → n ≤ length vs → i < n → copies ≡ take i (topmost n vs) → v ≡ under (n - i - 1) vs → new ≡ copies ++ v ∷ [] → new ≡ take (i + 1) (topmost n vs)
copied_more vs copies new n i v le lt so_far is e =
    let many : length (topmost n vs) ≡ n = length_topmost n vs le in
    let place : length vs - (n - i - 1) - 1 ≡ length vs - n + i = omega (arith, le, lt) in
    let same : v ≡ get_or (topmost n vs) i Nil = is ∙ ap (λ (k : ℕ). get_or vs k Nil) place ∙ sym (get_or-drop (length vs - n) vs i Nil) in
    e ∙ ap (λ (x : List Value). x ++ v ∷ []) so_far ∙ ap (λ (x : Value). take i (topmost n vs) ++ x ∷ []) same ∙ sym (take_more (topmost n vs) i Nil (omega (arith, many, lt)))

-- all of them
pub copied_all : (vs copies : List Value) (n i : ℕ) → n ≤ length vs → n ≤ i → copies ≡ take i (topmost n vs) → copies ≡ topmost n vs
copied_all vs copies n i le all e = e ∙ take_all i (topmost n vs) (omega (arith, length_topmost n vs le, all))

-- the values without some and one more
pub but_one_more : (vs : List Value) (m : ℕ) → m < length vs → but_last (below m vs) ≡ below (m + 1) vs
but_one_more vs m h =
    let e : length vs - m - 1 ≡ length vs - (m + 1) = omega arith in
    ap (λ k. take (k - 1) (below m vs)) (length_below m vs) ∙ take-take (length vs - m - 1) (length vs - m) vs (omega arith) ∙ ap (λ k. take k vs) e
