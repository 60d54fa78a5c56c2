-- Where a line begins and ends.
use Rattle.std.proofs.Common.{◌≡◌, ℕ, ◌+◌, ◌-◌, ◌<◌, ◌≤◌, Bool, true, false, List, ◌++◌, length, get_or, take, drop, sym, ap, ◌∙◌, not, arith}
use Rattle.std.proofs.lemmas.List.{length-take, length-drop, drop-append-le, take-append-drop, take_all}
use Rattle.std.proofs.lemmas.List.Sums.{position_or_len_is, prefix_len-le-length}
use Rattle.std.proofs.Math.Seq.{take-append-add}
use Rattle.std.specs.List.{before_first, after_last, position_or_len, suffix_len}

-- the first place that passes ends what stands before it
pub before_first_is : (p : ℕ → Bool) (xs : List ℕ) (i : ℕ) → i ≤ length xs → ((k : ℕ) → k < i → p (get_or xs k 0) ≡ false) → (i < length xs → p (get_or xs i 0) ≡ true) → take i xs ≡ before_first p xs
before_first_is p xs i within fails passes = ap (λ n. take n xs) (sym (position_or_len_is p xs i 0 within fails passes))

-- where none passes, that is all
pub before_first_all : (p : ℕ → Bool) (xs : List ℕ) → ((k : ℕ) → k < length xs → p (get_or xs k 0) ≡ false) → xs ≡ before_first p xs
before_first_all p xs fails = sym (take_all (length xs) xs (omega arith)) ∙ before_first_is p xs (length xs) (omega arith) fails (λ past. absurd (omega (arith, past)))

-- a part that reaches over the seam of two lists
pub over_seam : (front back : List ℕ) (n m from size : ℕ) → n ≤ length front → from ≡ n → size ≡ length front - n + m → take size (drop from (front ++ back)) ≡ drop n front ++ take m back
over_seam front back n m from size within from_is size_is =
    rw (from_is, drop-append-le n front back within, size_is, sym (length-drop n front)) (take-append-add (drop n front) back m)

-- the part round an offset
pub around : (text : List ℕ) (offset n m from size : ℕ) → n ≤ length (take offset text) → from ≡ n → size ≡ length (take offset text) - n + m → take size (drop from text) ≡ drop n (take offset text) ++ take m (drop offset text)
around text offset n m from size within from_is size_is =
    ap (λ t. take size (drop from t)) (sym (take-append-drop offset text)) ∙ over_seam (take offset text) (drop offset text) n m from size within from_is size_is

-- the line round an offset, by the lengths of its two parts
pub line_is : (p : ℕ → Bool) (text : List ℕ) (offset : ℕ) (front last back first : List ℕ)
    → front ≡ take offset text → last ≡ after_last p front → back ≡ drop offset text → first ≡ before_first p back
    → take (length front + length first - (length front - length last)) (drop (length front - length last) text) ≡ after_last p (take offset text) ++ before_first p (drop offset text)
line_is p text offset front last back first front_is last_is back_is first_is =
    let from : ℕ = length (take offset text) - suffix_len (λ b. not (p b)) (take offset text) in
    let more : ℕ = position_or_len p (drop offset text) in
    let fronts : length front ≡ length (take offset text) = ap length front_is in
    let lasts : length last ≡ length (take offset text) - from = ap length last_is ∙ ap (λ xs. length (after_last p xs)) front_is ∙ length-drop from (take offset text) in
    let few : more ≤ length (drop offset text) = prefix_len-le-length (λ b. not (p b)) (drop offset text) in
    let firsts : length first ≡ more = ap length first_is ∙ ap (λ xs. length (before_first p xs)) back_is ∙ omega (arith, length-take more (drop offset text), few) in
    around text offset from more _ _ (omega arith) (omega (arith, fronts, lasts)) (omega (arith, fronts, lasts, firsts))
