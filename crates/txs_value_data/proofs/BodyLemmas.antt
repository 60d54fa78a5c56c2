-- Rows and a short list behind them: what a write and a pop do.
use Rattle.std.proofs.Common.{◌≡◌, ◌⊎◌, inl, inr, ℕ, ◌+◌, ◌-◌, ◌<◌, ◌≤◌, ◌++◌, List, [], ◌∷◌, length, take, drop, sym, ap, ◌∙◌, append-nil, arith}
use Rattle.std.proofs.lemmas.List.{length-append}
use Rattle.txs_value_data.specs.PlainValue.{PlainValue}
use Rattle.txs_value_data.proofs.RowsLemmas.{put-behind, take-behind}

length-body : (ds es whole : List PlainValue) → ds ++ es ≡ whole → length whole ≡ length ds + length es
length-body ds es whole seen = omega (arith, ap length seen, length-append ds es)

pub body-set : (ds es whole : List PlainValue) → ds ++ es ≡ whole → (k n : ℕ) (d : PlainValue) → k ≡ length ds → k ≤ n → n < length whole
    → ds ++ (take (n - k) es ++ d ∷ drop (n - k + 1) es) ≡ take n whole ++ d ∷ drop (n + 1) whole
body-set ds es whole seen k n d is le lt =
    let behind : length ds ≤ n = omega arith in
    rw (sym seen, is) (sym (put-behind ds es n d behind))

pub body-pop : (ds es whole : List PlainValue) → ds ++ es ≡ whole → (m : ℕ) → m ≡ length es → 0 < m → ds ++ take (m - 1) es ≡ take (length whole - 1) whole
body-pop ds es whole seen m is some =
    let at_end : length whole - 1 ≡ length ds + (m - 1) = omega (arith, length-body ds es whole seen) in
    sym (take-behind ds es (m - 1) (length whole - 1) at_end) ∙ ap (λ xs. take (length whole - 1) xs) seen

pub body-pop-leaf : (ds es whole before leaf row : List PlainValue) → ds ++ es ≡ whole → length es ≡ 0 → ds ≡ before ++ leaf → length leaf ≡ 32 → row ≡ leaf
    → before ++ take 31 row ≡ take (length whole - 1) whole
body-pop-leaf ds [] whole before leaf row seen none is full same =
    let joined : before ++ row ≡ whole = ap (λ xs. before ++ xs) same ∙ sym is ∙ sym (append-nil ds) ∙ seen in
    let count : 32 ≡ length row = omega (arith, ap length same, full) in
    body-pop before row whole joined 32 count (omega arith)
body-pop-leaf ds (e ∷ es) whole before leaf row seen none is full same = absurd (omega (arith, none))

-- what is changed in place is what was there, whether it was copied or not
pub made_mut : {A : Type 0} (a b : A) → (a ≡ b) ⊎ (a ≡ b) → a ≡ b
made_mut a b (inl same) = same
made_mut a b (inr same) = same
