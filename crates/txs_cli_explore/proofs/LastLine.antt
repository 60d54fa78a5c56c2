-- The lines that tell whether there are other outcomes, and what code that has a form is fit for.
use Rattle.std.proofs.Common.{arith, ◌≡◌, ◌≤◌, ◌+◌, ◌++◌, ℕ, Bool, true, false, List, length, Option, Result, Ok, Err, OnOk, ap, codes, decimal, is_ok, subst, sym}
use Rattle.std.specs.Prelude.{if◌then◌else◌}
use Rattle.std.proofs.lemmas.Bool.{ne_eqb}
use Rattle.txs_cli_report.proofs.Fronts.{on_ok}
use Rattle.txs_code_decode.specs.CodeForm.{HasForm}
use Rattle.txs_verify.proofs.Formed.{few_cells, few_threads}
use Rattle.txs_code_meaning.specs.PlainCode.{PlainCode}
use Rattle.txs_value_data.proofs.PrintedLemmas.{then_more}
use Rattle.txs_cli_explore.specs.Explored.{ends_line, few_line, last_line}

fits : (n m : ℕ) → n ≤ 64 → m ≤ 1000 → n + m ≤ 65535
fits n m h k = omega (arith, h, k)

-- code that has a form has few actors
pub is_runnable : (code : PlainCode) → HasForm code → length code.threads + length code.cells ≤ 65535
is_runnable code form = fits (length code.threads) (length code.cells) (few_threads code form) (few_cells code form)

within : (n : ℕ) → n ≤ 1000 → n ≤ 65535
within n h = omega (arith, h)

-- and few cells
pub has_few_cells : (code : PlainCode) → HasForm code → length code.cells ≤ 65535
has_few_cells code form = within (length code.cells) (few_cells code form)

-- the end of the line of several outcomes
pub of_several : (n : ℕ) → (n ≡ 1 → ⊥) → ends_line n ≡ (codes " ends in one of these " ++ decimal n) ++ codes " outcomes\n"
of_several n other = ap (λ (b : Bool). if b then codes " ends in this outcome\n" else (codes " ends in one of these " ++ decimal n) ++ codes " outcomes\n") (ne_eqb n 1 other)

-- a last piece, for which there is memory or isn't
pub added : {T E : Type 0} (r : Result T E) (mid s new : List ℕ) → new ≡ (if is_ok r then mid ++ s else mid) → OnOk r (new ≡ mid ++ s)
added (Ok x) mid s new e = e
added (Err x) mid s new e = tt

-- a part behind two others
pub behind_two : {A E : Type 0} (r : Result A E) (old a first b second c new : List ℕ) → first ≡ old ++ a → second ≡ first ++ b → OnOk r (new ≡ second ++ c) → OnOk r (new ≡ old ++ ((a ++ b) ++ c))
behind_two r old a first b second c new e f h = on_ok r (new ≡ second ++ c) (new ≡ old ++ ((a ++ b) ++ c)) (then_more old (a ++ b) second c new (then_more old a first b second e f)) h

-- the last line of a search that went everywhere
pub complete_line : {A E : Type 0} (r : Result A E) (whole : Bool) (o : Option ℕ) (asks n : ℕ) (old first new : List ℕ) → whole ≡ true
    → first ≡ old ++ codes "complete: each schedule" → OnOk r (new ≡ first ++ ends_line n) → OnOk r (new ≡ old ++ last_line whole o asks n)
complete_line r true o asks n old first new is e h =
    on_ok r (new ≡ first ++ ends_line n) (new ≡ old ++ (codes "complete: each schedule" ++ ends_line n)) (then_more old (codes "complete: each schedule") first (ends_line n) new e) h
complete_line r false o asks n old first new is e h = absurd cc

-- the last line of another
pub cut_line : {A E : Type 0} (r : Result A E) (whole : Bool) (o few : Option ℕ) (asks n : ℕ) (old first second new : List ℕ) → whole ≡ false → o ≡ few
    → first ≡ old ++ (codes "not complete: a search made " ++ decimal asks) → second ≡ first ++ codes " requests"
    → OnOk r (new ≡ second ++ few_line few n) → OnOk r (new ≡ old ++ last_line whole o asks n)
cut_line r true o few asks n old first second new is same e f h = absurd cc
cut_line r false o few asks n old first second new is same e f h =
    subst (λ (p : Option ℕ). OnOk r (new ≡ old ++ last_line false p asks n)) (sym same)
    (behind_two r old (codes "not complete: a search made " ++ decimal asks) first (codes " requests") second (few_line few n) new e f h)
