-- Lines of JSON behind one another, and the last of them.
use Rattle.std.proofs.Common.{◌≡◌, ◌≤◌, ◌++◌, ◌∙◌, ℕ, List, [], Result, Ok, Err, ap, subst, sym}
use Rattle.std.specs.Prelude.{IfOk}
use Rattle.txs_cli_json.proofs.JsonLines.{lines_append}
use Rattle.txs_cli_json.specs.Json.{AddsLines, AreJsonLines, end_line}
use Rattle.txs_cli_report.specs.Lent.{told_of}
use Rattle.txs_cli_report.specs.Told.{Told}
use Rattle.txs_cli_report.specs.declared.told.Told as owned
use Rattle.txs_cli_show.specs.Json.{EndsInStatus}

-- lines that are all
pub alone : (kinds : List (List ℕ)) (old new : List ℕ) → old ≡ [] → AddsLines kinds old new → AreJsonLines kinds new
alone kinds old new empty h = subst (AreJsonLines kinds) (sym (h.2 ∙ ap (λ (l : List ℕ). l ++ h.0) empty)) h.1

-- lines behind others, which are all
pub both : (kinds more : List (List ℕ)) (old mid new : List ℕ) → old ≡ [] → AddsLines kinds old mid → AddsLines more mid new → AreJsonLines (kinds ++ more) new
both kinds more old mid new empty h k =
    let first : mid ≡ h.0 = h.2 ∙ ap (λ (l : List ℕ). l ++ h.0) empty in
    subst (AreJsonLines (kinds ++ more)) (sym (k.2 ∙ ap (λ (l : List ℕ). l ++ k.0) first)) (lines_append kinds more h.0 k.0 h.1 k.1)

-- and behind them that of the status
pub ends : (kinds : List (List ℕ)) (least status : ℕ) (lines : List ℕ) (t : Told) → AreJsonLines kinds lines → least ≤ status → t.output ≡ lines ++ end_line status → t.errors ≡ [] → t.status ≡ status → EndsInStatus kinds least t
ends kinds least status lines t typed high output errors is =
    record { lines = lines; typed = typed; output = output ∙ ap (λ (n : ℕ). lines ++ end_line n) (sym is); errors = errors; high = subst (λ (n : ℕ). least ≤ n) (sym is) high }

-- the same of an answer
pub ended_so : {E : Type 0} (r : Result owned.Told E) (kinds : List (List ℕ)) (least status : ℕ) (lines : List ℕ) → AreJsonLines kinds lines → least ≤ status
    → IfOk r (λ t. (told_of t).output ≡ lines ++ end_line status) → IfOk r (λ t. t.errors.items ≡ []) → IfOk r (λ t. t.status ≡ status) → IfOk r (λ t. EndsInStatus kinds least (told_of t))
ended_so (Ok t) kinds least status lines typed high output errors is = ends kinds least status lines (told_of t) typed high output errors is
ended_so (Err e) kinds least status lines typed high output errors is = tt
