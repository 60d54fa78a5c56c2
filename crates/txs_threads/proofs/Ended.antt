-- Every thread of a report has ended.
use Rattle.std.proofs.Common.{◌∙◌, zero, suc, List, [], ◌∷◌, Option, Some, None, sym, ap, subst}
use Rattle.txs_machine.specs.Schedule.{HaveEnded}
use Rattle.txs_world_protocol.specs.declared.report.ActorReport.{ActorReport}
use Rattle.txs_threads.specs.Run.{AllEnded}

abbrev is_some : {A : Type 0} → Option A → Type 0
is_some None = ⊥
is_some (Some x) = Unit {0}

abbrev report_or : ActorReport → Option ActorReport → ActorReport
report_or d None = d
report_or d (Some r) = r

pub all_ended : (rs : List ActorReport) → AllEnded rs → HaveEnded rs
all_ended [] h k r e n = absurd (subst is_some (sym e) tt)
all_ended (x ∷ rs) h zero r e n = h.0 (ap (λ (z : ActorReport). z.outcome) (ap (report_or x) e) ∙ n)
all_ended (x ∷ rs) h (suc k) r e n = all_ended rs h.1 k r e n
