use Rattle.std.proofs.Common.{take}
use Rattle.txs_audit_book.specs.Answered.{finishing}
use Rattle.txs_cli_audit.specs.Audit.{HasNoAnswer}
use Rattle.txs_cli_report.specs.Lent.{script_of}
use Rattle.txs_cli_explore.specs.Explored.{ComesBy, OutcomeTells, WayHas}
use Rattle.txs_cli_explore.specs.Outcomes.{AreOutcomes}
use Rattle.txs_cli_explore.proofs.ways.outcomes_of.Given as goal

-- the outcomes of the ways so far
abbrev pub invariant-loop-way : goal.invariant-loop-way
invariant-loop-way g l =
    AreOutcomes ComesBy
    (WayHas l.compiled.1 l.exploring.steps (OutcomeTells l.exploring.audit (λ p r e. HasNoAnswer (goal.A-post g l.auditor) p r (finishing l.exploring.steps) 4 e) (script_of l.script) l.exploring.steps l.compiled.0 l.compiled.1))
    (take l.way-index l.ways) l.outcomes.items
