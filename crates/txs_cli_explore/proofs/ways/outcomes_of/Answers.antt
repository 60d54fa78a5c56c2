use Rattle.std.proofs.Common.{ℕ, List, [], subst, sym}
use Rattle.txs_audit_book.specs.Answered.{finishing}
use Rattle.txs_cli_audit.specs.Audit.{HasNoAnswer}
use Rattle.txs_cli_report.specs.Lent.{script_of}
use Rattle.txs_explore.specs.declared.ways.Way.{Way}
use Rattle.txs_cli_explore.proofs.Listed.{outcomes_done, outcomes_next, outcomes_none}
use Rattle.txs_cli_explore.proofs.Ran.{some_at}
use Rattle.txs_cli_explore.proofs.ways.outcomes_of.Goals as goal
use Rattle.txs_cli_explore.specs.Explored.{ComesBy, OutcomeTells, WayHas}
use Rattle.txs_cli_explore.specs.Outcomes.{AreOutcomes}
use Rattle.txs_cli_explore.specs.declared.outcomes.Outcome.{Outcome}

pub loop-way-init : goal.loop-way-init
loop-way-init g c =
    let x = c.args.exploring in
    let has : Way → List ℕ → ℕ → Type 0 =
    WayHas c.args.compiled.now.1 x.steps (OutcomeTells x.audit (λ p r e. HasNoAnswer (goal.A-post g c.args.auditor.now) p r (finishing x.steps) 4 e) (script_of c.args.script) x.steps c.args.compiled.now.0 c.args.compiled.now.1)
    in
    subst (λ (os : List Outcome). AreOutcomes ComesBy has [] os) (sym c.new-outcomes.ensures.items) (outcomes_none ComesBy has)

pub loop-way-preserved : goal.loop-way-preserved
loop-way-preserved g c =
    let x = c.args.exploring in
    let has : Way → List ℕ → ℕ → Type 0 =
    WayHas c.args.compiled.now.1 x.steps (OutcomeTells x.audit (λ p r e. HasNoAnswer (goal.A-post g c.args.auditor.now) p r (finishing x.steps) 4 e) (script_of c.args.script) x.steps c.args.compiled.now.0 c.args.compiled.now.1)
    in
    let way = c.way-item.result in
    let o = c.in-Some.outcome in
    let is = some_at c.in_ok-outcome.field-0 o (λ y. ComesBy y way × has way y.lines.items y.status) c.in-Some.is c.in_ok-outcome.ensures in
    outcomes_next ComesBy has c.args.ways.now c.loop-way.way-index way c.loop-way.outcomes.items c.add_outcome.new.outcomes.items o c.loop-way-test.true c.way-item.is is.0 is.1 c.in_ok-add_outcome.ensures c.loop-way.invariant

pub returns : goal.returns
returns g c =
    let x = c.args.exploring in
    let has : Way → List ℕ → ℕ → Type 0 =
    WayHas c.args.compiled.now.1 x.steps (OutcomeTells x.audit (λ p r e. HasNoAnswer (goal.A-post g c.args.auditor.now) p r (finishing x.steps) 4 e) (script_of c.args.script) x.steps c.args.compiled.now.0 c.args.compiled.now.1)
    in
    outcomes_done ComesBy has c.args.ways.now c.loop-way.way-index c.loop-way.outcomes.items c.loop-way-test.false c.loop-way.invariant
