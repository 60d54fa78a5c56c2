use Rattle.std.proofs.Common.{◌<◌, ◌∙◌, List, Option, Some, None, ap, arith, get_or, length, sym}
use Rattle.std.proofs.lemmas.List.{get_or_default}
use Rattle.txs_value_data.specs.declared.fault.Fault.{Fault}
use Rattle.txs_value_data.specs.declared.value.CellId.{CellId}
use Rattle.txs_value_data.specs.declared.value.CellKind.TheVariants.{Ref}
use Rattle.txs_theorem_audit.specs.Verdict.{same_failure}
use Rattle.txs_audit_event.specs.declared.what.What.TheVariants as what
use Rattle.txs_audit_evidence.proofs.Sized.{nth_at}
use Rattle.txs_audit_difference.proofs.Leaving.{failed_end, failed_here, failed_on}
use Rattle.txs_audit_difference.proofs.books.failed_what.Goals as goal

pub failure-failure-requires : goal.failure-failure-requires
failure-failure-requires c =
    let gs : List CellId = c.args.agents.now in
    let i = c.loop-i.i in
    let none : CellId = record { kind = Ref; number = 0 } in
    let g : CellId = get_or gs i none in
    c.requires.there i g (nth_at gs i g c.loop-i-test.true (get_or_default gs i none g c.loop-i-test.true))

pub returns-then-not-same_failure : goal.returns-then-not-same_failure
returns-then-not-same_failure c =
    let q = c.args.replay.now in
    let gs : List CellId = c.args.agents.now in
    let fs : List (Option Fault) = c.args.failed.now in
    let i = c.loop-i.i in
    let none : CellId = record { kind = Ref; number = 0 } in
    let g : CellId = get_or gs i none in
    let f : Option Fault = get_or fs i None in
    let lt = c.loop-i-test.true in
    let many = c.requires.many in
    let less : i < length fs = omega (arith, lt, many) in
    let off = ap (λ x. same_failure x f) (sym c.failure-failure.ensures) ∙ sym c.same_failure.ensures ∙ c.if-not-same_failure.true in
    ap (λ x. Some (what.Failure g x f)) c.failure-failure.ensures ∙ failed_here q.cells q.book gs fs i g f lt less (get_or_default gs i none g lt) (get_or_default fs i None f less) off ∙ c.loop-i.invariant

pub loop-i-preserved : goal.loop-i-preserved
loop-i-preserved c =
    let q = c.args.replay.now in
    let gs : List CellId = c.args.agents.now in
    let fs : List (Option Fault) = c.args.failed.now in
    let i = c.loop-i.i in
    let none : CellId = record { kind = Ref; number = 0 } in
    let g : CellId = get_or gs i none in
    let f : Option Fault = get_or fs i None in
    let lt = c.loop-i-test.true in
    let many = c.requires.many in
    let less : i < length fs = omega (arith, lt, many) in
    let fine = ap (λ x. same_failure x f) (sym c.failure-failure.ensures) ∙ sym c.same_failure.ensures ∙ c.if-not-same_failure.false in
    failed_on q.cells q.book gs fs i g f lt less (get_or_default gs i none g lt) (get_or_default fs i None f less) fine ∙ c.loop-i.invariant

pub returns : goal.returns
returns c =
    let q = c.args.replay.now in
    failed_end q.cells q.book c.args.agents.now c.args.failed.now c.loop-i.i c.loop-i-test.false ∙ c.loop-i.invariant
