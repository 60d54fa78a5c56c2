use Rattle.std.proofs.Common.{[], arith, get_or}
use Rattle.std.proofs.lemmas.List.{length-map}
use Rattle.txs_tree_meaning.specs.View.{program_of}
use Rattle.txs_theorem_audit.specs.Audited.{place_of}
use Rattle.txs_theorem_audit.specs.Pieces.{acts_print}
use Rattle.txs_audit_order.specs.Named.{plain_trace}
use Rattle.txs_world_protocol.specs.declared.event.Place.{Place}
use Rattle.txs_audit_evidence.proofs.Judging.{there_is}
use Rattle.txs_audit_evidence.proofs.Printing.{entry_plain, prints_end, prints_first, prints_next}
use Rattle.txs_audit_evidence.proofs.acts.acts_print.Goals as goal

pub loop-at-init : goal.loop-at-init
loop-at-init c =
    let b = c.args.books.now in
    (omega arith, prints_first (program_of b.program) b.report c.args.turns (plain_trace c.args.trace.now) c.new-all.result.items c.new-all.ensures.items)

pub print_next-requires-clause-here : goal.print_next-requires-clause-here
print_next-requires-clause-here c =
    let none : Place = record { book = 0; at = 0 } in
    let trace = c.args.trace.now in
    let at = c.loop-at.at in
    entry_plain trace at (get_or trace at none) c.loop-at-test.true (there_is trace at none c.loop-at-test.true)

pub loop-at-preserved : goal.loop-at-preserved
loop-at-preserved c =
    let b = c.args.books.now in
    let p = program_of b.program in
    let trace = plain_trace c.args.trace.now in
    prints_next p b.report c.args.turns trace c.loop-at.from c.loop-at.at c.loop-at.all.items c.in_ok-from.from c.print_next.new.all.items (acts_print p b.report c.args.turns [] trace) c.in_ok-from.ensures c.loop-at.invariant.1

pub returns : goal.returns
returns c =
    let b = c.args.books.now in
    let p = program_of b.program in
    let trace = plain_trace c.args.trace.now in
    let long = length-map c.args.trace.now place_of in
    let end = c.loop-at-test.false in
    prints_end p b.report c.args.turns trace c.loop-at.from c.loop-at.at c.loop-at.all.items (acts_print p b.report c.args.turns [] trace) (omega (arith, long, end)) c.loop-at.invariant.1
