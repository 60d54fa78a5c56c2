use Rattle.std.proofs.Common.{◌++◌, ◌∙◌, ap, get_or}
use Rattle.std.specs.Prelude.{map}
use Rattle.txs_theorem_audit.specs.Audited.{books_of, place_of}
use Rattle.txs_theorem_audit.specs.Pieces.{act_pieces}
use Rattle.txs_world_protocol.specs.declared.event.Place.{Place}
use Rattle.txs_audit_evidence.proofs.Judging.{there_is}
use Rattle.txs_audit_evidence.proofs.Printing.{entry_plain}
use Rattle.txs_audit.specs.Pieced.{pieces_as}
use Rattle.txs_audit.proofs.Counting.{acts_begin, acts_end}
use Rattle.txs_audit.proofs.pieces.add_agent.Goals as goal

pub loop-at-init : goal.loop-at-init
loop-at-init c = acts_begin (books_of c.args.books.now.report) c.args.agent c.as_slice-trace.result.now (pieces_as c.args.pieces.now.items)

pub add_act-requires : goal.add_act-requires
add_act-requires c =
    let none : Place = record { book = 0; at = 0 } in
    let trace = c.as_slice-trace.result.now in
    let at = c.loop-at.at in
    entry_plain trace at (get_or trace at none) c.loop-at-test.true (there_is trace at none c.loop-at-test.true)

pub loop-at-preserved : goal.loop-at-preserved
loop-at-preserved c = c.in_ok-from.ensures ∙ c.loop-at.invariant

pub returns : goal.returns
returns c =
    let b = books_of c.args.books.now.report in
    let a = c.args.agent in
    let old = pieces_as c.args.pieces.now.items in
    acts_end b a c.as_slice-trace.result.now c.loop-at.pieces.items c.push.new.self.items c.loop-at.from c.loop-at.at (old ++ act_pieces b a 0 0 (map place_of c.as_slice-trace.result.now)) c.loop-at-test.false c.loop-at.invariant c.in_ok-push.ensures.items
    ∙ ap (λ l. old ++ act_pieces b a 0 0 (map place_of l)) c.as_slice-trace.ensures.value
