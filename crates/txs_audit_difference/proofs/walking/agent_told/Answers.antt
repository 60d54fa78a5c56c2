use Rattle.std.proofs.Common.{◌≡◌, ◌≤◌, ◌∙◌, IfOk, ap, arith, get_or, length, map, refl, subst, sym}
use Rattle.std.proofs.lemmas.List.{get_or_default}
use Rattle.txs_tree_meaning.specs.View.{program_of}
use Rattle.txs_theorem_audit.specs.Audited.{books_of, place_of}
use Rattle.txs_theorem_audit.specs.Pieces.{act_pieces}
use Rattle.txs_world_protocol.specs.declared.event.Place.{Place}
use Rattle.txs_audit_difference.specs.Difference.{pieces_told}
use Rattle.txs_audit_difference.specs.Walked.{IsNext}
use Rattle.txs_audit_difference.proofs.Walks.{entries_end, entry_ends, entry_on, place_read, places_many}
use Rattle.txs_audit_difference.proofs.walking.agent_told.Goals as goal

pub loop-at-init : goal.loop-at-init
loop-at-init c = refl

pub returns-in-Ends : goal.returns-in-Ends
returns-in-Ends c =
    let b = c.args.books.now in
    let p = program_of b.program in
    let r = b.report in
    let n = c.args.turns in
    let trace = c.as_slice-trace.result.now in
    let at = c.loop-at.at in
    let none : Place = record { book = 0; at = 0 } in
    let q : Place = get_or trace at none in
    let there = place_read trace at q c.loop-at-test.true (get_or_default trace at none q c.loop-at-test.true) in
    sym (entry_ends p r n c.args.agent c.loop-at.from at (map place_of trace) (place_of q) there c.in-Ends.told (subst (IsNext p r n c.args.agent c.loop-at.from at (place_of q)) c.in-Ends.is c.in_ok-next.ensures)) ∙ c.loop-at.invariant ∙ ap (λ l. pieces_told p r n (act_pieces (books_of r) c.args.agent 0 0 (map place_of l))) c.as_slice-trace.ensures.value

pub loop-at-preserved : goal.loop-at-preserved
loop-at-preserved c =
    let b = c.args.books.now in
    let p = program_of b.program in
    let r = b.report in
    let n = c.args.turns in
    let trace = c.as_slice-trace.result.now in
    let at = c.loop-at.at in
    let none : Place = record { book = 0; at = 0 } in
    let q : Place = get_or trace at none in
    let there = place_read trace at q c.loop-at-test.true (get_or_default trace at none q c.loop-at-test.true) in
    entry_on p r n c.args.agent c.loop-at.from at (map place_of trace) (place_of q) there c.in-Begins.next (subst (IsNext p r n c.args.agent c.loop-at.from at (place_of q)) c.in-Begins.is c.in_ok-next.ensures) ∙ c.loop-at.invariant

pub returns : goal.returns
returns c =
    let b = c.args.books.now in
    let p = program_of b.program in
    let r = b.report in
    let n = c.args.turns in
    let trace = c.as_slice-trace.result.now in
    let many = places_many trace in
    let le : length (map place_of trace) ≤ c.loop-at.at = omega (arith, c.loop-at-test.false, many) in
    let all = sym (entries_end p r n c.args.agent c.loop-at.from c.loop-at.at (map place_of trace) le) ∙ c.loop-at.invariant ∙ ap (λ l. pieces_told p r n (act_pieces (books_of r) c.args.agent 0 0 (map place_of l))) c.as_slice-trace.ensures.value in
    subst (λ u. IfOk c.end_told.result (λ t. t ≡ u)) all c.end_told.ensures
