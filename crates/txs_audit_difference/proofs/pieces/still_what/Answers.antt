use Rattle.std.proofs.Common.{◌≡◌, ◌≤◌, ◌∙◌, ap, arith, length, refl, sym}
use Rattle.std.specs.Prelude.{option_copied}
use Rattle.txs_value_data.specs.Limits.{most_events}
use Rattle.txs_world.specs.Store.{next_action}
use Rattle.txs_world_book.specs.Served.{cells_of}
use Rattle.txs_tree_meaning.specs.View.{program_of}
use Rattle.txs_audit_book.specs.Tests.{store_test}
use Rattle.txs_audit_order.specs.Named.{plain_trace}
use Rattle.txs_audit_evidence.proofs.Acting.{last_state}
use Rattle.txs_audit_evidence.proofs.Bookwise.{legal_few}
use Rattle.txs_audit_difference.specs.Pieces.{in_action}
use Rattle.txs_audit_difference.proofs.Piecing.{none_still, sent_still, some_state, unsent_still}
use Rattle.txs_audit_difference.proofs.pieces.still_what.Goals as goal

pub overflow_cast-events : goal.overflow_cast-events
unfolding most_events
overflow_cast-events c =
    let b = c.args.books.now in
    let few : length b.report.book ≤ 1000000 = legal_few (store_test (cells_of b.program.cells) (length b.program.threads)) b.report.book c.are_legal.ensures.store in
    let size = c.report.result.now.book.ok.0 in
    let same : length c.report.result.now.book.items ≡ length b.report.book = ap (λ x. length x.book) c.report.ensures in
    omega (arith, few, size, same, c.len-events.ensures)

pub returns-in_default : goal.returns-in_default
returns-in_default c =
    let b = c.args.books.now in
    let p = program_of b.program in
    let g = c.args.agent in
    let end = c.args.end in
    let spot = c.args.spot in
    let next = next_action (cells_of b.program.cells) b.report.book g in
    c.at_event.ensures
    ∙ none_still p b.report c.args.turns end.full spot.actor spot.event c.args.at g (plain_trace c.args.since.now) end.outs.now end.out.now next (sym (sym (ap option_copied c.in_default.is) ∙ c.next_action.ensures g refl))

pub returns-then-not-is_sent : goal.returns-then-not-is_sent
returns-then-not-is_sent c =
    let b = c.args.books.now in
    let p = program_of b.program in
    let g = c.args.agent in
    let end = c.args.end in
    let spot = c.args.spot in
    let next = next_action (cells_of b.program.cells) b.report.book g in
    let x = c.in-Some.action.now in
    c.in_action.ensures ∙ ap (λ w. in_action x.span w spot.actor spot.event) c.unknown-then-not-is_sent.ensures
    ∙ unsent_still p b.report c.args.turns end.full spot.actor spot.event c.args.at g (plain_trace c.args.since.now) end.outs.now end.out.now next x (sym (sym (ap option_copied c.in-Some.is) ∙ c.next_action.ensures g refl)) (sym c.is_sent.ensures ∙ c.if-not-is_sent.true)

pub waiting_what-requires : goal.waiting_what-requires
waiting_what-requires c = sym c.is_sent.ensures ∙ c.if-not-is_sent.false

pub returns : goal.returns
returns c =
    let b = c.args.books.now in
    let p = program_of b.program in
    let r = b.report in
    let g = c.args.agent in
    let end = c.args.end in
    let spot = c.args.spot in
    let next = next_action (cells_of b.program.cells) r.book g in
    let x = c.in-Some.action.now in
    let v = c.in-Some-value_at.state.now in
    let size = c.report.result.now.book.ok.0 in
    let same : length c.report.result.now.book.items ≡ length r.book = ap (λ y. length y.book) c.report.ensures in
    let all : c.len-events.result ≡ length r.book = omega (arith, size, same, c.len-events.ensures) in
    let state = some_state p r.book g v (sym (ap option_copied c.in-Some-value_at.is) ∙ last_state b g c.requires c.len-events.result all (option_copied c.value_at.result) c.value_at.ensures) in
    c.in_action-2.ensures
    ∙ sent_still p r c.args.turns end.full spot.actor spot.event c.args.at g (plain_trace c.args.since.now) end.outs.now end.out.now next x (sym (sym (ap option_copied c.in-Some.is) ∙ c.next_action.ensures g refl)) v state (sym c.is_sent.ensures ∙ c.if-not-is_sent.false) c.in_ok-what.what c.in_ok-what.ensures
