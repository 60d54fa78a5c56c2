use Rattle.std.proofs.Common.{◌∙◌, ap, sym, take}
use Rattle.std.specs.Prelude.{option_copied}
use Rattle.txs_world.specs.Store.{next_action}
use Rattle.txs_world_book.specs.Served.{cells_of}
use Rattle.txs_tree_meaning.specs.View.{program_of}
use Rattle.txs_audit_order.specs.Named.{plain_trace}
use Rattle.txs_audit_difference.specs.Pieces.{at_event, in_action}
use Rattle.txs_audit_difference.proofs.Piecing.{none_over, sent_over, some_state, unsent_over}
use Rattle.txs_audit_difference.proofs.pieces.over_what.Goals as goal

pub returns-in_default : goal.returns-in_default
returns-in_default c =
    let b = c.args.books.now in
    let p = program_of b.program in
    let r = b.report in
    let act = c.args.act in
    let spot = c.args.spot in
    let done = take act.at r.book in
    let next = next_action (cells_of b.program.cells) done act.agent in
    c.at_event.ensures ∙ ap (λ w. at_event w spot.actor spot.event) c.unknown.ensures
    ∙ none_over p r c.args.turns spot.actor spot.event c.args.at done act.agent (plain_trace c.args.since.now) act.new.now act.sends.now next (sym (sym (ap option_copied c.in_default.is) ∙ c.action_of.ensures))

pub returns-then-not-is_sent : goal.returns-then-not-is_sent
returns-then-not-is_sent c =
    let b = c.args.books.now in
    let p = program_of b.program in
    let r = b.report in
    let act = c.args.act in
    let spot = c.args.spot in
    let done = take act.at r.book in
    let next = next_action (cells_of b.program.cells) done act.agent in
    let x = c.in-Some.action.now in
    c.in_action.ensures ∙ ap (λ w. in_action x.span w spot.actor spot.event) c.unknown-then-not-is_sent.ensures
    ∙ unsent_over p r c.args.turns spot.actor spot.event c.args.at done act.agent (plain_trace c.args.since.now) act.new.now act.sends.now next x (sym (sym (ap option_copied c.in-Some.is) ∙ c.action_of.ensures)) (sym c.is_sent.ensures ∙ c.if-not-is_sent.true)

pub acted_what-requires : goal.acted_what-requires
acted_what-requires c = sym c.is_sent.ensures ∙ c.if-not-is_sent.false

pub returns : goal.returns
returns c =
    let b = c.args.books.now in
    let p = program_of b.program in
    let r = b.report in
    let act = c.args.act in
    let spot = c.args.spot in
    let done = take act.at r.book in
    let next = next_action (cells_of b.program.cells) done act.agent in
    let x = c.in-Some.action.now in
    let v = c.in-Some-state_of.state.now in
    let state = some_state p done act.agent v (sym (ap option_copied c.in-Some-state_of.is) ∙ c.state_of.ensures) in
    c.in_action-2.ensures
    ∙ sent_over p r c.args.turns spot.actor spot.event c.args.at done act.agent (plain_trace c.args.since.now) act.new.now act.sends.now next x (sym (sym (ap option_copied c.in-Some.is) ∙ c.action_of.ensures)) v state (sym c.is_sent.ensures ∙ c.if-not-is_sent.false) c.in_ok-what.what c.in_ok-what.ensures
