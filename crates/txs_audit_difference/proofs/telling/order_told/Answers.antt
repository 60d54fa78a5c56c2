use Rattle.std.proofs.Common.{◌≡◌, ◌∙◌, IfOk, ap, subst, sym}
use Rattle.txs_tree_meaning.specs.View.{program_of}
use Rattle.txs_audit_difference.specs.Left.{spot_off}
use Rattle.txs_audit_difference.specs.declared.told.Told.TheVariants as told
use Rattle.txs_audit_difference.proofs.Tells.{order_fine, order_off}
use Rattle.txs_audit_difference.proofs.telling.order_told.Goals as goal

pub returns-in-Some : goal.returns-in-Some
returns-in-Some c =
    let b = c.args.books.now in
    let s = c.in-Some.spot in
    ap told.So c.at_event.ensures ∙ sym (order_off (program_of b.program) b.report c.args.turns s.actor s.event (sym c.in_ok-spot.ensures ∙ ap spot_off c.in-Some.is))

pub returns-in-None : goal.returns-in-None
returns-in-None c =
    let b = c.args.books.now in
    subst (λ u. IfOk c.pieces_told.result (λ t. t ≡ u)) (sym (order_fine (program_of b.program) b.report c.args.turns (sym c.in_ok-spot.ensures ∙ ap spot_off c.in-None.is))) c.pieces_told.ensures
