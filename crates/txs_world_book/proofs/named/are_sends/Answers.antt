use Rattle.std.proofs.Common.{◌+◌, ◌&&◌, ◌∙◌, ap, drop, sym}
use Rattle.std.proofs.lemmas.List.{at_drop_more}
use Rattle.txs_value_cell.specs.declared.action.Action.{Action}
use Rattle.txs_world_book.specs.Book.{are_sends, has_agent}
use Rattle.txs_world_book.proofs.named.are_sends.Goals as goal

pub loop-action-preserved : goal.loop-action-preserved
loop-action-preserved c =
    let cells = c.args.cells.now in
    let xs = c.args.sends.now in
    let i = c.loop-action.action-index in
    let x = c.action-item in
    let rest = are_sends cells (drop (i + 1) xs) in
    let one = ap (λ b. b && rest) (sym c.has_agent.ensures ∙ c.if-not-has_agent.false) in
    sym (at_drop_more (are_sends cells) xs i x.result c.loop-action-test.true ∙ ap (λ (y : Action). has_agent cells y.agent && rest) (sym x.is) ∙ one) ∙ c.loop-action.invariant
