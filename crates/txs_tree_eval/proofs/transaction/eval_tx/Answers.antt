use Rattle.std.proofs.Common.{[], length, true, Some, sym, ap, ◌∙◌, subst, subst₂}
use Rattle.txs_tree_meaning.specs.Known.{known}
use Rattle.txs_tree_meaning.specs.Sound.{SoundCells, SoundFunctions}
use Rattle.txs_tree_meaning.specs.View.{functions_of, tree_of}
use Rattle.txs_tree_eval_transaction.specs.Worked.{Gives, tx_state}
use Rattle.txs_tree_meaning.specs.Transaction.{tx_meaning}
use Rattle.txs_tree_eval_transaction.specs.Views.{plain_view, world_of}
use Rattle.txs_tree_eval.proofs.Ends.{whole as whole_setting, whole_of, waitless, sound_tx, told_body}
use Rattle.txs_tree_eval.proofs.transaction.eval_tx.Goals as goal

pub new-context-requires : goal.new-context-requires
new-context-requires c =
    let functions = subst (λ fs. SoundFunctions [] (functions_of fs)) (sym c.functions.ensures) c.is_sound.ensures.functions in
    let cells = subst₂ (λ fs ds. SoundCells (known (functions_of fs)) ds) (sym c.functions.ensures) (sym c.cells.ensures) c.is_sound.ensures.cells in
    record { functions = functions; cells = cells }

pub evaluate-gave-requires : goal.evaluate-gave-requires
evaluate-gave-requires c =
    let p = c.args.program.now in
    let w = plain_view c.args.world in
    let whole = whole_of c.new-context.result c.cells.result.now p.cells c.functions.result.now p.functions c.args.turns _ c.new-context.ensures c.cells.ensures c.functions.ensures ∙ ap (λ v. whole_setting p.cells p.functions c.args.turns (Some v)) c.whole.ensures in
    sound_tx p.cells p.functions c.args.turns (tree_of c.args.node.now) c.args.values.now c.in_ok-locals.locals.items w c.new-context.result whole c.in_ok-locals.ensures c.requires

pub tell_tx-requires : goal.tell_tx-requires
tell_tx-requires c =
    let p = c.args.program.now in
    let w = plain_view c.args.world in
    let whole = whole_of c.new-context.result c.cells.result.now p.cells c.functions.result.now p.functions c.args.turns _ c.new-context.ensures c.cells.ensures c.functions.ensures ∙ ap (λ v. whole_setting p.cells p.functions c.args.turns (Some v)) c.whole.ensures in
    waitless c.evaluate-gave.result (tx_state c.evaluate-gave.new.state.tx) _ (told_body p.cells p.functions c.args.turns (tree_of c.args.node.now) c.args.values.now c.in_ok-locals.locals.items w c.new-context.result whole c.in_ok-locals.ensures c.evaluate-gave.result c.new-state.result c.evaluate-gave.new.state c.new-state.ensures.tx c.evaluate-gave.ensures.value)

pub returns : goal.returns
returns c =
    let p = c.args.program.now in
    let w = plain_view c.args.world in
    let whole = whole_of c.new-context.result c.cells.result.now p.cells c.functions.result.now p.functions c.args.turns _ c.new-context.ensures c.cells.ensures c.functions.ensures ∙ ap (λ v. whole_setting p.cells p.functions c.args.turns (Some v)) c.whole.ensures in
    let meaning = tx_meaning c.args.turns (functions_of p.functions) (length p.functions) (tree_of c.args.node.now) c.args.values.now (world_of w) in
    c.tell_tx.ensures meaning
    (subst (λ x. Gives true c.evaluate-gave.result (tx_state x) meaning) (sym c.into_tx.ensures)
    (told_body p.cells p.functions c.args.turns (tree_of c.args.node.now) c.args.values.now c.in_ok-locals.locals.items w c.new-context.result whole c.in_ok-locals.ensures c.evaluate-gave.result c.new-state.result c.evaluate-gave.new.state c.new-state.ensures.tx c.evaluate-gave.ensures.value))
