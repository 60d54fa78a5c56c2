use Rattle.std.proofs.Common.{Some, length, ◌∙◌, ap, subst}
use Rattle.txs_tree_eval_node.specs.Setting.{Setting, callable, deepest}
use Rattle.txs_tree_meaning.specs.Sound.{SoundCells}
use Rattle.txs_tree_eval_transaction.specs.Views.{PlainTxView, plain_tx_world}
use Rattle.txs_tree_eval_node.proofs.Called.{cells_deepest, whole_depth}
use Rattle.txs_tree_eval_node.proofs.context.Context.deepest.Goals as goal

pub returns-clause-value : goal.returns-clause-value
returns-clause-value c =
    let x = c.self.inside in
    let s : Setting = record { cells = x.cells.now; functions = x.functions.now; depth = x.depth; turns = x.turns; world = plain_tx_world x.world } in
    let seeing : PlainTxView → Setting = λ v. record { cells = x.cells.now; functions = x.functions.now; depth = length x.functions.now; turns = x.turns; world = Some v } in
    ap seeing c.whole.ensures ∙ whole_depth s ∙ ap deepest c.self.view_is

pub returns-clause-sound : goal.returns-clause-sound
returns-clause-sound c =
    let x = c.self.inside in
    let s : Setting = record { cells = x.cells.now; functions = x.functions.now; depth = x.depth; turns = x.turns; world = plain_tx_world x.world } in
    subst (λ (y : Setting). SoundCells (callable (deepest y)) y.cells) c.self.view_is (cells_deepest s s.cells c.self.invariant.1)
