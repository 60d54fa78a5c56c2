use Rattle.std.proofs.Common.{◌≡◌, IfOk, subst}
use Rattle.txs_tree_meaning.specs.Tree.{Tree}
use Rattle.txs_tree_meaning.specs.View.{tree_of}
use Rattle.txs_tree_meaning.specs.declared.node.Node.{Node}
use Rattle.txs_tree_meaning.proofs.Unshifted.{unshifted}
use Rattle.txs_tree_meaning.proofs.copying.copy_node.Goals as goal

pub returns : goal.returns
returns c = subst (λ (t : Tree). IfOk c.shift_node.result (λ (n : Node). tree_of n ≡ t)) (unshifted 0 (tree_of c.args.node.now)) c.shift_node.ensures
