use Rattle.std.proofs.Common.{◌≡◌, drop}
use Rattle.txs_tree_meaning.specs.View.{trees_of}
use Rattle.txs_opt.specs.Fold.{constants}
use Rattle.txs_opt.proofs.Constants.{in_front}
use Rattle.txs_opt.proofs.fold_nodes.constants.Given as goal

abbrev pub invariant-loop-node : goal.invariant-loop-node
invariant-loop-node l = in_front l.values.items (constants (trees_of (drop l.node-index l.nodes))) ≡ constants (trees_of l.nodes)
