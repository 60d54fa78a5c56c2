use Rattle.std.proofs.Common.{◌+◌, ◌*◌}
use Rattle.txs_tree_meaning.specs.Sound.{nodes, nodes_in}
use Rattle.txs_tree_meaning.specs.View.{tree_of, trees_of}
use Rattle.txs_opt.proofs.tail.+recurs.Given as goal

abbrev pub decreases-has_recur : goal.decreases-has_recur
decreases-has_recur l = 3 * nodes (tree_of l.node.now)

abbrev pub decreases-last_has_recur : goal.decreases-last_has_recur
decreases-last_has_recur l = 3 * nodes_in (trees_of l.nodes.now) + 1

abbrev pub decreases-row_has_recur : goal.decreases-row_has_recur
decreases-row_has_recur l = 3 * nodes_in (trees_of l.parts.now) + 2
