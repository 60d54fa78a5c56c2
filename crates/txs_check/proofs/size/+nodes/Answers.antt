use Rattle.std.proofs.Common.{arith}
use Rattle.txs_tree_meaning.specs.View.{tree_of}
use Rattle.txs_tree_meaning.proofs.Soundness.{nodes-some}
use Rattle.txs_check.proofs.size.+nodes.Goals as goal

pub nodes_left-returns-then-limit-eq0 : goal.nodes_left-returns-then-limit-eq0
nodes_left-returns-then-limit-eq0 t c = omega (arith, nodes-some (tree_of c.args.node.now), c.if-limit-eq0.true)
