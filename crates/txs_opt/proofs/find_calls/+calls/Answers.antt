use Rattle.std.proofs.Common.{arith}
use Rattle.txs_tree_meaning.proofs.Rows.{nodes_at}
use Rattle.txs_opt.proofs.find_calls.+calls.Goals as goal

pub some_has_call-has_call-requires : goal.some_has_call-has_call-requires
some_has_call-has_call-requires t c = (omega (arith, c.decreases, nodes_at c.args.nodes.now c.loop-node.node-index c.node-item.result c.loop-node-test.true c.node-item.is), tt)
