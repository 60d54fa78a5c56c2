use Rattle.std.proofs.Common.{arith}
use Rattle.txs_tree_meaning.proofs.Soundness.{count-trees_of}
use Rattle.txs_tree_meaning.specs.View.{trees_of}
use Rattle.txs_opt.proofs.Calls.{arg_top, few_args, bound_more}
use Rattle.txs_opt.proofs.call.values_of.Goals as goal

pub overflow_cast-by : goal.overflow_cast-by
overflow_cast-by c = omega (arith, few_args c.args.live (trees_of c.args.args.now) c.requires, count-trees_of c.args.args.now, c.loop-at-test.true)

pub shift_node-requires : goal.shift_node-requires
shift_node-requires c = arg_top c.args.live c.args.args.now c.loop-at.at c.index-args-at.result c.loop-at-test.true c.index-args-at.is c.requires

pub loop-at-preserved : goal.loop-at-preserved
loop-at-preserved c =
    bound_more c.args.live c.args.args.now c.loop-at.values.items c.push.new.self.items c.loop-at.at c.index-args-at.result c.in_ok-shift_node.field-0 c.loop-at-test.true c.index-args-at.is c.loop-at.invariant c.in_ok-push.ensures.items c.in_ok-shift_node.ensures
