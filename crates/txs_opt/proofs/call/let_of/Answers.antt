use Rattle.txs_tree_meaning.specs.View.{mark_of, tree_of, trees_of}
use Rattle.txs_opt.proofs.Calls.{body_top}
use Rattle.txs_opt.proofs.call.let_of.Goals as goal

pub shift_node-requires : goal.shift_node-requires
shift_node-requires c = body_top c.args.live (tree_of c.args.body.now) (trees_of c.args.args.now) (mark_of c.args.spot.span c.args.spot.wanted) c.requires
