use Rattle.std.proofs.Common.{ap}
use Rattle.txs_tree_eval_node.specs.Evaluated.{with_todo, thread_state}
use Rattle.txs_tree_eval_node.proofs.Leaf.{event_skipped}
use Rattle.txs_tree_eval_node.proofs.state.Progress.skip.Goals as goal

pub returns : goal.returns
returns c =
    let p = c.args.self.now in
    λ e es left. ap (λ l. with_todo l (thread_state p)) (event_skipped p.events.now p.eaten e es left)
