use Rattle.std.proofs.Common.{rules, ◌≡◌, ◌-◌, length}
use Rattle.txs_tree_eval_node.specs.Evaluated.{thread_state}
use Rattle.txs_tree_eval.proofs.Ends.{accounted}
use Rattle.txs_tree_eval.proofs.Leaf.{left_of}
use Rattle.txs_tree_eval.proofs.meaning.tell_thread.Goals as goal

pub returns : goal.returns
returns c =
    let t = c.args.thread in
    let s = thread_state t in
    let few : c.saturating_sub-left.result ≡ length t.events.now - t.eaten = search rules in
    let left = left_of t.events.now t.eaten c.saturating_sub-left.result few in
    let eaten : c.saturating_sub-eaten.result ≡ c.args.events - c.saturating_sub-left.result = search rules in
    accounted c.account.result c.args.events s c.args.end _ _ c.saturating_sub-left.result c.saturating_sub-eaten.result left eaten c.in_ok-needs.ensures c.account.ensures
