use Rattle.std.proofs.Common.{◌<◌, length, subst, sym}
use Rattle.txs_tree_eval_node.specs.Events.{seen_events}
use Rattle.txs_tree_meaning.specs.View.{Parts}
use Rattle.txs_audit_evidence.proofs.ThreadFound.{tells_so}
use Rattle.txs_audit_event.proofs.Answered.{thread_answered}
use Rattle.txs_audit_event.proofs.meant.thread_means.Goals as goal

pub eval_thread-requires : goal.eval_thread-requires
eval_thread-requires c =
    let b = c.args.books.now in
    subst (λ (p : Parts). c.from-number.result < length p.threads) (sym c.program.ensures) (subst (λ k. k < length b.program.threads) (sym c.from-number.ensures) c.requires)

pub returns : goal.returns
returns c =
    let b = c.args.books.now in
    let tells = tells_so c.program.result.now b.program c.program.ensures c.from-number.result c.args.thread c.from-number.ensures c.args.bound c.in_ok-meaning.meaning (seen_events c.args.seen.now) c.in_ok-meaning.ensures in
    thread_answered b.program c.args.thread c.args.bound c.requires c.args.seen.now c.in_ok-meaning.meaning c.of_thread.result c.of_thread.ensures tells
