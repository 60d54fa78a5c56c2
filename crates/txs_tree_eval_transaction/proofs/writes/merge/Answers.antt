use Rattle.std.proofs.Common.{sym, ap, ◌∙◌, ◌+◌, drop}
use Rattle.txs_world_protocol.specs.Ask.{with_write}
use Rattle.txs_tree_meaning.specs.Transaction.{merged}
use Rattle.txs_tree_eval_transaction.proofs.Leaf.{merged_next}
use Rattle.txs_tree_eval_transaction.proofs.writes.merge.Goals as goal

pub loop-other-preserved : goal.loop-other-preserved
loop-other-preserved c =
    let i = c.loop-other.other-index in
    let now = c.loop-other.writes.items in
    let x = c.other-item.result in
    let put = c.in_ok-put_write.ensures ∙ ap (λ v. with_write now x.0 v) c.in_ok-copy_value.ensures in
    ap (λ ws. merged ws (drop (i + 1) c.args.others.now)) put ∙ sym (merged_next now c.args.others.now i x c.loop-other-test.true c.other-item.is) ∙ c.loop-other.invariant
