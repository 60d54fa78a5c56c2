use Rattle.std.proofs.Common.{get_or, ap, ◌<◌, subst, ◌+◌}
use Rattle.std.proofs.lemmas.List.{drop_all}
use Rattle.txs_value_data.specs.declared.value.CellId.{CellId}
use Rattle.txs_value_data.specs.declared.value.Value.{Value}
use Rattle.txs_tree_eval_transaction.proofs.Leaf.{less_of, missed_end, found_next, missed_next}
use Rattle.txs_tree_eval_transaction.proofs.writes.find.Goals as goal

pub loop-write-preserved : goal.loop-write-preserved
loop-write-preserved c =
    let xs = c.args.writes.now in
    let i = c.loop-write.write-index in
    let x : CellId × Value = c.write-item.result in
    let less : (get_or xs i x).0.number < c.args.number = subst (λ y. y.0.number < c.args.number) c.write-item.is (less_of x.0.number c.args.number c.if-write-number.false c.if-write-number-2.false) in (
      ap (λ k. k + 1) c.loop-write.invariant.0,
      found_next (λ w. w.0.number) xs c.args.number i c.loop-write.place c.loop-write.invariant.1 c.loop-write.invariant.2 x c.loop-write-test.true less,
      missed_next (λ w. w.0.number) xs c.args.number i c.loop-write.place c.loop-write.invariant.1 c.loop-write.invariant.2 x c.loop-write-test.true less,
    )

pub returns : goal.returns
returns c = missed_end (λ w. w.0.number) c.args.writes.now c.args.number c.loop-write.write-index c.loop-write.place (drop_all c.loop-write.write-index c.args.writes.now c.loop-write-test.false) c.loop-write.invariant.2
