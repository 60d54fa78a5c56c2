use Rattle.std.proofs.Common.{get_or, ap, ◌<◌, ◌+◌}
use Rattle.std.proofs.lemmas.List.{drop_all}
use Rattle.txs_value_data.specs.declared.value.CellKind.TheVariants.{Ref}
use Rattle.txs_value_data.specs.declared.value.CellId.{CellId}
use Rattle.txs_tree_eval_transaction.proofs.Leaf.{less_of, missed_end, found_next, missed_next}
use Rattle.txs_tree_eval_transaction.proofs.work.find.Goals as goal

pub loop-cell-preserved : goal.loop-cell-preserved
loop-cell-preserved c =
    let xs = c.args.cells.now in
    let i = c.loop-cell.cell-index in
    let x : CellId = record { kind = Ref; number = 0 } in
    let less : (get_or xs i x).number < c.args.number = less_of (get_or xs i x).number c.args.number c.if-cell-number.false c.if-cell-number-2.false in (
      ap (λ k. k + 1) c.loop-cell.invariant.0,
      found_next (λ c. c.number) xs c.args.number i c.loop-cell.place c.loop-cell.invariant.1 c.loop-cell.invariant.2 x c.loop-cell-test.true less,
      missed_next (λ c. c.number) xs c.args.number i c.loop-cell.place c.loop-cell.invariant.1 c.loop-cell.invariant.2 x c.loop-cell-test.true less,
    )

pub returns : goal.returns
returns c = missed_end (λ c. c.number) c.args.cells.now c.args.number c.loop-cell.cell-index c.loop-cell.place (drop_all c.loop-cell.cell-index c.args.cells.now c.loop-cell-test.false) c.loop-cell.invariant.2
