use Rattle.std.proofs.Common.{◌≤◌, arith, length, rules}
use Rattle.txs_audit_order.proofs.Sizing.{many_few, many_next}
use Rattle.txs_audit_order.proofs.sizes.count.Goals as goal

pub overflow_add-many : goal.overflow_add-many
overflow_add-many c =
    let ds = c.args.cells.now in
    let i = c.loop-cell.cell-index in
    let d = c.cell-item.result in
    let next = many_next c.args.kind ds i d c.loop-cell-test.true c.cell-item.is in
    let few = many_few c.args.kind ds in
    let fits : length ds ≤ 18446744073709551615 = search rules in
    let one = c.one_of-many.ensures in
    omega (arith, one, next, few, fits, c.loop-cell.invariant)

pub loop-cell-preserved : goal.loop-cell-preserved
loop-cell-preserved c =
    let next = many_next c.args.kind c.args.cells.now c.loop-cell.cell-index c.cell-item.result c.loop-cell-test.true c.cell-item.is in
    let one = c.one_of-many.ensures in
    omega (arith, one, next, c.loop-cell.invariant)
