use Rattle.txs_world.proofs.Merging.{found_next}
use Rattle.txs_world.proofs.store.Store.least_ensured.Goals as goal

pub loop-cell-preserved : goal.loop-cell-preserved
loop-cell-preserved c =
    let inv = c.loop-cell.invariant in
    let r = found_next c.args.self.now.cells c.args.self.now.book c.args.at c.args.cells.now c.loop-cell.cell-index _ c.loop-cell.found c.least_with-found.result c.loop-cell-test.true (inv.refs, inv.answer) c.least_with-found.ensures in
    record { refs = r.0; answer = r.1 }
