use Rattle.std.proofs.Common.{arith, length}
use Rattle.txs_world_book.proofs.Counting.{agents_few}
use Rattle.txs_world_book.proofs.cell.Cells.actors.Goals as goal

pub overflow_add-result : goal.overflow_add-result
overflow_add-result c =
    let all = c.self.inside.all in
    let few = agents_few all.items (length all.items) in
    let is = c.self.invariant.all in
    let size = all.ok.0 in
    let within = all.ok.1 in
    let small = all.small in
    let threads = c.from.ensures in
    let fits = c.ranges.threads.fits in
    omega (arith, few, is, size, within, small, threads, fits)
