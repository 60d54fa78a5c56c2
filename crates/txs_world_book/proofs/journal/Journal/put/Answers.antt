use Rattle.std.proofs.Common.{arith}
use Rattle.txs_world_book.proofs.Sizes.{fits_place}
use Rattle.txs_world_book.proofs.journal.Journal.put.Goals as goal

pub overflow_cast-events : goal.overflow_cast-events
overflow_cast-events c =
    let lt = c.requires.few in
    let many = c.push_reserved.ensures.len in
    let is = c.len-events.ensures in
    fits_place c.len-events.result (omega (arith, lt, many, is))
