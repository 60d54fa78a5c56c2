use Rattle.std.proofs.Common.{◌≡◌, take}
use Rattle.txs_world_book.specs.Served.{cells_of}
use Rattle.txs_world.proofs.store.Store.made_for.Given as goal

abbrev pub invariant-loop-i : goal.invariant-loop-i
invariant-loop-i l = take l.i l.own ≡ cells_of (take l.i l.cells)
