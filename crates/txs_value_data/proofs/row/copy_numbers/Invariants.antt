use Rattle.std.proofs.Common.{◌≡◌, take, vec_capacity}
use Rattle.txs_value_data.proofs.row.copy_numbers.Given as goal

abbrev pub invariant-loop-item : goal.invariant-loop-item
invariant-loop-item l = record { items : l.copies.items ≡ take l.item-index l.items; capacity : vec_capacity l.copies ≡ l.room }
