use Rattle.std.proofs.Common.{◌≡◌, ◌*◌, suc, take}
use Rattle.txs_value_data.specs.PlainValue.{plain_size, row_size}
use Rattle.txs_value_data.specs.View.{plain_of, plains_of}
use Rattle.txs_value_data.proofs.equal.+same.Given as goal

abbrev pub decreases-same : goal.decreases-same
decreases-same l = plain_size (plain_of l.a.now)

abbrev pub decreases-same_items : goal.decreases-same_items
decreases-same_items l = suc (row_size l.a.now)

abbrev pub decreases-same_row : goal.decreases-same_row
decreases-same_row l = row_size (plains_of l.a.now)

abbrev pub invariant-same_items-loop-i : goal.invariant-same_items-loop-i
invariant-same_items-loop-i l = take (l.i * 32) l.a ≡ take (l.i * 32) l.b

abbrev pub invariant-same_row-loop-i : goal.invariant-same_row-loop-i
invariant-same_row-loop-i l = take l.i l.a ≡ take l.i l.b
