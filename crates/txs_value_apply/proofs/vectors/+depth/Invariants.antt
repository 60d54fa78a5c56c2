use Rattle.std.proofs.Common.{◌≤◌, take}
use Rattle.txs_value_data.specs.PlainValue.{row_depth, plain_row, plain_size, row_size}
use Rattle.txs_value_data.specs.View.{plain_of}
use Rattle.txs_value_apply.proofs.vectors.+depth.Given as goal

abbrev pub decreases-items_within : goal.decreases-items_within
decreases-items_within l = row_size l.items.now

abbrev pub decreases-is_within : goal.decreases-is_within
decreases-is_within l = plain_size (plain_of l.value.now)

abbrev pub invariant-items_within-loop-i : goal.invariant-items_within-loop-i
invariant-items_within-loop-i l = row_depth (plain_row (take l.i l.items)) ≤ l.limit
