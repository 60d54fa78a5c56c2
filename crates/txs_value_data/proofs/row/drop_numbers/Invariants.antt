use Rattle.std.proofs.Common.{vec_len}
use Rattle.txs_value_data.specs.Numbers.{AreNumbers}
use Rattle.txs_value_data.specs.View.{plains_of}
use Rattle.txs_value_data.proofs.row.drop_numbers.Given as goal

abbrev pub decreases-loop-item : goal.decreases-loop-item
decreases-loop-item l = vec_len l.items

abbrev pub invariant-loop-item : goal.invariant-loop-item
invariant-loop-item l = AreNumbers (plains_of l.items.items)
