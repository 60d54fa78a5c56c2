use Rattle.std.proofs.Common.{◌≡◌, ◌≤◌, take}
use Rattle.txs_value_data.specs.Numbers.{AreNumbers}
use Rattle.txs_value_data.specs.PlainValue.{row_depth, plain_row}
use Rattle.txs_value_data.specs.View.{plains_of}
use Rattle.txs_value_data.proofs.items.deepest.Given as goal

abbrev pub invariant-loop-value : goal.invariant-loop-value
invariant-loop-value l = (row_depth (plain_row (plains_of (take l.value-index l.values))) ≤ l.deep) × (l.deep ≡ 0 → AreNumbers (plains_of (take l.value-index l.values)))
