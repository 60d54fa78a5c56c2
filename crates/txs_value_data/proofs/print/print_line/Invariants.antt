use Rattle.std.proofs.Common.{◌≡◌, ◌++◌, take}
use Rattle.txs_value_data.specs.PlainValue.{plain_row}
use Rattle.txs_value_data.specs.Printed.{items_printed}
use Rattle.txs_value_data.specs.View.{plains_of}
use Rattle.txs_value_data.proofs.print.print_line.Given as goal

abbrev pub invariant-loop-i : goal.invariant-loop-i
invariant-loop-i l = l.out.items ≡ l.fn.out.items ++ items_printed (plain_row (take l.i (plains_of l.values)))
