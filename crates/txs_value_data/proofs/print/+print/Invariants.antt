use Rattle.std.proofs.Common.{◌≡◌, ◌++◌, ◌∷◌, take}
use Rattle.txs_value_data.specs.PlainValue.{plain_row, plain_size}
use Rattle.txs_value_data.specs.Printed.{items_printed}
use Rattle.txs_value_data.specs.View.{plain_of}
use Rattle.txs_value_data.proofs.print.+print.Given as goal

abbrev pub decreases-print : goal.decreases-print
decreases-print l = plain_size (plain_of l.value.now)

abbrev pub invariant-loop-i : goal.invariant-loop-i
invariant-loop-i l = l.out.items ≡ l.fn.out.items ++ 91 ∷ items_printed (plain_row (take l.i l.items))
