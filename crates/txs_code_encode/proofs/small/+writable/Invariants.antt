use Rattle.std.proofs.Common.{take}
use Rattle.txs_value_data.specs.PlainValue.{plain_row, plain_size, row_size}
use Rattle.txs_value_data.specs.View.{plain_of}
use Rattle.txs_code_decode.specs.ValueForm.{AreWritable}
use Rattle.txs_code_encode.proofs.small.+writable.Given as goal

abbrev pub decreases-are_writable : goal.decreases-are_writable
decreases-are_writable l = row_size l.items.now

abbrev pub decreases-is_writable : goal.decreases-is_writable
decreases-is_writable l = plain_size (plain_of l.value.now)

abbrev pub invariant-are_writable-loop-i : goal.invariant-are_writable-loop-i
invariant-are_writable-loop-i l = AreWritable (plain_row (take l.i l.items))
