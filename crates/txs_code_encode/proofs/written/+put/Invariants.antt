use Rattle.std.proofs.Common.{◌≡◌, ◌++◌, take}
use Rattle.txs_value_data.specs.PlainValue.{plain_row, plain_size, row_size}
use Rattle.txs_value_data.specs.View.{plain_of}
use Rattle.txs_code_decode.specs.ValueForm.{row_bytes}
use Rattle.txs_code_encode.proofs.written.+put.Given as goal

abbrev pub decreases-put_items : goal.decreases-put_items
decreases-put_items l = row_size l.items.now

abbrev pub decreases-put_value : goal.decreases-put_value
decreases-put_value l = plain_size (plain_of l.value.now)

abbrev pub invariant-put_items-loop-i : goal.invariant-put_items-loop-i
invariant-put_items-loop-i l = l.out.items ≡ l.fn.out.items ++ row_bytes (plain_row (take l.i l.items))
