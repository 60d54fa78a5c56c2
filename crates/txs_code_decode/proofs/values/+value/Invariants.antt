use Rattle.std.proofs.Common.{◌≡◌, ◌+◌, ◌*◌, ◌-◌}
use Rattle.txs_value_data.specs.View.{plains_of}
use Rattle.txs_code_decode.specs.CellForm.{kinds_of}
use Rattle.txs_code_decode.specs.Format.{many_at}
use Rattle.txs_code_decode.specs.ValueForm.{value_format}
use Rattle.txs_code_decode.proofs.Many.{with_front}
use Rattle.txs_code_decode.proofs.values.+value.Given as goal

abbrev pub decreases-values_at : goal.decreases-values_at
decreases-values_at l = 4 * l.room + 2

abbrev pub decreases-vector_at : goal.decreases-vector_at
decreases-vector_at l = 4 * l.room - 1

abbrev pub decreases-value_at : goal.decreases-value_at
decreases-value_at l = 4 * l.room + 1

abbrev pub invariant-values_at-loop : goal.invariant-values_at-loop
invariant-values_at-loop l =
    with_front (plains_of l.values.items) (many_at (value_format l.cells (kinds_of l.defined) l.room).read (l.count - l.counter) l.rest) ≡ many_at (value_format l.cells (kinds_of l.defined) l.room).read l.count l.bytes
