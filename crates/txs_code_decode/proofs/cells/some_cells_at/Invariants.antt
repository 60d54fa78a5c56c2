use Rattle.std.proofs.Common.{◌≡◌, ◌-◌}
use Rattle.txs_code_decode.specs.CellForm.{cell_format}
use Rattle.txs_code_decode.specs.Format.{many_at}
use Rattle.txs_code_decode.proofs.Many.{with_front}
use Rattle.txs_code_decode.proofs.cells.some_cells_at.Given as goal

abbrev pub invariant-loop : goal.invariant-loop
invariant-loop l = with_front l.cells.items (many_at (cell_format l.validated).read (l.count - l.counter) l.rest) ≡ many_at (cell_format l.validated).read l.count l.bytes
