use Rattle.std.proofs.Common.{◌≡◌, drop, map}
use Rattle.txs_cli_advice_script.specs.Rows.{said_of}
use Rattle.txs_cli_advice_script.proofs.rows.of_bytes.Given as goal

abbrev pub invariant-loop-row : goal.invariant-loop-row
invariant-loop-row l = said_of (map (λ row. (row.0.now, row.1.now)) (drop l.row-index l.rows)) l.bytes ≡ said_of (map (λ row. (row.0.now, row.1.now)) l.rows) l.bytes
