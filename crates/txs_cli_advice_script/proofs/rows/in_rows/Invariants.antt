use Rattle.std.proofs.Common.{◌≡◌, drop, map}
use Rattle.txs_cli_advice_script.specs.Rows.{said_in}
use Rattle.txs_cli_advice_script.proofs.rows.in_rows.Given as goal

abbrev pub invariant-loop-row : goal.invariant-loop-row
invariant-loop-row g l = said_in (map (λ row. (row.0.now, row.1)) (drop l.row-index l.rows)) l.name l.otherwise ≡ said_in (map (λ row. (row.0.now, row.1)) l.rows) l.name l.otherwise
