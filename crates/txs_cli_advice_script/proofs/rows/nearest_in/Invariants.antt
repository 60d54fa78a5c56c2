use Rattle.std.proofs.Common.{take, map}
use Rattle.txs_cli_advice_script.specs.Nears.{Nearest}
use Rattle.txs_cli_advice_script.specs.Rows.{words_of}
use Rattle.txs_cli_advice_script.proofs.rows.nearest_in.Given as goal

abbrev pub invariant-loop-row : goal.invariant-loop-row
invariant-loop-row g l = Nearest (words_of (map (λ row. row.0.now) (take l.row-index l.rows))) l.initial.best l.best
