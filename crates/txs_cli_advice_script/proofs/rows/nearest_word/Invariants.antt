use Rattle.std.proofs.Common.{map}
use Rattle.txs_cli_advice_script.specs.Nears.{Nearest}
use Rattle.txs_cli_advice_script.proofs.rows.nearest_word.Given as goal

abbrev pub invariant-loop-it : goal.invariant-loop-it
invariant-loop-it l = Nearest (map (λ it. it.now) l.yielded) l.initial.best l.best
