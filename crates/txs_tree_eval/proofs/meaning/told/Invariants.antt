use Rattle.std.proofs.Common.{◌≡◌, map}
use Rattle.txs_tree_eval.specs.Told.{told_run}
use Rattle.txs_tree_eval.proofs.meaning.told.Given as goal

abbrev pub invariant-loop-run : goal.invariant-loop-run
invariant-loop-run l = l.txs.items ≡ map told_run l.yielded
