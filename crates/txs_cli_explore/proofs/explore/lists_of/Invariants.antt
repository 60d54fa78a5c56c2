use Rattle.std.proofs.Common.{◌≡◌, take}
use Rattle.txs_cli_explore.specs.Explored.{lists_in, texts_in}
use Rattle.txs_cli_explore.proofs.explore.lists_of.Given as goal

abbrev pub invariant-loop-outcome : goal.invariant-loop-outcome
invariant-loop-outcome l = texts_in l.lists.items ≡ lists_in (take l.outcome-index l.outcomes)
