use Rattle.std.proofs.Common.{◌≡◌, drop}
use Rattle.txs_cli_explore.specs.Outcomes.{highest}
use Rattle.txs_cli_explore.proofs.outcomes.highest.Given as goal

abbrev pub invariant-loop-outcome : goal.invariant-loop-outcome
invariant-loop-outcome l = highest l.status (drop l.outcome-index l.outcomes) ≡ highest l.least l.outcomes
