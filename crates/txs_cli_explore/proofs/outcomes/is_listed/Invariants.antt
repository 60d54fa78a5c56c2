use Rattle.std.proofs.Common.{drop}
use Rattle.txs_cli_explore.specs.Outcomes.{IsNew}
use Rattle.txs_cli_explore.proofs.outcomes.is_listed.Given as goal

-- where the outcomes to come aren't the same, none is
abbrev pub invariant-loop-o : goal.invariant-loop-o
invariant-loop-o l = IsNew l.outcome (drop l.o-index l.outcomes) → IsNew l.outcome l.outcomes
