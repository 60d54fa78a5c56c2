use Rattle.txs_cli_events.specs.Staged.{IsStaged}
use Rattle.txs_cli_events.proofs.listing.list_plays.Given as goal

abbrev pub invariant-loop-play : goal.invariant-loop-play
invariant-loop-play l = IsStaged l.code l.max_steps l.stage
