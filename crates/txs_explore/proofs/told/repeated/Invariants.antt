use Rattle.std.proofs.Common.{◌≡◌, take}
use Rattle.txs_machine.specs.Schedule.{spread}
use Rattle.txs_explore.specs.Reported.{plays_of}
use Rattle.txs_explore.proofs.told.repeated.Given as goal

abbrev pub invariant-loop-k : goal.invariant-loop-k
invariant-loop-k l = spread l.runs.items ≡ plays_of (take l.k-index l.asks)
