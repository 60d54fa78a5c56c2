use Rattle.std.proofs.Common.{◌≡◌, drop}
use Rattle.txs_machine.specs.Schedule.{all_named, spread}
use Rattle.txs_machine.proofs.schedule.are_all_named.Given as goal

abbrev pub invariant-loop-run : goal.invariant-loop-run
invariant-loop-run l = all_named l.actors (spread (drop l.run-index l.plays)) ≡ all_named l.actors (spread l.plays)
