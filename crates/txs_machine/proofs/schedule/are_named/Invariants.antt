use Rattle.std.proofs.Common.{◌≡◌, drop}
use Rattle.txs_machine.specs.Schedule.{all_named}
use Rattle.txs_machine.proofs.schedule.are_named.Given as goal

abbrev pub invariant-loop-play : goal.invariant-loop-play
invariant-loop-play l = all_named l.actors (drop l.play-index l.plays) ≡ all_named l.actors l.plays
