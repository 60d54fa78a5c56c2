use Rattle.std.proofs.Common.{◌≡◌, take}
use Rattle.txs_machine.specs.Schedule.{spread}
use Rattle.txs_machine.proofs.schedule.each_once.Given as goal

abbrev pub invariant-loop-play : goal.invariant-loop-play
invariant-loop-play l = spread l.once.items ≡ take l.play-index l.plays
