use Rattle.std.proofs.Common.{arith}
use Rattle.std.proofs.lemmas.Grind.{common_steps}
use Rattle.txs_machine.proofs.schedule.are_named.Goals as goal

pub loop-play-preserved : goal.loop-play-preserved
loop-play-preserved c = grind (arith, common_steps)
