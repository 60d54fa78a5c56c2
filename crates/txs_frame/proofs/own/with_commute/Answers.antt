use Rattle.std.proofs.Common.{rules, arith}
use Rattle.std.proofs.lemmas.Grind.{common_steps}
use Rattle.txs_frame.proofs.own.with_commute.Goals as goal

pub returns-in-Some-Set : goal.returns-in-Some-Set
returns-in-Some-Set c = first_of (search rules, grind (arith, common_steps))
