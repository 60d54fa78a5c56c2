use Rattle.std.proofs.Common.{rules}
use Rattle.txs_machine_actor.proofs.actor.Actor.accepted.Goals as goal

pub returns : goal.returns
returns c = search rules
