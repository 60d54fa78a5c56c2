use Rattle.txs_machine_actor.proofs.Looking.{accepts_so}
use Rattle.txs_machine_actor.proofs.actor.accepts.Goals as goal

pub returns : goal.returns
returns c = accepts_so c.args.value.now c.is_false.result c.is_false.ensures
