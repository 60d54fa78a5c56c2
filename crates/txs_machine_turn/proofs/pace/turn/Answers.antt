use Rattle.txs_machine_actor.proofs.Saying.{turns_say}
use Rattle.txs_machine_actor.proofs.Striding.{one_of}
use Rattle.txs_machine_turn.proofs.pace.turn.Goals as goal

pub returns-clause-turns : goal.returns-clause-turns
returns-clause-turns c = one_of c.args.code.now c.args.actor.now c.stride.new.actor c.stride.result c.stride.new.turn c.stride.ensures.strides

pub returns-clause-says : goal.returns-clause-says
returns-clause-says c = turns_say c.args.code.now c.stride.result c.args.actor.now c.stride.new.actor c.stride.new.turn c.requires.answered c.stride.ensures.strides.turns
