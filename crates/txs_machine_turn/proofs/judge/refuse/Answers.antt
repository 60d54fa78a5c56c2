use Rattle.std.proofs.Common.{subst}
use Rattle.txs_machine_actor.specs.PlainActor.{PlainActor}
use Rattle.txs_value_data.specs.Places.{fault_at}
use Rattle.txs_value_data.specs.declared.fault.FaultKind.TheVariants.{InvalidState}
use Rattle.txs_machine_actor.specs.Turns.{Raises}
use Rattle.txs_machine_turn.proofs.judge.refuse.Goals as goal

pub returns : goal.returns
returns c = subst (λ (y : PlainActor). Raises y (fault_at InvalidState c.args.span) c.raise.new.turn c.raise.new.self) c.set_accepted.ensures c.raise.ensures
