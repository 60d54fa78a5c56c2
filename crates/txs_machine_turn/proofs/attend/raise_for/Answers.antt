use Rattle.std.proofs.Common.{subst}
use Rattle.txs_machine_actor.specs.PlainActor.{PlainActor}
use Rattle.txs_machine_actor.specs.Turns.{Raises}
use Rattle.txs_machine_turn.proofs.attend.raise_for.Goals as goal

pub returns : goal.returns
returns c = subst (λ (y : PlainActor). Raises y (record { kind = c.args.kind; span = c.args.span }) c.raise.new.turn c.raise.new.self) c.take_last.ensures.rest c.raise.ensures
