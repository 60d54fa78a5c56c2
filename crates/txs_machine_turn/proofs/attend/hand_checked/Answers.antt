use Rattle.std.proofs.Common.{◌≡◌, ◌<◌, Bool, true, false, length, Option, Some, None, sym, subst, rules}
use Rattle.txs_machine_actor.specs.PlainActor.{PlainActor}
use Rattle.txs_value_data.specs.Places.{fault_at}
use Rattle.txs_value_data.specs.declared.fault.FaultKind.TheVariants.{InvalidState}
use Rattle.txs_value_data.specs.declared.value.CellId.{CellId}
use Rattle.txs_machine_loop.specs.Values.{last_of}
use Rattle.txs_machine_actor.specs.Turns.{Check, GivesFor, HandedBy, Raises, agent_in, without_last}
use Rattle.txs_machine_turn.proofs.attend.hand_checked.Goals as goal

pub give-requires-clause-value : goal.give-requires-clause-value
give-requires-clause-value c = subst (λ (y : PlainActor). 0 < length y.values) (sym c.set_accepted.ensures) c.requires.value

pub give-requires-clause-attending : goal.give-requires-clause-attending
give-requires-clause-attending c = subst (λ (y : PlainActor). (g : CellId) × (agent_in y.role ≡ Some g)) (sym c.set_accepted.ensures) c.requires.attending

pub raise_for-requires-clause-value : goal.raise_for-requires-clause-value
raise_for-requires-clause-value c = subst (λ (y : PlainActor). 0 < length y.values) (sym c.set_accepted.ensures) c.requires.value

pub returns-in_default : goal.returns-in_default
returns-in_default c =
    let a = c.args.actor.now in
    let x : Check = record { callee = c.args.check.0; value = last_of a.values; span = c.args.check.1 } in
    let e : a.accepted ≡ None = search rules in
    subst (λ (o : Option Bool). HandedBy c.args.code.now a x o c.judge_for.new.turn c.judge_for.new.actor) (sym e) c.judge_for.ensures

pub returns-then-accepts : goal.returns-then-accepts
returns-then-accepts c =
    let a = c.args.actor.now in
    let x : Check = record { callee = c.args.check.0; value = last_of a.values; span = c.args.check.1 } in
    let e : a.accepted ≡ Some true = search rules in
    subst (λ (o : Option Bool). HandedBy c.args.code.now a x o c.give.new.turn c.give.new.actor) (sym e)
    (subst (λ (y : PlainActor). GivesFor y (agent_in y.role) c.give.new.turn c.give.new.actor) c.set_accepted.ensures c.give.ensures)

pub returns : goal.returns
returns c =
    let a = c.args.actor.now in
    let x : Check = record { callee = c.args.check.0; value = last_of a.values; span = c.args.check.1 } in
    let e : a.accepted ≡ Some false = search rules in
    subst (λ (o : Option Bool). HandedBy c.args.code.now a x o c.raise_for.new.turn c.raise_for.new.actor) (sym e)
    (subst (λ (y : PlainActor). Raises (without_last y) (fault_at InvalidState c.args.check.1) c.raise_for.new.turn c.raise_for.new.actor) c.set_accepted.ensures c.raise_for.ensures)
