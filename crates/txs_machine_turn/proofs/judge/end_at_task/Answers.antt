use Rattle.std.proofs.Common.{Option, sym, subst}
use Rattle.txs_machine_actor.specs.Turns.{CanTask, Check, TasksAs}
use Rattle.txs_machine_turn.proofs.judge.end_at_task.Goals as goal

pub end_as-requires-clause-can : goal.end_as-requires-clause-can
end_as-requires-clause-can c = subst (λ (o : Option Check). CanTask c.args.code.now c.args.actor.now o) c.in-None.ensures c.requires.can

pub returns-in-None : goal.returns-in-None
returns-in-None c = subst (λ (o : Option Check). TasksAs c.args.code.now c.args.actor.now o c.args.span c.args.next c.end_as.new.turn c.end_as.new.actor) (sym c.in-None.ensures) c.end_as.ensures

pub validate-requires-clause-next : goal.validate-requires-clause-next
validate-requires-clause-next c = c.in-Some.ensures

pub validate-requires-clause-can : goal.validate-requires-clause-can
validate-requires-clause-can c = subst (λ (o : Option Check). CanTask c.args.code.now c.args.actor.now o) c.in-Some.ensures.1 c.requires.can

pub returns-in-Some : goal.returns-in-Some
returns-in-Some c =
    let h = c.in-Some.ensures in
    subst (λ (o : Option Check). TasksAs c.args.code.now c.args.actor.now o c.args.span c.args.next c.validate.new.turn c.validate.new.actor) (sym h.1) (c.validate.ensures h.0 h.1)
