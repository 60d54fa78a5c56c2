use Rattle.std.proofs.Common.{Bool, List, [], ◌∷◌, length, Option, ◌∙◌, ap, sym, subst}
use Rattle.txs_value_data.specs.declared.value.Value.{Value}
use Rattle.txs_machine_actor.specs.Turns.{Check, Judges, Validated}
use Rattle.txs_machine_actor.proofs.Looking.{some, check_left, judges_memory, not_refused}
use Rattle.txs_machine_turn.proofs.judge.validate.Goals as goal

pub returns-then-has_refused : goal.returns-then-has_refused
returns-then-has_refused c = λ v e.
    let x : Check = record { callee = c.args.check.0; value = v; span = c.args.check.1 } in
    subst (λ (o : Option Bool). Validated c.args.code.now c.args.actor.now x o c.refuse.new.turn c.refuse.new.actor) (sym (c.has_refused.ensures.yes c.if-has_refused.true)) c.refuse.ensures

pub task_values-requires : goal.task_values-requires
task_values-requires c =
    let n = c.requires.next in
    let x : Check = record { callee = c.args.check.0; value = n.0; span = c.args.check.1 } in
    check_left c.args.actor.now.tx c.args.actor.now.done x n.1

pub judge-requires-clause-one : goal.judge-requires-clause-one
judge-requires-clause-one c = ap (λ (vs : List Value). length vs) (c.in-Ok.ensures ∙ c.requires.next.2)

pub returns-in-Ok : goal.returns-in-Ok
returns-in-Ok c = λ v e.
    let d = c.args.code.now in
    let a = c.args.actor.now in
    let n = c.requires.next in
    let x : Check = record { callee = c.args.check.0; value = v; span = c.args.check.1 } in
    let same = ap (λ (y : Check). y.value) (some (sym n.1 ∙ e)) in
    let is = c.in-Ok.ensures ∙ n.2 ∙ ap (λ (w : Value). w ∷ []) same in
    not_refused d a x a.accepted c.judge.new.turn c.judge.new.actor (c.has_refused.ensures.no c.if-has_refused.false)
    (subst (λ (vs : List Value). Judges d a c.args.check.0 vs c.args.check.1 c.judge.new.turn c.judge.new.actor) is c.judge.ensures)

pub returns-in-Err : goal.returns-in-Err
returns-in-Err c = λ v e.
    let d = c.args.code.now in
    let a = c.args.actor.now in
    let x : Check = record { callee = c.args.check.0; value = v; span = c.args.check.1 } in
    not_refused d a x a.accepted c.end.new.turn c.end.new.self (c.has_refused.ensures.no c.if-has_refused.false)
    (judges_memory d a c.args.check.0 (v ∷ []) c.args.check.1 c.end.new.turn c.end.new.self c.end.ensures.answer c.end.ensures.ended)
