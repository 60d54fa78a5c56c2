use Rattle.std.proofs.Common.{List, [], ◌∷◌, length, ◌∙◌, ap, subst}
use Rattle.txs_machine_stack.specs.PlainFrame.{PlainStack}
use Rattle.txs_value_data.specs.declared.value.Value.{Value}
use Rattle.txs_machine_loop.specs.Values.{last_of}
use Rattle.txs_machine_actor.specs.Turns.{Judges}
use Rattle.txs_machine_actor.proofs.Looking.{judges_memory}
use Rattle.txs_machine_turn.proofs.judge.judge_last.Goals as goal

pub judge-requires-clause-one : goal.judge-requires-clause-one
judge-requires-clause-one c = ap (λ (vs : List Value). length vs) c.in-Ok.ensures

pub returns-in-Ok : goal.returns-in-Ok
returns-in-Ok c =
    let a = c.args.actor.now in
    let is = c.in-Ok.ensures ∙ ap (λ (v : Value). v ∷ []) (c.last.ensures ∙ ap (λ (s : PlainStack). last_of s.values) c.stack.ensures) in
    subst (λ (vs : List Value). Judges c.args.code.now a c.args.callee vs c.args.span c.judge.new.turn c.judge.new.actor) is c.judge.ensures

pub returns-in-Err : goal.returns-in-Err
returns-in-Err c = judges_memory c.args.code.now c.args.actor.now c.args.callee (last_of c.args.actor.now.values ∷ []) c.args.span c.end.new.turn c.end.new.self c.end.ensures.answer c.end.ensures.ended
