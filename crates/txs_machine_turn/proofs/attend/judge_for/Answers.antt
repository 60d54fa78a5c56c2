use Rattle.std.proofs.Common.{◌≡◌, ℕ, true, List, [], ◌∷◌, length, ◌∙◌, ap, sym, subst}
use Rattle.txs_machine_stack.specs.PlainFrame.{PlainStack}
use Rattle.txs_value_data.specs.declared.value.Value.{Value}
use Rattle.txs_value_data.specs.declared.op.Callee.{Callee}
use Rattle.txs_value_apply.specs.Core.{core, takes}
use Rattle.txs_machine_loop.specs.Values.{last_of}
use Rattle.txs_machine_actor.specs.Turns.{AnswersForAtOnce, CanBegin, CanJudge, JudgesFor}
use Rattle.txs_machine_actor.proofs.Looking.{judges_for_memory}
use Rattle.txs_machine_turn.proofs.attend.judge_for.Goals as goal

pub returns-in_default : goal.returns-in_default
returns-in_default c =
    let a = c.args.actor.now in
    judges_for_memory c.args.code.now a c.args.callee (last_of a.values) c.args.span c.end.new.turn c.end.new.self c.end.ensures.answer c.end.ensures.ended

pub judge_for_at_once-requires-clause-takes : goal.judge_for_at_once-requires-clause-takes
judge_for_at_once-requires-clause-takes c =
    let many = ap (λ (vs : List Value). length vs) c.in-Ok.ensures in
    subst (λ (n : ℕ). takes c.in-Core.op n ≡ true) (sym many) (subst (λ (f : Callee). CanJudge c.args.code.now f) c.in-Core.is c.requires.can)

pub judge_for_by_function-requires-clause-can : goal.judge_for_by_function-requires-clause-can
judge_for_by_function-requires-clause-can c =
    let many = ap (λ (vs : List Value). length vs) c.in-Ok.ensures in
    subst (λ (n : ℕ). CanBegin c.args.code.now c.in-Function.f n) (sym many) (subst (λ (f : Callee). CanJudge c.args.code.now f) c.in-Function.is c.requires.can)

pub returns-in-Core : goal.returns-in-Core
returns-in-Core c =
    let a = c.args.actor.now in
    let r = c.judge_for_at_once.new.turn in
    let b = c.judge_for_at_once.new.actor in
    let is = c.in-Ok.ensures ∙ ap (λ (v : Value). v ∷ []) (c.last.ensures ∙ ap (λ (s : PlainStack). last_of s.values) c.stack.ensures) in
    let made = subst (λ (vs : List Value). AnswersForAtOnce a c.args.span (core c.in-Core.op vs) r b) is c.judge_for_at_once.ensures in
    subst (λ (f : Callee). JudgesFor c.args.code.now a f (last_of a.values) c.args.span r b) (sym c.in-Core.is) made

pub returns-in-Function : goal.returns-in-Function
returns-in-Function c =
    let a = c.args.actor.now in
    let r = c.judge_for_by_function.new.turn in
    let b = c.judge_for_by_function.new.actor in
    let is = c.in-Ok.ensures ∙ ap (λ (v : Value). v ∷ []) (c.last.ensures ∙ ap (λ (s : PlainStack). last_of s.values) c.stack.ensures) in
    subst (λ (f : Callee). JudgesFor c.args.code.now a f (last_of a.values) c.args.span r b) (sym c.in-Function.is) (c.judge_for_by_function.ensures (last_of a.values) is)
