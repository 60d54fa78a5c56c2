use Rattle.std.proofs.Common.{◌≡◌, ℕ, true, sym, subst}
use Rattle.txs_value_data.specs.declared.op.Callee.{Callee}
use Rattle.txs_value_apply.specs.Core.{takes}
use Rattle.txs_machine_actor.specs.Turns.{CanBegin, CanJudge, Judges}
use Rattle.txs_machine_turn.proofs.judge.judge.Goals as goal

pub judge_at_once-requires-clause-takes : goal.judge_at_once-requires-clause-takes
judge_at_once-requires-clause-takes c =
    subst (λ (n : ℕ). takes c.in-Core.op n ≡ true) (sym c.requires.one) (subst (λ (f : Callee). CanJudge c.args.code.now f) c.in-Core.is c.requires.can)

pub judge_by_function-requires-clause-can : goal.judge_by_function-requires-clause-can
judge_by_function-requires-clause-can c =
    subst (λ (n : ℕ). CanBegin c.args.code.now c.in-Function.f n) (sym c.requires.one) (subst (λ (f : Callee). CanJudge c.args.code.now f) c.in-Function.is c.requires.can)

pub returns-in-Core : goal.returns-in-Core
returns-in-Core c =
    subst (λ (f : Callee). Judges c.args.code.now c.args.actor.now f c.args.values.items c.args.span c.judge_at_once.new.turn c.judge_at_once.new.actor) (sym c.in-Core.is) c.judge_at_once.ensures

pub returns-in-Function : goal.returns-in-Function
returns-in-Function c =
    subst (λ (f : Callee). Judges c.args.code.now c.args.actor.now f c.args.values.items c.args.span c.judge_by_function.new.turn c.judge_by_function.new.actor) (sym c.in-Function.is)
    c.judge_by_function.ensures
