use Rattle.std.proofs.Common.{Err, sym, subst, inl, inr}
use Rattle.txs_machine_actor.specs.PlainActor.{PlainActor}
use Rattle.txs_value_apply.specs.Core.{Answer, Answers as ApplyAnswers, core}
use Rattle.txs_value_data.specs.declared.fault.Stop.{Stop}
use Rattle.txs_machine_actor.specs.Turns.{AnsweredFor, AnswersForAtOnce}
use Rattle.txs_machine_actor.proofs.Looking.{at_once_for}
use Rattle.txs_machine_turn.proofs.attend.judge_for_at_once.Goals as goal

pub returns-in-Ok : goal.returns-in-Ok
returns-in-Ok c =
    let a = c.args.actor.now in
    let b = c.in-Ok.accepts in
    let h = c.in-Ok.ensures in
    let o = core c.args.op c.args.values.items in
    let t = c.args.turn.now in
    subst (λ (y : PlainActor). AnswersForAtOnce a c.args.span o t y) (sym c.set_accepted.ensures) (at_once_for a c.args.span o h.0 b t h.1 h.2 c.requires.went)

pub returns-in-Fault : goal.returns-in-Fault
returns-in-Fault c =
    let a = c.args.actor.now in
    let o = core c.args.op c.args.values.items in
    let is = subst (λ (s : Stop). ApplyAnswers (Err s) o) c.in-Fault.is c.in-Err.ensures in
    inl (subst (λ (x : Answer). AnsweredFor a c.args.span x c.raise_for.new.turn c.raise_for.new.actor) (sym is) c.raise_for.ensures)

pub returns-in-Memory : goal.returns-in-Memory
returns-in-Memory c = inr (c.end.ensures.answer, c.end.ensures.ended)
