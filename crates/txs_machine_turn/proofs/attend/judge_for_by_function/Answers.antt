use Rattle.std.proofs.Common.{List, sym, subst}
use Rattle.txs_value_data.specs.declared.value.Value.{Value}
use Rattle.txs_machine_actor.specs.Turns.{BeginsJudging, IsEvaluation}
use Rattle.txs_machine_actor.specs.declared.outcome.Turn.{Turn}
use Rattle.txs_machine_turn.proofs.attend.judge_for_by_function.Goals as goal

pub returns : goal.returns
returns c = λ v is.
    let d = c.args.code.now in
    let a = c.args.actor.now in
    let f = c.args.f in
    let made = subst (λ (vs : List Value). IsEvaluation d f vs c.in-Ok.stack) is c.in-Ok.ensures in
    subst (λ (r : Turn). BeginsJudging d a f v r c.begin_judging.new.self) (sym c.requires.went) (c.in-Ok.stack, made, c.begin_judging.ensures)
