use Rattle.std.proofs.Common.{sym, subst}
use Rattle.txs_machine_actor.specs.Turns.{EvaluatesOn}
use Rattle.txs_machine_actor.specs.declared.outcome.Turn.{Turn}
use Rattle.txs_machine_turn.proofs.judge.judge_by_function.Goals as goal

pub returns : goal.returns
returns c = subst (λ (r : Turn). EvaluatesOn c.args.code.now c.args.actor.now c.args.f c.args.values.items r c.put_aside.new.self) (sym c.requires.went) (c.in-Ok.stack, c.in-Ok.ensures, c.put_aside.ensures)
