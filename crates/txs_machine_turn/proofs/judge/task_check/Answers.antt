use Rattle.std.proofs.Common.{◌∙◌, sym}
use Rattle.txs_machine_actor.proofs.Looking.{task_looks, none_looks}
use Rattle.txs_machine_turn.proofs.judge.task_check.Goals as goal

pub returns-in-Some : goal.returns-in-Some
returns-in-Some c = λ w. let p = c.args.phase.now in task_looks p.work p.values w c.args.span c.in-Some.callee (sym c.validates.ensures ∙ c.if-validates.true) (sym c.callee.ensures ∙ c.in-Some.is)

pub returns : goal.returns
returns c = λ w. let p = c.args.phase.now in none_looks p.work p.values w c.args.span (sym c.validates.ensures ∙ c.if-validates.false)
