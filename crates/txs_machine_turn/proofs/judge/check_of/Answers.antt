use Rattle.std.proofs.Common.{Option, ◌∙◌, sym, ap}
use Rattle.txs_value_data.specs.declared.op.Callee.{Callee}
use Rattle.txs_machine_actor.specs.Turns.{check_of}
use Rattle.txs_machine_turn.proofs.judge.check_of.Goals as goal

pub returns-in-Some : goal.returns-in-Some
returns-in-Some c = λ v. ap (λ (o : Option Callee). check_of o v c.args.span) (sym c.validator_of.ensures ∙ c.in-Some.is)

pub returns-in-None : goal.returns-in-None
returns-in-None c = λ v. ap (λ (o : Option Callee). check_of o v c.args.span) (sym c.validator_of.ensures ∙ c.in-None.is)
