use Rattle.std.proofs.Common.{Some, ap, ◌∙◌}
use Rattle.txs_code_meaning.specs.PlainCode.{parameters_of}
use Rattle.txs_value_cell.specs.Cells.{validators_of}
use Rattle.txs_verify.specs.Validators.{TakesOne}
use Rattle.txs_verify.proofs.Validated.{false_not, of_none, of_some}
use Rattle.txs_verify.proofs.validators.count_at.Goals as goal

pub returns-in-None-clause-right : goal.returns-in-None-clause-right
returns-in-None-clause-right c = of_none (TakesOne (parameters_of c.args.functions.now)) (validators_of c.args.cells.now) c.args.number (c.validator_at.ensures ∙ ap Some c.in-None.is)

pub returns-then-takes_one-clause-right : goal.returns-then-takes_one-clause-right
returns-then-takes_one-clause-right c =
    of_some (TakesOne (parameters_of c.args.functions.now)) (validators_of c.args.cells.now) c.args.number c.in-Some.callee (c.validator_at.ensures ∙ ap Some c.in-Some.is) (c.takes_one.ensures.0 c.if-takes_one.true)

pub returns-else-takes_one-clause-wrong : goal.returns-else-takes_one-clause-wrong
returns-else-takes_one-clause-wrong c = (c.in-Some.callee, c.validator_at.ensures ∙ ap Some c.in-Some.is, λ so. false_not c.takes_one.result c.if-takes_one.false (c.takes_one.ensures.1 so), c.refused_cell.ensures)
