use Rattle.std.proofs.Common.{Some, sym, ap, ◌∙◌}
use Rattle.txs_value_cell.specs.Cells.{validators_of}
use Rattle.txs_verify.specs.Validators.{IsPure}
use Rattle.txs_verify.proofs.Validated.{false_not, of_none, of_some}
use Rattle.txs_verify.proofs.validators.purity_at.Goals as goal

pub returns-in-None-clause-right : goal.returns-in-None-clause-right
returns-in-None-clause-right c = of_none (IsPure c.args.kinds.now) (validators_of c.args.cells.now) c.args.number (c.validator_at.ensures ∙ ap Some c.in-None.is)

pub returns-then-is_pure-clause-right : goal.returns-then-is_pure-clause-right
returns-then-is_pure-clause-right c =
    of_some (IsPure c.args.kinds.now) (validators_of c.args.cells.now) c.args.number c.in-Some.callee (c.validator_at.ensures ∙ ap Some c.in-Some.is) (sym c.is_pure.ensures ∙ c.if-is_pure.true)

pub returns-else-is_pure-clause-wrong : goal.returns-else-is_pure-clause-wrong
returns-else-is_pure-clause-wrong c = (c.in-Some.callee, c.validator_at.ensures ∙ ap Some c.in-Some.is, λ so. false_not c.is_pure.result c.if-is_pure.false (c.is_pure.ensures ∙ so), c.refused_cell.ensures)
