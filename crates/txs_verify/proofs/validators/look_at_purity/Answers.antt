use Rattle.std.proofs.Common.{rules}
use Rattle.std.proofs.lemmas.Result.{err_from_is_err_and}
use Rattle.txs_value_cell.specs.Cells.{validators_of}
use Rattle.txs_verify.specs.Validators.{IsPure}
use Rattle.txs_verify.specs.declared.error.VerifyErrorKind.TheVariants.{TxNesting}
use Rattle.txs_verify.proofs.Validated.{none_yet, one_more, first_wrong, all_so}
use Rattle.txs_verify.proofs.validators.look_at_purity.Goals as goal

pub loop-number-init : goal.loop-number-init
loop-number-init c = none_yet (IsPure c.args.kinds.now) (validators_of c.args.cells.now)

pub returns-in_err-purity_at-clause-wrong : goal.returns-in_err-purity_at-clause-wrong
returns-in_err-purity_at-clause-wrong c =
    let p = err_from_is_err_and c.from_residual.result c.from_residual.ensures.1 in
    rw (p.1, p.2) (first_wrong (IsPure c.args.kinds.now) (validators_of c.args.cells.now) TxNesting c.loop-number.number c.in_err-purity_at.field-0.0 c.loop-number.invariant c.in_err-purity_at.ensures.wrong)

pub loop-number-preserved : goal.loop-number-preserved
loop-number-preserved c = one_more (IsPure c.args.kinds.now) (validators_of c.args.cells.now) c.loop-number.number c.loop-number.invariant c.in_ok-purity_at.ensures.right

pub returns-clause-right : goal.returns-clause-right
returns-clause-right c = all_so (IsPure c.args.kinds.now) c.args.cells.now c.loop-number.number (search rules) c.loop-number.invariant
