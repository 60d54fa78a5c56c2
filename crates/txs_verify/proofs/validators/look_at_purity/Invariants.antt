use Rattle.txs_value_cell.specs.Cells.{validators_of}
use Rattle.txs_verify.specs.Validators.{FirstValidators, IsPure}
use Rattle.txs_verify.proofs.validators.look_at_purity.Given as goal

abbrev pub invariant-loop-number : goal.invariant-loop-number
invariant-loop-number l = FirstValidators (IsPure l.kinds) (validators_of l.cells) l.number
