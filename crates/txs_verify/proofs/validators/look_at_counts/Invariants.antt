use Rattle.txs_code_meaning.specs.PlainCode.{parameters_of}
use Rattle.txs_value_cell.specs.Cells.{validators_of}
use Rattle.txs_verify.specs.Validators.{FirstValidators, TakesOne}
use Rattle.txs_verify.proofs.validators.look_at_counts.Given as goal

abbrev pub invariant-loop-number : goal.invariant-loop-number
invariant-loop-number l = FirstValidators (TakesOne (parameters_of l.functions)) (validators_of l.cells) l.number
