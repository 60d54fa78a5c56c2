use Rattle.txs_theorem_language.proofs.Validators.{names_function, names_operation, names_nothing}
use Rattle.txs_theorem_language.proofs.law.a_validator_is_what_stands_before.Goals as goal

pub returns-clause-function : goal.returns-clause-function
returns-clause-function c = names_function

pub returns-clause-operation : goal.returns-clause-operation
returns-clause-operation c = names_operation

pub returns-clause-nothing : goal.returns-clause-nothing
returns-clause-nothing c = names_nothing
