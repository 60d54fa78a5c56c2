use Rattle.txs_theorem_language.proofs.Faults.{fault_in_form}
use Rattle.txs_theorem_language.proofs.Tops.{fault_in_script}
use Rattle.txs_theorem_language.proofs.law.a_refusal_is_of_a_form_with_that_fault.Goals as goal

pub returns-clause-in_form : goal.returns-clause-in_form
returns-clause-in_form c = fault_in_form

pub returns-clause-in_script : goal.returns-clause-in_script
returns-clause-in_script c = fault_in_script
