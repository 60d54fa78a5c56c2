use Rattle.txs_theorem_language.proofs.Treeless.{has_no_tree}
use Rattle.txs_theorem_language.proofs.Undefined.{defines_nothing}
use Rattle.txs_theorem_language.proofs.law.what_has_a_fault_is_refused.Goals as goal

pub returns-clause-in_form : goal.returns-clause-in_form
returns-clause-in_form c = has_no_tree

pub returns-clause-at_top : goal.returns-clause-at_top
returns-clause-at_top c = defines_nothing
