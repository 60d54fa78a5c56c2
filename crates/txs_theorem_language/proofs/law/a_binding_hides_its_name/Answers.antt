use Rattle.txs_theorem_language.proofs.Names.{bound_name_is, others_stay}
use Rattle.txs_theorem_language.proofs.law.a_binding_hides_its_name.Goals as goal

pub returns-clause-bound : goal.returns-clause-bound
returns-clause-bound c = bound_name_is

pub returns-clause-others : goal.returns-clause-others
returns-clause-others c = λ name other scope h. others_stay name other scope h
