use Rattle.txs_theorem_language.proofs.Behind.{fits, refuses}
use Rattle.txs_theorem_language.proofs.law.the_limit_of_levels_refuses_what_is_deeper.Goals as goal

pub returns-clause-refuses : goal.returns-clause-refuses
returns-clause-refuses c = λ forms s scope behind room further wanted form. refuses forms s scope behind room further wanted form

pub returns-clause-fits : goal.returns-clause-fits
returns-clause-fits c = λ forms s scope behind room wanted form. fits forms s scope behind room wanted form
