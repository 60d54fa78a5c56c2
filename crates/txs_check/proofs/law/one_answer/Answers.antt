use Rattle.txs_check.proofs.Laws as laws
use Rattle.txs_check.proofs.law.one_answer.Goals as goal

pub returns-clause-decided : goal.returns-clause-decided
returns-clause-decided c = laws.decided

pub returns-clause-one_stop : goal.returns-clause-one_stop
returns-clause-one_stop c = laws.one_stop

pub returns-clause-not_both : goal.returns-clause-not_both
returns-clause-not_both c = λ p e s h g. laws.not_both p e s h g

pub returns-clause-no_want : goal.returns-clause-no_want
returns-clause-no_want c = laws.no_want
