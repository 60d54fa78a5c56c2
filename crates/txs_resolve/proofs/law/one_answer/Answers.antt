use Rattle.txs_resolve.proofs.Laws as laws
use Rattle.txs_resolve.proofs.Told as told
use Rattle.txs_resolve.proofs.law.one_answer.Goals as goal

pub returns-clause-decided : goal.returns-clause-decided
returns-clause-decided c = laws.decided

pub returns-clause-one_program : goal.returns-clause-one_program
returns-clause-one_program c = laws.one_program

pub returns-clause-one_stop : goal.returns-clause-one_stop
returns-clause-one_stop c = laws.one_stop

pub returns-clause-not_both : goal.returns-clause-not_both
returns-clause-not_both c = laws.not_both

pub returns-clause-no_want : goal.returns-clause-no_want
returns-clause-no_want c = told.no_want
