use Rattle.txs_check.proofs.Together.{bodies_kept, validators_kept, together_ascends}
use Rattle.txs_check.proofs.law.validators_in_script_order.Goals as goal

pub returns-clause-bodies : goal.returns-clause-bodies
returns-clause-bodies c = bodies_kept

pub returns-clause-validators : goal.returns-clause-validators
returns-clause-validators c = validators_kept

pub returns-clause-ascend : goal.returns-clause-ascend
returns-clause-ascend c = λ bs vs g h. together_ascends bs vs g h
