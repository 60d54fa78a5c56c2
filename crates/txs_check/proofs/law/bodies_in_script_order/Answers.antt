use Rattle.txs_check.proofs.InOrder.{functions_ordered, futures_ordered, order_ascends}
use Rattle.txs_check.proofs.law.bodies_in_script_order.Goals as goal

pub returns-clause-functions : goal.returns-clause-functions
returns-clause-functions c = functions_ordered

pub returns-clause-futures : goal.returns-clause-futures
returns-clause-futures c = futures_ordered

pub returns-clause-ascend : goal.returns-clause-ascend
returns-clause-ascend c = λ fs ts g h. order_ascends fs ts g h
