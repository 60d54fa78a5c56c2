use Rattle.txs_resolve.proofs.Defining as defining
use Rattle.txs_resolve.proofs.law.defined_in_order.Goals as goal

pub returns-clause-cells : goal.returns-clause-cells
returns-clause-cells c = defining.cells

pub returns-clause-validators : goal.returns-clause-validators
returns-clause-validators c = defining.spans

pub returns-clause-functions : goal.returns-clause-functions
returns-clause-functions c = defining.functions

pub returns-clause-threads : goal.returns-clause-threads
returns-clause-threads c = defining.threads

pub returns-clause-once : goal.returns-clause-once
returns-clause-once c = defining.once
