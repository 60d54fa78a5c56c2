use Rattle.txs_verify.proofs.Formed.{in_form, own_cells, few_cells, few_threads}
use Rattle.txs_verify.proofs.law.form_is_taken.Goals as goal

pub returns-clause-in_form : goal.returns-clause-in_form
returns-clause-in_form c = in_form c.args._code.now c.requires

pub returns-clause-own_cells : goal.returns-clause-own_cells
returns-clause-own_cells c = own_cells c.args._code.now c.requires

pub returns-clause-few_cells : goal.returns-clause-few_cells
returns-clause-few_cells c = few_cells c.args._code.now c.requires

pub returns-clause-few_threads : goal.returns-clause-few_threads
returns-clause-few_threads c = few_threads c.args._code.now c.requires
