use Rattle.txs_value_data.proofs.OperationsLemmas.{op_name-differs}
use Rattle.txs_value_data.proofs.op.op_names_differ.Goals as goal

pub returns : goal.returns
returns c = op_name-differs
