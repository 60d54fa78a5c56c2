use Rattle.std.proofs.Common.{rules}
use Rattle.txs_value_data.proofs.value.Items.deep.Goals as goal

pub returns-clause-bound : goal.returns-clause-bound
returns-clause-bound c = search rules
