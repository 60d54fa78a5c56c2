use Rattle.std.proofs.Common.{rules}
use Rattle.txs_value_cell.proofs.action.copy_action.Goals as goal

pub returns : goal.returns
returns c = search rules
