use Rattle.std.proofs.Common.{rules}
use Rattle.txs_value_cell.proofs.form.CellForm.cell_of.Goals as goal

pub returns-in-None-2 : goal.returns-in-None-2
returns-in-None-2 c = search rules
