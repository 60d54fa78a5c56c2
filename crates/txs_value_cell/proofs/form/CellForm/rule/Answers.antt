use Rattle.std.proofs.Common.{rules}
use Rattle.txs_value_cell.proofs.form.CellForm.rule.Goals as goal

pub returns-in-Update-Swap : goal.returns-in-Update-Swap
returns-in-Update-Swap c = search rules
