use Rattle.std.proofs.Common.{◌≡◌, ◌++◌, take}
use Rattle.txs_value_cell.specs.Cells.{validators_of}
use Rattle.txs_frame.specs.Phase.{validations}
use Rattle.txs_frame.proofs.phase.push_validations.Given as goal

abbrev pub invariant-loop-cell : goal.invariant-loop-cell
invariant-loop-cell l = l.tasks.items ≡ l.fn.tasks.items ++ validations (validators_of l.cells) (take l.cell-index l.refs)
