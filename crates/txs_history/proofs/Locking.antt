-- How many locks a history has, as it goes on.
use Rattle.std.proofs.Common.{◌≡◌, ◌<◌, List, ◌∙◌, arith}
use mathlib.Core.List.{IsPrefix}
use Rattle.txs_value_cell.specs.declared.cell.CellDefinition.{CellDefinition}
use Rattle.txs_history.specs.History.{locks_in}
use Rattle.txs_history.proofs.Beginnings.{locks_prefix}
use Rattle.txs_history.specs.Asked.{History}
use Rattle.txs_history.specs.Logged.{locks_of}

pub locks_on : (cells : List CellDefinition) (h g : History) → IsPrefix h g → locks_in h ≡ locks_of cells → locks_in g ≡ locks_of cells
locks_on cells h g p locks =
    let some : 0 < locks_in h = omega (arith, locks) in
    locks_prefix 0 h g some p ∙ locks
