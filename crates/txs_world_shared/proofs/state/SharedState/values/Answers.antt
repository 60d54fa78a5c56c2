use Rattle.std.proofs.Common.{◌≡◌, ◌<◌, List, length, rules, subst, true}
use Rattle.txs_value_cell.specs.declared.cell.CellDefinition.{CellDefinition}
use Rattle.txs_world_book.specs.Book.{has_cell}
use Rattle.txs_world_book.specs.Served.{cells_of}
use Rattle.txs_world_shared.proofs.There.{there}
use Rattle.txs_world_shared.proofs.state.SharedState.values.Goals as goal

pub newest-requires : goal.newest-requires
newest-requires c =
    let i = c.loop-i.i in
    let d = c.index-cells-i.result in
    let within : i < length c.cells-cells.result.now = search rules in
    subst (λ (ds : List CellDefinition). has_cell (cells_of ds) (record { kind = d.kind; number = i }) ≡ true) c.cells-cells.ensures (there c.cells-cells.result.now i d within c.index-cells-i.is)
