use Rattle.std.proofs.Common.{List, length, arith, ap}
use Rattle.txs_value_data.specs.declared.value.CellId.{CellId}
use Rattle.txs_value_cell.proofs.AgentsLemmas.{agents_few}
use Rattle.txs_threads.proofs.actors.open_all.Goals as goal

pub overflow_cast-many : goal.overflow_cast-many
overflow_cast-many g c =
    let cells = agents_few 0 c.args.code.now.cells in
    let many = c.requires.many in
    let few = c.requires.few in
    let same = ap (λ (gs : List CellId). length gs) c.requires.agents in
    omega (arith, cells, many, few, same)

pub overflow_add-many : goal.overflow_add-many
overflow_add-many g c =
    let cells = agents_few 0 c.args.code.now.cells in
    let many = c.requires.many in
    let few = c.requires.few in
    let same = ap (λ (gs : List CellId). length gs) c.requires.agents in
    omega (arith, cells, many, few, same)
