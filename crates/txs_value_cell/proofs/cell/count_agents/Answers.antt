use Rattle.std.proofs.Common.{◌≡◌, ◌<◌, ◌≤◌, length, get_or, rules, [], arith}
use Rattle.txs_value_cell.specs.Agents.{with_agent}
use Rattle.txs_value_cell.proofs.AgentsLemmas.{agents_next, agents_few}
use Rattle.txs_value_cell.proofs.cell.count_agents.Goals as goal

pub overflow_add-agents : goal.overflow_add-agents
overflow_add-agents c =
    let ds = c.args.cells.now in
    let i = c.loop-cell.cell-index in
    let d = c.cell-item.result in
    let within : i < length ds = c.loop-cell-test.true in
    let read : d ≡ get_or ds i d = c.cell-item.is in
    let one : c.agents_in-agents.result ≡ length (with_agent d.kind 0 []) = search rules in
    let next = agents_next ds i d within read in
    let few = agents_few 0 ds in
    let fits : length ds ≤ 18446744073709551615 = search rules in
    omega (arith, one, next, few, fits, c.loop-cell.invariant)

pub loop-cell-preserved : goal.loop-cell-preserved
loop-cell-preserved c =
    let ds = c.args.cells.now in
    let i = c.loop-cell.cell-index in
    let d = c.cell-item.result in
    let within : i < length ds = c.loop-cell-test.true in
    let read : d ≡ get_or ds i d = c.cell-item.is in
    let one : c.agents_in-agents.result ≡ length (with_agent d.kind 0 []) = search rules in
    let next = agents_next ds i d within read in
    omega (arith, one, next, c.loop-cell.invariant)
