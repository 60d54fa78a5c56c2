use Rattle.std.proofs.Common.{◌≡◌, ◌+◌, drop, length}
use Rattle.txs_value_cell.specs.Agents.{agents_from}
use Rattle.txs_value_cell.proofs.cell.count_agents.Given as goal

abbrev pub invariant-loop-cell : goal.invariant-loop-cell
invariant-loop-cell l = l.agents + length (agents_from 0 (drop l.cell-index l.cells)) ≡ length (agents_from 0 l.fn.cells)
