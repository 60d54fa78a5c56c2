use Rattle.std.proofs.Common.{◌≡◌, ◌++◌, drop}
use Rattle.txs_value_cell.specs.Agents.{agents_from}
use Rattle.txs_value_cell.proofs.cell.list_agents.Given as goal

abbrev pub invariant-loop-number : goal.invariant-loop-number
invariant-loop-number l = l.agents.items ++ agents_from l.number (drop l.number l.cells) ≡ agents_from 0 l.fn.cells
