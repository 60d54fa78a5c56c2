use Rattle.std.proofs.Common.{◌≡◌, ◌≤◌, length, take, vec_capacity}
use Rattle.txs_world_book.specs.Stands.{AreCounted}
use Rattle.txs_world_book.proofs.cell.count_agents.Given as goal

abbrev pub invariant-loop-cell : goal.invariant-loop-cell
invariant-loop-cell l =
    record {
      many : length l.before.items ≡ l.cell-index;
      room : length l.cells ≤ vec_capacity l.before;
      counted : AreCounted (take l.cell-index l.cells) l.before.items l.agents;
      few : l.agents ≤ l.cell-index;
    }
