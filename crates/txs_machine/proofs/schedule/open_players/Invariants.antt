use Rattle.std.proofs.Common.{◌≡◌, ◌≤◌, length, take, [], vec_capacity}
use Rattle.txs_value_cell.specs.Agents.{agents_from}
use Rattle.txs_machine.specs.Playing.{AreBetween, AreNew}
use Rattle.txs_machine.specs.Plays.{AreOpened, AreOpenedFor}
use Rattle.txs_machine.proofs.schedule.open_players.Given as goal

abbrev pub invariant-loop-k : goal.invariant-loop-k
invariant-loop-k l =
    record {
      room : l.threads ≤ vec_capacity l.players.threads;
      none : l.players.agents.items ≡ [];
      many : length l.players.threads.items ≡ l.k;
      between : AreBetween l.code l.max_steps (λ n. []) 0 l.players.threads.items;
      opened : AreNew l.code l.max_steps 0 l.players.threads.items;
    }

abbrev pub invariant-loop-cell : goal.invariant-loop-cell
invariant-loop-cell l =
    record {
      threads : AreOpened l.code l.max_steps l.threads l.players.threads.items;
      agents : AreOpenedFor l.code l.max_steps l.threads (agents_from 0 (take l.cell l.code.cells)) l.players.agents.items;
    }
