use Rattle.std.proofs.Common.{◌≡◌, ◌≤◌, ◌+◌, ◌++◌, length, map, take, vec_capacity}
use Rattle.txs_machine.specs.Running.{attendants}
use Rattle.txs_history_run.proofs.Back.{agent_of}
use Rattle.txs_history_run.proofs.ending.with_agents.Given as goal

abbrev pub invariant-loop-player : goal.invariant-loop-player
invariant-loop-player l =
    record {
      room : length l.fn.players.items ≤ vec_capacity l.all;
      many : length l.all.items + length l.player-iterator.rest.items ≡ length l.fn.players.items;
      agents : map agent_of l.all.items ≡ take (length l.all.items) l.agents;
      players : attendants l.all.items ++ l.player-iterator.rest.items ≡ l.fn.players.items;
    }
