use Rattle.std.proofs.Common.{◌≡◌, ◌≤◌, ◌+◌, ◌++◌, length, map, vec_capacity}
use Rattle.txs_history_run.specs.Back.{player_of}
use Rattle.txs_history_run.proofs.ending.into_players.Given as goal

abbrev pub invariant-loop-actor : goal.invariant-loop-actor
invariant-loop-actor g l =
    record {
      room : length l.fn.actors.items ≤ vec_capacity l.players;
      many : length l.players.items + length l.actor-iterator.rest.items ≡ length l.fn.actors.items;
      moved : l.players.items ++ map player_of l.actor-iterator.rest.items ≡ map player_of l.fn.actors.items;
    }
