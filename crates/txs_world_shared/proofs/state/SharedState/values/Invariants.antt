use Rattle.std.proofs.Common.{◌≡◌, ◌≤◌, ◌++◌, length, drop, vec_capacity}
use Rattle.txs_world_shared.specs.Parts.{values_from, values_of}
use Rattle.txs_world_shared.specs.SharedState.{newest_of}
use Rattle.txs_world_shared.proofs.state.SharedState.values.Given as goal

abbrev pub invariant-loop-i : goal.invariant-loop-i
invariant-loop-i l =
    record {
      room : length l.cells ≤ vec_capacity l.values;
      many : length l.values.items ≡ l.i;
      more : l.values.items ++ values_from (newest_of l.self) l.i (drop l.i l.cells) ≡ values_of l.self;
    }
