use Rattle.std.proofs.Common.{◌≡◌, ◌≤◌, length, take, vec_capacity}
use Rattle.txs_frame.specs.Kept.{writes_by, was_set}
use Rattle.txs_frame.proofs.frame.TxFrame.writes.Given as goal

abbrev pub invariant-loop-own : goal.invariant-loop-own
invariant-loop-own l =
    record {
      few : length l.writes.items ≤ l.own-index;
      room : vec_capacity l.writes ≡ length l.own-items;
      built : l.writes.items ≡ writes_by was_set (take l.own-index l.own-items);
    }
