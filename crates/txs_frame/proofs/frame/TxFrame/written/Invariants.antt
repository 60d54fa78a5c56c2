use Rattle.std.proofs.Common.{◌≡◌, length, take, vec_capacity}
use Rattle.txs_frame.proofs.Owns.{all_cells}
use Rattle.txs_frame.proofs.frame.TxFrame.written.Given as goal

abbrev pub invariant-loop-own : goal.invariant-loop-own
invariant-loop-own l =
    record {
      many : length l.refs.items ≡ l.own-index;
      room : vec_capacity l.refs ≡ length l.own-items;
      built : l.refs.items ≡ all_cells (take l.own-index l.own-items);
    }
