use Rattle.std.proofs.Common.{◌≡◌, length, take, vec_capacity}
use Rattle.txs_frame.specs.Phase.{blank}
use Rattle.txs_frame.proofs.frame.TxFrame.phase.Given as goal

abbrev pub invariant-loop-cell : goal.invariant-loop-cell
invariant-loop-cell l =
    record {
      many : length l.values.items ≡ l.cell-index;
      room : vec_capacity l.values ≡ length l.refs;
      built : l.values.items ≡ blank (take l.cell-index l.refs);
    }
