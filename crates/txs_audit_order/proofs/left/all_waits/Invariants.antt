use Rattle.std.proofs.Common.{◌≡◌, length, take, vec_capacity}
use Rattle.txs_audit_order.specs.Waiting.{AreWaits}
use Rattle.txs_audit_order.proofs.left.all_waits.Given as goal

abbrev pub invariant-loop-book : goal.invariant-loop-book
invariant-loop-book l =
    record {
      room : vec_capacity l.waits ≡ length l.rows;
      waits : AreWaits (take l.book l.rows) l.cut l.waits.items;
    }
