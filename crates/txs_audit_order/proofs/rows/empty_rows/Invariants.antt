use Rattle.std.proofs.Common.{◌≡◌, [], replicate, vec_capacity}
use Rattle.txs_audit_order.proofs.rows.empty_rows.Given as goal

abbrev pub invariant-loop-i : goal.invariant-loop-i
invariant-loop-i g l =
    record {
      room : vec_capacity l.rows ≡ l.many;
      built : l.rows.items ≡ replicate l._i [];
    }
