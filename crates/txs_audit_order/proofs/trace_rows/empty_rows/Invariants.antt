use Rattle.std.proofs.Common.{◌≡◌, ℕ, [], get_or, length}
use Rattle.txs_audit_order.proofs.trace_rows.empty_rows.Given as goal

abbrev pub invariant-loop-i : goal.invariant-loop-i
invariant-loop-i l =
    record {
      many : length l.rows.items ≡ l._i;
      each : (a : ℕ) → get_or l.rows.items a [] ≡ [];
    }
