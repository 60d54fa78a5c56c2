use Rattle.std.proofs.Common.{◌≡◌, ℕ, get_or, length}
use Rattle.txs_audit_order.proofs.trace_lists.zeros.Given as goal

abbrev pub invariant-loop-i : goal.invariant-loop-i
invariant-loop-i l =
    record {
      many : length l.all.items ≡ l._i;
      each : (n : ℕ) → get_or l.all.items n 0 ≡ 0;
    }
