use Rattle.std.proofs.Common.{◌≡◌, ◌<◌, ◌≤◌, ℕ, [], get_or, length}
use Rattle.txs_audit_order.specs.Linked.{IsSorted}
use Rattle.txs_audit_order.proofs.links.sort_rows.Given as goal

abbrev pub invariant-loop-i : goal.invariant-loop-i
invariant-loop-i l =
    record {
      many : length l.rows.items ≡ length l.fn.rows.items;
      done : (b : ℕ) → b < l.i → IsSorted (get_or l.fn.rows.items b []) (get_or l.rows.items b []);
      rest : (b : ℕ) → l.i ≤ b → get_or l.rows.items b [] ≡ get_or l.fn.rows.items b [];
    }
