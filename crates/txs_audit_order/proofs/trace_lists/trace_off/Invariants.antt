use Rattle.std.proofs.Common.{ℕ, drop, length, take}
use Rattle.txs_audit_order.specs.Named.{AllBegun, Counted, plain_trace}
use Rattle.txs_audit_order.proofs.trace_lists.trace_off.Given as goal

-- so many places of each book are named, and what is found is what the others give
abbrev pub invariant-loop-i : goal.invariant-loop-i
invariant-loop-i l =
    record {
      counted : Counted (length l.all) (plain_trace (take l.i l.trace)) l.named.items;
      begun : (actors : ℕ) → AllBegun actors l.all l.actor (plain_trace (take l.i l.trace)) (plain_trace (drop l.i l.trace)) (plain_trace l.trace);
    }
