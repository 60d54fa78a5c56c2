use Rattle.std.proofs.Common.{◌≡◌, ◌+◌, ◌≤◌, ℕ, List, drop, length, map}
use Rattle.txs_theorem_audit.specs.Audited.{ran_as}
use Rattle.txs_theorem_audit.specs.Verdict.{traces_found}
use Rattle.txs_audit_order.specs.Named.{Outside}
use Rattle.txs_audit_order.specs.Rows.{AllRows}
use Rattle.txs_world_protocol.specs.declared.event.Event.{Event}
use Rattle.txs_audit_order.proofs.trace_lists.rans_off.Given as goal

-- what is found is what the other entries give
abbrev pub invariant-loop-i : goal.invariant-loop-i
invariant-loop-i l = (actors : ℕ) (books : ℕ → List Event) → l.first + length l.rans ≤ actors → AllRows actors (length l.all) books l.all → Outside (length l.all) books
    → traces_found books (length l.all) (l.first + l.i) (map ran_as (drop l.i l.rans)) ≡ traces_found books (length l.all) l.first (map ran_as l.rans)
