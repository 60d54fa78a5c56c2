use Rattle.std.proofs.Common.{◌≡◌, [], drop, replicate}
use Rattle.txs_audit_order.specs.Sent.{with_events}
use Rattle.txs_audit_order.proofs.senders.all_senders.Given as goal

-- the other events lead to what all lead to
abbrev pub invariant-loop-i : goal.invariant-loop-i
invariant-loop-i l = with_events l.rows.items l.i (drop l.i l.book) ≡ with_events (replicate l.cells []) 0 l.book
