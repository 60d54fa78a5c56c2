use Rattle.std.proofs.Common.{◌≡◌, drop}
use Rattle.txs_audit_order.specs.Sent.{with_sent}
use Rattle.txs_audit_order.proofs.senders.add_all.Given as goal

-- the other actions lead to what all lead to
abbrev pub invariant-loop-action : goal.invariant-loop-action
invariant-loop-action l = with_sent l.rows.items l.index (drop l.action-index l.actions) ≡ with_sent l.fn.rows.items l.index l.actions
