use Rattle.std.proofs.Common.{◌≡◌, ◌≤◌, drop, map}
use Rattle.txs_theorem_serial.specs.Order.{actor_links, trace_links}
use Rattle.txs_audit_order.specs.Ordered.{books_as, place_as}
use Rattle.txs_audit_order.specs.Linked.{behind_as, sender_in, spots_as, with_links}
use Rattle.txs_audit_order.proofs.traces.link_trace.Given as goal

-- the other places lead to what all lead to
abbrev pub invariant-loop-place : goal.invariant-loop-place
invariant-loop-place l =
    record {
      few : l.known.acts ≤ l.place-index;
      same : with_links l.rows.items (trace_links (books_as l.report) (sender_in l.senders) l.known.acts (spots_as l.known.last) (behind_as l.known.behind) (map place_as (drop l.place-index l.trace)))
          ≡ with_links l.fn.rows.items (actor_links (books_as l.report) (sender_in l.senders) (map place_as l.trace));
    }
