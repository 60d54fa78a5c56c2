use Rattle.std.proofs.Common.{◌≡◌, drop}
use Rattle.txs_theorem_serial.specs.Order.{thread_links}
use Rattle.txs_audit_order.specs.Ordered.{books_as, traces_in}
use Rattle.txs_audit_order.specs.Linked.{with_links}
use Rattle.txs_audit_order.proofs.traces.link_threads.Given as goal

-- the other entries lead to what all lead to
abbrev pub invariant-loop-ran : goal.invariant-loop-ran
invariant-loop-ran l = with_links l.rows.items (thread_links (books_as l.report) (traces_in (drop l.ran-index l.rans))) ≡ with_links l.fn.rows.items (thread_links (books_as l.report) (traces_in l.rans))
