use Rattle.std.proofs.Common.{◌∙◌}
use Rattle.txs_audit_order.specs.Ordered.{books_as}
use Rattle.txs_audit_order.proofs.Walking.{thread_said}
use Rattle.txs_audit_order.proofs.traces.link_threads.Goals as goal

pub loop-ran-preserved : goal.loop-ran-preserved
loop-ran-preserved c =
    thread_said (books_as c.args.report.now) c.args.rans.now c.loop-ran.ran-index c.ran-item.result c.as_slice.result.now c.loop-ran.rows.items c.link_trace.new.rows.items c.loop-ran-test.true c.ran-item.is c.as_slice.ensures.value c.in_ok-link_trace.ensures ∙ c.loop-ran.invariant
