use Rattle.std.proofs.Common.{◌+◌, subst}
use Rattle.txs_audit_order.specs.Named.{OffOf, plain_trace}
use Rattle.txs_audit_order.proofs.Tracing.{ran_fine, ran_off, rans_end}
use Rattle.txs_audit_order.proofs.trace_lists.rans_off.Goals as goal

pub trace_off-requires : goal.trace_off-requires
trace_off-requires c = c.requires.rows c.loop-i.i c.loop-i-test.true

pub returns-in-Some : goal.returns-in-Some
returns-in-Some c =
    let all = c.args.all.now in
    let k = c.args.first + c.loop-i.i in
    let r = c.index-rans-i.result in
    let off = subst (λ l. OffOf all k (plain_trace l) c.in_ok-at.field-0) c.as_slice.ensures.value c.in_ok-at.ensures in
    ran_off all c.args.first c.args.rans.now c.loop-i.i r c.loop-i-test.true c.index-rans-i.is c.in-Some.at (subst (OffOf all k (plain_trace r.trace.items)) c.in-Some.is off) c.loop-i.invariant

pub loop-i-preserved : goal.loop-i-preserved
loop-i-preserved c =
    let all = c.args.all.now in
    let k = c.args.first + c.loop-i.i in
    let r = c.index-rans-i.result in
    let off = subst (λ l. OffOf all k (plain_trace l) c.in_ok-at.field-0) c.as_slice.ensures.value c.in_ok-at.ensures in
    ran_fine all c.args.first c.args.rans.now c.loop-i.i r c.loop-i-test.true c.index-rans-i.is (subst (OffOf all k (plain_trace r.trace.items)) c.in-None.is off) c.loop-i.invariant

pub returns : goal.returns
returns c = rans_end c.args.all.now c.args.first c.args.rans.now c.loop-i.i c.loop-i-test.false c.loop-i.invariant
