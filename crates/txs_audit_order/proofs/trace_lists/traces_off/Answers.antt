use Rattle.std.proofs.Common.{◌≡◌, ◌+◌, ◌++◌, arith, length, map, subst, suc}
use Rattle.txs_theorem_audit.specs.Audited.{books_of, ran_as, report_as}
use Rattle.txs_theorem_audit.specs.Verdict.{traces_found}
use Rattle.txs_audit_order.specs.Named.{OffIn, off_in}
use Rattle.txs_audit_order.proofs.Naming.{if_ok}
use Rattle.txs_audit_order.proofs.Tracing.{whole_first, whole_second}
use Rattle.txs_audit_order.proofs.trace_lists.traces_off.Goals as goal

pub returns-in-Some : goal.returns-in-Some
returns-in-Some c =
    let r = c.args.report.now in
    let all = c.in_ok-all.all.items in
    let actors = c.len-threads.result + c.len.result in
    let one = r.threads.ok.0 in
    let two = r.agents.ok.0 in
    let is : actors ≡ length r.threads.items + length r.agents.items = omega (arith, c.len-threads.ensures, c.len.ensures, one, two) in
    let off = subst (λ l. OffIn l 0 c.as_slice-2.result.now c.in_ok-off.field-0) c.as_slice.ensures.value c.in_ok-off.ensures in
    let of_threads = subst (λ l. OffIn all 0 l c.in_ok-off.field-0) c.as_slice-2.ensures.value off in
    whole_first r actors all is c.in_ok-all.ensures c.in-Some.off (subst (OffIn all 0 r.threads.items) c.in-Some.is of_threads)

pub returns : goal.returns
returns c =
    let r = c.args.report.now in
    let all = c.in_ok-all.all.items in
    let actors = c.len-threads.result + c.len.result in
    let one = r.threads.ok.0 in
    let two = r.agents.ok.0 in
    let is : actors ≡ length r.threads.items + length r.agents.items = omega (arith, c.len-threads.ensures, c.len.ensures, one, two) in
    let many : c.len-threads.result ≡ length r.threads.items = omega (arith, c.len-threads.ensures, one) in
    let off = subst (λ l. OffIn l 0 c.as_slice-2.result.now c.in_ok-off.field-0) c.as_slice.ensures.value c.in_ok-off.ensures in
    let of_threads = subst (λ l. OffIn all 0 l c.in_ok-off.field-0) c.as_slice-2.ensures.value off in
    if_ok c.rans_off-in-None.result (OffIn c.as_slice-in-None.result.now c.len-threads.result c.as_slice-in-None-2.result.now)
    (λ o. off_in o ≡ traces_found (books_of (report_as r)) (suc (length r.atom_books.items)) 0 (map ran_as r.threads.items ++ map ran_as r.agents.items))
    (λ o h. whole_second r actors all is c.in_ok-all.ensures o (subst (OffIn all 0 r.threads.items) c.in-None.is of_threads)
    (subst (λ l. OffIn all (length r.threads.items) l o) c.as_slice-in-None-2.ensures.value (subst (λ l. OffIn l (length r.threads.items) c.as_slice-in-None-2.result.now o) c.as_slice-in-None.ensures.value
    (subst (λ n. OffIn c.as_slice-in-None.result.now n c.as_slice-in-None-2.result.now o) many h))))
    c.rans_off-in-None.ensures
