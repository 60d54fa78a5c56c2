use Rattle.std.proofs.Common.{◌∙◌, ap, arith, get_or, length, subst, sym, IfOk, ◌≡◌}
use Rattle.txs_tree_meaning.specs.View.{program_of}
use Rattle.txs_theorem_audit.specs.Audited.{report_as}
use Rattle.txs_audit_book.specs.Replayed.{actor_in}
use Rattle.txs_audit_evidence.proofs.Opened.{store_gone, store_up_to}
use Rattle.txs_audit_evidence.proofs.Sized.{nth_at, sized, threads_many}
use Rattle.txs_audit_difference.specs.Left.{illegal_told}
use Rattle.txs_audit_difference.proofs.Leaving.{left_so, store_illegal, store_through}
use Rattle.txs_audit_difference.proofs.books.store_told.Goals as goal

pub overflow_cast-threads : goal.overflow_cast-threads
overflow_cast-threads c =
    let few = c.is_sound.ensures.scoped.few_threads in
    let many = threads_many c.args.program.now.threads in
    let rows = ap length c.threads.ensures.value in
    omega (arith, few, many, rows)

pub returns-in-UpTo : goal.returns-in-UpTo
returns-in-UpTo c =
    let p = c.args.program.now in
    let r = c.args.report.now in
    let at = c.in-UpTo.at in
    let e = get_or c.as_slice-book.result.now at c.index-book-at.result in
    let same = c.as_slice-book.ensures.value in
    let off = store_up_to c.cells.result.now p.cells (length c.threads.result.now) (length p.threads) c.as_slice-book.result.now r.book.items c.cells.ensures (ap length c.threads.ensures.value) same c.in_ok-at.field-0 c.in_ok-at.ensures at c.in-UpTo.is in
    let is = nth_at r.book.items at e off.0 (ap (get_or c.as_slice-book.result.now at) c.index-book-at.is ∙ ap (λ l. get_or l at e) same) in
    c.illegal.ensures ∙ ap (λ a. illegal_told (report_as r) 0 a at) (sym (ap actor_in is)) ∙ sym (store_illegal p (report_as r) at off)

pub returns-in-Through : goal.returns-in-Through
returns-in-Through c =
    let p = c.args.program.now in
    let r = c.args.report.now in
    let same = c.as_slice-book.ensures.value in
    let gone = store_gone c.cells.result.now p.cells (length c.threads.result.now) (length p.threads) c.as_slice-book.result.now r.book.items c.cells.ensures (ap length c.threads.ensures.value) same c.in_ok-at.field-0 c.in_ok-at.ensures c.in-Through.replay c.in-Through.is in
    let sizes = sized p (report_as r) c.requires in
    subst (λ u. IfOk c.store_left.result (λ t. t ≡ u)) (sym (store_through p (report_as r) gone.1 ∙ left_so (program_of p) (report_as r) sizes.cells sizes.failed)) c.store_left.ensures
