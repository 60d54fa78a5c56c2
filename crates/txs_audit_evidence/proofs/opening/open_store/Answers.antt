use Rattle.std.proofs.Common.{◌∙◌, ap, arith, get_or, length, sym}
use Rattle.txs_audit_book.specs.Replayed.{actor_in}
use Rattle.txs_audit_book.specs.Judged.{as_found, is_fine}
use Rattle.txs_audit_evidence.proofs.Bookwise.{fine_is, store_off, store_through}
use Rattle.txs_audit_evidence.proofs.Opened.{store_gone, store_up_to}
use Rattle.txs_audit_evidence.proofs.Sized.{nth_at, threads_many}
use Rattle.txs_audit_evidence.proofs.opening.open_store.Goals as goal

pub overflow_cast-threads : goal.overflow_cast-threads
overflow_cast-threads c =
    let few = c.is_sound.ensures.scoped.few_threads in
    let many = threads_many c.args.program.now.threads in
    let rows = ap length c.threads.ensures.value in
    omega (arith, few, many, rows)

pub returns-in-UpTo : goal.returns-in-UpTo
returns-in-UpTo c =
    let p = c.args.program.now in
    let r = c.args.report.now in
    let at = c.in-UpTo.at in
    let e = get_or c.as_slice-book.result.now at c.index-book-at.result in
    let same = c.as_slice-book.ensures.value in
    let off = store_up_to c.cells.result.now p.cells (length c.threads.result.now) (length p.threads) c.as_slice-book.result.now r.book.items c.cells.ensures (ap length c.threads.ensures.value) same c.in_ok-at.field-0 c.in_ok-at.ensures at c.in-UpTo.is in
    let is = nth_at r.book.items at e off.0 (ap (get_or c.as_slice-book.result.now at) c.index-book-at.is ∙ ap (λ l. get_or l at e) same) in
    let found = c.off_at.ensures in
    (found ∙ sym (store_off p r at e.actor off (sym (ap actor_in is))), ap is_fine found)

pub returns-then-is_fine : goal.returns-then-is_fine
returns-then-is_fine c =
    let p = c.args.program.now in
    let r = c.args.report.now in
    let same = c.as_slice-book.ensures.value in
    let gone = store_gone c.cells.result.now p.cells (length c.threads.result.now) (length p.threads) c.as_slice-book.result.now r.book.items c.cells.ensures (ap length c.threads.ensures.value) same c.in_ok-at.field-0 c.in_ok-at.ensures c.in-Through.replay c.in-Through.is in
    let fine = fine_is (as_found c.in_ok-left.left) (sym c.is_fine.ensures ∙ c.if-is_fine.true) in
    (gone.0, gone.1, store_through p r gone.1 ∙ sym c.in_ok-left.ensures ∙ fine)

pub returns : goal.returns
returns c =
    let p = c.args.program.now in
    let r = c.args.report.now in
    let same = c.as_slice-book.ensures.value in
    let gone = store_gone c.cells.result.now p.cells (length c.threads.result.now) (length p.threads) c.as_slice-book.result.now r.book.items c.cells.ensures (ap length c.threads.ensures.value) same c.in_ok-at.field-0 c.in_ok-at.ensures c.in-Through.replay c.in-Through.is in
    (c.in_ok-left.ensures ∙ sym (store_through p r gone.1), sym c.is_fine.ensures ∙ c.if-is_fine.false)
