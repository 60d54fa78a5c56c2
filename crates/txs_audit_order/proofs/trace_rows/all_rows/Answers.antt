use Rattle.std.proofs.Common.{◌≡◌, ◌<◌, ◌+◌, ◌∷◌, ◌++◌, [], ◌∙◌, ap, sym, subst, arith, get_or, length, suc}
use Rattle.txs_audit_order.specs.Rows.{AllRows, AreRows}
use Rattle.txs_theorem_audit.specs.Audited.{books_of, report_as}
use Rattle.txs_audit_order.proofs.Naming.{book_at, rows_first, rows_next}
use Rattle.txs_audit_order.proofs.trace_rows.all_rows.Goals as goal

pub loop-book-init : goal.loop-book-init
loop-book-init c =
    let r = c.args.report.now in
    let rows = c.from_vec.result in
    rows_first c.args.actors (books_of (report_as r)) c.push.new.self.items rows
    (subst (AreRows c.args.actors r.book.items) (sym c.from_vec.ensures) (subst (λ l. AreRows c.args.actors l c.in_ok-first.first.items) c.as_slice.ensures.value c.in_ok-first.ensures))
    (c.in_ok-push.ensures.items ∙ ap (λ l. l ++ rows ∷ []) c.new-all.ensures.items)

pub loop-book-preserved : goal.loop-book-preserved
loop-book-preserved c =
    let r = c.args.report.now in
    let i = c.loop-book.book-index in
    let b = c.book-item.result in
    let books = c.as_slice-books.result.now in
    let rows = c.from_vec-in-loop-book.result in
    let all_books = c.as_slice-books.ensures.value in
    let there = book_at (report_as r) i b (subst (λ l. i < length l) all_books c.loop-book-test.true) (subst (λ l. b ≡ get_or l i b) all_books c.book-item.is) in
    rows_next c.args.actors i (i + 1) (books_of (report_as r)) c.loop-book.all.items c.push-in-loop-book.new.self.items rows c.loop-book.invariant
    (subst (λ l. AreRows c.args.actors l rows) (sym there) (subst (AreRows c.args.actors b) (sym c.from_vec-in-loop-book.ensures) (subst (λ l. AreRows c.args.actors l c.in_ok-rows.rows.items) c.as_slice-in-loop-book.ensures c.in_ok-rows.ensures)))
    c.in_ok-push-2.ensures.items (omega arith)

pub returns : goal.returns
returns c =
    let r = c.args.report.now in
    let i = c.loop-book.book-index in
    let end = c.loop-book.auto.book-index-end in
    let many = ap length c.as_slice-books.ensures.value in
    let e : i ≡ length r.atom_books.items = omega (arith, end, many, c.loop-book-test.false) in
    subst (λ n. AllRows c.args.actors (suc n) (books_of (report_as r)) c.loop-book.all.items) e c.loop-book.invariant
