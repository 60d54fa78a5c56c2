use Rattle.std.proofs.Common.{◌≤◌, ◌<◌, ◌∙◌, ap, arith, get_or, length, suc}
use Rattle.txs_value_data.specs.Limits.{most_events}
use Rattle.txs_theorem_audit.specs.Audited.{books_of, check, entry_of, report_as}
use Rattle.txs_theorem_audit.specs.Verdict.{length_if}
use Rattle.txs_audit_book.proofs.Numbering.{atom_inside}
use Rattle.txs_audit_evidence.proofs.Opened.{book_in, book_read, left_is}
use Rattle.txs_audit_evidence.proofs.Sized.{sized}
use Rattle.txs_audit_evidence.proofs.opening.atom_left.Goals as goal

pub overflow_cast-events : goal.overflow_cast-events
unfolding most_events
overflow_cast-events c =
    let r = c.args.report.now in
    let n = c.args.n in
    let there = book_in c.args.program.now r n c.args.cell c.requires.fits c.requires.there in
    let len = ap length (book_read r n c.index.result.now c.as_slice.result.now there c.index.ensures c.as_slice.ensures) in
    let few : length (books_of (report_as r) (suc n)) ≤ 1000000 = c.requires.few in
    omega (arith, len, few)

pub bounds-cells-number : goal.bounds-cells-number
bounds-cells-number c =
    let lt = atom_inside c.args.program.now.cells c.args.n c.args.cell c.requires.there in
    let many = ap length c.cells.ensures in
    omega (arith, lt, many, c.from-number.ensures)

pub index-requires-2 : goal.index-requires-2
index-requires-2 c =
    let lt = atom_inside c.args.program.now.cells c.args.n c.args.cell c.requires.there in
    let many = (sized c.args.program.now (report_as c.args.report.now) c.requires.fits).cells in
    let size = c.args.report.now.cells.ok.0 in
    omega (arith, lt, many, size, c.from-number.ensures)

pub returns : goal.returns
returns c =
    let p = c.args.program.now in
    let r = c.args.report.now in
    let n = c.args.n in
    let there = book_in p r n c.args.cell c.requires.fits c.requires.there in
    let same = book_read r n c.index.result.now c.as_slice.result.now there c.index.ensures c.as_slice.ensures in
    let lt = atom_inside p.cells n c.args.cell c.requires.there in
    let many = (sized p (report_as r) c.requires.fits).cells in
    let less : c.args.cell.number < length r.cells.items = omega (arith, lt, many) in
    let k = c.args.cell.number in
    let l = c.cells.result.now in
    let j = c.from-number.result in
    let d = get_or l j c.index-cells-number.result in
    c.check.ensures
    ∙ ap (λ m. check c.has_swapped-holds.result 0 m) c.first_length.ensures
    ∙ ap (λ b. check b 0 (length_if (entry_of (report_as r) 0)))
    (c.has_swapped-holds.ensures
    ∙ left_is p.cells c.cells.result.now k c.from-number.result d r.cells.items c.index-2.result.now c.args.swaps.now (books_of (report_as r) (suc n)) c.as_slice.result.now c.cells.ensures c.from-number.ensures lt (ap (get_or l j) c.index-cells-number.is) less
    c.index-2.ensures c.requires.swapped same)
