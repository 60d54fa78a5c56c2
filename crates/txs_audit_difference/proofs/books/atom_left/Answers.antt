use Rattle.std.proofs.Common.{◌≤◌, ◌<◌, ◌∙◌, ap, arith, get_or, length, suc}
use Rattle.txs_tree_meaning.specs.View.{program_of}
use Rattle.txs_value_data.specs.Limits.{most_events}
use Rattle.txs_theorem_audit.specs.Audited.{books_of, report_as}
use Rattle.txs_audit_book.proofs.Numbering.{atom_inside}
use Rattle.txs_audit_evidence.proofs.Opened.{book_in, book_read}
use Rattle.txs_audit_evidence.proofs.Sized.{nth_at, sized}
use Rattle.txs_audit_difference.specs.Left.{left_told}
use Rattle.txs_audit_difference.proofs.Leaving.{atom_left, leaves_so}
use Rattle.txs_audit_difference.proofs.books.atom_left.Goals as goal

pub overflow_cast-events : goal.overflow_cast-events
unfolding most_events
overflow_cast-events c =
    let r = c.args.report.now in
    let n = c.args.n in
    let there = book_in c.args.program.now r n c.args.cell c.requires.fits c.requires.there in
    let len = ap length (book_read r n c.index.result.now c.as_slice.result.now there c.index.ensures c.as_slice.ensures) in
    let few : length (books_of (report_as r) (suc n)) ≤ 1000000 = c.requires.few in
    omega (arith, len, few)

pub bounds-cells-number : goal.bounds-cells-number
bounds-cells-number c =
    let lt = atom_inside c.args.program.now.cells c.args.n c.args.cell c.requires.there in
    let many = ap length c.cells.ensures in
    omega (arith, lt, many, c.from-number.ensures)

pub index-requires-2 : goal.index-requires-2
index-requires-2 c =
    let lt = atom_inside c.args.program.now.cells c.args.n c.args.cell c.requires.there in
    let many = (sized c.args.program.now (report_as c.args.report.now) c.requires.fits).cells in
    let size = c.args.report.now.cells.ok.0 in
    omega (arith, lt, many, size, c.from-number.ensures)

pub returns : goal.returns
returns c =
    let p = c.args.program.now in
    let r = c.args.report.now in
    let n = c.args.n in
    let g = c.args.cell in
    let there = book_in p r n g c.requires.fits c.requires.there in
    let same = book_read r n c.index.result.now c.as_slice.result.now there c.index.ensures c.as_slice.ensures in
    let lt = atom_inside p.cells n g c.requires.there in
    let many = (sized p (report_as r) c.requires.fits).cells in
    let less : g.number < length r.cells.items = omega (arith, lt, many) in
    let l = c.cells.result.now in
    let j = c.from-number.result in
    let d = get_or l j c.index-cells-number.result in
    let is = ap (get_or l j) c.index-cells-number.is ∙ ap (λ m. get_or m j d) c.cells.ensures ∙ ap (λ i. get_or p.cells i d) c.from-number.ensures in
    let leaves = c.value_behind-expected.ensures ∙ leaves_so (program_of p) (report_as r) n g c.requires.there c.args.swaps.now c.requires.swapped (length c.as_slice.result.now) (ap length same) d lt is in
    let has = nth_at r.cells.items g.number c.index-2.result.now less (c.index-2.ensures ∙ ap (λ i. get_or r.cells.items i c.index-2.result.now) c.from-number.ensures) in
    c.left_told.ensures ∙ ap (left_told (report_as r)) c.in_ok-what.ensures ∙ atom_left p (report_as r) g c.value_behind-expected.result.now c.index-2.result.now leaves has
