use Rattle.std.proofs.Common.{◌≤◌, ◌∙◌, ap, arith, length, sym, take}
use Rattle.txs_world_book.specs.Book.{is_there, mail_after}
use Rattle.txs_world_book.specs.Served.{cells_of}
use Rattle.txs_audit_evidence.specs.Evidence.{PlainBooks, plain_books}
use Rattle.txs_audit_evidence.proofs.Looking.{never_failed}
use Rattle.txs_audit_evidence.proofs.books.Books.has_failed.Goals as goal

pub returns-then-from-cells : goal.returns-then-from-cells
returns-then-from-cells c =
    let x = c.self.inside in
    let b = plain_books x.program.now x.report.now in
    let many = ap length c.cells.ensures in
    let le : length x.program.now.cells ≤ c.args.number = omega (arith, many, c.from.ensures, c.if-from-cells.true) in
    sym
    (ap (λ (b : PlainBooks). is_there (mail_after (cells_of b.program.cells) (take c.args.events b.report.book) c.args.number).fault) (sym c.self.view_is)
    ∙ never_failed b c.self.invariant.legal c.args.number c.args.events le)
