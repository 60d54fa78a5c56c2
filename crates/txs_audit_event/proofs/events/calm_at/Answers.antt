use Rattle.std.proofs.Common.{◌∙◌, ℕ, ap, sym, take}
use Rattle.txs_value_data.specs.Places.{nth}
use Rattle.txs_world_book.specs.Served.{cells_of}
use Rattle.txs_theorem_audit.specs.Audited.{books_of}
use Rattle.txs_audit_evidence.proofs.ThreadFound.{so}
use Rattle.txs_audit_event.specs.Asking.{asked_by}
use Rattle.txs_audit_event.specs.Transactions.{calm_what}
use Rattle.txs_audit_event.proofs.Standing.{calm_none, calm_some}
use Rattle.txs_audit_event.proofs.events.calm_at.Goals as goal

pub returns-in-Some : goal.returns-in-Some
returns-in-Some c =
    let q = c.args.question in
    let p = c.args.place in
    let books = books_of q.books.now.report in
    let cells = cells_of q.books.now.program.cells in
    let x = asked_by q in
    let d = c.in-Some.kind.now in
    so c.ended_what.result c.ended_what.ensures
    (λ w told. told ∙ ap (λ (k : ℕ). calm_what cells (take p.at (books k)) x d) (sym c.in-Some.ensures.home) ∙ calm_some cells (take p.at (books p.book)) x (nth (books p.book) p.at) d (sym c.in-Some.ensures.end))

pub returns-in-None : goal.returns-in-None
returns-in-None c =
    let q = c.args.question in
    let p = c.args.place in
    let books = books_of q.books.now.report in
    let cells = cells_of q.books.now.program.cells in
    so c.other_what.result c.other_what.ensures
    (λ w told. told ∙ calm_none cells (take p.at (books p.book)) (asked_by q) (nth (books p.book) p.at) (sym c.in-None.ensures.end))
