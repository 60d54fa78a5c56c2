use Rattle.std.proofs.Common.{◌∙◌, ap, length, take}
use Rattle.txs_value_data.specs.Places.{nth}
use Rattle.txs_world_book.specs.Served.{cells_of}
use Rattle.txs_theorem_audit.specs.Audited.{books_of}
use Rattle.txs_audit_evidence.proofs.ThreadFound.{so}
use Rattle.txs_audit_event.specs.Asking.{asked_by}
use Rattle.txs_audit_event.specs.Transactions.{late_what}
use Rattle.txs_audit_event.proofs.Meaning.{ended_so}
use Rattle.txs_audit_event.proofs.events.late_what.Goals as goal

pub returns : goal.returns
returns c =
    let q = c.args.question in
    let p = c.args.place in
    let books = books_of q.books.now.report in
    let x = asked_by q in
    let ends = ended_so c.in_ok-meant.meant (length q.front.now) (x.means x.front) c.in_ok-meant.ensures in
    so c.over_or_calm.result c.over_or_calm.ensures
    (λ w told. told ∙ ap (late_what (cells_of q.books.now.program.cells) (take p.at (books p.book)) x (nth (books p.book) p.at)) ends)
