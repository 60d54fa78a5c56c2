use Rattle.std.proofs.Common.{◌∙◌, ap, sym, take}
use Rattle.txs_world_book.specs.Served.{cells_of}
use Rattle.txs_audit_evidence.proofs.ThreadFound.{so}
use Rattle.txs_audit_event.specs.Asking.{asked_by}
use Rattle.txs_audit_event.specs.Transactions.{calm_what}
use Rattle.txs_audit_event.proofs.events.ended_what.Goals as goal

pub returns-in-Commit : goal.returns-in-Commit
returns-in-Commit c =
    let q = c.args.question in
    let b = q.books.now in
    so c.committed_what.result c.committed_what.ensures
    (λ w told. told ∙ ap (calm_what (cells_of b.program.cells) (take c.args.events b.report.book) (asked_by q)) (sym c.in-Commit.is))

pub returns-in-Refused : goal.returns-in-Refused
returns-in-Refused c =
    let q = c.args.question in
    let b = q.books.now in
    so c.refused_what.result c.refused_what.ensures
    (λ w told. told ∙ ap (calm_what (cells_of b.program.cells) (take c.args.events b.report.book) (asked_by q)) (sym c.in-Refused.is))
