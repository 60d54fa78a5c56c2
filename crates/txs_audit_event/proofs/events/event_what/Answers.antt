use Rattle.std.proofs.Common.{◌∙◌, take}
use Rattle.txs_value_data.specs.Places.{nth}
use Rattle.txs_tree_meaning.specs.View.{program_of}
use Rattle.txs_theorem_audit.specs.Audited.{books_of}
use Rattle.txs_audit_evidence.proofs.ThreadFound.{so}
use Rattle.txs_audit_event.specs.Asking.{asked_by}
use Rattle.txs_audit_event.proofs.Standing.{asked_late, asked_wrong}
use Rattle.txs_audit_event.proofs.events.event_what.Goals as goal

pub returns-then-allowed : goal.returns-then-allowed
returns-then-allowed c =
    let q = c.args.question in
    let p = c.args.place in
    let books = books_of q.books.now.report in
    so c.late_what.result c.late_what.ensures
    (λ w told. told ∙ asked_late (program_of q.books.now.program) q.turns (take p.at (books p.book)) (nth (books p.book) p.at) (asked_by q) c.in_ok-allowed.allowed c.in_ok-allowed.ensures c.if-allowed.true)

pub returns : goal.returns
returns c =
    let q = c.args.question in
    let p = c.args.place in
    let books = books_of q.books.now.report in
    so c.wrong_what.result c.wrong_what.ensures
    (λ w told. told ∙ asked_wrong (program_of q.books.now.program) q.turns (take p.at (books p.book)) (nth (books p.book) p.at) (asked_by q) c.in_ok-allowed.allowed c.in_ok-allowed.ensures c.if-allowed.false)
