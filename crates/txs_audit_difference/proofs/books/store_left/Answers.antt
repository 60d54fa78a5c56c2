use Rattle.std.proofs.Common.{◌≡◌, ◌∙◌, ap, arith, length, sym}
use Rattle.txs_value_data.specs.Places.{nth}
use Rattle.txs_value_cell.specs.Agents.{agents_from}
use Rattle.txs_world_book.specs.Served.{cells_of}
use Rattle.txs_theorem_audit.specs.Audited.{report_as}
use Rattle.txs_audit_book.specs.Replayed.{PlainReplay}
use Rattle.txs_audit_evidence.specs.Evidence.{plain_books}
use Rattle.txs_audit_evidence.proofs.Looking.{cells_many}
use Rattle.txs_audit_book.proofs.Numbering.{agent_inside}
use Rattle.txs_audit_event.specs.Transactions.{or_else}
use Rattle.txs_audit_difference.specs.Difference.{failed_what, value_what}
use Rattle.txs_audit_difference.specs.Left.{left_told}
use Rattle.txs_audit_difference.proofs.books.store_left.Goals as goal

pub failed_what-failed-requires-clause-there : goal.failed_what-failed-requires-clause-there
failed_what-failed-requires-clause-there c = λ i g is. (let p = c.args.program.now in
    let agents : c.as_slice-in-None.result.now ≡ agents_from 0 p.cells = c.as_slice-in-None.ensures.value ∙ c.in_ok-agents.ensures ∙ ap (agents_from 0) c.cells-cells.ensures in
    let lt = agent_inside p.cells i g (ap (λ l. nth l i) (sym agents) ∙ is) in
    let same = ap (λ (q : PlainReplay). length q.cells) c.requires.same in
    let many = cells_many (plain_books p c.args.report.now) in
    omega (arith, lt, same, many))

pub returns-in-Some : goal.returns-in-Some
returns-in-Some c =
    let p = c.args.program.now in
    let r = c.args.report.now in
    let F = failed_what (cells_of p.cells) r.book.items (agents_from 0 p.cells) r.failed.items in
    let told = c.in_ok-what.ensures (report_as r) (sym (ap (λ (q : PlainReplay). q.book) c.requires.same)) in
    let values = told ∙ ap (λ l. value_what l (report_as r) 0 l c.as_slice.result.now) c.cells-cells.ensures ∙ ap (value_what p.cells (report_as r) 0 p.cells) c.as_slice.ensures.value in
    c.left_told.ensures ∙ ap (λ o. left_told (report_as r) (or_else o F)) (sym c.in-Some.is ∙ values)

pub returns : goal.returns
returns c =
    let p = c.args.program.now in
    let r = c.args.report.now in
    let F = failed_what (cells_of p.cells) r.book.items (agents_from 0 p.cells) r.failed.items in
    let told = c.in_ok-what.ensures (report_as r) (sym (ap (λ (q : PlainReplay). q.book) c.requires.same)) in
    let values = told ∙ ap (λ l. value_what l (report_as r) 0 l c.as_slice.result.now) c.cells-cells.ensures ∙ ap (value_what p.cells (report_as r) 0 p.cells) c.as_slice.ensures.value in
    let agents : c.as_slice-in-None.result.now ≡ agents_from 0 p.cells = c.as_slice-in-None.ensures.value ∙ c.in_ok-agents.ensures ∙ ap (agents_from 0) c.cells-cells.ensures in
    let failures = c.failed_what-failed.ensures
    ∙ ap (λ (q : PlainReplay). failed_what q.cells q.book c.as_slice-in-None.result.now c.as_slice-in-None-2.result.now) c.requires.same
    ∙ ap (λ l. failed_what (cells_of p.cells) r.book.items l c.as_slice-in-None-2.result.now) agents
    ∙ ap (failed_what (cells_of p.cells) r.book.items (agents_from 0 p.cells)) c.as_slice-in-None-2.ensures.value in
    c.left_told-in-None.ensures ∙ ap (left_told (report_as r)) failures ∙ ap (λ o. left_told (report_as r) (or_else o F)) (sym c.in-None.is ∙ values)
