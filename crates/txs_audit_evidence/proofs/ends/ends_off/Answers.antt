use Rattle.std.proofs.Common.{◌∙◌, ap, arith, length, sym}
use Rattle.txs_value_cell.specs.Agents.{agents_from}
use Rattle.txs_tree_meaning.specs.View.{Parts}
use Rattle.txs_audit_book.specs.Answered.{terms_as}
use Rattle.txs_audit_order.specs.Named.{off_in}
use Rattle.txs_audit_evidence.proofs.Ending.{by_agents, by_threads}
use Rattle.txs_audit_book.proofs.Numbering.{agents_few}
use Rattle.txs_audit_evidence.proofs.ends.ends_off.Goals as goal

pub returns-in-Some : goal.returns-in-Some
returns-in-Some c =
    by_threads c.args.books.now.program (terms_as c.args.terms) c.args.books.now.report c.report-report.result.now c.report-report.ensures
    c.as_slice.result.now c.as_slice.ensures.value c.in-Some.off.0 c.in-Some.off.1 (sym (ap off_in c.in-Some.is) ∙ c.threads_off.ensures)

pub agents_off-requires-clause-few : goal.agents_off-requires-clause-few
agents_off-requires-clause-few c =
    let many = ap length (c.as_slice-in-None.ensures.value ∙ c.in_ok-agents.ensures ∙ ap (agents_from 0) c.cells.ensures) in
    let few = agents_few c.program-program.result.now.cells in
    let cells = c.is_sound.ensures.scoped.few_cells in
    omega (arith, many, few, cells)

pub returns : goal.returns
returns c =
    let agents = c.as_slice-in-None.ensures.value ∙ c.in_ok-agents.ensures ∙ ap (agents_from 0) c.cells.ensures ∙ ap (λ (x : Parts). agents_from 0 x.cells) c.program-program.ensures in
    by_agents c.args.books.now.program (terms_as c.args.terms) c.args.books.now.report c.report-report.result.now c.report-report.ensures
    c.as_slice.result.now c.as_slice.ensures.value (sym (ap off_in c.in-None.is) ∙ c.threads_off.ensures)
    c.agents_off.result c.as_slice-in-None.result.now c.as_slice-in-None-2.result.now agents c.as_slice-in-None-2.ensures.value c.agents_off.ensures
