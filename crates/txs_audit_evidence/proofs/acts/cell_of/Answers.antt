use Rattle.std.proofs.Common.{◌≡◌, ◌∙◌, ap, option_copied, sym}
use Rattle.txs_value_data.specs.Places.{nth}
use Rattle.txs_value_cell.specs.Agents.{agents_from}
use Rattle.txs_tree_meaning.specs.View.{Parts}
use Rattle.txs_audit_order.proofs.Lending.{got}
use Rattle.txs_audit_evidence.proofs.acts.cell_of.Goals as goal

pub returns-in-Some : goal.returns-in-Some
returns-in-Some c =
    let cells = c.in_ok-agents.ensures ∙ ap (agents_from 0) (c.cells.ensures ∙ ap (λ (p : Parts). p.cells) c.program-program.ensures) in
    let is : option_copied c.get.result ≡ nth (agents_from 0 c.args.books.now.program.cells) c.args.agent =
    got c.as_slice.result.now c.from.result c.get.result c.get.ensures.lookup.3 ∙ ap (λ l. nth l c.from.result) (c.as_slice.ensures.value ∙ cells) ∙ ap (nth (agents_from 0 c.args.books.now.program.cells)) c.from.ensures in
    sym (ap option_copied c.in-Some.is) ∙ is
