use Rattle.std.proofs.Common.{◌≡◌, ◌∙◌, ap, arith, length, sym}
use Rattle.txs_value_data.specs.Places.{nth}
use Rattle.txs_value_cell.specs.Agents.{agents_from}
use Rattle.txs_audit_book.specs.Replayed.{PlainReplay}
use Rattle.txs_audit_evidence.specs.Evidence.{plain_books}
use Rattle.txs_audit_evidence.proofs.Looking.{cells_many}
use Rattle.txs_audit_book.proofs.Numbering.{agent_inside}
use Rattle.txs_audit_evidence.proofs.opening.store_left.Goals as goal

pub has_failed-failures-requires-clause-there : goal.has_failed-failures-requires-clause-there
has_failed-failures-requires-clause-there c = λ i g is. (let p = c.args.program.now in
    let agents : c.as_slice-2.result.now ≡ agents_from 0 p.cells = c.as_slice-2.ensures.value ∙ c.in_ok-agents.ensures ∙ ap (agents_from 0) c.cells-cells.ensures in
    let lt = agent_inside p.cells i g (ap (λ l. nth l i) (sym agents) ∙ is) in
    let same = ap (λ (q : PlainReplay). length q.cells) c.requires.same in
    let many = cells_many (plain_books p c.args.report.now) in
    omega (arith, lt, same, many))
