use Rattle.std.proofs.Common.{◌∙◌, Some, ap, option_copied, sym}
use Rattle.txs_value_data.specs.Places.{nth}
use Rattle.txs_value_cell.specs.Agents.{agents_from}
use Rattle.txs_tree_meaning.specs.View.{program_of}
use Rattle.txs_theorem_audit.specs.Audited.{ran_as}
use Rattle.txs_audit_book.proofs.Numbering.{agent_inside}
use Rattle.txs_audit_order.specs.Named.{plain_entry}
use Rattle.txs_audit_evidence.proofs.ThreadFound.{so}
use Rattle.txs_audit_difference.specs.Pieces.{at_event, end_what_in}
use Rattle.txs_audit_difference.proofs.Piecing.{no_end}
use Rattle.txs_audit_difference.proofs.pieces.agent_what.Goals as goal

pub returns-in_default : goal.returns-in_default
returns-in_default c =
    let b = c.args.books.now in
    let spot = c.args.spot in
    let here = sym c.entry_of.ensures ∙ ap (λ o. plain_entry (option_copied o)) c.in_default.is in
    c.at_event.ensures ∙ ap (λ w. at_event w spot.actor spot.event) c.unknown.ensures
    ∙ no_end (program_of b.program) b.report c.args.turns spot.actor spot.event c.args.from (nth (agents_from 0 b.program.cells) c.args.agent) (nth b.report.agents c.args.agent) here

pub end_of-requires : goal.end_of-requires
end_of-requires c = agent_inside c.args.books.now.program.cells c.args.agent c.in-Some-2.cell (sym c.in_ok-cell.ensures ∙ c.in-Some-2.is)

pub returns-in-Some-2 : goal.returns-in-Some-2
returns-in-Some-2 c =
    let b = c.args.books.now in
    let p = program_of b.program in
    let spot = c.args.spot in
    let ran = ran_as c.in-Some.ran.now in
    let here = sym c.entry_of.ensures ∙ ap (λ o. plain_entry (option_copied o)) c.in-Some.is in
    let cell = sym c.in_ok-cell.ensures ∙ c.in-Some-2.is in
    so c.end_of.result c.end_of.ensures
    (λ d is.
    is ∙ sym (ap (λ g. end_what_in p b.report c.args.turns spot.actor spot.event c.args.from g (nth b.report.agents c.args.agent)) cell ∙ ap (end_what_in p b.report c.args.turns spot.actor spot.event c.args.from (Some c.in-Some-2.cell)) here))
