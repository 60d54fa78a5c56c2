use Rattle.std.proofs.Common.{◌+◌, ◌∙◌, ap, length, option_copied, sym}
use Rattle.txs_value_data.specs.Places.{nth}
use Rattle.txs_value_cell.specs.Agents.{agents_from}
use Rattle.txs_tree_meaning.specs.View.{program_of}
use Rattle.txs_theorem_audit.specs.Pieces.{end_finding, end_serial}
use Rattle.txs_audit_order.specs.Named.{plain_entry}
use Rattle.txs_audit_evidence.proofs.Printing.{no_end_found}
use Rattle.txs_audit_evidence.proofs.ThreadFound.{so}
use Rattle.txs_audit_evidence.proofs.acts.agent_end.Goals as goal

pub end_of-requires : goal.end_of-requires
end_of-requires c = sym c.entry_of.ensures ∙ ap (λ o. plain_entry (option_copied o)) c.in-Some.is

pub returns-in-Some-clause-finding : goal.returns-in-Some-clause-finding
returns-in-Some-clause-finding c =
    let b = c.args.books.now in
    let p = program_of b.program in
    let here = sym c.entry_of.ensures ∙ ap (λ o. plain_entry (option_copied o)) c.in-Some.is in
    so c.end_of.result c.end_of.ensures.finding (λ f is. is ∙ sym (ap (end_finding p b.report c.args.turns (length p.threads + c.args.agent) c.args.from (nth (agents_from 0 b.program.cells) c.args.agent)) here))

pub returns-in-Some-clause-serial : goal.returns-in-Some-clause-serial
returns-in-Some-clause-serial c =
    let b = c.args.books.now in
    let p = program_of b.program in
    let here = sym c.entry_of.ensures ∙ ap (λ o. plain_entry (option_copied o)) c.in-Some.is in
    so c.end_of.result c.end_of.ensures.serial (λ f is fine. is fine ∙ sym (ap (end_serial p b.report c.args.turns c.args.from (nth (agents_from 0 b.program.cells) c.args.agent)) here))

pub returns-in-None : goal.returns-in-None
returns-in-None c =
    let b = c.args.books.now in
    let p = program_of b.program in
    let here = sym c.entry_of.ensures ∙ ap (λ o. plain_entry (option_copied o)) c.in-None.is in
    let none = no_end_found p b.report c.args.turns (length p.threads + c.args.agent) c.args.from (nth (agents_from 0 b.program.cells) c.args.agent) (nth b.report.agents c.args.agent) here in
    record {
      finding = c.fine.ensures.finding ∙ none.0;
      serial = λ nothing. c.fine.ensures.serial ∙ none.1;
    }
