use Rattle.std.proofs.Common.{◌∙◌, ap, option_copied, sym}
use Rattle.txs_tree_meaning.specs.View.{program_of}
use Rattle.txs_audit_order.specs.Named.{plain_entry}
use Rattle.txs_audit_evidence.proofs.ThreadFound.{so}
use Rattle.txs_audit_difference.specs.Pieces.{act_what_in, at_event}
use Rattle.txs_audit_difference.proofs.pieces.act_what.Goals as goal

pub returns-in-Some : goal.returns-in-Some
returns-in-Some c =
    let b = c.args.books.now in
    let spot = c.args.spot in
    let here = sym c.entry_of.ensures ∙ ap (λ o. plain_entry (option_copied o)) c.in-Some.is in
    so c.act_at.result c.act_at.ensures (λ d is. is ∙ sym (ap (act_what_in (program_of b.program) b.report c.args.turns spot.actor spot.event c.args.from c.args.at) here))

pub returns-in-None : goal.returns-in-None
returns-in-None c =
    let b = c.args.books.now in
    let spot = c.args.spot in
    let here = sym c.entry_of.ensures ∙ ap (λ o. plain_entry (option_copied o)) c.in-None.is in
    c.at_event.ensures ∙ ap (λ w. at_event w spot.actor spot.event) c.unknown.ensures ∙ sym (ap (act_what_in (program_of b.program) b.report c.args.turns spot.actor spot.event c.args.from c.args.at) here)
