use Rattle.std.proofs.Common.{◌∙◌, ◌++◌, ap}
use Rattle.txs_tree_eval_node.specs.Events.{seen_events}
use Rattle.txs_tree_meaning.specs.View.{program_of}
use Rattle.txs_theorem_audit.specs.Audited.{books_of}
use Rattle.txs_audit_evidence.proofs.ThreadFound.{so}
use Rattle.txs_audit_event.specs.Lines.{full_what}
use Rattle.txs_audit_event.specs.Meant.{doer_means}
use Rattle.txs_audit_event.specs.declared.meant.Doer.TheVariants as doer
use Rattle.txs_audit_difference.specs.Pieces.{needed_of}
use Rattle.txs_audit_difference.proofs.pieces.still_full.Goals as goal

pub returns : goal.returns
returns c =
    let b = c.args.books.now in
    let p = program_of b.program in
    let books = books_of b.report in
    let end = c.args.end in
    let needed = needed_of (doer_means p c.args.turns (doer.Action c.args.action c.args.state) (seen_events c.args.seen.now)) in
    let whole = c.as_slice-2.ensures.value ∙ c.in_ok-whole.ensures ∙ ap (λ l. end.outs.now ++ l) (c.as_slice.ensures ∙ c.in_ok-printed.ensures) in
    so c.full_what.result c.full_what.ensures (λ w is. is ∙ ap (λ o. full_what books o c.as_slice-2.result.now end.out.now) c.in_ok-needed.ensures ∙ ap (λ l. full_what books needed l end.out.now) whole)
