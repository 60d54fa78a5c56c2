use Rattle.std.proofs.Common.{◌∙◌, ◌++◌, ap}
use Rattle.txs_tree_eval_node.specs.Events.{seen_events}
use Rattle.txs_tree_meaning.specs.View.{program_of}
use Rattle.txs_theorem_audit.specs.Verdict.{printed_by}
use Rattle.txs_theorem_audit.specs.Evaluated.{means_on}
use Rattle.txs_audit_evidence.proofs.ThreadFound.{so}
use Rattle.txs_audit_event.specs.Lines.{part_what}
use Rattle.txs_audit_difference.proofs.pieces.still_printed.Goals as goal

pub returns : goal.returns
returns c =
    let p = program_of c.args.books.now.program in
    let end = c.args.end in
    let prints = printed_by (means_on p c.args.turns c.args.action.now c.args.state.now (seen_events c.args.seen.now)) in
    let whole = c.as_slice-3.ensures.value ∙ c.in_ok-whole.ensures ∙ ap (λ l. end.outs.now ++ l) (c.as_slice.ensures ∙ c.in_ok-printed.ensures) in
    let least = c.as_slice-4.ensures.value ∙ c.in_ok-least.ensures ∙ ap (λ l. end.outs.now ++ l) (c.as_slice-2.ensures ∙ c.in_ok-fewest.ensures) in
    so c.part_what.result c.part_what.ensures (λ w is. is ∙ ap (λ l. part_what l c.as_slice-4.result.now end.out.now) whole ∙ ap (λ l. part_what (end.outs.now ++ prints) l end.out.now) least)
