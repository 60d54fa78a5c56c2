use Rattle.std.proofs.Common.{◌∙◌, ap, length}
use Rattle.txs_tree_eval_node.specs.Events.{seen_events}
use Rattle.txs_tree_meaning.specs.View.{program_of}
use Rattle.txs_theorem_audit.specs.Audited.{books_of, ran_as}
use Rattle.txs_theorem_audit.specs.Verdict.{printed_by}
use Rattle.txs_audit_evidence.proofs.ThreadFound.{so}
use Rattle.txs_audit_event.specs.Lines.{outcome_of, stop_what}
use Rattle.txs_audit_event.specs.Meant.{doer_means}
use Rattle.txs_audit_event.specs.Transactions.{awaited}
use Rattle.txs_audit_event.specs.declared.meant.Doer.TheVariants as doer
use Rattle.txs_audit_event.proofs.Answered.{of_there}
use Rattle.txs_audit_event.proofs.Meaning.{prints_so}
use Rattle.txs_audit_difference.proofs.Piecing.{stops_so}
use Rattle.txs_audit_difference.proofs.pieces.thread_end.Goals as goal

pub least_of-requires : goal.least_of-requires
least_of-requires c = of_there c.args.books.now.program c.args.thread c.requires

pub mean_within-requires : goal.mean_within-requires
mean_within-requires c = of_there c.args.books.now.program c.args.thread c.requires

pub returns : goal.returns
returns c =
    let b = c.args.books.now in
    let p = program_of b.program in
    let books = books_of b.report in
    let ran = ran_as c.args.ran.now in
    let k = length c.args.seen.now in
    let means = doer_means p c.args.turns (doer.Thread c.args.thread) (seen_events c.args.seen.now) in
    let m = c.in_ok-meant.meant in
    let tells = c.in_ok-meant.ensures in
    let prints = c.as_slice.ensures ∙ c.printed_of-whole.ensures ∙ prints_so m k means tells in
    so c.stop_what.result c.stop_what.ensures
    (λ w is.
    is ∙ stops_so books m k means c.as_slice.result.now c.as_slice-2.result.now ran tells prints
    ∙ ap (λ l. stop_what books (outcome_of means) (awaited means) (printed_by means) l ran) (c.as_slice-2.ensures ∙ c.in_ok-least.ensures))
