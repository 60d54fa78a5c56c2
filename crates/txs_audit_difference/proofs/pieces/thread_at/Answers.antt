use Rattle.std.proofs.Common.{◌∙◌, List, None, ap}
use Rattle.txs_world_protocol.specs.SeenEvent.{SeenEvent}
use Rattle.txs_tree_eval_node.specs.Events.{seen_events}
use Rattle.txs_tree_meaning.specs.View.{program_of}
use Rattle.txs_theorem_runs.specs.Told.{seen_of}
use Rattle.txs_theorem_audit.specs.Audited.{books_of, ran_as}
use Rattle.txs_audit_order.specs.Named.{plain_trace}
use Rattle.txs_audit_evidence.proofs.ThreadFound.{so}
use Rattle.txs_audit_event.specs.Meant.{doer_means}
use Rattle.txs_audit_event.specs.declared.meant.Doer.TheVariants as doer
use Rattle.txs_audit_event.proofs.Answered.{of_there}
use Rattle.txs_audit_difference.specs.Pieces.{thread_end}
use Rattle.txs_audit_difference.proofs.Piecing.{part_else, part_there}
use Rattle.txs_audit_difference.proofs.pieces.thread_at.Goals as goal

pub part_at-requires : goal.part_at-requires
part_at-requires c = of_there c.args.books.now.program c.args.thread c.requires

pub returns-in-Some : goal.returns-in-Some
returns-in-Some c =
    let b = c.args.books.now in
    let p = program_of b.program in
    let r = b.report in
    let ran = ran_as c.args.ran.now in
    let m = doer_means p c.args.turns (doer.Thread c.args.thread) in
    let here = plain_trace c.as_slice-trace.result.now in
    let same = ap seen_events c.as_slice-events.ensures.value ∙ c.in_ok-seen.ensures in
    part_there p r c.args.turns m None here ran.trace c.args.at (seen_events c.as_slice-events.result.now) _ same (ap plain_trace c.as_slice-trace.ensures.value) c.in_ok-what.ensures c.in-Some.what
    (thread_end r m (seen_of p.cells (books_of r) ran.trace) ran) c.in-Some.is

pub returns : goal.returns
returns c =
    let b = c.args.books.now in
    let p = program_of b.program in
    let r = b.report in
    let ran = ran_as c.args.ran.now in
    let m = doer_means p c.args.turns (doer.Thread c.args.thread) in
    let here = plain_trace c.as_slice-trace.result.now in
    let trace = ap plain_trace c.as_slice-trace.ensures.value in
    let same = ap seen_events c.as_slice-events.ensures.value ∙ c.in_ok-seen.ensures in
    so c.thread_end.result c.thread_end.ensures
    (λ w is.
    is ∙ ap (λ (es : List SeenEvent). thread_end r m es ran) (same ∙ ap (seen_of p.cells (books_of r)) trace)
    ∙ part_else p r c.args.turns m None here ran.trace c.args.at (seen_events c.as_slice-events.result.now) _ same trace c.in_ok-what.ensures (thread_end r m (seen_of p.cells (books_of r) ran.trace) ran) c.in-None.is)
