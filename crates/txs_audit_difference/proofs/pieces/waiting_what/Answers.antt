use Rattle.std.proofs.Common.{◌∙◌, [], Some, ap, refl}
use Rattle.txs_tree_eval_node.specs.Events.{seen_events}
use Rattle.txs_tree_meaning.specs.View.{program_of}
use Rattle.txs_audit_order.specs.Named.{plain_trace}
use Rattle.txs_audit_evidence.proofs.ThreadFound.{so}
use Rattle.txs_audit_difference.specs.Pieces.{still_behind, unvalidated}
use Rattle.txs_audit_difference.proofs.Piecing.{part_else, part_there}
use Rattle.txs_audit_difference.proofs.pieces.waiting_what.Goals as goal

pub still_behind-requires-clause-events : goal.still_behind-requires-clause-events
still_behind-requires-clause-events c = ap seen_events c.as_slice-events.ensures.value ∙ c.in_ok-seen.ensures

pub returns-in-Some : goal.returns-in-Some
returns-in-Some c =
    let b = c.args.books.now in
    let p = program_of b.program in
    let r = b.report in
    let n = c.args.turns in
    let x = c.args.action.now in
    let v = c.args.state.now in
    let end = c.args.end in
    let since = plain_trace c.args.since.now in
    let same = ap seen_events c.as_slice-events.ensures.value ∙ c.in_ok-seen.ensures in
    part_there p r n (unvalidated p n x v) (Some []) since since c.args.at (seen_events c.as_slice-events.result.now) _ same refl c.in_ok-what.ensures c.in-Some.what
    (still_behind p r n end.full x v since end.outs.now end.out.now) c.in-Some.is

pub returns : goal.returns
returns c =
    let b = c.args.books.now in
    let p = program_of b.program in
    let r = b.report in
    let n = c.args.turns in
    let x = c.args.action.now in
    let v = c.args.state.now in
    let end = c.args.end in
    let since = plain_trace c.args.since.now in
    let same = ap seen_events c.as_slice-events.ensures.value ∙ c.in_ok-seen.ensures in
    so c.still_behind.result c.still_behind.ensures
    (λ w is.
    is ∙ part_else p r n (unvalidated p n x v) (Some []) since since c.args.at (seen_events c.as_slice-events.result.now) _ same refl c.in_ok-what.ensures (still_behind p r n end.full x v since end.outs.now end.out.now) c.in-None.is)
