use Rattle.std.proofs.Common.{◌∙◌, [], List, Some, ap, refl, take}
use Rattle.txs_world_protocol.specs.SeenEvent.{SeenEvent}
use Rattle.txs_world_book.specs.Served.{cells_of}
use Rattle.txs_tree_eval_node.specs.Events.{seen_events}
use Rattle.txs_tree_meaning.specs.View.{program_of}
use Rattle.txs_theorem_audit.specs.Evaluated.{means_on}
use Rattle.txs_audit_order.specs.Named.{plain_trace}
use Rattle.txs_audit_evidence.proofs.ThreadFound.{so}
use Rattle.txs_audit_event.specs.Transactions.{gave_what}
use Rattle.txs_audit_difference.specs.Pieces.{came_what, unvalidated}
use Rattle.txs_audit_difference.proofs.Piecing.{part_else, part_there}
use Rattle.txs_audit_difference.proofs.pieces.acted_what.Goals as goal

pub returns-in-Some : goal.returns-in-Some
returns-in-Some c =
    let b = c.args.books.now in
    let p = program_of b.program in
    let r = b.report in
    let n = c.args.turns in
    let x = c.args.action.now in
    let v = c.args.state.now in
    let act = c.args.act in
    let since = plain_trace c.args.since.now in
    let same = ap seen_events c.as_slice-events.ensures.value ∙ c.in_ok-seen.ensures in
    part_there p r n (unvalidated p n x v) (Some []) since since c.args.at (seen_events c.as_slice-events.result.now) _ same refl c.in_ok-what.ensures c.in-Some.what
    (came_what p r n (take act.at r.book) x v since act.new.now act.sends.now) c.in-Some.is

pub returns : goal.returns
returns c =
    let b = c.args.books.now in
    let p = program_of b.program in
    let r = b.report in
    let n = c.args.turns in
    let x = c.args.action.now in
    let v = c.args.state.now in
    let act = c.args.act in
    let done = take act.at r.book in
    let since = plain_trace c.args.since.now in
    let same = ap seen_events c.as_slice-events.ensures.value ∙ c.in_ok-seen.ensures in
    so c.came_within.result c.came_within.ensures
    (λ w is.
    is ∙ ap (λ (es : List SeenEvent). gave_what (cells_of p.cells) done x.span act.new.now act.sends.now (means_on p n x v es)) same
    ∙ part_else p r n (unvalidated p n x v) (Some []) since since c.args.at (seen_events c.as_slice-events.result.now) _ same refl c.in_ok-what.ensures (came_what p r n done x v since act.new.now act.sends.now) c.in-None.is)
