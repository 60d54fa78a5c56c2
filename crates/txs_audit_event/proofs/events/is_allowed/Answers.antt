use Rattle.std.proofs.Common.{◌∙◌, List, ap}
use Rattle.std.specs.Prelude.{not}
use Rattle.txs_world_protocol.specs.SeenEvent.{SeenEvent}
use Rattle.txs_tree_eval_node.specs.Events.{seen_events}
use Rattle.txs_tree_meaning.specs.Right.{is_wrong}
use Rattle.txs_tree_meaning.specs.View.{program_of}
use Rattle.txs_audit_evidence.proofs.ThreadFound.{so}
use Rattle.txs_audit_event.specs.Meant.{doer_means}
use Rattle.txs_audit_event.proofs.Standing.{some_more}
use Rattle.txs_audit_event.proofs.events.is_allowed.Goals as goal

pub allows-requires-clause-some : goal.allows-requires-clause-some
allows-requires-clause-some c =
    let q = c.args.question in
    some_more q.front.now c.as_slice-seen.result.now q.event (ap seen_events c.as_slice-seen.ensures.value ∙ c.in_ok-all.ensures)

pub returns : goal.returns
returns c =
    let q = c.args.question in
    let more = ap seen_events c.as_slice-seen.ensures.value ∙ c.in_ok-all.ensures in
    so c.allows.result c.allows.ensures
    (λ b told. told ∙ ap (λ (es : List SeenEvent). not (is_wrong (doer_means (program_of q.books.now.program) q.turns q.doer es))) more)
