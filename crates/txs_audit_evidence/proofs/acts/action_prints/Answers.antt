use Rattle.std.proofs.Common.{◌∙◌, List, ap}
use Rattle.txs_world_protocol.specs.SeenEvent.{SeenEvent}
use Rattle.txs_tree_eval_node.specs.Events.{seen_events}
use Rattle.txs_tree_meaning.specs.View.{program_of}
use Rattle.txs_theorem_audit.specs.Verdict.{printed_by}
use Rattle.txs_theorem_audit.specs.Evaluated.{means_on}
use Rattle.txs_audit_evidence.proofs.ThreadFound.{so}
use Rattle.txs_audit_evidence.proofs.acts.action_prints.Goals as goal

pub returns : goal.returns
returns c =
    let p = program_of c.args.books.now.program in
    let events = ap seen_events c.as_slice.ensures.value ∙ c.in_ok-seen.ensures in
    so c.prints_within.result c.prints_within.ensures (λ o is. is ∙ ap (λ (es : List SeenEvent). printed_by (means_on p c.args.turns c.args.action.now c.args.state.now es)) events)
