use Rattle.std.proofs.Common.{◌∙◌, ap, length}
use Rattle.txs_tree_eval_node.specs.Events.{seen_events}
use Rattle.txs_tree_meaning.specs.View.{program_of}
use Rattle.txs_audit_event.specs.Lines.{outcome_of}
use Rattle.txs_audit_event.specs.Meant.{doer_means}
use Rattle.txs_audit_event.specs.declared.meant.Doer.TheVariants as doer
use Rattle.txs_audit_event.proofs.Meaning.{asks_so, ended_so}
use Rattle.txs_audit_difference.specs.Pieces.{needed_by}
use Rattle.txs_audit_difference.proofs.pieces.needed.Goals as goal

pub returns : goal.returns
returns c =
    let p = program_of c.args.books.now.program in
    let k = length c.args.seen.now in
    let means = doer_means p c.args.turns (doer.Action c.args.action c.args.state) (seen_events c.args.seen.now) in
    let m = c.in_ok-meant.meant in
    c.needed_by.ensures ∙ ap (λ o. needed_by o m.asks) (ended_so m k means c.in_ok-meant.ensures) ∙ ap (needed_by (outcome_of means)) (asks_so m k means c.in_ok-meant.ensures)
