use Rattle.std.proofs.Common.{◌∙◌, ◌∷◌, ◌++◌, [], List, ap}
use Rattle.txs_tree_eval_node.specs.Events.{seen_events}
use Rattle.txs_tree_eval_node.specs.declared.seen.Seen.{Seen}
use Rattle.txs_audit_event.proofs.Answered.{seen_behind}
use Rattle.txs_audit_event.proofs.asking.with_event.Goals as goal

pub returns : goal.returns
returns c = ap seen_events (c.in_ok-push.ensures.items ∙ ap (λ (l : List Seen). l ++ c.args.event ∷ []) c.in_ok-all.ensures.items) ∙ seen_behind c.args.front.now c.args.event
