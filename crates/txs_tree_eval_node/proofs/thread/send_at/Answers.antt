use Rattle.std.proofs.Common.{sym, ap, ◌∙◌}
use Rattle.txs_tree_eval_node.specs.Evaluated.{sending}
use Rattle.txs_tree_eval_node.specs.declared.thread.Sending.TheVariants.{Sent, Refused, Other}
use Rattle.txs_value_cell.specs.declared.action.Action.{Action}
use Rattle.txs_tree_eval_node.proofs.Forms.{send_as}
use Rattle.txs_tree_eval_node.proofs.thread.send_at.Goals as goal

pub returns-in-Sent : goal.returns-in-Sent
returns-in-Sent c =
    let k = c.args.event.now.kind.now in
    let a : Action = record { agent = c.args.agent; callee = c.args.callee; args = c.args.args.items; span = c.args.span } in
    λ t. send_as a c.args.span t k Sent (sym c.in-Sent.is ∙ c.sent_as-sending.ensures ∙ ap (λ l. sending (record { agent = c.args.agent; callee = c.args.callee; args = l; span = c.args.span }) k) c.in_ok-args.ensures)

pub returns-in-Refused : goal.returns-in-Refused
returns-in-Refused c =
    let k = c.args.event.now.kind.now in
    let a : Action = record { agent = c.args.agent; callee = c.args.callee; args = c.args.args.items; span = c.args.span } in
    λ t. send_as a c.args.span t k Refused (sym c.in-Refused.is ∙ c.sent_as-sending.ensures ∙ ap (λ l. sending (record { agent = c.args.agent; callee = c.args.callee; args = l; span = c.args.span }) k) c.in_ok-args.ensures)

pub returns-in-Other : goal.returns-in-Other
returns-in-Other c =
    let k = c.args.event.now.kind.now in
    let a : Action = record { agent = c.args.agent; callee = c.args.callee; args = c.args.args.items; span = c.args.span } in
    λ t. send_as a c.args.span t k Other (sym c.in-Other.is ∙ c.sent_as-sending.ensures ∙ ap (λ l. sending (record { agent = c.args.agent; callee = c.args.callee; args = l; span = c.args.span }) k) c.in_ok-args.ensures)
