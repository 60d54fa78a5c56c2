use Rattle.std.proofs.Common.{[], ◌∷◌}
use Rattle.txs_world_book.proofs.Outcomes.{on_ok}
use Rattle.txs_audit_book.specs.Moves.{entered}
use Rattle.txs_audit_book.proofs.Boxes.{new_plain}
use Rattle.txs_audit_book.proofs.inbox.send_one.Goals as goal

pub returns : goal.returns
returns c =
    on_ok c.send.result _ _ (λ sent. new_plain (entered (c.args.action.now ∷ [])) c.args.inboxes.now.items c.from-place.result c.args.action.now.agent.number c.index_mut-inbox.result.now c.send.new.self c.index_mut-inbox.ensures.value c.from-place.ensures sent) c.send.ensures
