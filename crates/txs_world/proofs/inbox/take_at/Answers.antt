use Rattle.std.proofs.Common.{◌≡◌, ap, subst, Some, ◌∙◌}
use Rattle.std.specs.Prelude.{is_some, IfOk}
use Rattle.txs_world.specs.Mailbox.{next}
use Rattle.txs_world.specs.Inboxes.{PlainInbox, taken_up}
use Rattle.txs_world_book.proofs.Outcomes.{if_err, on_ok}
use Rattle.txs_world.proofs.Mailing.{new_plain, same_plain, old_plain}
use Rattle.txs_world.proofs.inbox.take_at.Goals as goal

pub take-requires : goal.take-requires
take-requires c =
    let is = old_plain c.args.inboxes.now.items c.from-place.result c.args.number c.index_mut-inbox.result.now c.index_mut-inbox.ensures.value c.from-place.ensures c.requires.place in
    record { free = ap (λ (p : PlainInbox). p.mailbox.is_taken) is ∙ c.requires.free; some = ap (λ (p : PlainInbox). is_some (next p.mailbox)) is ∙ c.requires.some }

pub returns-clause-action : goal.returns-clause-action
returns-clause-action c =
    subst (λ (p : PlainInbox). IfOk c.take.result (λ a. next p.mailbox ≡ Some a)) (old_plain c.args.inboxes.now.items c.from-place.result c.args.number c.index_mut-inbox.result.now c.index_mut-inbox.ensures.value c.from-place.ensures c.requires.place)
    c.take.ensures.action

pub returns-clause-taken : goal.returns-clause-taken
returns-clause-taken c =
    on_ok c.take.result _ _ (λ up. new_plain taken_up c.args.inboxes.now.items c.from-place.result c.args.number c.index_mut-inbox.result.now c.take.new.self c.index_mut-inbox.ensures.value c.from-place.ensures up) c.take.ensures.taken

pub returns-clause-same : goal.returns-clause-same
returns-clause-same c =
    if_err c.take.result _ _ (λ is. same_plain c.args.inboxes.now.items c.from-place.result c.index_mut-inbox.result.now c.take.new.self c.index_mut-inbox.ensures.value is) c.take.ensures.same
