use Rattle.std.proofs.Common.{refl}
use Rattle.std.proofs.lemmas.List.{length-set}
use Rattle.txs_world_book.proofs.Outcomes.{on_ok}
use Rattle.txs_world.proofs.Mailing.{same_plain, same_promises, no_less_room, new_room, with_mailbox, plain_mailbox}
use Rattle.txs_world.proofs.inbox.reserve_at.Goals as goal

pub returns-clause-same : goal.returns-clause-same
returns-clause-same c =
    let old = c.index_mut-inbox.result.now in
    let box = c.reserve.new.self in
    same_plain c.args.inboxes.now.items c.from-place.result old (with_mailbox old box) c.index_mut-inbox.ensures.value (plain_mailbox old box old.mailbox.plain c.reserve.ensures.same)

pub returns-clause-promised : goal.returns-clause-promised
returns-clause-promised c =
    let old = c.index_mut-inbox.result.now in
    same_promises c.args.inboxes.now.items c.from-place.result old (with_mailbox old c.reserve.new.self) c.index_mut-inbox.ensures.value refl

pub returns-clause-many : goal.returns-clause-many
returns-clause-many c = length-set c.args.inboxes.now.items c.from-place.result (with_mailbox c.index_mut-inbox.result.now c.reserve.new.self)

pub returns-clause-kept : goal.returns-clause-kept
returns-clause-kept c =
    let old = c.index_mut-inbox.result.now in
    no_less_room c.args.inboxes.now.items c.from-place.result old (with_mailbox old c.reserve.new.self) c.index_mut-inbox.ensures.value c.reserve.ensures.kept

pub returns-clause-room : goal.returns-clause-room
returns-clause-room c =
    let new = with_mailbox c.index_mut-inbox.result.now c.reserve.new.self in
    on_ok c.reserve.result _ _ (λ room. new_room c.args.inboxes.now.items c.from-place.result c.args.number c.args.additional new c.from-place.ensures c.requires room) c.reserve.ensures.room
