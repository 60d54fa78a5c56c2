use Rattle.std.proofs.Common.{◌<◌, subst, sym}
use Rattle.std.proofs.lemmas.List.{length-set}
use Rattle.txs_world.specs.Mailbox.{put}
use Rattle.txs_world.specs.Inboxes.{with_action}
use Rattle.txs_world.proofs.Mailing.{new_plain, put_room, old_room, with_mailbox, plain_mailbox}
use Rattle.txs_world.proofs.inbox.put_at.Goals as goal

pub put_reserved-requires : goal.put_reserved-requires
put_reserved-requires c = subst (λ n. 0 < n) (sym (old_room c.args.inboxes.now.items c.from-place.result c.args.action.agent.number c.index_mut-inbox.result.now c.index_mut-inbox.ensures.value c.from-place.ensures c.requires.place)) c.requires.room

pub returns-clause-many : goal.returns-clause-many
returns-clause-many c = length-set c.args.inboxes.now.items c.from-place.result (with_mailbox c.index_mut-inbox.result.now c.put_reserved.new.self)

pub returns-clause-put : goal.returns-clause-put
returns-clause-put c =
    let old = c.index_mut-inbox.result.now in
    let box = c.put_reserved.new.self in
    new_plain (with_action c.args.action) c.args.inboxes.now.items c.from-place.result c.args.action.agent.number old (with_mailbox old box) c.index_mut-inbox.ensures.value c.from-place.ensures (plain_mailbox old box (put c.args.action old.mailbox.plain) c.put_reserved.ensures.put)

pub returns-clause-room : goal.returns-clause-room
returns-clause-room c =
    let old = c.index_mut-inbox.result.now in
    put_room c.args.inboxes.now.items c.from-place.result c.args.action old (with_mailbox old c.put_reserved.new.self) c.index_mut-inbox.ensures.value c.from-place.ensures c.requires.place c.put_reserved.ensures.room
