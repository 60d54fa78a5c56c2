use Rattle.std.proofs.Common.{◌<◌, ap, subst, sym, ◌∙◌}
use Rattle.std.proofs.lemmas.List.{length-set}
use Rattle.txs_world.specs.Inboxes.{PlainInbox, finished}
use Rattle.txs_world.proofs.Mailing.{new_plain, no_less_room, old_plain}
use Rattle.txs_world.proofs.inbox.finish_at.Goals as goal

pub finish-requires : goal.finish-requires
finish-requires c =
    let is = old_plain c.args.inboxes.now.items c.from-place.result c.args.number c.index_mut-inbox.result.now c.index_mut-inbox.ensures.value c.from-place.ensures c.requires.place in
    record { taken = ap (λ (p : PlainInbox). p.mailbox.is_taken) is ∙ c.requires.taken; few = subst (λ n. n < 4294967295) (sym (ap (λ (p : PlainInbox). p.acts) is)) c.requires.few }

pub returns-clause-many : goal.returns-clause-many
returns-clause-many c = length-set c.args.inboxes.now.items c.from-place.result c.finish.new.self

pub returns-clause-finished : goal.returns-clause-finished
returns-clause-finished c =
    new_plain (finished c.args.fault) c.args.inboxes.now.items c.from-place.result c.args.number c.index_mut-inbox.result.now c.finish.new.self c.index_mut-inbox.ensures.value c.from-place.ensures c.finish.ensures.finished

pub returns-clause-kept : goal.returns-clause-kept
returns-clause-kept c = no_less_room c.args.inboxes.now.items c.from-place.result c.index_mut-inbox.result.now c.finish.new.self c.index_mut-inbox.ensures.value c.finish.ensures.kept
