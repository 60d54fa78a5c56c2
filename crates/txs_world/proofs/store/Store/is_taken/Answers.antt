use Rattle.std.proofs.Common.{◌<◌, ap, ◌∙◌, arith, length, get_or, false}
use Rattle.txs_world.specs.Inboxes.{plain_inboxes, taken_of}
use Rattle.txs_world.specs.Store.{PlainStore}
use Rattle.txs_world.specs.declared.inbox.Inbox.{Inbox}
use Rattle.txs_world.proofs.Mailing.{taken_is}
use Rattle.txs_world.proofs.store.Store.is_taken.Goals as goal

pub returns-then-number-len : goal.returns-then-number-len
returns-then-number-len c =
    let bs = c.self.inside.inboxes.items in
    let i = c.from-number.result in
    let b = c.index.result.now in
    let lt : i < length bs = omega (arith, c.if-number-len.true, c.len.ensures) in
    c.is_taken.ensures.value
    ∙ ap (λ (y : Inbox). y.mailbox.plain.is_taken) c.index.ensures
    ∙ taken_is bs i b lt
    ∙ ap (λ k. get_or (taken_of (plain_inboxes bs)) k false) c.from-number.ensures
    ∙ ap (λ (s : PlainStore). get_or s.taken c.args.agent.number false) c.self.view_is
