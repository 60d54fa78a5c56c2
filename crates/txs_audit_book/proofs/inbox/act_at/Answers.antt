use Rattle.std.proofs.Common.{◌<◌, length, subst, sym}
use Rattle.txs_audit_book.specs.Gone.{PlainInbox}
use Rattle.txs_audit_book.specs.Moves.{acted_in}
use Rattle.txs_audit_book.proofs.Boxes.{old_plain, new_plain, set_many}
use Rattle.txs_audit_book.proofs.inbox.act_at.Goals as goal

pub act-requires : goal.act-requires
act-requires c =
    let is = old_plain c.args.inboxes.now.items c.from-place.result c.args.number c.index_mut-inbox.result.now c.index_mut-inbox.ensures.value c.from-place.ensures c.requires.place in
    subst (λ (b : PlainInbox). b.acts < length b.sent) (sym is) c.requires.waits

pub returns-clause-many : goal.returns-clause-many
returns-clause-many c = set_many c.args.inboxes.now.items c.from-place.result c.act.new.self

pub returns-clause-acted : goal.returns-clause-acted
returns-clause-acted c = new_plain (acted_in c.args.goes_on c.args.events c.args.new.now) c.args.inboxes.now.items c.from-place.result c.args.number c.index_mut-inbox.result.now c.act.new.self c.index_mut-inbox.ensures.value c.from-place.ensures c.act.ensures
