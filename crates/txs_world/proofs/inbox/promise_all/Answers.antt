use Rattle.std.proofs.Common.{◌≡◌, ◌<◌, ◌+◌, ◌∙◌, arith, drop, length, refl, set, suc, subst, sym, true}
use Rattle.std.proofs.lemmas.List.{length-set}
use Rattle.txs_world.specs.Inboxes.{all_sent_below, promises}
use Rattle.txs_world.specs.declared.inbox.Inbox.{Inbox}
use Rattle.txs_world.proofs.Mailing.{below_at, below_next, new_promise, old_promise, promised_at, promised_next, promises_many, same_plain, sent_few}
use Rattle.txs_world.proofs.inbox.promise_all.Goals as goal

pub loop-action-preserved : goal.loop-action-preserved
loop-action-preserved c =
    let inv = c.loop-action.invariant in
    let i = c.loop-action.action-index in
    let bs = c.loop-action.inboxes.items in
    let place = c.from-place.result in
    let old = c.index_mut.result.now in
    let b : Inbox = record { mailbox = old.mailbox; fault = old.fault; acts = old.acts; promised = old.promised + 1 } in
    let a = c.action-item.result in
    let lt = c.loop-action-test.true in
    let in_bs : a.agent.number < length bs = below_at _ c.args.actions.now i a lt c.action-item.is inv.places in
    let size = promises_many bs in
    let one : old.promised + 1 ≡ suc old.promised = omega arith in
    record {
      places = subst (λ n. all_sent_below n (drop (i + 1) c.args.actions.now) ≡ true) (sym (length-set bs place b)) (below_next _ c.args.actions.now i inv.places);
      same = same_plain bs place old b c.index_mut.ensures.value refl ∙ inv.same;
      promised = promised_next (promises bs) (promises (set bs place b)) c.args.actions.now i a lt c.action-item.is (omega (arith, in_bs, size)) (new_promise bs place a.agent.number old b c.index_mut.ensures.value c.from-place.ensures in_bs one) inv.promised;
    }

pub overflow_add-index_mut : goal.overflow_add-index_mut
overflow_add-index_mut c =
    let inv = c.loop-action.invariant in
    let i = c.loop-action.action-index in
    let a = c.action-item.result in
    let bs = c.loop-action.inboxes.items in
    let lt = c.loop-action-test.true in
    let end = c.loop-action.auto.action-index-end in
    let in_bs = below_at _ c.args.actions.now i a lt c.action-item.is inv.places in
    let was = old_promise bs c.from-place.result a.agent.number c.index_mut.result.now c.index_mut.ensures.value c.from-place.ensures in_bs in
    let many = promised_at _ _ c.args.actions.now i a lt c.action-item.is inv.promised in
    let few = sent_few a.agent.number i c.args.actions.now in
    omega (arith, was, many, few, lt, end)

pub index_mut-requires : goal.index_mut-requires
index_mut-requires c =
    let in_bs = below_at _ c.args.actions.now c.loop-action.action-index c.action-item.result c.loop-action-test.true c.action-item.is c.loop-action.invariant.places in
    let is = c.from-place.ensures in
    let size = c.loop-action.inboxes.ok.0 in
    omega (arith, in_bs, is, size)
