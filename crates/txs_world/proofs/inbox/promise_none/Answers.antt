use Rattle.std.proofs.Common.{◌≡◌, ◌<◌, ◌+◌, ◌∙◌, drop, length, refl, set, subst, sym, true, arith}
use Rattle.std.proofs.lemmas.List.{length-set}
use Rattle.txs_world.specs.Inboxes.{all_sent_below}
use Rattle.txs_world.specs.declared.inbox.Inbox.{Inbox}
use Rattle.txs_world.proofs.Mailing.{below_at, below_next, none_next, same_plain}
use Rattle.txs_world.proofs.inbox.promise_none.Goals as goal

pub loop-action-preserved : goal.loop-action-preserved
loop-action-preserved c =
    let inv = c.loop-action.invariant in
    let bs = c.loop-action.inboxes.items in
    let i = c.loop-action.action-index in
    let a = c.action-item.result in
    let old = c.index_mut.result.now in
    let b : Inbox = record { mailbox = old.mailbox; fault = old.fault; acts = old.acts; promised = 0 } in
    let in_bs : a.agent.number < length bs = below_at _ c.args.actions.now i a c.loop-action-test.true c.action-item.is inv.places in
    record {
      places = subst (λ n. all_sent_below n (drop (i + 1) c.args.actions.now) ≡ true) (sym (length-set bs c.from-place.result b)) (below_next _ c.args.actions.now i inv.places);
      same = same_plain bs c.from-place.result old b c.index_mut.ensures.value refl ∙ inv.same;
      promised = none_next bs (set bs c.from-place.result b) c.from-place.result b c.args.actions.now i a c.loop-action-test.true c.action-item.is in_bs refl c.from-place.ensures refl inv.promised;
    }

pub index_mut-requires : goal.index_mut-requires
index_mut-requires c =
    let in_bs = below_at _ c.args.actions.now c.loop-action.action-index c.action-item.result c.loop-action-test.true c.action-item.is c.loop-action.invariant.places in
    let is = c.from-place.ensures in
    let size = c.loop-action.inboxes.ok.0 in
    omega (arith, in_bs, is, size)
