use Rattle.std.proofs.Common.{arith, ◌≡◌, ◌+◌, ◌≤◌, ◌∙◌, get_or, subst, sym, drop, true}
use Rattle.txs_world.specs.Inboxes.{all_sent_below, rooms, promises, Promised}
use Rattle.txs_world.proofs.Mailing.{below_at, below_next, old_promise, plain_same_many, room_next, room_last_all}
use Rattle.txs_world.proofs.inbox.make_room_for.Goals as goal

pub promise_all-requires : goal.promise_all-requires
promise_all-requires c =
    record {
      places = subst (λ n. all_sent_below n c.args.actions.now ≡ true) (sym (plain_same_many c.promise_none.new.inboxes.items c.args.inboxes.now.items c.promise_none.ensures.same)) c.requires;
      none = c.promise_none.ensures.promised;
    }

pub reserve_at-requires : goal.reserve_at-requires
reserve_at-requires c = below_at _ c.args.actions.now c.loop-action.action-index c.action-item.result c.loop-action-test.true c.action-item.is c.loop-action.invariant.places

pub loop-action-preserved : goal.loop-action-preserved
loop-action-preserved c =
    let inv = c.loop-action.invariant in
    let i = c.loop-action.action-index in
    let bs = c.loop-action.inboxes.items in
    let now = c.reserve_at.new.inboxes.items in
    let a = c.action-item.result in
    let lt = c.loop-action-test.true in
    let in_bs = below_at _ c.args.actions.now i a lt c.action-item.is inv.places in
    let was = old_promise bs c.from-place.result a.agent.number c.index-inbox.result.now c.index-inbox.ensures c.from-place.ensures in_bs in
    record {
      places = subst (λ n. all_sent_below n (drop (i + 1) c.args.actions.now) ≡ true) (sym (plain_same_many now bs c.reserve_at.ensures.same)) (below_next _ c.args.actions.now i inv.places);
      same = c.reserve_at.ensures.same ∙ inv.same;
      promised = subst (λ l. Promised l c.args.actions.now c.args.actions.now) (sym c.reserve_at.ensures.promised) inv.promised;
      room = room_next (rooms bs) (rooms now) (promises bs) c.args.actions.now i a lt c.action-item.is c.reserve_at.ensures.kept inv.promised inv.room (subst (λ n. n ≤ get_or (rooms now) a.agent.number 0) was c.in_ok-reserve_at.ensures.room);
    }

pub returns-clause-room : goal.returns-clause-room
returns-clause-room c =
    let out = c.loop-action-test.false in
    room_last_all (rooms c.loop-action.inboxes.items) c.args.actions.now c.loop-action.action-index (omega (arith, out)) c.loop-action.invariant.room

pub loop-action-init : goal.loop-action-init
loop-action-init c =
    let same = c.promise_all.ensures.same ∙ c.promise_none.ensures.same in
    record {
      places = subst (λ n. all_sent_below n c.args.actions.now ≡ true) (sym (plain_same_many c.promise_all.new.inboxes.items c.args.inboxes.now.items same)) c.requires;
      same = same;
      promised = c.promise_all.ensures.promised;
      room = tt;
    }

pub returns-clause-same : goal.returns-clause-same
returns-clause-same c = c.loop-action.invariant.same

pub returns-in_err-reserve_at-clause-same : goal.returns-in_err-reserve_at-clause-same
returns-in_err-reserve_at-clause-same c = c.reserve_at.ensures.same ∙ c.loop-action.invariant.same

pub index-inbox-requires : goal.index-inbox-requires
index-inbox-requires c =
    let in_bs = below_at _ c.args.actions.now c.loop-action.action-index c.action-item.result c.loop-action-test.true c.action-item.is c.loop-action.invariant.places in
    let is = c.from-place.ensures in
    let size = c.loop-action.inboxes.ok.0 in
    omega (arith, in_bs, is, size)
