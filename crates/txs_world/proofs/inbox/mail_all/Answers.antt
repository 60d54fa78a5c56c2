use Rattle.std.proofs.Common.{◌≡◌, ap, refl, rules, sym, ◌∙◌, subst, length, true, nat_lt}
use Rattle.std.proofs.lemmas.Bool.{ltb-true}
use Rattle.txs_world.specs.Inboxes.{plain_inboxes, mailed_all, all_sent_below, rooms, HaveRoom}
use Rattle.txs_world_book.proofs.Outcomes.{both}
use Rattle.txs_world.proofs.Mailing.{none_mailed, room_first, room_used}
use Rattle.txs_world.proofs.inbox.mail_all.Goals as goal

pub loop-action-init : goal.loop-action-init
loop-action-init c = record { places = c.requires.places; room = c.requires.room; whole = refl }

pub put_at-requires : goal.put_at-requires
put_at-requires c =
    let bs = c.loop-action.inboxes.items in
    let a = c.in-Some.action in
    let rest = c.pop_front.new.self.items in
    let inv = c.loop-action.invariant in
    let places = subst (λ l. all_sent_below (length bs) l ≡ true) c.in-Some.ensures.items inv.places in
    let room = subst (HaveRoom (rooms bs)) c.in-Some.ensures.items inv.room in
    record { place = ltb-true a.agent.number (length bs) (both (nat_lt a.agent.number (length bs)) (all_sent_below (length bs) rest) places).0; room = room_first (rooms bs) a rest room }

pub loop-action-preserved : goal.loop-action-preserved
loop-action-preserved c =
    let bs = c.loop-action.inboxes.items in
    let now = c.put_at.new.inboxes.items in
    let a = c.in-Some.action in
    let rest = c.pop_front.new.self.items in
    let inv = c.loop-action.invariant in
    let is = c.in-Some.ensures.items in
    let places = subst (λ l. all_sent_below (length bs) l ≡ true) is inv.places in
    let room = subst (HaveRoom (rooms bs)) is inv.room in
    record {
      places = subst (λ n. all_sent_below n rest ≡ true) (sym c.put_at.ensures.many) (both (nat_lt a.agent.number (length bs)) (all_sent_below (length bs) rest) places).1;
      room = room_used (rooms bs) (rooms now) a rest c.put_at.ensures.room room;
      whole = ap (λ b. mailed_all b rest) c.put_at.ensures.put ∙ ap (mailed_all (plain_inboxes bs)) (sym is) ∙ inv.whole;
    }

pub returns : goal.returns
returns c =
    let bs = plain_inboxes c.loop-action.inboxes.items in
    let left = c.loop-action.actions.items in
    let none : length left ≡ 0 = search rules in
    sym (none_mailed bs left none) ∙ c.loop-action.invariant.whole
