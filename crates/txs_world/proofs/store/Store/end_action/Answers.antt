use Rattle.std.proofs.Common.{◌≡◌, ◌<◌, ◌∙◌, ap, arith, refl, sym, subst, length, true, false, get_or}
use Rattle.txs_world_protocol.specs.declared.event.EventKind.TheVariants.{Act}
use Rattle.txs_value_data.specs.Limits.{most_events}
use Rattle.txs_world_book.specs.Book.{are_sends, makes, LegalKind, has_agent}
use Rattle.txs_world.specs.Inboxes.{all_sent_below, fault_of, plain_inboxes, no_inbox, rooms, taken_of, HaveRoom}
use Rattle.txs_world.specs.Kept.{all_below, put_all, Ends}
use Rattle.txs_world.specs.Store.{PlainStore, store_with}
use Rattle.txs_world.proofs.Answering.{acted_full, acted_not, acted_so, has_room}
use Rattle.txs_world.proofs.Kept.{acted_on, agent_in, same_stands, sends_below, state_below}
use Rattle.txs_world.proofs.Mailing.{mails_so, many_inboxes, plain_same_many, room_stays, taken_at}
use Rattle.txs_world.proofs.Storing.{over, unstored, acts_few}
use Rattle.txs_world.proofs.store.Store.end_action.Goals as goal

pub put_all-requires : goal.put_all-requires
put_all-requires c =
    let x = c.self.inside in
    let has : has_agent x.cells c.args.agent ≡ true = subst (λ (s : PlainStore). has_agent s.cells c.args.agent ≡ true) (sym c.self.view_is) c.requires.agent in
    let lt = agent_in x.cells c.args.agent has in
    subst (λ l. all_below (length x.slots.items) l ≡ true) (sym c.in-Ok.ensures.copies) (state_below (length x.slots.items) c.args.agent c.args.new (subst (λ n. c.args.agent.number < n) (sym c.self.invariant.many) lt))

pub invariant_of-self-in-Ok-add : goal.invariant_of-self-in-Ok-add
invariant_of-self-in-Ok-add c =
    let x = c.self.inside in
    let d = Act c.args.agent c.number_taken-number.result c.args.new c.args.sends in
    let room : length x.journal.book.items < most_events = subst (λ (s : PlainStore). length s.book < most_events) (sym c.self.view_is) (has_room c.is_full.result (length c.args.self.now.book) most_events c.is_full.ensures c.if-is_full.false) in
    let made : makes x.cells x.threads c.args.actor d ≡ true = subst (λ (s : PlainStore). makes s.cells s.threads c.args.actor d ≡ true) (sym c.self.view_is) c.requires.own in
    let legal : LegalKind x.cells x.journal.book.items c.args.actor d =
    subst (λ (s : PlainStore). LegalKind s.cells s.book c.args.actor d) (sym c.self.view_is) (c.requires.agent, c.number_taken-number.ensures.runs, c.number_taken-number.ensures.waits, c.number_taken-number.ensures.number, c.requires.held, c.requires.to_agents, c.requires.run) in
    acted_on x.cells x.threads x.slots.items c.put_all.new.slots.items (plain_inboxes x.inboxes.items) (plain_inboxes c.mail_all.new.inboxes.items) x.journal.views.items x.journal.tries.items c.add.new.self.views.items c.add.new.self.tries.items x.journal.book.items c.add.new.self.book.items
    c.args.actor c.in-Ok-add.events c.number_taken-number.result c.args.agent c.args.new c.args.sends c.self.invariant room made legal c.in-Ok-add.ensures.views c.in-Ok-add.ensures.tries c.in-Ok-add.ensures.added c.in-Ok-add.ensures.many
    (c.put_all.ensures ∙ ap (put_all c.in-Ok-add.events x.slots.items) c.in-Ok.ensures.copies)
    (mails_so (plain_inboxes x.inboxes.items) (plain_inboxes c.prepare_end.new.inboxes.items) (plain_inboxes c.finish_at.new.inboxes.items) (plain_inboxes c.mail_all.new.inboxes.items) c.args.agent.number c.fault_of-fault.result (fault_of c.args.new) c.prepare_end.new.queue.items c.args.sends
    c.prepare_end.ensures.same c.finish_at.ensures.finished c.mail_all.ensures c.fault_of-fault.ensures c.in-Ok.ensures.queue)

pub invariant_of-self-in-Err-add : goal.invariant_of-self-in-Err-add
invariant_of-self-in-Err-add c =
    let x = c.self.inside in
    let bs = plain_inboxes x.inboxes.items in
    same_stands x.cells x.threads x.slots.items bs (plain_inboxes c.prepare_end.new.inboxes.items) x.journal.views.items x.journal.tries.items c.add.new.self.views.items c.add.new.self.tries.items x.journal.book.items c.add.new.self.book.items
    c.prepare_end.ensures.same c.in-Err-add.ensures.same_views c.in-Err-add.ensures.same_tries c.in-Err-add.ensures.same c.self.invariant

pub returns-in-Ok-add : goal.returns-in-Ok-add
returns-in-Ok-add c =
    let x = c.self.inside in
    let s = c.args.self.now in
    let old = plain_inboxes x.inboxes.items in
    let now = plain_inboxes c.mail_all.new.inboxes.items in
    let t = store_with x.cells x.threads c.add.new.self.book.items (taken_of now) in
    subst (λ r. Ends s c.args.actor c.args.agent c.args.new c.args.sends c.args.failed r t) (sym c.end_reply.ensures)
    (acted_so s t c.args.actor c.args.agent c.args.new c.args.sends c.args.failed (has_room c.is_full.result (length c.args.self.now.book) most_events c.is_full.ensures c.if-is_full.false)
    (over s x.cells x.threads x.journal.book.items c.add.new.self.book.items old now c.args.actor c.number_taken-number.result c.args.agent c.args.new c.args.sends c.fault_of-fault.result c.self.view_is c.in-Ok-add.ensures.added
    (mails_so old (plain_inboxes c.prepare_end.new.inboxes.items) (plain_inboxes c.finish_at.new.inboxes.items) now c.args.agent.number c.fault_of-fault.result c.fault_of-fault.result c.prepare_end.new.queue.items c.args.sends c.prepare_end.ensures.same c.finish_at.ensures.finished c.mail_all.ensures refl c.in-Ok.ensures.queue)
    c.number_taken-number.ensures.number))

pub returns-in-Err : goal.returns-in-Err
returns-in-Err c =
    let x = c.self.inside in
    let s = c.args.self.now in
    let book = x.journal.book.items in
    let now = plain_inboxes c.prepare_end.new.inboxes.items in
    acted_not s (store_with x.cells x.threads book (taken_of now)) c.args.actor c.args.agent c.args.new c.args.sends c.args.failed (has_room c.is_full.result (length c.args.self.now.book) most_events c.is_full.ensures c.if-is_full.false)
    (unstored s x.cells x.threads book book (plain_inboxes x.inboxes.items) now c.self.view_is refl c.prepare_end.ensures.same)

pub returns-in-Err-add : goal.returns-in-Err-add
returns-in-Err-add c =
    let x = c.self.inside in
    let s = c.args.self.now in
    let now = plain_inboxes c.prepare_end.new.inboxes.items in
    acted_not s (store_with x.cells x.threads c.add.new.self.book.items (taken_of now)) c.args.actor c.args.agent c.args.new c.args.sends c.args.failed (has_room c.is_full.result (length c.args.self.now.book) most_events c.is_full.ensures c.if-is_full.false)
    (unstored s x.cells x.threads x.journal.book.items c.add.new.self.book.items (plain_inboxes x.inboxes.items) now c.self.view_is c.in-Err-add.ensures.same c.prepare_end.ensures.same)

pub prepare_end-requires : goal.prepare_end-requires
prepare_end-requires c =
    let x = c.self.inside in
    let to : are_sends x.cells c.args.sends ≡ true = subst (λ (s : PlainStore). are_sends s.cells c.args.sends ≡ true) (sym c.self.view_is) c.requires.to_agents in
    sends_below x.cells (length x.inboxes.items) c.args.sends (many_inboxes x.cells x.threads x.slots.items x.inboxes.items x.journal.views.items x.journal.tries.items x.journal.book.items c.self.invariant) to

pub mail_all-requires : goal.mail_all-requires
mail_all-requires c =
    let x = c.self.inside in
    let mid = c.prepare_end.new.inboxes.items in
    let now = c.finish_at.new.inboxes.items in
    let to : are_sends x.cells c.args.sends ≡ true = subst (λ (s : PlainStore). are_sends s.cells c.args.sends ≡ true) (sym c.self.view_is) c.requires.to_agents in
    let is = c.in-Ok.ensures.queue in
    let many : length now ≡ length x.cells =
    c.finish_at.ensures.many ∙ plain_same_many mid x.inboxes.items c.prepare_end.ensures.same ∙ many_inboxes x.cells x.threads x.slots.items x.inboxes.items x.journal.views.items x.journal.tries.items x.journal.book.items c.self.invariant in
    record {
      places = subst (λ l. all_sent_below (length now) l ≡ true) (sym is) (sends_below x.cells (length now) c.args.sends many to);
      room = subst (λ l. HaveRoom (rooms now) l) (sym is) (room_stays (rooms mid) (rooms now) c.args.sends c.finish_at.ensures.kept c.in-Ok.ensures.room);
    }

pub finish_at-requires-clause-place : goal.finish_at-requires-clause-place
finish_at-requires-clause-place c =
    let x = c.self.inside in
    let in_cells = agent_in x.cells c.args.agent (subst (λ (s : PlainStore). has_agent s.cells c.args.agent ≡ true) (sym c.self.view_is) c.requires.agent) in
    let many = many_inboxes x.cells x.threads x.slots.items x.inboxes.items x.journal.views.items x.journal.tries.items x.journal.book.items c.self.invariant in
    let same = plain_same_many c.prepare_end.new.inboxes.items x.inboxes.items c.prepare_end.ensures.same in
    omega (arith, in_cells, many, same)

pub finish_at-requires-clause-taken : goal.finish_at-requires-clause-taken
finish_at-requires-clause-taken c =
    let n = c.args.agent.number in
    ap (λ b. (get_or b n no_inbox).mailbox.is_taken) c.prepare_end.ensures.same ∙ sym (taken_at (plain_inboxes c.self.inside.inboxes.items) n) ∙ ap (λ (s : PlainStore). get_or s.taken n false) c.self.view_is ∙ c.requires.taken

pub returns-then-is_full : goal.returns-then-is_full
returns-then-is_full c = acted_full c.args.self.now c.args.actor c.args.agent c.args.new c.args.sends c.args.failed (c.is_full.ensures.0 c.if-is_full.true)

pub invariant_of-self : goal.invariant_of-self
invariant_of-self c =
    let x = c.self.inside in
    let views = x.journal.views.items in
    let tries = x.journal.tries.items in
    let book = x.journal.book.items in
    same_stands x.cells x.threads x.slots.items (plain_inboxes x.inboxes.items) (plain_inboxes c.prepare_end.new.inboxes.items) views tries views tries book book c.prepare_end.ensures.same (λ a. refl) (λ a. refl) refl c.self.invariant

pub add-requires : goal.add-requires
add-requires c = subst (λ (s : PlainStore). length s.book < most_events) (sym c.self.view_is) (has_room c.is_full.result (length c.args.self.now.book) most_events c.is_full.ensures c.if-is_full.false)

pub finish_at-requires-clause-few : goal.finish_at-requires-clause-few
unfolding most_events
finish_at-requires-clause-few c =
    let x = c.self.inside in
    let same = ap (λ b. (get_or b c.args.agent.number no_inbox).acts) c.prepare_end.ensures.same in
    let few = acts_few c.args.self.now x.cells x.threads x.slots.items x.inboxes.items x.journal.views.items x.journal.tries.items x.journal.book.items c.args.agent c.self.view_is c.self.invariant c.requires.agent in
    omega (arith, few, same)
