use Rattle.txs_world.proofs.Mailing.{many_inboxes}
use Rattle.txs_value_cell.specs.declared.action.Action.{Action}
use Rattle.std.proofs.Common.{◌≡◌, ◌<◌, ◌∙◌, ◌∷◌, [], ap, refl, sym, subst, length, true, false, arith, get_or}
use Rattle.txs_world_protocol.specs.declared.ask.Reply.TheVariants as reply
use Rattle.txs_world_protocol.specs.declared.event.EventKind.TheVariants.{Send}
use Rattle.txs_value_data.specs.Limits.{most_events}
use Rattle.txs_world_book.specs.Book.{makes, LegalKind, has_agent}
use Rattle.txs_world.specs.Inboxes.{plain_inboxes, mailed_all, taken_of, rooms}
use Rattle.txs_world.specs.Store.{PlainStore, store_with}
use Rattle.txs_world_book.specs.Served.{event_of}
use Rattle.txs_world.proofs.Answering.{has_room, sends_so, told, told_full, told_not}
use Rattle.txs_world.proofs.Kept.{sent, same_stands, agent_in}
use Rattle.txs_world.proofs.Storing.{stored, unstored, entered_leaves}
use Rattle.txs_world.proofs.store.Store.send.Goals as goal

pub invariant_of-self-in-Err-add : goal.invariant_of-self-in-Err-add
invariant_of-self-in-Err-add c =
    let x = c.self.inside in
    let bs = plain_inboxes x.inboxes.items in
    same_stands x.cells x.threads x.slots.items bs (plain_inboxes c.ready_at.new.inboxes.items) x.journal.views.items x.journal.tries.items c.add.new.self.views.items c.add.new.self.tries.items x.journal.book.items c.add.new.self.book.items
    c.ready_at.ensures.same c.in-Err-add.ensures.same_views c.in-Err-add.ensures.same_tries c.in-Err-add.ensures.same c.self.invariant

pub invariant_of-self-in-Ok-add : goal.invariant_of-self-in-Ok-add
invariant_of-self-in-Ok-add c =
    let x = c.self.inside in
    let bs = plain_inboxes x.inboxes.items in
    let d = Send c.args.action in
    let room : length x.journal.book.items < most_events = subst (λ (s : PlainStore). length s.book < most_events) (sym c.self.view_is) (has_room c.is_full.result (length c.args.self.now.book) most_events c.is_full.ensures c.if-is_full.false) in
    let legal : LegalKind x.cells x.journal.book.items c.args.actor d = subst (λ (s : PlainStore). LegalKind s.cells s.book c.args.actor d) (sym c.self.view_is) (c.requires.agent, sym c.is_failed-has_failed.ensures ∙ c.if-has_failed.false) in
    let made : makes x.cells x.threads c.args.actor d ≡ true = subst (λ (s : PlainStore). makes s.cells s.threads c.args.actor d ≡ true) (sym c.self.view_is) c.requires.thread in
    sent x.cells x.threads x.slots.items bs (plain_inboxes c.put_at.new.inboxes.items) x.journal.views.items x.journal.tries.items c.add.new.self.views.items c.add.new.self.tries.items x.journal.book.items c.add.new.self.book.items
    c.args.actor c.args.action c.self.invariant room made legal c.in-Ok-add.ensures.views c.in-Ok-add.ensures.tries c.in-Ok-add.ensures.added
    (c.put_at.ensures.put ∙ ap (λ b. mailed_all b (c.in-Ok.copy ∷ [])) c.ready_at.ensures.same ∙ ap (λ a. mailed_all bs (a ∷ [])) c.in-Ok.ensures.copy)

pub invariant_of-self : goal.invariant_of-self
invariant_of-self c =
    let x = c.self.inside in
    let views = x.journal.views.items in
    let tries = x.journal.tries.items in
    let book = x.journal.book.items in
    same_stands x.cells x.threads x.slots.items (plain_inboxes x.inboxes.items) (plain_inboxes c.ready_at.new.inboxes.items) views tries views tries book book c.ready_at.ensures.same (λ a. refl) (λ a. refl) refl c.self.invariant

pub returns-in-Err : goal.returns-in-Err
returns-in-Err c =
    let x = c.self.inside in
    let s = c.args.self.now in
    let book = x.journal.book.items in
    let now = plain_inboxes c.ready_at.new.inboxes.items in
    sends_so s (store_with x.cells x.threads book (taken_of now)) c.args.actor c.args.action reply.Memory false (sym c.is_failed-has_failed.ensures ∙ c.if-has_failed.false)
    (told_not s (store_with x.cells x.threads book (taken_of now)) c.args.actor (Send c.args.action) reply.Done tt (has_room c.is_full.result (length c.args.self.now.book) most_events c.is_full.ensures c.if-is_full.false) (unstored s x.cells x.threads book book (plain_inboxes x.inboxes.items) now c.self.view_is refl c.ready_at.ensures.same))

pub returns-in-Err-add : goal.returns-in-Err-add
returns-in-Err-add c =
    let x = c.self.inside in
    let s = c.args.self.now in
    let now = plain_inboxes c.ready_at.new.inboxes.items in
    let t = store_with x.cells x.threads c.add.new.self.book.items (taken_of now) in
    sends_so s t c.args.actor c.args.action reply.Memory false (sym c.is_failed-has_failed.ensures ∙ c.if-has_failed.false) (told_not s t c.args.actor (Send c.args.action) reply.Done tt (has_room c.is_full.result (length c.args.self.now.book) most_events c.is_full.ensures c.if-is_full.false)
    (unstored s x.cells x.threads x.journal.book.items c.add.new.self.book.items (plain_inboxes x.inboxes.items) now c.self.view_is c.in-Err-add.ensures.same c.ready_at.ensures.same))

pub returns-in-Ok-add : goal.returns-in-Ok-add
returns-in-Ok-add c =
    let x = c.self.inside in
    let s = c.args.self.now in
    let now = plain_inboxes c.put_at.new.inboxes.items in
    let t = store_with x.cells x.threads c.add.new.self.book.items (taken_of now) in
    sends_so s t c.args.actor c.args.action reply.Done false (sym c.is_failed-has_failed.ensures ∙ c.if-has_failed.false) (told s t c.args.actor (Send c.args.action) reply.Done tt (has_room c.is_full.result (length c.args.self.now.book) most_events c.is_full.ensures c.if-is_full.false)
    (stored s x.cells x.threads x.journal.book.items c.add.new.self.book.items (plain_inboxes x.inboxes.items) now (event_of c.args.actor (Send c.args.action)) c.self.view_is c.in-Ok-add.ensures.added
    (entered_leaves _ _ _ (c.in-Ok.copy ∷ []) c.ready_at.ensures.same c.put_at.ensures.put)))

pub returns-then-has_failed : goal.returns-then-has_failed
returns-then-has_failed c = sends_so c.args.self.now c.tell.new.self c.args.actor c.args.action c.tell.result true (sym c.is_failed-has_failed.ensures ∙ c.if-has_failed.true) c.tell.ensures

pub returns-then-is_full : goal.returns-then-is_full
returns-then-is_full c =
    let s = c.args.self.now in
    sends_so s s c.args.actor c.args.action reply.Full false (sym c.is_failed-has_failed.ensures ∙ c.if-has_failed.false) (told_full s c.args.actor (Send c.args.action) reply.Done (c.is_full.ensures.0 c.if-is_full.true))

pub ready_at-requires : goal.ready_at-requires
ready_at-requires c =
    let x = c.self.inside in
    let in_cells = agent_in x.cells c.args.action.agent (subst (λ (s : PlainStore). has_agent s.cells c.args.action.agent ≡ true) (sym c.self.view_is) c.requires.agent) in
    let many = many_inboxes x.cells x.threads x.slots.items x.inboxes.items x.journal.views.items x.journal.tries.items x.journal.book.items c.self.invariant in
    omega (arith, in_cells, many)

pub put_at-requires-clause-place : goal.put_at-requires-clause-place
put_at-requires-clause-place c =
    let x = c.self.inside in
    let in_cells = agent_in x.cells c.args.action.agent (subst (λ (s : PlainStore). has_agent s.cells c.args.action.agent ≡ true) (sym c.self.view_is) c.requires.agent) in
    let many = many_inboxes x.cells x.threads x.slots.items x.inboxes.items x.journal.views.items x.journal.tries.items x.journal.book.items c.self.invariant in
    let more = c.ready_at.ensures.many in
    subst (λ (a : Action). a.agent.number < length c.ready_at.new.inboxes.items) (sym c.in-Ok.ensures.copy) (omega (arith, in_cells, many, more))

pub put_at-requires-clause-room : goal.put_at-requires-clause-room
put_at-requires-clause-room c =
    let room = c.in-Ok.ensures.room in
    subst (λ (a : Action). 0 < get_or (rooms c.ready_at.new.inboxes.items) a.agent.number 0) (sym c.in-Ok.ensures.copy) (omega (arith, room))

pub add-requires : goal.add-requires
add-requires c = subst (λ (s : PlainStore). length s.book < most_events) (sym c.self.view_is) (has_room c.is_full.result (length c.args.self.now.book) most_events c.is_full.ensures c.if-is_full.false)
