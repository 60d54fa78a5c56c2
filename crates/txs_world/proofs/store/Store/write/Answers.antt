use Rattle.std.proofs.Common.{◌≡◌, ◌<◌, ◌∙◌, ap, refl, sym, subst, length, true}
use Rattle.txs_world_protocol.specs.declared.ask.Reply.TheVariants as reply
use Rattle.txs_world_protocol.specs.declared.event.EventKind.TheVariants.{Commit}
use Rattle.txs_value_data.specs.Limits.{most_events}
use Rattle.txs_world_book.specs.Book.{makes, LegalKind, Guarded}
use Rattle.txs_world.specs.Inboxes.{plain_inboxes, mailed_all, all_sent_below, rooms, taken_of, HaveRoom}
use Rattle.txs_world.specs.Kept.{all_below, put_all}
use Rattle.txs_world.specs.Store.{PlainStore, store_with}
use Rattle.txs_world_book.specs.Served.{event_of}
use Rattle.txs_world.proofs.Answering.{told, told_not}
use Rattle.txs_world.proofs.Kept.{committed, same_stands, refs_below, sends_below}
use Rattle.txs_world.proofs.Mailing.{many_inboxes, plain_same_many}
use Rattle.txs_world.proofs.Storing.{stored, unstored, entered_leaves}
use Rattle.txs_world.proofs.store.Store.write.Goals as goal

pub prepare-requires : goal.prepare-requires
prepare-requires c =
    let x = c.self.inside in
    let legal : LegalKind x.cells x.journal.book.items c.args.actor (Commit c.args.at c.args.view c.args.writes c.args.sends) = subst (λ (s : PlainStore). LegalKind s.cells s.book c.args.actor (Commit c.args.at c.args.view c.args.writes c.args.sends)) (sym c.self.view_is) c.requires.legal in
    sends_below x.cells (length x.inboxes.items) c.args.sends (many_inboxes x.cells x.threads x.slots.items x.inboxes.items x.journal.views.items x.journal.tries.items x.journal.book.items c.self.invariant) legal.1

pub put_all-requires : goal.put_all-requires
put_all-requires c =
    let x = c.self.inside in
    let legal : LegalKind x.cells x.journal.book.items c.args.actor (Commit c.args.at c.args.view c.args.writes c.args.sends) = subst (λ (s : PlainStore). LegalKind s.cells s.book c.args.actor (Commit c.args.at c.args.view c.args.writes c.args.sends)) (sym c.self.view_is) c.requires.legal in
    subst (λ l. all_below (length x.slots.items) l ≡ true) (sym c.in-Ok.ensures.copies) (refs_below x.cells (length x.slots.items) 0 c.args.writes c.self.invariant.many legal.0)

pub mail_all-requires : goal.mail_all-requires
mail_all-requires c =
    let x = c.self.inside in
    let now = c.prepare.new.inboxes.items in
    let legal : LegalKind x.cells x.journal.book.items c.args.actor (Commit c.args.at c.args.view c.args.writes c.args.sends) = subst (λ (s : PlainStore). LegalKind s.cells s.book c.args.actor (Commit c.args.at c.args.view c.args.writes c.args.sends)) (sym c.self.view_is) c.requires.legal in
    let is = c.in-Ok.ensures.queue in
    let many = plain_same_many now x.inboxes.items c.prepare.ensures.same ∙ many_inboxes x.cells x.threads x.slots.items x.inboxes.items x.journal.views.items x.journal.tries.items x.journal.book.items c.self.invariant in
    record {
      places = subst (λ l. all_sent_below (length now) l ≡ true) (sym is) (sends_below x.cells (length now) c.args.sends many legal.1);
      room = subst (λ l. HaveRoom (rooms now) l) (sym is) c.in-Ok.ensures.room;
    }

pub invariant_of-self-in-Err-add : goal.invariant_of-self-in-Err-add
invariant_of-self-in-Err-add c =
    let x = c.self.inside in
    let bs = plain_inboxes x.inboxes.items in
    same_stands x.cells x.threads x.slots.items bs (plain_inboxes c.prepare.new.inboxes.items) x.journal.views.items x.journal.tries.items c.add.new.self.views.items c.add.new.self.tries.items x.journal.book.items c.add.new.self.book.items
    c.prepare.ensures.same c.in-Err-add.ensures.same_views c.in-Err-add.ensures.same_tries c.in-Err-add.ensures.same c.self.invariant

pub invariant_of-self-in-Ok-add : goal.invariant_of-self-in-Ok-add
invariant_of-self-in-Ok-add c =
    let x = c.self.inside in
    let bs = plain_inboxes x.inboxes.items in
    let d = Commit c.args.at c.args.view c.args.writes c.args.sends in
    let room : length x.journal.book.items < most_events = subst (λ (s : PlainStore). length s.book < most_events) (sym c.self.view_is) c.requires.room in
    let legal : LegalKind x.cells x.journal.book.items c.args.actor d = subst (λ (s : PlainStore). LegalKind s.cells s.book c.args.actor d) (sym c.self.view_is) c.requires.legal in
    let guarded : Guarded x.journal.book.items d = subst (λ (s : PlainStore). Guarded s.book d) (sym c.self.view_is) c.requires.guarded in
    let made : makes x.cells x.threads c.args.actor d ≡ true = subst (λ (s : PlainStore). makes s.cells s.threads c.args.actor d ≡ true) (sym c.self.view_is) c.requires.made in
    committed x.cells x.threads x.slots.items c.put_all.new.slots.items bs (plain_inboxes c.mail_all.new.inboxes.items) x.journal.views.items x.journal.tries.items c.add.new.self.views.items c.add.new.self.tries.items x.journal.book.items c.add.new.self.book.items
    c.args.actor c.in-Ok-add.events c.args.at c.args.view c.args.writes c.args.sends c.self.invariant room made legal guarded c.in-Ok-add.ensures.views c.in-Ok-add.ensures.tries c.in-Ok-add.ensures.added c.in-Ok-add.ensures.many
    (c.put_all.ensures ∙ ap (put_all c.in-Ok-add.events x.slots.items) c.in-Ok.ensures.copies)
    (c.mail_all.ensures ∙ ap (λ b. mailed_all b c.prepare.new.queue.items) c.prepare.ensures.same ∙ ap (mailed_all bs) c.in-Ok.ensures.queue)

pub invariant_of-self : goal.invariant_of-self
invariant_of-self c =
    let x = c.self.inside in
    let views = x.journal.views.items in
    let tries = x.journal.tries.items in
    let book = x.journal.book.items in
    same_stands x.cells x.threads x.slots.items (plain_inboxes x.inboxes.items) (plain_inboxes c.prepare.new.inboxes.items) views tries views tries book book c.prepare.ensures.same (λ a. refl) (λ a. refl) refl c.self.invariant

pub returns-in-Ok-add : goal.returns-in-Ok-add
returns-in-Ok-add c =
    let x = c.self.inside in
    let s = c.args.self.now in
    let d = Commit c.args.at c.args.view c.args.writes c.args.sends in
    let now = plain_inboxes c.mail_all.new.inboxes.items in
    told s (store_with x.cells x.threads c.add.new.self.book.items (taken_of now)) c.args.actor d reply.Done tt c.requires.room
    (stored s x.cells x.threads x.journal.book.items c.add.new.self.book.items (plain_inboxes x.inboxes.items) now (event_of c.args.actor d) c.self.view_is c.in-Ok-add.ensures.added
    (entered_leaves _ _ _ c.prepare.new.queue.items c.prepare.ensures.same c.mail_all.ensures))

pub returns-in-Err : goal.returns-in-Err
returns-in-Err c =
    let x = c.self.inside in
    let s = c.args.self.now in
    let book = x.journal.book.items in
    let now = plain_inboxes c.prepare.new.inboxes.items in
    told_not s (store_with x.cells x.threads book (taken_of now)) c.args.actor (Commit c.args.at c.args.view c.args.writes c.args.sends) reply.Done tt c.requires.room
    (unstored s x.cells x.threads book book (plain_inboxes x.inboxes.items) now c.self.view_is refl c.prepare.ensures.same)

pub returns-in-Err-add : goal.returns-in-Err-add
returns-in-Err-add c =
    let x = c.self.inside in
    let s = c.args.self.now in
    let now = plain_inboxes c.prepare.new.inboxes.items in
    told_not s (store_with x.cells x.threads c.add.new.self.book.items (taken_of now)) c.args.actor (Commit c.args.at c.args.view c.args.writes c.args.sends) reply.Done tt c.requires.room
    (unstored s x.cells x.threads x.journal.book.items c.add.new.self.book.items (plain_inboxes x.inboxes.items) now c.self.view_is c.in-Err-add.ensures.same c.prepare.ensures.same)

pub add-requires : goal.add-requires
add-requires c = subst (λ (s : PlainStore). length s.book < most_events) (sym c.self.view_is) c.requires.room
