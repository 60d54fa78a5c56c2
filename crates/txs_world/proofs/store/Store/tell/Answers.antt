use Rattle.std.proofs.Common.{◌≡◌, ◌<◌, refl, sym, subst, length, true}
use Rattle.txs_value_data.specs.Limits.{most_events}
use Rattle.txs_world_book.specs.Book.{makes, LegalKind}
use Rattle.txs_world.specs.Inboxes.{plain_inboxes, taken_of}
use Rattle.txs_world.specs.Store.{PlainStore, Replies, store_with}
use Rattle.txs_world_book.specs.Served.{adds, event_of}
use Rattle.txs_world.proofs.Answering.{has_room, told, told_full, told_not}
use Rattle.txs_world.proofs.Kept.{kept_quiet, same_stands}
use Rattle.txs_world.proofs.Storing.{stored, unstored}
use Rattle.txs_world.proofs.store.Store.tell.Goals.{in-Ok, in-Err}
use Rattle.txs_world.proofs.store.Store.tell.Goals as goal

pub returns-then-is_full : goal.returns-then-is_full
returns-then-is_full c = told_full c.args.self.now c.args.actor c.args.kind c.args.reply (c.is_full.ensures.0 c.if-is_full.true)

pub invariant_of-self : goal.invariant_of-self
invariant_of-self c =
    let x = c.self.inside in
    let had = has_room c.is_full.result (length c.args.self.now.book) most_events c.is_full.ensures c.if-is_full.false in
    let room : length x.journal.book.items < most_events = subst (λ (s : PlainStore). length s.book < most_events) (sym c.self.view_is) had in
    let made : makes x.cells x.threads c.args.actor c.args.kind ≡ true = subst (λ (s : PlainStore). makes s.cells s.threads c.args.actor c.args.kind ≡ true) (sym c.self.view_is) c.requires.made in
    let legal : LegalKind x.cells x.journal.book.items c.args.actor c.args.kind = subst (λ (s : PlainStore). LegalKind s.cells s.book c.args.actor c.args.kind) (sym c.self.view_is) c.requires.legal in
    let bs = plain_inboxes x.inboxes.items in
    let views = x.journal.views.items in
    let tries = x.journal.tries.items in
    let book = x.journal.book.items in
    let now = c.add.new.self in
    elim c.match-add.branch [
      | in-Ok w ↦
          kept_quiet x.cells x.threads x.slots.items bs views tries now.views.items now.tries.items book now.book.items c.args.actor c.args.kind
          c.self.invariant room made legal c.requires.quiet w.in-Ok.ensures.views w.in-Ok.ensures.tries w.in-Ok.ensures.added
      | in-Err w ↦ same_stands x.cells x.threads x.slots.items bs bs views tries now.views.items now.tries.items book now.book.items refl w.in-Err.ensures.same_views w.in-Err.ensures.same_tries w.in-Err.ensures.same c.self.invariant
    ]

pub returns : goal.returns
returns c =
    let x = c.self.inside in
    let s = c.args.self.now in
    let a = c.args.actor in
    let d = c.args.kind in
    let r = c.args.reply in
    let bs = plain_inboxes x.inboxes.items in
    let book = x.journal.book.items in
    let more = c.add.new.self.book.items in
    let t = store_with x.cells x.threads more (taken_of bs) in
    let room = has_room c.is_full.result (length s.book) most_events c.is_full.ensures c.if-is_full.false in
    elim c.match-add.branch [
      | in-Ok w ↦ subst (λ p. Replies s (adds a d r s.book) p t) (sym w.result-is) (told s t a d r c.requires.told room (stored s x.cells x.threads book more bs bs (event_of a d) c.self.view_is w.in-Ok.ensures.added refl))
      | in-Err w ↦ subst (λ p. Replies s (adds a d r s.book) p t) (sym w.result-is) (told_not s t a d r c.requires.told room (unstored s x.cells x.threads book more bs bs c.self.view_is w.in-Err.ensures.same refl))
    ]

pub add-requires : goal.add-requires
add-requires c = subst (λ (s : PlainStore). length s.book < most_events) (sym c.self.view_is) (has_room c.is_full.result (length c.args.self.now.book) most_events c.is_full.ensures c.if-is_full.false)
