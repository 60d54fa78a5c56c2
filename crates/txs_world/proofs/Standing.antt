-- What holds of every store.
use Rattle.std.proofs.Common.{◌≡◌, ◌<◌, ℕ, zero, suc, Bool, true, false, List, [], ◌∷◌, length, get_or, refl, sym, ap, subst, ◌∙◌, arith}
use Rattle.std.proofs.lemmas.Bool.{false≢true}
use Rattle.txs_world.specs.Mailbox.{IsMailbox}
use Rattle.txs_value_data.specs.Places.{nth}
use Rattle.txs_value_cell.specs.declared.action.Action.{Action}
use Rattle.txs_world_protocol.specs.declared.event.Event.{Event}
use Rattle.txs_world_book.specs.Book.{Mail, mail_after, is_there, waits, goes_on}
use Rattle.txs_world_book.specs.declared.cell.StoreCell.{StoreCell}
use Rattle.txs_world.specs.declared.inbox.Inbox.{Inbox}
use Rattle.txs_world.specs.declared.slot.Slot.{Slot}
use Rattle.txs_world.specs.Inboxes.{PlainInbox, plain_inboxes, no_inbox, inbox_of, taken_of, AreMailboxes}
use Rattle.txs_world.specs.Kept.{IsKept}
use Rattle.txs_world.specs.Laws.{StoreStands}
use Rattle.txs_world.specs.Store.{PlainStore, store_with}
use Rattle.txs_world.proofs.Mailing.{failed_is}

-- an inbox whose action is taken: it is there, and keeps what a mailbox keeps
record TakenAt (bs : List PlainInbox) (k : ℕ) : Type 0 where
  there : k < length bs
  taken : (get_or bs k no_inbox).mailbox.is_taken ≡ true
  kept : IsMailbox (get_or bs k no_inbox).mailbox

taken_at : (bs : List Inbox) (k : ℕ) → AreMailboxes bs → get_or (taken_of (plain_inboxes bs)) k false ≡ true → TakenAt (plain_inboxes bs) k
taken_at [] k h t = absurd (false≢true t)
taken_at (b ∷ bs) zero h t = record { there = omega arith; taken = t; kept = h.0 }
taken_at (b ∷ bs) (suc k) h t =
    let r = taken_at bs k h.1 t in
    let lt = r.there in
    record { there = omega (arith, lt); taken = r.taken; kept = r.kept }

some_wait : (xs : List Action) → 0 < length xs → waits xs ≡ true
some_wait [] lt = absurd (omega (arith, lt))
some_wait (x ∷ xs) lt = refl

waits_at : (goes : Bool) (m : Mail) (b : PlainInbox) → b ≡ inbox_of goes b.mailbox.is_taken m → b.mailbox.is_taken ≡ true → IsMailbox b.mailbox → (is_there m.fault ≡ false) × (waits m.actions ≡ true)
waits_at goes m b e t h = (
  sym (failed_is m.fault) ∙ sym (ap (λ (x : PlainInbox). x.mailbox.has_failed) e) ∙ h.runs t,
  some_wait m.actions (subst (λ n. 0 < n) (ap (λ (x : PlainInbox). length x.mailbox.actions) e) (h.waits t)),
)

pub store_stands : (now : PlainStore) (cells : List StoreCell) (threads : ℕ) (slots : List Slot) (bs : List Inbox) (views tries : List ℕ) (book : List Event)
    → store_with cells threads book (taken_of (plain_inboxes bs)) ≡ now → IsKept cells threads slots (plain_inboxes bs) views tries book → AreMailboxes bs → StoreStands now
store_stands now cells threads slots bs views tries book e kept h =
    subst StoreStands e (record {
      legal = kept.legal;
      undisturbed = kept.undisturbed;
      taken = λ k t. let r = taken_at bs k h t in waits_at (goes_on (nth cells k)) (mail_after cells book k) (get_or (plain_inboxes bs) k no_inbox) (kept.mail k r.there) r.taken r.kept;
    })
