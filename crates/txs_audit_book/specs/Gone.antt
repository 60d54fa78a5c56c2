-- What is kept of the store's cells behind some events of its book.
use Rattle.std.specs.Prelude.{◌≡◌, ◌≤◌, ◌<◌, ℕ, Bool, true, false, ◌&&◌, nat_le, nat_lt, List, [], ◌++◌, length, drop, take, map, slice_index, Option, Some, None}
use Rattle.std.proofs.Common.{get_or}
use Rattle.txs_tree_eval_transaction.specs.Pasts.{Ascend, entry_at, latest}
use Rattle.txs_tree_eval_transaction.specs.Views.{held}
use Rattle.txs_value_data.specs.Places.{nth}
use Rattle.txs_value_data.specs.declared.fault.Fault.{Fault}
use Rattle.txs_value_cell.specs.Cells.{World}
use Rattle.txs_value_cell.specs.declared.action.Action.{Action}
use Rattle.txs_value_data.specs.Limits.{most_events}
use Rattle.txs_value_data.specs.declared.value.Value.{Value}
use Rattle.txs_value_data.specs.declared.value.Value.TheVariants.{Nil}
use Rattle.txs_world_book.specs.Book.{Mail, after, goes_on, is_there, mail_after, mail_from, no_mail, opening, written}
use Rattle.txs_world_book.specs.Stands.{StandsAt}
use Rattle.txs_world_book.specs.declared.cell.StoreCell.{StoreCell}
use Rattle.txs_world_protocol.specs.declared.event.Event.{Event}
use Rattle.txs_audit_book.specs.declared.inbox.Inbox.{Inbox}
use Rattle.txs_audit_book.specs.declared.parts.Parts.{Parts}

-- an index that may not be there is 0
abbrev pub index_in : Option (ℕ × Value) → ℕ
index_in None = 0
index_in (Some w) = w.0

-- the index from which on a cell has the value that it has at this one
abbrev pub index_at : List (ℕ × Value) → ℕ → ℕ
index_at h p = index_in (entry_at h p)

-- A cell's history behind some events: at each index it has the cell's value there, with how many events there are up to the one that
-- wrote it.
pub record IsHistory (w : World) (done : List Event) (k : ℕ) (h : List (ℕ × Value)) : Type 0 where
  pub at : (p : ℕ) → held h p ≡ Some (after w done p k)
  pub moved : (j : ℕ) → j ≤ length done → (p : ℕ) → written k p (take j done) ≡ nat_lt p (index_at h j)
  pub within : latest 0 h ≤ length done
  pub ascend : Ascend 0 h

-- an inbox as plain data
pub record PlainInbox : Type 0 where
  pub sent : List Action
  pub acts : ℕ
  pub fault : Option Fault
  pub failed : ℕ

-- an inbox without its room
abbrev pub plain_inbox : Inbox → PlainInbox
plain_inbox b = record { sent = b.sent.items; acts = b.acts; fault = b.fault; failed = b.failed }

-- each of these
abbrev pub plain_inboxes : List Inbox → List PlainInbox
plain_inboxes bs = map plain_inbox bs

-- an inbox to which nothing was sent
abbrev pub no_inbox : PlainInbox
no_inbox = record { sent = []; acts = 0; fault = None; failed = 0 }

-- an inbox is that of an agent with this mail
pub record IsInbox (m : Mail) (b : PlainInbox) : Type 0 where
  pub fault : b.fault ≡ m.fault
  pub acts : b.acts ≡ m.acts
  pub queue : drop b.acts b.sent ≡ m.actions
  pub enough : b.acts ≤ length b.sent

-- the actions that were sent to an agent are those that it has run, those that wait in this mail, and later ones
pub record Queued (m : Mail) (b : PlainInbox) : Type 0 where
  pub enough : m.acts ≤ length b.sent
  pub rest : List Action
  pub queue : drop m.acts b.sent ≡ m.actions ++ rest

-- what an inbox tells of an agent at each earlier index: whether it had failed, and what waited
pub record IsPast (goes : Bool) (k : ℕ) (done : List Event) (b : PlainInbox) : Type 0 where
  pub bound : is_there b.fault ≡ true → b.failed ≤ length done
  pub failed : (j : ℕ) → j ≤ length done → is_there (mail_from goes k no_mail (take j done)).fault ≡ (is_there b.fault && nat_le b.failed j)
  pub queued : (j : ℕ) → j ≤ length done → Queued (mail_from goes k no_mail (take j done)) b

-- what is kept agrees with the events that were gone through
pub record IsGone (cells : List StoreCell) (histories : List (List (ℕ × Value))) (inboxes : List PlainInbox) (views tries : List ℕ) (done : List Event) : Type 0 where
  pub few : length done ≤ most_events
  pub many : length histories ≡ length cells
  pub as_many : length inboxes ≡ length cells
  pub values : (k : ℕ) → k < length histories → IsHistory (opening cells) done k (get_or histories k [])
  pub mail : (k : ℕ) → k < length inboxes → IsInbox (mail_after cells done k) (get_or inboxes k no_inbox)
  pub past : (k : ℕ) → k < length inboxes → IsPast (goes_on (nth cells k)) k done (get_or inboxes k no_inbox)
  pub beyond : (k : ℕ) → length cells ≤ k → (p : ℕ) → after (opening cells) done p k ≡ Nil
  pub all : (a : ℕ) → StandsAt true done a (slice_index views a)
  pub some : (a : ℕ) → StandsAt false done a (slice_index tries a)

-- the same of the parts of a replay
abbrev pub GoneParts : Parts → List Event → Type 0
GoneParts p done = IsGone p.cells p.histories.items (plain_inboxes p.inboxes.items) p.views.items p.tries.items done
