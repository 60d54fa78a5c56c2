-- How a store keeps the last values of its cells, the places of its actors and the agents' mail beside its book, and of its cells which actor is whose.
use Rattle.std.specs.Prelude.{◌≡◌, ◌<◌, ℕ, suc, true, false, Bool, ◌&&◌, nat_lt, nat_le, List, [], ◌∷◌, ◌++◌, length, map, slice_index, Option, Some, None, Result, if◌then◌else◌}
use Rattle.std.proofs.Common.{get_or, set}
use Rattle.circular_buffer.specs.Buffer.{buffer, keep_last}
use Rattle.txs_world_protocol.specs.Ask.{Writes, buffered}
use Rattle.txs_value_cell.specs.Cells.{World}
use Rattle.txs_value_data.specs.Places.{nth}
use Rattle.txs_world_protocol.specs.declared.event.Event.{Event}
use Rattle.txs_world_protocol.specs.declared.event.EventKind.{EventKind}
use Rattle.txs_world_protocol.specs.declared.event.EventKind.TheVariants.{Read, Commit, Retry, Fail, Refused, Send, SendRefused, Act, Swap, Broke}
use Rattle.txs_world_protocol.specs.declared.ask.Ask.TheVariants as ask
use Rattle.txs_world_protocol.specs.declared.ask.Reply.{Reply}
use Rattle.txs_world_protocol.specs.declared.ask.Reply.TheVariants as reply
use Rattle.txs_value_data.specs.declared.fault.Fault.{Fault}
use Rattle.txs_value_cell.specs.declared.action.Action.{Action}
use Rattle.txs_value_data.specs.declared.value.CellId.{CellId}
use Rattle.txs_value_data.specs.declared.value.Value.{Value}
use Rattle.txs_value_data.specs.declared.value.Value.TheVariants.{Nil}
use Rattle.txs_world_book.specs.Book.{opening, after, writes_of, is_outdated, most_older, goes_on, Mail, mail_after, Legal, Undisturbed}
use Rattle.txs_world.specs.Inboxes.{PlainInbox, inbox_of, no_inbox}
use Rattle.txs_world.specs.Store.{PlainStore, store_after, Answers}
use Rattle.txs_world_book.specs.Served.{Served, adds}
use Rattle.txs_world.specs.declared.commit.End.{End}
use Rattle.txs_world.specs.declared.commit.End.TheVariants.{Reruns, Redoes, Refuses, Commits}
use Rattle.txs_world_book.specs.Stands.{StandsAt}
use Rattle.txs_world_book.specs.declared.cell.StoreCell.{StoreCell}
use Rattle.txs_world.specs.declared.slot.Slot.{Slot}
use Rattle.txs_world.specs.declared.slot.Version.{Version}

-- a value, and how many events there are up to the one that wrote it
abbrev pub version : Value → ℕ → Version
version v n = record { value = v; written = n }

-- a version in front of others, where an event writes one
abbrev pub with_version : Option Value → ℕ → List Version → List Version
with_version None n xs = xs
with_version (Some v) n xs = version v n ∷ xs

-- what these events, before which there are n, write to the cell with number k, in order
abbrev pub versions_from : ℕ → ℕ → List Event → List Version
versions_from k n [] = []
versions_from k n (e ∷ es) = with_version (buffered (writes_of e.kind) k) (suc n) (versions_from k (suc n) es)

-- all that the cell with number k had, in order: the value that it opened with, and what the events wrote
abbrev pub versions : World → List Event → ℕ → List Version
versions w book k = version (w k) 0 ∷ versions_from k 0 book

-- how many versions a slot keeps: the newest and the older ones
abbrev pub most_versions : ℕ
most_versions = suc most_older

-- a slot that keeps these
abbrev pub slot_of : List Version → Slot
slot_of xs = record { ring = buffer xs most_versions }

-- what stands for a slot that is not there
abbrev pub no_slot : Slot
no_slot = slot_of (version Nil 0 ∷ [])

-- a slot keeps the last versions of its cell
pub record IsSlot (w : World) (book : List Event) (k : ℕ) (s : Slot) : Type 0 where
  pub is : s ≡ slot_of (keep_last most_versions (versions w book k))

-- a value that is there, else an earlier one
abbrev pub or_earlier : Option Value → Option Value → Option Value
or_earlier None o = o
or_earlier (Some v) o = Some v

-- the value of the last of these versions that the first p events made
abbrev pub version_at : ℕ → List Version → Option Value
version_at p [] = None
version_at p (x ∷ xs) = or_earlier (version_at p xs) (if nat_le x.written p then Some x.value else None)

-- the value that the cell with number k had after the first p events, if it is still kept
abbrev pub kept_at : World → ℕ → ℕ → List Event → Option Value
kept_at w k p book = if is_outdated k p book then None else Some (after w book p k)

-- the slots of cells that no event has written
abbrev pub open_slots : List StoreCell → List Slot
open_slots cells = map (λ c. slot_of (version c.opening 0 ∷ [])) cells

-- a slot after an event that wrote this value, and is the last of so many
abbrev pub put_version : Value → ℕ → Slot → Slot
put_version v n s = record { ring = buffer (keep_last s.ring.capacity (s.ring.items ++ version v n ∷ [])) s.ring.capacity }

-- the slots after an event that wrote this to one cell, and is the last of so many
abbrev pub put_one : ℕ → List Slot → CellId × Value → List Slot
put_one n slots w = set slots w.0.number (put_version w.1 n (get_or slots w.0.number no_slot))

-- the slots after an event that wrote this, and is the last of so many
abbrev pub put_all : ℕ → List Slot → Writes → List Slot
put_all n slots [] = slots
put_all n slots (w ∷ ws) = put_one n (put_all n slots ws) w

-- whether each number that is written is below a bound
abbrev pub all_below : ℕ → Writes → Bool
all_below n [] = true
all_below n (w ∷ ws) = nat_lt w.0.number n && all_below n ws

-- an inbox is that of an agent with this mail
abbrev pub IsInbox : Bool → Mail → PlainInbox → Type 0
IsInbox goes m b = b ≡ inbox_of goes b.mailbox.is_taken m

-- an event that writes nothing and changes no agent
abbrev pub ChangesNothing : EventKind → Type 0
ChangesNothing (Read c) = Unit {0}
ChangesNothing (Commit at view ws sends) = ⊥
ChangesNothing (Retry since c cause) = Unit {0}
ChangesNothing (Fail at view) = Unit {0}
ChangesNothing (Refused at view g) = Unit {0}
ChangesNothing (Send x) = ⊥
ChangesNothing (SendRefused g) = Unit {0}
ChangesNothing (Act g n new sends) = ⊥
ChangesNothing (Swap new) = ⊥
ChangesNothing (Broke at) = ⊥

-- what the tests of a commit come to, by what they found
abbrev pub IsEnd : Option CellId → Option CellId → Option CellId → End → Type 0
IsEnd o1 o2 o3 (Reruns c) = o1 ≡ Some c
IsEnd o1 o2 o3 (Redoes c) = (o1 ≡ None) × (o2 ≡ Some c)
IsEnd o1 o2 o3 (Refuses g) = (o1 ≡ None) × (o2 ≡ None) × (o3 ≡ Some g)
IsEnd o1 o2 o3 Commits = (o1 ≡ None) × (o2 ≡ None) × (o3 ≡ None)

-- the reply to the end of an action: that it is done, or that this agent of its sends has failed
abbrev pub end_reply : Option CellId → Reply
end_reply None = reply.Done
end_reply (Some h) = reply.AgentIsFailed h

-- the end of an action with this state or fault and these sends, and that reply
abbrev pub end_served : PlainStore → ℕ → CellId → Result Value Fault → List Action → Option CellId → Served
end_served s a g new sends failed = adds a (Act g (suc (mail_after s.cells s.book g.number).acts) new sends) (end_reply failed) s.book

-- it is answered so, and the agent's action is taken no longer
abbrev pub Ends : PlainStore → ℕ → CellId → Result Value Fault → List Action → Option CellId → Reply → PlainStore → Type 0
Ends s a g new sends failed r t = Answers s (end_served s a g new sends failed) (store_after s (ask.Finish g new sends) (end_served s a g new sends failed)) r t

-- a store's parts agree
pub record IsKept (cells : List StoreCell) (threads : ℕ) (slots : List Slot) (inboxes : List PlainInbox) (views tries : List ℕ) (book : List Event) : Type 0 where
  pub many : length slots ≡ length cells
  pub as_many : length inboxes ≡ length cells
  pub values : (k : ℕ) → k < length slots → IsSlot (opening cells) book k (get_or slots k no_slot)
  pub mail : (k : ℕ) → k < length inboxes → IsInbox (goes_on (nth cells k)) (mail_after cells book k) (get_or inboxes k no_inbox)
  pub all : (a : ℕ) → StandsAt true book a (slice_index views a)
  pub some : (a : ℕ) → StandsAt false book a (slice_index tries a)
  pub legal : Legal cells threads book
  pub undisturbed : Undisturbed book
