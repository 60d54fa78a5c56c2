-- What a store keeps of its agents beside their states, without the room that there is.
use Rattle.std.specs.Prelude.{◌≡◌, ◌≤◌, ℕ, suc, Bool, true, false, ◌&&◌, nat_lt, List, [], ◌∷◌, length, map, Option, Some, None, Result, Ok, Err, is_some}
use Rattle.std.proofs.Common.{get_or, set}
use Rattle.txs_world.specs.Mailbox.{PlainMailbox, IsMailbox, empty, put, take, finish}
use Rattle.txs_value_cell.specs.declared.action.Action.{Action}
use Rattle.txs_value_data.specs.declared.fault.Fault.{Fault}
use Rattle.txs_value_data.specs.declared.value.Value.{Value}
use Rattle.txs_world_book.specs.Book.{Mail, sent_to}
use Rattle.txs_world_book.specs.declared.cell.StoreCell.{StoreCell}
use Rattle.txs_world.specs.declared.inbox.Inbox.{Inbox}

-- an inbox without its room
pub record PlainInbox : Type 0 where
  pub mailbox : PlainMailbox
  pub fault : Option Fault
  pub acts : ℕ

-- an inbox of the store, without its room
abbrev pub plain_inbox : Inbox → PlainInbox
plain_inbox b = record { mailbox = b.mailbox.plain; fault = b.fault; acts = b.acts }

-- each of these
abbrev pub plain_inboxes : List Inbox → List PlainInbox
plain_inboxes bs = map plain_inbox bs

-- an inbox to which nothing was sent
abbrev pub empty_inbox : Bool → PlainInbox
empty_inbox goes = record { mailbox = empty goes; fault = None; acts = 0 }

-- the inboxes of these cells, to which nothing was sent
abbrev pub open_inboxes : List StoreCell → List PlainInbox
open_inboxes cells = map (λ c. empty_inbox c.goes_on) cells

-- an action enters behind the others
abbrev pub with_action : Action → PlainInbox → PlainInbox
with_action x b = record b { mailbox = put x b.mailbox }

-- the first action is taken, if one may be
abbrev pub taken_up : PlainInbox → PlainInbox
taken_up b = record b { mailbox = take b.mailbox }

-- the fault that an action came to, if it faulted
abbrev pub fault_of : Result Value Fault → Option Fault
fault_of (Ok v) = None
fault_of (Err f) = Some f

-- the fault that an agent keeps: that of its action, where it made the agent failed
abbrev pub kept_fault : Bool → Option Fault → Option Fault → Option Fault
kept_fault true new old = new
kept_fault false new old = old

-- the action that was taken is over, with this fault or none
abbrev pub finished : Option Fault → PlainInbox → PlainInbox
finished fault b = record { mailbox = finish (is_some fault) b.mailbox; fault = kept_fault (finish (is_some fault) b.mailbox).has_failed fault b.fault; acts = suc b.acts }

-- what stands for an inbox that is not there
abbrev pub no_inbox : PlainInbox
no_inbox = empty_inbox false

-- the inboxes after these actions entered, in order
abbrev pub mailed_all : List PlainInbox → List Action → List PlainInbox
mailed_all bs [] = bs
mailed_all bs (x ∷ xs) = mailed_all (set bs x.agent.number (with_action x (get_or bs x.agent.number no_inbox))) xs

-- whether each action is for an agent with a number below a bound
abbrev pub all_sent_below : ℕ → List Action → Bool
all_sent_below n [] = true
all_sent_below n (x ∷ xs) = nat_lt x.agent.number n && all_sent_below n xs

-- how many more actions there is room for in the inboxes
abbrev pub rooms : List Inbox → List ℕ
rooms bs = map (λ (b : Inbox). b.mailbox.room) bs

-- each agent has room for those of these actions that are its own
abbrev pub HaveRoom : List ℕ → List Action → Type 0
HaveRoom ns xs = (k : ℕ) → length (sent_to k xs) ≤ get_or ns k 0

-- how many more actions each inbox was promised room for
abbrev pub promises : List Inbox → List ℕ
promises bs = map (λ (b : Inbox). b.promised) bs

-- the agents of the later actions have room for those of all that are their own
abbrev pub RoomFor : List ℕ → List Action → List Action → Type 0
RoomFor ns all [] = Unit {0}
RoomFor ns all (x ∷ xs) = (length (sent_to x.agent.number all) ≤ get_or ns x.agent.number 0) × RoomFor ns all xs

-- to the agents of the later actions as much was promised as the earlier ones need
abbrev pub Promised : List ℕ → List Action → List Action → Type 0
Promised ps earlier [] = Unit {0}
Promised ps earlier (x ∷ xs) = (get_or ps x.agent.number 0 ≡ length (sent_to x.agent.number earlier)) × Promised ps earlier xs

-- the inbox of an agent with this mail
abbrev pub inbox_of : Bool → Bool → Mail → PlainInbox
inbox_of goes taken m =
    record { mailbox = record { actions = m.actions; is_taken = taken; has_failed = is_some m.fault; goes_on = goes }; fault = m.fault; acts = m.acts }

-- of each agent whether its first action is taken
abbrev pub taken_of : List PlainInbox → List Bool
taken_of bs = map (λ b. b.mailbox.is_taken) bs

-- of each inbox an action that is taken is there, and its agent hasn't failed
abbrev pub AreMailboxes : List Inbox → Type 0
AreMailboxes [] = Unit {0}
AreMailboxes (b ∷ bs) = IsMailbox b.mailbox.plain × AreMailboxes bs
