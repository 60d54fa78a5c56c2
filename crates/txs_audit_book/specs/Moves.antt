-- What an event makes of what is kept.
use Rattle.std.specs.Prelude.{◌≡◌, ◌≤◌, ◌<◌, ℕ, suc, Bool, true, false, ◌&&◌, ◌==◌, nat_lt, List, [], ◌∷◌, ◌++◌, length, set, Option, Some, None, Result, Ok, Err, if◌then◌else◌}
use Rattle.std.proofs.Common.{get_or}
use Rattle.txs_tree_eval_transaction.specs.Pasts.{latest}
use Rattle.txs_value_data.specs.Places.{nth}
use Rattle.txs_value_data.specs.declared.fault.Fault.{Fault}
use Rattle.txs_value_cell.specs.declared.action.Action.{Action}
use Rattle.txs_value_data.specs.declared.value.Value.{Value}
use Rattle.txs_world_book.specs.Book.{goes_on, sent_to, writes_of}
use Rattle.txs_world_book.specs.declared.cell.StoreCell.{StoreCell}
use Rattle.txs_world_protocol.specs.Ask.{Writes, buffered}
use Rattle.txs_world_protocol.specs.declared.event.EventKind.{EventKind}
use Rattle.txs_world_protocol.specs.declared.event.EventKind.TheVariants.{Read, Commit, Retry, Fail, Refused, Send, SendRefused, Act, Swap, Broke}
use Rattle.txs_audit_book.specs.Gone.{PlainInbox, no_inbox}

-- ---- values

-- one more value
abbrev pub with_value : List (List (ℕ × Value)) → ℕ → ℕ → Value → List (List (ℕ × Value))
with_value hs k n v = set hs k (get_or hs k [] ++ (n, v) ∷ [])

-- the histories where these cells got these values at an event that is the last of so many
abbrev pub written_all : ℕ → List (List (ℕ × Value)) → Writes → List (List (ℕ × Value))
written_all n hs [] = hs
written_all n hs (w ∷ ws) = written_all n (with_value hs w.0.number n w.1) ws

-- whether each number that is written is below a bound
abbrev pub all_below : ℕ → Writes → Bool
all_below n [] = true
all_below n (w ∷ ws) = nat_lt w.0.number n && all_below n ws

-- no value has an index above this one
abbrev pub AllWithin : ℕ → List (List (ℕ × Value)) → Type 0
AllWithin n hs = (k : ℕ) → latest 0 (get_or hs k []) ≤ n

-- a history after an event that gave its cell this value, if any
abbrev pub with_entry : ℕ → Option Value → List (ℕ × Value) → List (ℕ × Value)
with_entry n None h = h
with_entry n (Some v) h = h ++ (n, v) ∷ []

-- each history after an event that is the last of so many
pub record HistoriesMove (n : ℕ) (d : EventKind) (old new : List (List (ℕ × Value))) : Type 0 where
  pub many : length new ≡ length old
  pub each : (k : ℕ) → k < length old → get_or new k [] ≡ with_entry n (buffered (writes_of d) k) (get_or old k [])

-- ---- mail

-- these actions are sent
abbrev pub entered : List Action → PlainInbox → PlainInbox
entered xs b = record { sent = b.sent ++ xs; acts = b.acts; fault = b.fault; failed = b.failed }

-- the first action came to this, at an event that is the last of so many
abbrev pub acted_in : Bool → ℕ → Result Value Fault → PlainInbox → PlainInbox
acted_in goes n (Ok v) b = record { sent = b.sent; acts = suc b.acts; fault = b.fault; failed = b.failed }
acted_in true n (Err f) b = record { sent = b.sent; acts = suc b.acts; fault = b.fault; failed = b.failed }
acted_in false n (Err f) b = record { sent = b.sent; acts = suc b.acts; fault = Some f; failed = n }

-- the inboxes where these actions are sent
abbrev pub entered_all : List PlainInbox → List Action → List PlainInbox
entered_all bs [] = bs
entered_all bs (x ∷ xs) = entered_all (set bs x.agent.number (entered (x ∷ []) (get_or bs x.agent.number no_inbox))) xs

-- whether each action is for a cell below a bound
abbrev pub all_sent_below : ℕ → List Action → Bool
all_sent_below n [] = true
all_sent_below n (x ∷ xs) = nat_lt x.agent.number n && all_sent_below n xs

-- an inbox after an event that is the last of so many
abbrev pub inbox_changed : Bool → ℕ → ℕ → EventKind → PlainInbox → PlainInbox
inbox_changed goes k n (Read c) b = b
inbox_changed goes k n (Commit at view ws sends) b = entered (sent_to k sends) b
inbox_changed goes k n (Retry since c cause) b = b
inbox_changed goes k n (Fail at view) b = b
inbox_changed goes k n (Refused at view g) b = b
inbox_changed goes k n (Send x) b = entered (sent_to k (x ∷ [])) b
inbox_changed goes k n (SendRefused g) b = b
-- what an action sends enters once its end is set
inbox_changed goes k n (Act g number new sends) b = entered (sent_to k sends) (if g.number == k then acted_in goes n new b else b)
inbox_changed goes k n (Swap new) b = b
inbox_changed goes k n (Broke at) b = b

-- each inbox after an event that is the last of so many
pub record InboxesMove (cells : List StoreCell) (n : ℕ) (d : EventKind) (old new : List PlainInbox) : Type 0 where
  pub many : length new ≡ length old
  pub each : (k : ℕ) → k < length old → get_or new k no_inbox ≡ inbox_changed (goes_on (nth cells k)) k n d (get_or old k no_inbox)

-- the inboxes after an event that is the last of so many
abbrev pub mail_put : List StoreCell → ℕ → EventKind → List PlainInbox → List PlainInbox
mail_put cells n (Read c) bs = bs
mail_put cells n (Commit at view ws sends) bs = entered_all bs sends
mail_put cells n (Retry since c cause) bs = bs
mail_put cells n (Fail at view) bs = bs
mail_put cells n (Refused at view g) bs = bs
mail_put cells n (Send x) bs = entered_all bs (x ∷ [])
mail_put cells n (SendRefused g) bs = bs
mail_put cells n (Act g number new sends) bs = entered_all (set bs g.number (acted_in (goes_on (nth cells g.number)) n new (get_or bs g.number no_inbox))) sends
mail_put cells n (Swap new) bs = bs
mail_put cells n (Broke at) bs = bs

-- there are the inboxes of an event, and the action of one that ran one
abbrev pub MayPut : List StoreCell → List PlainInbox → EventKind → Type 0
MayPut cells bs (Read c) = Unit {0}
MayPut cells bs (Commit at view ws sends) = all_sent_below (length bs) sends ≡ true
MayPut cells bs (Retry since c cause) = Unit {0}
MayPut cells bs (Fail at view) = Unit {0}
MayPut cells bs (Refused at view g) = Unit {0}
MayPut cells bs (Send x) = all_sent_below (length bs) (x ∷ []) ≡ true
MayPut cells bs (SendRefused g) = Unit {0}
MayPut cells bs (Act g number new sends) =
    (g.number < length cells) × (g.number < length bs) × ((get_or bs g.number no_inbox).acts < length (get_or bs g.number no_inbox).sent) × (all_sent_below (length bs) sends ≡ true)
MayPut cells bs (Swap new) = Unit {0}
MayPut cells bs (Broke at) = Unit {0}
