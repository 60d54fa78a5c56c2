-- The book of what actors did to the store, the refs, the agents' states and their mail after its first events, and which books are legal.
use Rattle.std.specs.Prelude.{◌≡◌, ◌≤◌, ℕ, zero, suc, Bool, true, false, not, ◌&&◌, ◌||◌, ◌==◌, ◌+◌, nat_lt, nat_le, List, [], ◌∷◌, ◌++◌, length, drop, map, Option, Some, None, Result, Ok, Err, if◌then◌else◌}
use Rattle.txs_world_protocol.specs.Ask.{Writes, buffered}
use Rattle.txs_value_data.specs.Limits.{most_events}
use Rattle.txs_value_cell.specs.Cells.{World}
use Rattle.txs_value_cell.specs.Forms.{same_kind}
use Rattle.txs_value_data.specs.Places.{nth}
use Rattle.txs_world_protocol.specs.declared.event.Event.{Event}
use Rattle.txs_world_protocol.specs.declared.event.Cause.{Cause}
use Rattle.txs_world_protocol.specs.declared.event.Cause.TheVariants.{Outdated, Held, Commuted}
use Rattle.txs_world_protocol.specs.declared.event.EventKind.{EventKind}
use Rattle.txs_world_protocol.specs.declared.event.EventKind.TheVariants.{Read, Commit, Retry, Fail, Refused, Send, SendRefused, Act, Swap, Broke}
use Rattle.txs_value_cell.specs.declared.action.Action.{Action}
use Rattle.txs_value_data.specs.declared.fault.Fault.{Fault}
use Rattle.txs_value_data.specs.declared.value.CellId.{CellId}
use Rattle.txs_value_data.specs.declared.value.CellKind.{CellKind}
use Rattle.txs_value_data.specs.declared.value.CellKind.TheVariants.{Ref, Atom, Agent}
use Rattle.txs_value_data.specs.declared.value.Value.{Value}
use Rattle.txs_value_data.specs.declared.value.Value.TheVariants.{Nil}
use Rattle.txs_world_book.specs.declared.cell.StoreCell.{StoreCell}

-- ---- cells

-- whether there is a cell, and it is of this kind
abbrev pub is_of_kind : CellKind → Option StoreCell → Bool
is_of_kind k None = false
is_of_kind k (Some s) = same_kind k s.kind

-- whether the store has a cell of this kind and number
abbrev pub has_cell : List StoreCell → CellId → Bool
has_cell cells c = is_of_kind c.kind (nth cells c.number)

-- whether the store has this cell, and it is a ref
abbrev pub has_ref : List StoreCell → CellId → Bool
has_ref cells c = same_kind c.kind Ref && has_cell cells c

-- whether the store has this cell, and it is an agent
abbrev pub has_agent : List StoreCell → CellId → Bool
has_agent cells c = same_kind c.kind Agent && has_cell cells c

-- whether the store has this cell, and it isn't an atom, which has a book of its own
abbrev pub has_readable : List StoreCell → CellId → Bool
has_readable cells c = not (same_kind c.kind Atom) && has_cell cells c

-- the cells that are written
abbrev pub cells_in : Writes → List CellId
cells_in ws = map (λ w. w.0) ws

-- whether these are refs of the store, their numbers ascending, from this one on
abbrev pub are_refs : List StoreCell → ℕ → List CellId → Bool
are_refs cells n [] = true
are_refs cells n (c ∷ cs) = has_ref cells c && (nat_le n c.number && are_refs cells (suc c.number) cs)

-- whether each of these cells is a ref of the store
abbrev pub has_refs : List StoreCell → List CellId → Bool
has_refs cells [] = true
has_refs cells (c ∷ cs) = has_ref cells c && has_refs cells cs

-- whether these actions are for agents of the store
abbrev pub are_sends : List StoreCell → List Action → Bool
are_sends cells [] = true
are_sends cells (x ∷ xs) = has_agent cells x.agent && are_sends cells xs

-- the value that a cell opened with, nil where there is no cell
abbrev pub opened : Option StoreCell → Value
opened None = Nil
opened (Some s) = s.opening

-- the values that the cells open with
abbrev pub opening : List StoreCell → World
opening cells k = opened (nth cells k)

-- whether an agent continues after a fault
abbrev pub goes_on : Option StoreCell → Bool
goes_on None = false
goes_on (Some s) = s.goes_on

-- how many agents there are among the first k cells
abbrev pub agents_below : List StoreCell → ℕ → ℕ
agents_below [] k = 0
agents_below (s ∷ cells) zero = 0
agents_below (s ∷ cells) (suc k) = if same_kind s.kind Agent then suc (agents_below cells k) else agents_below cells k

-- the actor of an agent: the threads come first, then the agents in the order of their cells
abbrev pub actor_of : ℕ → List StoreCell → CellId → ℕ
actor_of threads cells g = threads + agents_below cells g.number

-- how many actors there are: the threads and the agents
abbrev pub actors : ℕ → List StoreCell → ℕ
actors threads cells = threads + agents_below cells (length cells)

-- ---- the replay

-- the value that is there, else another one
abbrev pub value_or : Option Value → Value → Value
value_or None v = v
value_or (Some w) v = w

-- the state that an action gives its agent: none where it faulted
abbrev pub state_of : CellId → Result Value Fault → Writes
state_of g (Ok v) = (g, v) ∷ []
state_of g (Err f) = []

-- the values that an event gives the store's cells: a commit those of its refs, an action the state of its agent
abbrev pub writes_of : EventKind → Writes
writes_of (Read c) = []
writes_of (Commit at view ws sends) = ws
writes_of (Retry since c cause) = []
writes_of (Fail at view) = []
writes_of (Refused at view g) = []
writes_of (Send x) = []
writes_of (SendRefused g) = []
writes_of (Act g n new sends) = state_of g new
writes_of (Swap new) = []
writes_of (Broke at) = []

-- the cells after an event
abbrev pub changed : EventKind → World → World
changed d R = λ k. value_or (buffered (writes_of d) k) (R k)

-- the cells after the first k events
abbrev pub after : World → List Event → ℕ → World
after R [] k = R
after R (e ∷ es) zero = R
after R (e ∷ es) (suc k) = after (changed e.kind R) es k

-- the newest values
abbrev pub newest : World → List Event → World
newest R book = after R book (length book)

-- whether something is there
abbrev pub is_there : {A : Type 0} → Option A → Bool
is_there None = false
is_there (Some x) = true

-- whether the cell with this number is among these writes
abbrev pub is_buffered : Writes → ℕ → Bool
is_buffered ws k = is_there (buffered ws k)

-- whether an event writes the cell with this number
abbrev pub writes_to : EventKind → ℕ → Bool
writes_to d k = is_there (buffered (writes_of d) k)

-- whether the cell with this number is written at place p or later
abbrev pub written : ℕ → ℕ → List Event → Bool
written k p [] = false
written k zero (e ∷ es) = writes_to e.kind k || written k zero es
written k (suc p) (e ∷ es) = written k p es

-- how often the cell with this number is written at place p or later
abbrev pub times_written : ℕ → ℕ → List Event → ℕ
times_written k p [] = 0
times_written k zero (e ∷ es) = if writes_to e.kind k then suc (times_written k zero es) else times_written k zero es
times_written k (suc p) (e ∷ es) = times_written k p es

-- how many values of a cell are kept beside its newest
abbrev pub most_older : ℕ
most_older = 10

-- whether the value that the cell with this number had at place p is no longer kept: it was written more often since
abbrev pub is_outdated : ℕ → ℕ → List Event → Bool
is_outdated k p book = nat_lt most_older (times_written k p book)

-- the one of two cells with the lesser number
abbrev pub least : Option CellId → Option CellId → Option CellId
least None o = o
least (Some c) None = Some c
least (Some c) (Some d) = if nat_le c.number d.number then Some c else Some d

-- the least of these cells that is written at place p or later
abbrev pub least_written : List Event → ℕ → List CellId → Option CellId
least_written book p [] = None
least_written book p (c ∷ cs) = if written c.number p book then least (Some c) (least_written book p cs) else least_written book p cs

-- ---- the agents' mail

-- what is known of an agent beside its state: the actions that wait, in order, the fault if it has failed, and how many actions it has run
pub record Mail : Type 0 where
  pub actions : List Action
  pub fault : Option Fault
  pub acts : ℕ

-- the mail of an agent to which nothing was sent
abbrev pub no_mail : Mail
no_mail = record { actions = []; fault = None; acts = 0 }

-- those of these actions that are for the agent with this number, in order
abbrev pub sent_to : ℕ → List Action → List Action
sent_to k [] = []
sent_to k (x ∷ xs) = if x.agent.number == k then x ∷ sent_to k xs else sent_to k xs

-- these actions enter behind the others
abbrev pub mailed : List Action → Mail → Mail
mailed xs m = record m { actions = m.actions ++ xs }

-- the mail after its first action came to this; a fault makes the agent failed, unless it continues
abbrev pub acted : Bool → Result Value Fault → Mail → Mail
acted goes (Ok v) m = record { actions = drop 1 m.actions; fault = m.fault; acts = suc m.acts }
acted true (Err f) m = record { actions = drop 1 m.actions; fault = m.fault; acts = suc m.acts }
acted false (Err f) m = record { actions = drop 1 m.actions; fault = Some f; acts = suc m.acts }

-- the mail of the agent with this number after an event; what an action sends enters once its agent's state is set
abbrev pub mail_changed : Bool → ℕ → EventKind → Mail → Mail
mail_changed goes k (Read c) m = m
mail_changed goes k (Commit at view ws sends) m = mailed (sent_to k sends) m
mail_changed goes k (Retry since c cause) m = m
mail_changed goes k (Fail at view) m = m
mail_changed goes k (Refused at view g) m = m
mail_changed goes k (Send x) m = mailed (sent_to k (x ∷ [])) m
mail_changed goes k (SendRefused g) m = m
mail_changed goes k (Act g n new sends) m = mailed (sent_to k sends) (if g.number == k then acted goes new m else m)
mail_changed goes k (Swap new) m = m
mail_changed goes k (Broke at) m = m

-- the mail after these events, from some mail on
abbrev pub mail_from : Bool → ℕ → Mail → List Event → Mail
mail_from goes k m [] = m
mail_from goes k m (e ∷ es) = mail_from goes k (mail_changed goes k e.kind m) es

-- the mail of the agent with this number after a book
abbrev pub mail_after : List StoreCell → List Event → ℕ → Mail
mail_after cells book k = mail_from (goes_on (nth cells k)) k no_mail book

-- whether an agent is failed after a book
abbrev pub is_failed : List StoreCell → List Event → CellId → Bool
is_failed cells book g = is_there (mail_after cells book g.number).fault

-- the agent of the first of these actions whose agent is failed
abbrev pub first_failed : List StoreCell → List Event → List Action → Option CellId
first_failed cells book [] = None
first_failed cells book (x ∷ xs) = if is_failed cells book x.agent then Some x.agent else first_failed cells book xs

-- whether an action waits
abbrev pub waits : List Action → Bool
waits [] = false
waits (x ∷ xs) = true

-- whether there is nothing
abbrev pub is_empty : {A : Type 0} → List A → Bool
is_empty [] = true
is_empty (x ∷ xs) = false

-- ---- legal books

-- whether an action that came to this may send these: one that faults sends nothing
abbrev pub may_send : Result Value Fault → List Action → Bool
may_send (Ok v) sends = true
may_send (Err f) sends = is_empty sends

-- whether an actor makes such events: a thread all but actions; an agent's actor those of its agent, and all others but sends and refused
-- transactions, where its commits send nothing, since an action holds its sends up to its end
abbrev pub makes : List StoreCell → ℕ → ℕ → EventKind → Bool
makes cells threads a (Read c) = nat_lt a (actors threads cells)
makes cells threads a (Commit at view ws sends) = nat_lt a threads || (is_empty sends && nat_lt a (actors threads cells))
makes cells threads a (Retry since c cause) = nat_lt a (actors threads cells)
makes cells threads a (Fail at view) = nat_lt a (actors threads cells)
makes cells threads a (Refused at view g) = nat_lt a threads
makes cells threads a (Send x) = nat_lt a threads
makes cells threads a (SendRefused g) = nat_lt a threads
makes cells threads a (Act g n new sends) = a == actor_of threads cells g
makes cells threads a (Swap new) = nat_lt a (actors threads cells)
makes cells threads a (Broke at) = nat_lt a (actors threads cells)

-- whether the commutes alone are made again
abbrev pub is_again : Cause → Bool
is_again Outdated = false
is_again Held = false
is_again (Commuted at) = true

-- whether an event is the end of a commute phase that has to be made again
abbrev pub is_redo : EventKind → Bool
is_redo (Read c) = false
is_redo (Commit at view ws sends) = false
is_redo (Retry since c cause) = is_again cause
is_redo (Fail at view) = false
is_redo (Refused at view g) = false
is_redo (Send x) = false
is_redo (SendRefused g) = false
is_redo (Act g n new sends) = false
is_redo (Swap new) = false
is_redo (Broke at) = false

-- whether an event is one that a place has to be behind: every one is behind a view, all but redone commutes behind a read point
abbrev pub counts : Bool → EventKind → Bool
counts all d = all || not (is_redo d)

-- whether every event of the actor that counts is before place p
abbrev pub all_before : Bool → ℕ → ℕ → List Event → Bool
all_before all a p [] = true
all_before all a zero (e ∷ es) = not (e.actor == a && counts all e.kind) && all_before all a zero es
all_before all a (suc p) (e ∷ es) = all_before all a p es

-- whether the actor may name this place after these events: it is one of theirs or their end, and what the actor did is before it, but for redone commutes where not all counts
abbrev pub may_name : Bool → List Event → ℕ → ℕ → Bool
may_name all done a p = nat_le p (length done) && all_before all a p done

-- whether the actor may name this read point and this view after these events
abbrev pub may_end : List Event → ℕ → ℕ → ℕ → Bool
may_end done a at view = nat_le at view && (may_name false done a at && may_name true done a view)

-- whether the actor may have had to run again for this after these events: for a value that is no longer kept, for a ref that it set or ensured, and from
-- a read point and a view on where its commutes alone are made again
abbrev pub may_rerun : List Event → ℕ → ℕ → CellId → Cause → Bool
may_rerun done a since c Outdated = may_name false done a since && is_outdated c.number since done
may_rerun done a since c Held = may_name false done a since
may_rerun done a since c (Commuted at) = may_end done a at since

-- what an actor may have done after these events; an action sends to agents that haven't failed, and nothing where it faults
abbrev pub LegalKind : List StoreCell → List Event → ℕ → EventKind → Type 0
LegalKind cells done a (Read c) = has_readable cells c ≡ true
LegalKind cells done a (Commit at view ws sends) =
    (are_refs cells 0 (cells_in ws) ≡ true) × (are_sends cells sends ≡ true) × (may_end done a at view ≡ true) × (first_failed cells done sends ≡ None)
LegalKind cells done a (Retry since c cause) = (has_ref cells c ≡ true) × (may_rerun done a since c cause ≡ true) × (written c.number since done ≡ true)
LegalKind cells done a (Fail at view) = may_end done a at view ≡ true
LegalKind cells done a (Refused at view g) = (has_agent cells g ≡ true) × (may_end done a at view ≡ true) × (is_failed cells done g ≡ true)
LegalKind cells done a (Send x) = (has_agent cells x.agent ≡ true) × (is_failed cells done x.agent ≡ false)
LegalKind cells done a (SendRefused g) = (has_agent cells g ≡ true) × (is_failed cells done g ≡ true)
LegalKind cells done a (Act g n new sends) =
    (has_agent cells g ≡ true) × (is_failed cells done g ≡ false) × (waits (mail_after cells done g.number).actions ≡ true) × (n ≡ suc (mail_after cells done g.number).acts)
    × (may_send new sends ≡ true) × (are_sends cells sends ≡ true) × (first_failed cells done sends ≡ None)
LegalKind cells done a (Swap new) = ⊥
LegalKind cells done a (Broke at) = ⊥

-- of each event, with those before it
abbrev pub Each : (List Event → Event → Type 0) → List Event → List Event → Type 0
Each P done [] = Unit {0}
Each P done (e ∷ es) = P done e × Each P (done ++ e ∷ []) es

-- a book of the store of these cells and so many threads: it isn't too long, and each event is one that its actor makes, and may be after those before it
pub record Legal (cells : List StoreCell) (threads : ℕ) (book : List Event) : Type 0 where
  pub few : length book ≤ most_events
  pub made : Each (λ done e. makes cells threads e.actor e.kind ≡ true) [] book
  pub each : Each (λ done e. LegalKind cells done e.actor e.kind) [] book

-- none of these cells is written at place p or later
abbrev pub Untouched : List Event → ℕ → List CellId → Type 0
Untouched done p [] = Unit {0}
Untouched done p (c ∷ cs) = (written c.number p done ≡ false) × Untouched done p cs

-- after these events a commit finds none of its refs written since its view
abbrev pub Guarded : List Event → EventKind → Type 0
Guarded done (Read c) = Unit {0}
Guarded done (Commit at view ws sends) = Untouched done view (cells_in ws)
Guarded done (Retry since c cause) = Unit {0}
Guarded done (Fail at view) = Unit {0}
Guarded done (Refused at view g) = Unit {0}
Guarded done (Send x) = Unit {0}
Guarded done (SendRefused g) = Unit {0}
Guarded done (Act g n new sends) = Unit {0}
Guarded done (Swap new) = Unit {0}
Guarded done (Broke at) = Unit {0}

-- no ref that a transaction wrote was written between its view and its commit
abbrev pub Undisturbed : List Event → Type 0
Undisturbed book = Each (λ done e. Guarded done e.kind) [] book
