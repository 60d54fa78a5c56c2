-- What the store answers, and what becomes of its book.
use Rattle.std.specs.Prelude.{◌≡◌, ℕ, suc, Bool, true, false, not, ◌&&◌, ◌||◌, ◌==◌, nat_lt, List, [], ◌∷◌, ◌++◌, length, map, set, Option, Some, None, if◌then◌else◌, Result, Ok, Err}
use Rattle.std.proofs.Common.{get_or}
use Rattle.txs_world_protocol.specs.Ask.{Writes, with_write}
use Rattle.txs_value_cell.specs.Cells.{World}
use Rattle.txs_world_protocol.specs.declared.ask.Ask.{Ask}
use Rattle.txs_world_protocol.specs.declared.ask.Ask.TheVariants as ask
use Rattle.txs_world_protocol.specs.declared.ask.Reply.{Reply}
use Rattle.txs_world_protocol.specs.declared.ask.Reply.TheVariants as reply
use Rattle.txs_value_cell.specs.declared.action.Action.{Action}
use Rattle.txs_value_cell.specs.declared.cell.CellDefinition.{CellDefinition}
use Rattle.txs_value_cell.specs.declared.cell.ErrorMode.{ErrorMode}
use Rattle.txs_value_cell.specs.declared.cell.ErrorMode.TheVariants as mode
use Rattle.txs_world_protocol.specs.declared.event.Event.{Event}
use Rattle.txs_world_protocol.specs.declared.event.Cause.{Cause}
use Rattle.txs_world_protocol.specs.declared.event.Cause.TheVariants as cause
use Rattle.txs_world_protocol.specs.declared.event.EventKind.{EventKind}
use Rattle.txs_world_protocol.specs.declared.event.EventKind.TheVariants.{Read, Commit, Retry, Fail, Refused, Send, SendRefused, Act}
use Rattle.txs_value_data.specs.declared.value.CellId.{CellId}
use Rattle.txs_value_data.specs.declared.value.Value.{Value}
use Rattle.txs_world_book.specs.Book.{has_ref, has_agent, has_readable, cells_in, are_refs, has_refs, are_sends, actor_of, actors, may_name, may_end, may_send, opening, after, newest, written, least_written, mail_after, is_failed, first_failed, is_empty, is_outdated}
use Rattle.txs_value_data.specs.Limits.{most_events}
use Rattle.txs_world_book.specs.Served.{Served, served, adds}
use Rattle.txs_world_book.specs.declared.cell.StoreCell.{StoreCell}
use Rattle.txs_value_data.specs.declared.fault.Fault.{Fault}
use Rattle.txs_value_data.specs.declared.fault.Span.{Span}
use Rattle.txs_value_data.specs.declared.fault.FaultKind.TheVariants.{AgentFailed}
use Rattle.txs_value_data.specs.Places.{fault_at}

-- a store as contracts see it: its cells as they opened, how many threads there are, its book, and of each cell whether it is an agent whose first action is taken
pub record PlainStore : Type 0 where
  pub cells : List StoreCell
  pub threads : ℕ
  pub book : List Event
  pub taken : List Bool

-- the store of these cells and so many threads, with this book and these agents' actions taken
abbrev pub store_with : List StoreCell → ℕ → List Event → List Bool → PlainStore
store_with cells threads book taken = record { cells = cells; threads = threads; book = book; taken = taken }

-- of no cell an action is taken
abbrev pub none_taken : List StoreCell → List Bool
none_taken cells = map (λ c. false) cells

-- whether the first action of the agent with this number is taken
abbrev pub is_taken : List Bool → CellId → Bool
is_taken taken g = get_or taken g.number false

-- whether the cell with this number is one of these
abbrev pub is_among : ℕ → List CellId → Bool
is_among k [] = false
is_among k (c ∷ cs) = c.number == k || is_among k cs

-- whether none of the first cells is one of the others
abbrev pub are_apart : List CellId → List CellId → Bool
are_apart [] ds = true
are_apart (c ∷ cs) ds = not (is_among c.number ds) && are_apart cs ds

-- what a commit writes: what was set, and with it what was commuted
abbrev pub merged : Writes → Writes → Writes
merged ws [] = ws
merged ws (x ∷ xs) = merged (with_write ws x.0 x.1) xs

-- whether an actor makes such asks: a thread all but to take and to finish actions; an agent's actor these of its agent, and all others but to
-- send, where its commits send nothing, since an action holds its sends up to its end
abbrev pub may_ask : List StoreCell → ℕ → ℕ → Ask → Bool
may_ask cells threads a ask.Begin = nat_lt a (actors threads cells)
may_ask cells threads a (ask.Look c at) = nat_lt a (actors threads cells)
may_ask cells threads a (ask.View cs) = nat_lt a (actors threads cells)
may_ask cells threads a (ask.Commit at sets ensured view commuted sends) = nat_lt a threads || (is_empty sends && nat_lt a (actors threads cells))
may_ask cells threads a (ask.Fail at view) = nat_lt a (actors threads cells)
may_ask cells threads a (ask.Peek c) = nat_lt a (actors threads cells)
may_ask cells threads a (ask.Send x) = nat_lt a threads
may_ask cells threads a (ask.Take g) = a == actor_of threads cells g
may_ask cells threads a (ask.Finish g new sends) = a == actor_of threads cells g
may_ask cells threads a (ask.OpenAt c) = nat_lt a (actors threads cells)
may_ask cells threads a (ask.CloseAt c at new) = nat_lt a (actors threads cells)
may_ask cells threads a (ask.Broke c at) = nat_lt a (actors threads cells)

-- whether the store has what an actor names: the cells, of the kind that is wanted; what is written ascends, and no ref is both set and commuted; the actor may name the places;
-- an agent takes an action where it has none, and finishes one where it has, which sends to agents, and nothing where it faults. What names an atom goes to the atom's book
abbrev pub has_named : PlainStore → ℕ → Ask → Bool
has_named s a ask.Begin = true
has_named s a (ask.Look c at) = has_ref s.cells c && may_name false s.book a at
has_named s a (ask.View cs) = has_refs s.cells cs
has_named s a (ask.Commit at sets ensured view commuted sends) =
    are_refs s.cells 0 (cells_in sets) && (has_refs s.cells ensured && (are_refs s.cells 0 (cells_in commuted) && (are_apart (cells_in commuted) (cells_in sets) && (are_sends s.cells sends && may_end s.book a at view))))
has_named s a (ask.Fail at view) = may_end s.book a at view
has_named s a (ask.Peek c) = has_readable s.cells c
has_named s a (ask.Send x) = has_agent s.cells x.agent
has_named s a (ask.Take g) = has_agent s.cells g && not (is_taken s.taken g)
has_named s a (ask.Finish g new sends) = has_agent s.cells g && (is_taken s.taken g && (may_send new sends && are_sends s.cells sends))
has_named s a (ask.OpenAt c) = false
has_named s a (ask.CloseAt c at new) = false
has_named s a (ask.Broke c at) = false

-- whether the actor may ask this of the store
abbrev pub is_lawful : PlainStore → ℕ → Ask → Bool
is_lawful s a q = may_ask s.cells s.threads a q && has_named s a q

-- a read in a transaction: that it has to run again where the value at the read point is no longer kept, else that value
abbrev pub looks : Bool → World → ℕ → CellId → ℕ → List Event → Served
looks true w a c at book = adds a (Retry at c cause.Outdated) (reply.Retry c) book
looks false w a c at book = served (reply.Is (after w book at c.number)) book

-- the end of a transaction, by its tests in their order: a ref that was set or ensured, a commuted ref, an agent that has failed; else its writes
abbrev pub commits : Option CellId → Option CellId → Option CellId → ℕ → ℕ → ℕ → Writes → List Action → List Event → Served
commits (Some c) o g a at view ws sends book = adds a (Retry at c cause.Held) (reply.Retry c) book
commits None (Some c) g a at view ws sends book = adds a (Retry view c (cause.Commuted at)) (reply.Changed c) book
commits None None (Some g) a at view ws sends book = adds a (Refused at view g) (reply.AgentIsFailed g) book
commits None None None a at view ws sends book = adds a (Commit at view ws sends) reply.Done book

-- a send outside every transaction, to an agent that has failed or hasn't
abbrev pub sends_to : Bool → ℕ → Action → List Event → Served
sends_to true a x book = adds a (SendRefused x.agent) (reply.AgentIsFailed x.agent) book
sends_to false a x book = adds a (Send x) reply.Done book

-- an agent's first action with its number and the agent's state, unless the agent has failed or has none
abbrev pub takes : Option Action → ℕ → Value → Reply
takes None n v = reply.Idle
takes (Some x) n v = reply.Action n x v

-- the first action that waits, unless the agent has failed
abbrev pub first_action : Bool → List Action → Option Action
first_action true xs = None
first_action false [] = None
first_action false (x ∷ xs) = Some x

-- what an agent runs next
abbrev pub next_action : List StoreCell → List Event → CellId → Option Action
next_action cells book g = first_action (is_failed cells book g) (mail_after cells book g.number).actions

-- the span of the first action, which is that of its send
abbrev pub span_of : List Action → Span
span_of [] = record { from = 0; to = 0 }
span_of (x ∷ xs) = x.span

-- the end of an action: where an agent of its sends has failed, the action faults at its own span, and sends nothing
abbrev pub finishes : Option CellId → ℕ → CellId → ℕ → Result Value Fault → List Action → Span → List Event → Served
finishes None a g n new sends span book = adds a (Act g n new sends) reply.Done book
finishes (Some h) a g n new sends span book = adds a (Act g n (Err (fault_at AgentFailed span)) []) (reply.AgentIsFailed h) book

-- what the store answers an actor, and its book after that
abbrev pub serve : List StoreCell → ℕ → Ask → List Event → Served
-- the read point is the number of events
serve cells a ask.Begin book = served (reply.At (length book)) book
-- the value at the read point, unless the ref was written too often since
serve cells a (ask.Look c at) book = looks (is_outdated c.number at book) (opening cells) a c at book
-- the number of events, and the newest values
serve cells a (ask.View cs) book = served (reply.Views (length book) (map (λ c. newest (opening cells) book c.number) cs)) book
-- the writes and sends, unless a test comes out otherwise
serve cells a (ask.Commit at sets ensured view commuted sends) book =
    commits (least_written book at (cells_in sets ++ ensured)) (least_written book view (cells_in commuted)) (first_failed cells book sends) a at view (merged sets commuted) sends book
-- the end of a transaction that faulted
serve cells a (ask.Fail at view) book = adds a (Fail at view) reply.Done book
-- the newest value
serve cells a (ask.Peek c) book = adds a (Read c) (reply.Is (newest (opening cells) book c.number)) book
-- a send, unless its agent has failed
serve cells a (ask.Send x) book = sends_to (is_failed cells book x.agent) a x book
-- the agent's first action
serve cells a (ask.Take g) book = served (takes (next_action cells book g) (suc (mail_after cells book g.number).acts) (newest (opening cells) book g.number)) book
-- what an agent's action came to, with its sends
serve cells a (ask.Finish g new sends) book =
    finishes (first_failed cells book sends) a g (suc (mail_after cells book g.number).acts) new sends (span_of (mail_after cells book g.number).actions) book
-- an atom's book answers these; no such ask is lawful here
serve cells a (ask.OpenAt c) book = served reply.Idle book
serve cells a (ask.CloseAt c at new) book = served reply.Idle book
serve cells a (ask.Broke c at) book = served reply.Idle book

-- whether a reply hands out an action
abbrev pub hands_out : Reply → Bool
hands_out (reply.Action n x v) = true
hands_out _ = false

-- whether a reply says that an action is over
abbrev pub is_over : Reply → Bool
is_over reply.Done = true
is_over (reply.AgentIsFailed g) = true
is_over _ = false

-- of each cell whether it is an agent whose first action is taken, after an ask and its reply
abbrev pub taken_after : Ask → Reply → List Bool → List Bool
taken_after ask.Begin r taken = taken
taken_after (ask.Look c at) r taken = taken
taken_after (ask.View cs) r taken = taken
taken_after (ask.Commit at sets ensured view commuted sends) r taken = taken
taken_after (ask.Fail at view) r taken = taken
taken_after (ask.Peek c) r taken = taken
taken_after (ask.Send x) r taken = taken
taken_after (ask.Take g) r taken = if hands_out r then set taken g.number true else taken
taken_after (ask.Finish g new sends) r taken = if is_over r then set taken g.number false else taken
taken_after (ask.OpenAt c) r taken = taken
taken_after (ask.CloseAt c at new) r taken = taken
taken_after (ask.Broke c at) r taken = taken

-- the store after it was asked this and served so
abbrev pub store_after : PlainStore → Ask → Served → PlainStore
store_after s q v = store_with s.cells s.threads v.book (taken_after q v.reply s.taken)

-- which replies take memory
abbrev pub TakesMemory : Reply → Type 0
TakesMemory (reply.At p) = ⊥
TakesMemory (reply.Is v) = Unit {0}
TakesMemory (reply.Views p vs) = Unit {0}
TakesMemory reply.Done = Unit {0}
TakesMemory (reply.Retry c) = Unit {0}
TakesMemory (reply.Changed c) = Unit {0}
TakesMemory (reply.AgentIsFailed g) = Unit {0}
TakesMemory (reply.Action n x v) = Unit {0}
TakesMemory reply.Idle = ⊥
TakesMemory (reply.Opened p v) = Unit {0}
TakesMemory reply.Full = ⊥
TakesMemory reply.Memory = ⊥

-- the reply that was served is given, and the store is the one after it; where there was no memory for it the store says so and stays as it was
abbrev pub Answers : PlainStore → Served → PlainStore → Reply → PlainStore → Type 0
Answers s v next (reply.At p) t = (reply.At p ≡ v.reply) × (t ≡ next)
Answers s v next (reply.Is x) t = (reply.Is x ≡ v.reply) × (t ≡ next)
Answers s v next (reply.Views p xs) t = (reply.Views p xs ≡ v.reply) × (t ≡ next)
Answers s v next reply.Done t = (reply.Done ≡ v.reply) × (t ≡ next)
Answers s v next (reply.Retry c) t = (reply.Retry c ≡ v.reply) × (t ≡ next)
Answers s v next (reply.Changed c) t = (reply.Changed c ≡ v.reply) × (t ≡ next)
Answers s v next (reply.AgentIsFailed g) t = (reply.AgentIsFailed g ≡ v.reply) × (t ≡ next)
Answers s v next (reply.Action n x w) t = (reply.Action n x w ≡ v.reply) × (t ≡ next)
Answers s v next reply.Idle t = (reply.Idle ≡ v.reply) × (t ≡ next)
Answers s v next (reply.Opened p x) t = (reply.Opened p x ≡ v.reply) × (t ≡ next)
Answers s v next reply.Full t = (reply.Full ≡ v.reply) × (t ≡ next)
Answers s v next reply.Memory t = TakesMemory v.reply × (t ≡ s)

-- the store answers what was served, and no agent's action is taken or finished
abbrev pub Replies : PlainStore → Served → Reply → PlainStore → Type 0
Replies s v r t = Answers s v (store_with s.cells s.threads v.book s.taken) r t
