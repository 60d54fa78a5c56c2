-- What it is that the commits of a run are as if its transactions had run one after the other.
use Rattle.std.specs.Prelude.{◌≡◌, ℕ, suc, Bool, true, false, ◌==◌, ◌&&◌, nat_lt, List, [], ◌∷◌, ◌++◌, Option, None, Some, if◌then◌else◌}
use Rattle.txs_world_protocol.specs.Ask.{Writes}
use Rattle.txs_world_protocol.specs.declared.event.Event.{Event}
use Rattle.txs_world_protocol.specs.declared.event.EventKind.{EventKind}
use Rattle.txs_world_protocol.specs.declared.event.EventKind.TheVariants.{Commit, Refused, Act}
use Rattle.txs_world_book.specs.Book.{changed}
use Rattle.txs_value_cell.specs.Cells.{World, Validators, validators_of}
use Rattle.txs_value_cell.specs.declared.cell.CellDefinition.{CellDefinition}
use Rattle.txs_value_data.specs.Places.{nth}
use Rattle.txs_tree_meaning.specs.Thread.{TxRun}
use Rattle.txs_tree_meaning.specs.Tree.{PlainFunction}
use Rattle.txs_frame.specs.Frame.{sends_of_commit}
use Rattle.txs_value_cell.specs.declared.action.Action.{Action}
use Rattle.txs_theorem_runs.specs.Agents.{ActionDid}
use Rattle.txs_theorem_runs.specs.Shared.{world_of}
use Rattle.txs_theorem_runs.specs.Told.{Place, TraceHolds, seen_of}
use Rattle.txs_theorem_runs.specs.Transactions.{Says, SaidOf, undisturbed}
use Rattle.txs_theorem_serial.specs.Serial.{is_covered, IsSerial, RunsOf}

-- each transaction that was committed is covered
abbrev pub all_covered : Says
all_covered = record { commit = λ n k at ws sends x. is_covered x.state ≡ true; refusal = λ n k at g x. Unit {0} }

-- each one came to its end in the store's book, and each covered one that was committed is serial at its place there
abbrev pub serial_if_covered : List PlainFunction → ℕ → List CellDefinition → (ℕ → List Event) → Says
serial_if_covered functions turns cells books = record {
  commit = λ n k at ws sends x. (n ≡ 0) × (is_covered x.state ≡ true → IsSerial functions (validators_of cells) turns x (world_of cells 0 (books 0) k) ws x.state.done.sends);
  refusal = λ n k at g x. n ≡ 0;
}

-- What a thread did: its trace names its events, and of each commit and refusal there is a transaction, which was undisturbed.
pub record ThreadDid (functions : List PlainFunction) (turns : ℕ) (cells : List CellDefinition) (books : ℕ → List Event) (a : ℕ) (trace : List Place) (xs : List TxRun) : Type 0 where
  pub traced : TraceHolds books a trace
  pub runs : RunsOf functions (validators_of cells) None turns (seen_of cells books trace) xs
  pub calm : SaidOf (undisturbed cells books) books trace xs

-- ---- agents

-- What an agent did for each of its actions: of each commit there is a transaction, whose sends the action held, and which was undisturbed.
abbrev pub ActionsDid : List PlainFunction → List CellDefinition → (ℕ → List Event) → List ActionDid → Type 0
ActionsDid functions cells books [] = Unit {0}
ActionsDid functions cells books (d ∷ ds) =
    RunsOf functions (validators_of cells) (Some []) d.turns (seen_of cells books d.trace) d.txs × SaidOf (undisturbed cells books) books d.trace d.txs × ActionsDid functions cells books ds

-- whether an event is an act
abbrev pub is_act_kind : EventKind → Bool
is_act_kind (Act g k new sends) = true
is_act_kind _ = false

-- the same, where there is one
abbrev pub is_act : Option Event → Bool
is_act None = false
is_act (Some e) = is_act_kind e.kind

-- a trace without its acts
abbrev pub without_acts : (ℕ → List Event) → List Place → List Place
without_acts books [] = []
without_acts books (p ∷ ps) = if is_act (nth (books p.book) p.at) then without_acts books ps else p ∷ without_acts books ps

-- all that was done for these actions, and all of their transactions
abbrev pub all_traces : List ActionDid → List Place
all_traces [] = []
all_traces (d ∷ ds) = d.trace ++ all_traces ds

abbrev pub all_txs : List ActionDid → List TxRun
all_txs [] = []
all_txs (d ∷ ds) = d.txs ++ all_txs ds

-- what an agent did: its trace names its events, which but for the acts are those of its actions
pub record AgentDid (functions : List PlainFunction) (cells : List CellDefinition) (books : ℕ → List Event) (a : ℕ) (trace : List Place) (ds : List ActionDid) : Type 0 where
  pub traced : TraceHolds books a trace
  pub parted : without_acts books trace ≡ all_traces ds
  pub did : ActionsDid functions cells books ds

-- whether an actor's commits are those of actions, which hold their sends: those of agents are
abbrev pub holds_sends : ℕ → ℕ → Option (List Action)
holds_sends threads a = if nat_lt a threads then None else Some []

-- A commit is what a transaction does alone on this world: the transaction gives the commit's writes, its own sends and, where it is wanted, its result. In
-- an action its sends join those that the action holds, and the commit has none.
abbrev pub CommitAlone : List PlainFunction → Validators → ℕ → ℕ → World → Writes → List Action → TxRun → Type 0
CommitAlone functions validators threads a W ws sends x =
    (turns : ℕ) × IsSerial functions validators turns x W ws x.state.done.sends × (sends ≡ sends_of_commit (holds_sends threads a) x.state.done.sends)

-- the transactions to come of each actor, where those of this actor are these
abbrev pub with_runs : ℕ → List TxRun → (ℕ → List TxRun) → ℕ → List TxRun
with_runs a xs runs b = if a == b then xs else runs b

-- the first transaction to come of this actor is such a one, and this is said of those to come behind it
abbrev pub TakesFirst : (TxRun → Type 0) → ℕ → (ℕ → List TxRun) → ((ℕ → List TxRun) → Type 0) → Type 0
TakesFirst Such a runs rest = (x : TxRun) × (xs : List TxRun) × (runs a ≡ x ∷ xs) × Such x × rest (with_runs a xs runs)

-- An event of this actor on this world: a commit is that of its first transaction to come, alone there; a refusal ends its first one, and changes nothing; any
-- other event leaves them all to come.
abbrev pub EventAlone : List PlainFunction → Validators → ℕ → ℕ → World → EventKind → (ℕ → List TxRun) → ((ℕ → List TxRun) → Type 0) → Type 0
EventAlone functions validators threads a W (Commit at view ws sends) runs rest = TakesFirst (CommitAlone functions validators threads a W ws sends) a runs rest
EventAlone functions validators threads a W (Refused at view g) runs rest = TakesFirst (λ x. Unit {0}) a runs rest
EventAlone functions validators threads a W _ runs rest = rest runs

-- The transactions of these actors, run one after the other in the order of a book, each on the world that those before it left, do what its commits say:
-- each is that of one commit or one refusal of its actor, in order, and none is left.
abbrev pub OneByOne : List PlainFunction → Validators → ℕ → (ℕ → List TxRun) → World → List Event → Type 0
OneByOne functions validators threads runs W [] = (a : ℕ) → runs a ≡ []
OneByOne functions validators threads runs W (e ∷ es) =
    EventAlone functions validators threads e.actor W e.kind runs (λ rest. OneByOne functions validators threads rest (changed e.kind W) es)

-- whether an event ends a transaction: a commit or a refusal does
abbrev pub ends_one : EventKind → Bool
ends_one (Commit at view ws sends) = true
ends_one (Refused at view g) = true
ends_one _ = false

-- how many of these events end a transaction of this actor
abbrev pub ends_by : ℕ → List Event → ℕ
ends_by a [] = 0
ends_by a (e ∷ es) = if e.actor == a && ends_one e.kind then suc (ends_by a es) else ends_by a es
