-- What alike states can't do without: for each part two states, or two actors, that are the same in the other parts and that can be told apart.
use Rattle.std.specs.Prelude.{◌≡◌, ℕ, List, [], ◌∷◌, Some}
use Rattle.txs_world_protocol.specs.Ask.{Writes}
use Rattle.txs_world_protocol.specs.declared.ask.Ask.TheVariants as ask
use Rattle.txs_world_protocol.specs.declared.ask.Reply.TheVariants as reply
use Rattle.txs_value_cell.specs.declared.action.Action.{Action}
use Rattle.txs_value_cell.specs.declared.cell.CellDefinition.{CellDefinition}
use Rattle.txs_value_data.specs.declared.fault.Span.{Span}
use Rattle.txs_value_data.specs.declared.value.CellId.{CellId}
use Rattle.txs_value_data.specs.declared.value.CellKind.TheVariants.{Ref, Agent}
use Rattle.txs_value_data.specs.declared.value.Value.{Value}
use Rattle.txs_world_book.specs.Book.{opening, after, newest, written, mail_after}
use Rattle.txs_world_book.specs.Served.{cells_of}
use Rattle.txs_code_meaning.specs.Machine.{ThreadCode, TxBegin, fetch, Configuration, Unfinished, turn}
use Rattle.txs_code_meaning.specs.Opening.{given}
use Rattle.txs_theorem_runs.specs.Run.{exchange}
use Rattle.txs_theorem_runs.specs.Shared.{Shared}
use Rattle.txs_theorem_alike.specs.Actors.{none, plain_at}
use Rattle.txs_theorem_alike.specs.Beginnings.{undo}
use Rattle.txs_theorem_alike.specs.Books.{SamePoint, Alike}
use Rattle.txs_theorem_alike.specs.Commits.{reply_to}
use Rattle.txs_theorem_alike.specs.Renaming.{with_places}
use Rattle.txs_theorem_alike.specs.Stages.{behind}

-- a script with one ref, whatever it opens with
abbrev pub one_ref : CellDefinition → List CellDefinition
one_ref d = record d { kind = Ref } ∷ []

-- a script with one agent
abbrev pub one_agent : CellDefinition → List CellDefinition
one_agent d = record d { kind = Agent } ∷ []

-- Counts of writes: two alike states, and in each a read point with the same values, since which the same refs were written. In one a look has to run again, and in the other it finds a
-- value.
pub record CountsTell (cells : List CellDefinition) : Type 0 where
  pub one : Shared
  pub other : Shared
  pub p : ℕ
  pub q : ℕ
  pub cell : CellId
  pub alike : Alike cells one other
  pub values : (k : ℕ) → after (opening (cells_of cells)) (one.books 0) p k ≡ after (opening (cells_of cells)) (other.books 0) q k
  pub since : (k : ℕ) → written k p (one.books 0) ≡ written k q (other.books 0)
  pub retries : reply_to cells 0 (ask.Look cell p) one ≡ reply.Retry cell
  pub value : Value
  pub looks : reply_to cells 0 (ask.Look cell q) other ≡ reply.Is value

abbrev pub CountsAreNeeded : Type 0
CountsAreNeeded = (d : CellDefinition) → CountsTell (one_ref d)

-- What was written since a view: one state, and a transaction that commutes a ref. With one view it commits, and with another its commutes have to be made again.
pub record ViewsTell (cells : List CellDefinition) : Type 0 where
  pub shared : Shared
  pub p : ℕ
  pub v : ℕ
  pub w : ℕ
  pub cell : CellId
  pub commuted : Writes
  pub alike : SamePoint (cells_of cells) (shared.books 0) (shared.books 0) p p
  pub commits : reply_to cells 0 (ask.Commit p [] [] v commuted []) shared ≡ reply.Done
  pub changed : reply_to cells 0 (ask.Commit p [] [] w commuted []) shared ≡ reply.Changed cell

abbrev pub ViewsAreNeeded : Type 0
ViewsAreNeeded = (d : CellDefinition) → ViewsTell (one_ref d)

-- What was written since a read point: one state, and two read points with the same values. From one of them a transaction that sets the ref commits, and from the other it has to run again.
pub record SinceTells (cells : List CellDefinition) : Type 0 where
  pub shared : Shared
  pub p : ℕ
  pub q : ℕ
  pub cell : CellId
  pub sets : Writes
  pub values : (k : ℕ) → after (opening (cells_of cells)) (shared.books 0) p k ≡ after (opening (cells_of cells)) (shared.books 0) q k
  pub retries : reply_to cells 0 (ask.Commit p sets [] p [] []) shared ≡ reply.Retry cell
  pub commits : reply_to cells 0 (ask.Commit q sets [] q [] []) shared ≡ reply.Done

abbrev pub SinceIsNeeded : Type 0
SinceIsNeeded = (d : CellDefinition) → SinceTells (one_ref d)

-- Sends that a transaction holds: one state, and two commits that are the same but for what they send. Both are done, and then the agent finds an action after the one alone.
pub record SendsTell (cells : List CellDefinition) : Type 0 where
  pub shared : Shared
  pub agent : CellId
  pub sent : Action
  pub commits : reply_to cells 0 (ask.Commit 0 [] [] 0 [] []) shared ≡ reply.Done
  pub sends : reply_to cells 0 (ask.Commit 0 [] [] 0 [] (sent ∷ [])) shared ≡ reply.Done
  pub idle : reply_to cells 1 (ask.Take agent) (behind cells 0 (ask.Commit 0 [] [] 0 [] []) shared) ≡ reply.Idle
  pub value : Value
  pub takes : reply_to cells 1 (ask.Take agent) (behind cells 0 (ask.Commit 0 [] [] 0 [] (sent ∷ [])) shared) ≡ reply.Action 1 sent value

abbrev pub SendsAreNeeded : Type 0
SendsAreNeeded = (d : CellDefinition) → SendsTell (one_agent d)

-- The order of waiting actions: two states with the same values, in which the same two actions wait for an agent, in different orders. It takes another one first.
pub record OrderTells (cells : List CellDefinition) : Type 0 where
  pub one : Shared
  pub other : Shared
  pub agent : CellId
  pub x : Action
  pub y : Action
  pub differ : x ≡ y → ⊥
  pub values : (k : ℕ) → newest (opening (cells_of cells)) (one.books 0) k ≡ newest (opening (cells_of cells)) (other.books 0) k
  pub wait : (mail_after (cells_of cells) (one.books 0) agent.number).actions ≡ x ∷ y ∷ []
  pub wait_too : (mail_after (cells_of cells) (other.books 0) agent.number).actions ≡ y ∷ x ∷ []
  pub value : Value
  pub first : reply_to cells 1 (ask.Take agent) one ≡ reply.Action 1 x value
  pub second : reply_to cells 1 (ask.Take agent) other ≡ reply.Action 1 y value

abbrev pub OrderIsNeeded : Type 0
OrderIsNeeded = (d : CellDefinition) → OrderTells (one_agent d)

-- Tries must not count: an actor begins a transaction for the first time, and one begins it anew, at the same place. They go on the same but for the tries that are left.
pub record TriesTell : Type 0 where
  pub code : ThreadCode
  pub span : Span
  pub fresh : Configuration
  pub again : Configuration
  pub begins : fetch code fresh.body fresh.place ≡ Some (TxBegin span)
  pub start : undo fresh ≡ undo again
  pub one : Configuration
  pub other : Configuration
  pub goes : turn code (given (exchange ask.Begin (reply.At 0) ∷ []) fresh) ≡ Unfinished one
  pub goes_again : turn code (given (exchange ask.Begin (reply.At 0) ∷ []) again) ≡ Unfinished other
  pub alike : plain_at one ≡ plain_at other
  pub differ : with_places none one ≡ with_places none other → ⊥
