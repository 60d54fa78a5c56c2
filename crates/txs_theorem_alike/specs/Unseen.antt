-- What nobody sees: states that can't be told apart, who may go on in them, what is told of them, and the asks that nobody notices.
use Rattle.std.specs.Prelude.{◌≡◌, ◌≤◌, ℕ, Bool, true, false, not, ◌&&◌, List, length}
use Rattle.txs_world_protocol.specs.SeenEvent.{home}
use Rattle.txs_world_protocol.specs.declared.ask.Ask.{Ask}
use Rattle.txs_world_protocol.specs.declared.ask.Ask.TheVariants as ask
use Rattle.txs_world_protocol.specs.declared.ask.Reply.{Reply}
use Rattle.txs_world_protocol.specs.declared.ask.Reply.TheVariants as reply
use Rattle.txs_value_data.specs.declared.value.CellId.{CellId}
use Rattle.txs_value_cell.specs.declared.cell.CellDefinition.{CellDefinition}
use Rattle.txs_world_book.specs.Book.{has_agent, is_there}
use Rattle.txs_world_book.specs.Served.{cells_of}
use Rattle.txs_world.specs.Store.{next_action, hands_out}
use Rattle.txs_code_meaning.specs.Machine.{ThreadCode}
use Rattle.txs_theorem_runs.specs.Invariant.{RunInvariant}
use Rattle.txs_theorem_runs.specs.Run.{State}
use Rattle.txs_theorem_runs.specs.Staged.{StagedActor}
use Rattle.txs_theorem_runs.specs.Shared.{Shared, book_for, serve_on, may_ask}
use Rattle.txs_theorem_runs.specs.Stages.{Stage, Resting, Idle, Open, Viewing, Swapping}
use Rattle.txs_world_shared.specs.SharedState.{PlainShared, shared_of}
use Rattle.txs_world_shared.specs.Parts.{values_of, faults_of}
use Rattle.txs_theorem_alike.specs.Books.{Alike}
use Rattle.txs_theorem_alike.specs.Stages.{AllAlike, behind}

-- a stage's places are in the books
abbrev pub IsWithin : List CellDefinition → Shared → Stage → Type 0
IsWithin cells sh Resting = Unit {0}
IsWithin cells sh Idle = Unit {0}
IsWithin cells sh (Open p) = p ≤ length (sh.books 0)
IsWithin cells sh (Viewing p v) = (p ≤ length (sh.books 0)) × (v ≤ length (sh.books 0))
IsWithin cells sh (Swapping c p) = p ≤ length (sh.books (home cells c))

-- the places of each actor of a run are in the books
abbrev pub PlacesAreWithin : Type 0
PlacesAreWithin = (cells : List CellDefinition) (threads : ℕ) (codes : ℕ → ThreadCode) (st : State) (h : RunInvariant cells threads codes st) (agent : Bool) (b : ℕ) (asks : StagedActor agent (codes b))
    → IsWithin cells st.shared (h.actors agent b asks).stage

-- states with places in their books are alike to themselves
abbrev pub AlikeItself : Type 0
AlikeItself = (cells : List CellDefinition) (sh : Shared) (x : ℕ → Stage) → ((b : ℕ) → IsWithin cells sh (x b)) → AllAlike cells sh sh x x

-- and the other way round
abbrev pub AlikeBack : Type 0
AlikeBack = (cells : List CellDefinition) (sh th : Shared) (x y : ℕ → Stage) → AllAlike cells sh th x y → AllAlike cells th sh y x

-- and on to a third
abbrev pub AlikeOn : Type 0
AlikeOn = (cells : List CellDefinition) (sh th uh : Shared) (x y z : ℕ → Stage) → AllAlike cells sh th x y → AllAlike cells th uh y z → AllAlike cells sh uh x z

-- agents take the same actions in alike states, and may take them in both
pub record SameNext (cells : List CellDefinition) (threads a : ℕ) (g : CellId) (sh th : Shared) : Type 0 where
  pub next : has_agent (cells_of cells) g ≡ true → next_action (cells_of cells) (sh.books 0) g ≡ next_action (cells_of cells) (th.books 0) g
  pub may : may_ask cells threads sh.taken a (ask.Take g) (sh.books 0) ≡ may_ask cells threads th.taken a (ask.Take g) (th.books 0)
  -- so the same agents wait for an action
  pub idle : (may_ask cells threads sh.taken a (ask.Take g) (sh.books 0) && not (is_there (next_action (cells_of cells) (sh.books 0) g)))
      ≡ (may_ask cells threads th.taken a (ask.Take g) (th.books 0) && not (is_there (next_action (cells_of cells) (th.books 0) g)))

abbrev pub AlikeAreDue : Type 0
AlikeAreDue = (cells : List CellDefinition) (threads a : ℕ) (g : CellId) (sh th : Shared) → Alike cells sh th → SameNext cells threads a g sh th

-- of alike states the same values and faults are told
abbrev pub AlikeAreTold : Type 0
AlikeAreTold = (s t : PlainShared) → s.cells ≡ t.cells → Alike s.cells (shared_of s) (shared_of t) → (values_of s ≡ values_of t) × (faults_of s ≡ faults_of t)

-- whether nobody sees that an ask was answered so: it only looked, or came to nothing
abbrev pub is_unseen : Ask → Reply → Bool
is_unseen ask.Begin r = true
is_unseen (ask.Look c at) r = true
is_unseen (ask.View cs) r = true
is_unseen (ask.Commit at sets ensured view commuted sends) reply.Done = false
is_unseen (ask.Commit at sets ensured view commuted sends) _ = true
is_unseen (ask.Fail at view) r = true
is_unseen (ask.Peek c) r = true
is_unseen (ask.Send x) reply.Done = false
is_unseen (ask.Send x) _ = true
is_unseen (ask.Take g) r = not (hands_out r)
is_unseen (ask.Finish g new sends) r = false
is_unseen (ask.OpenAt c) r = true
is_unseen (ask.CloseAt c at new) reply.Done = false
is_unseen (ask.CloseAt c at new) _ = true
is_unseen (ask.Broke c at) r = true

-- what nobody sees leaves a state that is alike, in which all actors are where they were
abbrev pub UnseenIsAlike : Type 0
UnseenIsAlike =
    (cells : List CellDefinition) (a : ℕ) (q : Ask) (sh : Shared) (x : ℕ → Stage)
    → ((b : ℕ) → IsWithin cells sh (x b)) → is_unseen q (serve_on cells a q (sh.books (book_for cells q))).reply ≡ true → AllAlike cells sh (behind cells a q sh) x x
