-- A try that failed leaves nothing: the turns of an actor in a transaction that has to run again, with turns of others between them, come to what the others' turns alone come to.
use Rattle.std.specs.Prelude.{◌≡◌, ℕ, Bool, true, false, ◌==◌, List, [], ◌∷◌, None}
use Rattle.txs_world_protocol.specs.declared.ask.Ask.{Ask}
use Rattle.txs_value_cell.specs.declared.cell.CellDefinition.{CellDefinition}
use Rattle.txs_code_meaning.specs.Machine.{ThreadCode, fetch, Configuration, Unfinished}
use Rattle.txs_theorem_runs.specs.Goes.{AsksAt}
use Rattle.txs_theorem_runs.specs.Invariant.{RunInvariant}
use Rattle.txs_theorem_runs.specs.Run.{TakesTurn, Actor, State, play}
use Rattle.txs_theorem_runs.specs.Shared.{book_for, serve_on}
use Rattle.txs_theorem_runs.specs.Staged.{StagedActor, IsStaged}
use Rattle.txs_theorem_runs.specs.Stages.{Stage, Idle}
use Rattle.txs_theorem_alike.specs.Actors.{ActorsAlike}
use Rattle.txs_theorem_alike.specs.Beginnings.{undo, IsTrying, IsOfTry}
use Rattle.txs_theorem_alike.specs.Unseen.{is_unseen}
use Rattle.txs_theorem_alike.specs.Stages.{AllAlike}
use Rattle.txs_theorem_alike.specs.States.{GoesFreely, after_turns}

-- with the transaction that is open not begun, the actor is here
abbrev pub Begins : Configuration → Actor → Type 0
Begins start x = (c : Configuration) × (x.at ≡ Unfinished c) × (undo c ≡ start) × (x.stopped ≡ None)

-- What is shared is alike, and all actors but this one; this one is in both where it is outside of every transaction, once the transaction that it may be in is not begun.
pub record AlikeBut (cells : List CellDefinition) (agent : ℕ → Bool) (a : ℕ) (st other : State) : Type 0 where
  pub first : ℕ → Stage
  pub second : ℕ → Stage
  pub all : AllAlike cells st.shared other.shared first second
  pub actors : (b : ℕ) → (a == b) ≡ false → ActorsAlike (st.actors b) (other.actors b)
  pub in_first : (b : ℕ) → (a == b) ≡ false → (st.actors b).stopped ≡ None → IsStaged (agent b) (first b) (st.actors b).at
  pub in_other : (b : ℕ) → (a == b) ≡ false → (other.actors b).stopped ≡ None → IsStaged (agent b) (second b) (other.actors b).at
  pub out_first : first a ≡ Idle
  pub out_other : second a ≡ Idle
  pub start : Configuration
  pub tries : Begins start (st.actors a)
  pub waits : Begins start (other.actors a)

-- the actor is in a transaction, or begins it anew
abbrev pub StillTries : Actor → Type 0
StillTries x = (d : Configuration) × (x.at ≡ Unfinished d) × IsTrying d.doing × (x.stopped ≡ None)

-- A turn of an actor that begins a transaction, or goes on with it, or has to run it again: not the one that commits it, nor one that ends it with a fault.
pub record TriesOn (cells : List CellDefinition) (threads : ℕ) (codes : ℕ → ThreadCode) (a : ℕ) (st : State) : Type 0 where
  pub here : Configuration
  pub is_here : (st.actors a).at ≡ Unfinished here
  pub part : IsOfTry (fetch (codes a) here.body here.place) here.doing
  pub unseen : (q : Ask) → AsksAt (codes a) here q → is_unseen q (serve_on cells a q (st.shared.books (book_for cells q))).reply ≡ true
  pub still : StillTries ((play cells threads codes (TakesTurn a) st).actors a)

-- Such a turn keeps all alike, if the other state stays.
abbrev pub TryIsUnseen : Type 0
TryIsUnseen = (cells : List CellDefinition) (threads : ℕ) (codes : ℕ → ThreadCode) (agent : ℕ → Bool) (a : ℕ) (st other : State)
    → AlikeBut cells agent a st other → TriesOn cells threads codes a st → AlikeBut cells agent a (play cells threads codes (TakesTurn a) st) other

-- A turn of another actor keeps all alike, if it takes it in both.
abbrev pub OthersGoOn : Type 0
OthersGoOn = (cells : List CellDefinition) (threads : ℕ) (codes : ℕ → ThreadCode) (agent : ℕ → Bool) (a b : ℕ) (st other : State)
    → (a == b) ≡ false → StagedActor (agent b) (codes b) → RunInvariant cells threads codes st → RunInvariant cells threads codes other
    → AlikeBut cells agent a st other → GoesFreely cells threads codes b st → GoesFreely cells threads codes b other
    → AlikeBut cells agent a (play cells threads codes (TakesTurn b) st) (play cells threads codes (TakesTurn b) other)

-- the turns of all actors but this one
abbrev pub kept_if : Bool → ℕ → List ℕ → List ℕ
kept_if true b turns = turns
kept_if false b turns = b ∷ turns

abbrev pub without : ℕ → List ℕ → List ℕ
without a [] = []
without a (b ∷ turns) = kept_if (a == b) b (without a turns)

-- the one or the other
abbrev pub if_own : Bool → Type 0 → Type 0 → Type 0
if_own true own others = own
if_own false own others = others

-- Actors take these turns in the first state; those of one actor are of a transaction that isn't committed, and nothing stops another, neither here nor where that one takes none.
abbrev pub TryAmong : List CellDefinition → ℕ → (ℕ → ThreadCode) → (ℕ → Bool) → ℕ → List ℕ → State → State → Type 0
TryAmong cells threads codes agent a [] st other = Unit {0}
TryAmong cells threads codes agent a (b ∷ turns) st other =
    if_own (a == b)
    (TriesOn cells threads codes a st × TryAmong cells threads codes agent a turns (play cells threads codes (TakesTurn b) st) other)
    (StagedActor (agent b) (codes b) × GoesFreely cells threads codes b st × GoesFreely cells threads codes b other × TryAmong cells threads codes agent a turns (play cells threads codes (TakesTurn b) st) (play cells threads codes (TakesTurn b) other))

-- A list of turns among which an actor begins a transaction, and goes on with it, and has to run it again, as often as it may, comes to what the list without this actor comes to: what is
-- shared, and all other actors, and where the actor begins.
abbrev pub FailedTryLeavesNothing : Type 0
FailedTryLeavesNothing = (cells : List CellDefinition) (threads : ℕ) (codes : ℕ → ThreadCode) (agent : ℕ → Bool) (a : ℕ) (turns : List ℕ) (st other : State)
    → RunInvariant cells threads codes st → RunInvariant cells threads codes other → AlikeBut cells agent a st other → TryAmong cells threads codes agent a turns st other
    → AlikeBut cells agent a (after_turns cells threads codes turns st) (after_turns cells threads codes (without a turns) other)
