-- The laws of alike states for runs of well-typed code, where all that is asked is lawful: it is enough that there is room in the journals, and that no actor has too many retries.
use Rattle.std.specs.Prelude.{◌≡◌, ◌<◌, ℕ, Bool, true, false, not, ◌==◌, nat_lt, List, [], ◌∷◌, ◌++◌, length, Option, Some, None}
use Rattle.txs_world_protocol.specs.declared.ask.Ask.{Ask}
use Rattle.txs_value_data.specs.Limits.{most_events, reruns}
use Rattle.txs_value_data.specs.declared.fault.Span.{Span}
use Rattle.txs_value_data.specs.declared.value.CellId.{CellId}
use Rattle.txs_value_cell.specs.declared.cell.CellDefinition.{CellDefinition}
use Rattle.txs_world_book.specs.Book.{has_agent, actor_of, actors}
use Rattle.txs_world_book.specs.Served.{cells_of}
use Rattle.txs_code_meaning.specs.Machine.{ThreadCode, PlainInstr, TxBegin, fetch, Activity, Outside, Restarting, Running, Applying, Swapping, Configuration, Unfinished}
use Rattle.txs_theorem_runs.specs.Goes.{AsksAt}
use Rattle.txs_theorem_runs.specs.Lawful.{CodeIsKnown, OpeningIsKnown, NamesOwn}
use Rattle.txs_theorem_runs.specs.Run.{TakesTurn, Actor, State, Play, play, plays}
use Rattle.txs_theorem_runs.specs.Standing.{StandingActor}
use Rattle.txs_theorem_alike.specs.Actors.{AsksNext}
use Rattle.txs_theorem_alike.specs.Anew.{IsOutside}
use Rattle.txs_theorem_alike.specs.Commits.{CommitAsk, ask_of, AreIndependent, reply_to}
use Rattle.txs_theorem_alike.specs.Free.{reruns_in}
use Rattle.txs_theorem_alike.specs.States.{StatesAlike, GoFreely, after_turns}
use Rattle.txs_theorem_alike.specs.Tries.{StillTries, without, if_own}
use Rattle.txs_theorem_alike.specs.Unseen.{is_unseen}
use Rattle.txs_theorem_alike.specs.Walks.{GoesOnAlike, after_asks}

-- Constants and opening values name defined cells alone, an agent's own instructions name it, and each actor's instructions are where they may be. So it is of well-typed code.
pub record IsSafe (cells : List CellDefinition) (threads : ℕ) (codes : ℕ → ThreadCode) : Type 0 where
  pub opening : OpeningIsKnown cells
  pub known : (a : ℕ) → CodeIsKnown cells (codes a)
  pub own : (g : CellId) → has_agent (cells_of cells) g ≡ true → NamesOwn g (codes (actor_of threads (cells_of cells) g))
  pub stands : (a : ℕ) → StandingActor (not (nat_lt a threads)) (codes a)

-- whether an actor is an agent's: the agents come behind the threads
abbrev pub is_agent : ℕ → ℕ → Bool
is_agent threads a = not (nat_lt a threads)

-- whether an actor is a thread's or an agent's
abbrev pub IsActor : List CellDefinition → ℕ → ℕ → Type 0
IsActor cells threads a = nat_lt a (actors threads (cells_of cells)) ≡ true

-- so is each of these
abbrev pub AreTurnsOf : List CellDefinition → ℕ → List ℕ → Type 0
AreTurnsOf cells threads [] = Unit {0}
AreTurnsOf cells threads (a ∷ turns) = IsActor cells threads a × AreTurnsOf cells threads turns

-- there is room in each journal, and each actor has fewer retries in the store's than a transaction may be run again
pub record IsRoomy (st : State) : Type 0 where
  pub room : (n : ℕ) → length (st.shared.books n) < most_events
  pub tries : (a : ℕ) → reruns_in a (st.shared.books 0) < reruns

-- where it is so behind turns, nothing stops one of them
abbrev pub TurnsGoFreely : Type 0
TurnsGoFreely = (cells : List CellDefinition) (threads : ℕ) (codes : ℕ → ThreadCode) (ys : List Play) (turns : List ℕ)
    → IsSafe cells threads codes → AreTurnsOf cells threads turns → IsRoomy (after_turns cells threads codes turns (plays cells threads codes ys))
    → GoFreely cells threads codes (is_agent threads) turns (plays cells threads codes ys)

-- Two runs of the same code, whatever they did, that are alike: the same turns keep them alike.
abbrev pub AlikeRunsGoOn : Type 0
AlikeRunsGoOn = (cells : List CellDefinition) (threads : ℕ) (codes : ℕ → ThreadCode) (ys zs : List Play) (turns : List ℕ)
    → IsSafe cells threads codes → AreTurnsOf cells threads turns → StatesAlike cells (is_agent threads) (plays cells threads codes ys) (plays cells threads codes zs)
    → IsRoomy (after_turns cells threads codes turns (plays cells threads codes ys)) → IsRoomy (after_turns cells threads codes turns (plays cells threads codes zs))
    → StatesAlike cells (is_agent threads) (after_turns cells threads codes turns (plays cells threads codes ys)) (after_turns cells threads codes turns (plays cells threads codes zs))

-- In a run two actors ask to commit, and the commits have nothing to do with each other: nobody can tell which of them came first.
abbrev pub CommitsOfRunsCommute : Type 0
CommitsOfRunsCommute = (cells : List CellDefinition) (threads : ℕ) (codes : ℕ → ThreadCode) (a b : ℕ) (q r : CommitAsk) (ys : List Play)
    → IsSafe cells threads codes → IsActor cells threads a → IsActor cells threads b → (a == b) ≡ false
    → AsksNext (codes a) ((plays cells threads codes ys).actors a).at (ask_of q) → ((plays cells threads codes ys).actors a).stopped ≡ None
    → AsksNext (codes b) ((plays cells threads codes ys).actors b).at (ask_of r) → ((plays cells threads codes ys).actors b).stopped ≡ None
    → AreIndependent q r → IsRoomy (after_turns cells threads codes (a ∷ b ∷ []) (plays cells threads codes ys)) → IsRoomy (after_turns cells threads codes (b ∷ a ∷ []) (plays cells threads codes ys))
    → StatesAlike cells (is_agent threads) (after_turns cells threads codes (a ∷ b ∷ []) (plays cells threads codes ys)) (after_turns cells threads codes (b ∷ a ∷ []) (plays cells threads codes ys))

-- An actor's next instruction begins a transaction, for the first time or anew; it is in no transaction and no swap, and no answer of a validator waits.
-- (An instruction that writes has its cell's validator applied first, and looks at the answer in a later turn. In between the answer waits. That none waits here is a premise: `IsSafe` doesn't say that validators
-- are pure, so it isn't derived from that.)
pub record StandsBefore (code : ThreadCode) (span : Span) (x : Actor) : Type 0 where
  pub here : Configuration
  pub is_here : x.at ≡ Unfinished here
  pub goes : x.stopped ≡ None
  pub begins : fetch code here.body here.place ≡ Some (TxBegin span)
  pub outside : IsOutside here.doing
  pub judged : here.state.accepted ≡ None

-- an instruction begins a transaction, or is one inside of a transaction
abbrev pub IsInTry : Option PlainInstr → Activity → Type 0
IsInTry i Outside = (span : Span) × (i ≡ Some (TxBegin span))
IsInTry i (Restarting left) = (span : Span) × (i ≡ Some (TxBegin span))
IsInTry i (Running left inner from) = Unit {0}
IsInTry i (Applying left from work values) = Unit {0}
IsInTry i (Swapping swap from) = ⊥

-- An actor begins a transaction in this turn, goes on with it, or has to run it again. Its request, if it makes one, only looks or comes to nothing, so it isn't a commit that is done.
pub record TriesHere (cells : List CellDefinition) (threads : ℕ) (codes : ℕ → ThreadCode) (a : ℕ) (st : State) : Type 0 where
  pub here : Configuration
  pub is_here : (st.actors a).at ≡ Unfinished here
  pub part : IsInTry (fetch (codes a) here.body here.place) here.doing
  pub unseen : (q : Ask) → AsksAt (codes a) here q → is_unseen q (reply_to cells a q st.shared) ≡ true
  pub still : StillTries ((play cells threads codes (TakesTurn a) st).actors a)

-- in these turns the actor does nothing else
abbrev pub OnlyTries : List CellDefinition → ℕ → (ℕ → ThreadCode) → ℕ → List ℕ → State → Type 0
OnlyTries cells threads codes a [] st = Unit {0}
OnlyTries cells threads codes a (b ∷ turns) st = if_own (a == b) (TriesHere cells threads codes a st) (Unit {0}) × OnlyTries cells threads codes a turns (play cells threads codes (TakesTurn b) st)

-- Retries don't matter: in a run an actor stands where it begins a transaction, and in the next turns, with any of others between them, only tries it, up to where it begins it anew. What
-- follows is as if it had not tried.
abbrev pub RetriesDontMatter : Type 0
RetriesDontMatter = (cells : List CellDefinition) (threads : ℕ) (codes : ℕ → ThreadCode) (a : ℕ) (span again : Span) (ys : List Play) (turns later : List ℕ)
    → IsSafe cells threads codes → IsActor cells threads a → AreTurnsOf cells threads turns → AreTurnsOf cells threads later
    → StandsBefore (codes a) span ((plays cells threads codes ys).actors a)
    → OnlyTries cells threads codes a turns (plays cells threads codes ys)
    → StandsBefore (codes a) again ((after_turns cells threads codes turns (plays cells threads codes ys)).actors a)
    → IsRoomy (after_turns cells threads codes (turns ++ a ∷ later) (plays cells threads codes ys)) → IsRoomy (after_turns cells threads codes (without a turns ++ a ∷ later) (plays cells threads codes ys))
    → StatesAlike cells (is_agent threads) (after_turns cells threads codes (turns ++ a ∷ later) (plays cells threads codes ys)) (after_turns cells threads codes (without a turns ++ a ∷ later) (plays cells threads codes ys))

-- ---- from request to request

-- Two runs of the same code that are alike, and the same requests of theirs, with a bound on each walk between two of them: the runs stay alike, and behind them each actor goes on alike.
-- So the same actors may go on, and of each the same is told.
abbrev pub AlikeRunsAskOn : Type 0
AlikeRunsAskOn = (cells : List CellDefinition) (threads : ℕ) (codes : ℕ → ThreadCode) (ys zs : List Play) (n : ℕ) (ks : List ℕ)
    → IsSafe cells threads codes → AreTurnsOf cells threads ks → StatesAlike cells (is_agent threads) (plays cells threads codes ys) (plays cells threads codes zs)
    → IsRoomy (after_asks cells threads codes n ks (plays cells threads codes ys)) → IsRoomy (after_asks cells threads codes n ks (plays cells threads codes zs))
    → StatesAlike cells (is_agent threads) (after_asks cells threads codes n ks (plays cells threads codes ys)) (after_asks cells threads codes n ks (plays cells threads codes zs))
    × ((a : ℕ) → IsActor cells threads a → GoesOnAlike cells threads codes (is_agent threads) n a (after_asks cells threads codes n ks (plays cells threads codes ys)) (after_asks cells threads codes n ks (plays cells threads codes zs)))
