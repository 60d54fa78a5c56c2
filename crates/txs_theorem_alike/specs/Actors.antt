-- Actors that are the same but for places and tries, and that they run alike over shared states that answer alike.
use Rattle.std.specs.Prelude.{◌≡◌, ℕ, Bool, List, [], ◌∷◌, Option, Some, None}
use Rattle.txs_world_protocol.specs.declared.ask.Ask.{Ask}
use Rattle.txs_world_protocol.specs.declared.ask.Reply.{Reply}
use Rattle.txs_value_data.specs.declared.fault.Fault.{Fault}
use Rattle.txs_value_cell.specs.declared.cell.CellDefinition.{CellDefinition}
use Rattle.txs_code_meaning.specs.Machine.{ThreadCode, Configuration, Turned, Ended, Failed, Asking, Unfinished, Stuck, turn}
use Rattle.txs_code_meaning.specs.Opening.{given}
use Rattle.txs_theorem_runs.specs.Goes.{AsksNothing, AsksAt}
use Rattle.txs_theorem_runs.specs.Run.{Actor, exchange, turns_from}
use Rattle.txs_theorem_runs.specs.Shared.{Shared, book_for, serve_on, may_ask}
use Rattle.txs_theorem_runs.specs.Staged.{StandsIn, TurnIsStaged}
use Rattle.txs_theorem_runs.specs.Stages.{Stage}
use Rattle.txs_theorem_alike.specs.Renaming.{ask_with, reply_with, wants_with, state_with, with_places}
use Rattle.txs_theorem_alike.specs.TriesLeft.{with_tries, HasTry}

-- each place is forgotten
abbrev pub none : ℕ → ℕ
none p = 0

-- a configuration without its places and tries
abbrev pub plain_at : Configuration → Configuration
plain_at c = with_tries 1 (with_places none c)

-- what turns came to, without places and tries
abbrev pub plain : Turned Configuration → Turned Configuration
plain (Ended s) = Ended (state_with none s)
plain (Failed f s) = Failed f (state_with none s)
plain (Asking s) = Asking (state_with none s)
plain (Unfinished c) = Unfinished (plain_at c)
plain Stuck = Stuck

-- turns came to the same, but for places and tries
abbrev pub SameButPlaces : Turned Configuration → Turned Configuration → Type 0
SameButPlaces o p = plain o ≡ plain p

-- asks that are the same but for places
abbrev pub SameAsk : Ask → Ask → Type 0
SameAsk q p = ask_with none q ≡ ask_with none p

-- replies that are the same but for places
abbrev pub SameReply : Reply → Reply → Type 0
SameReply r t = reply_with none r ≡ reply_with none t

-- a configuration that has heard all that it was told, and whose transaction, if there is one, may run again
abbrev pub IsClear : Configuration → Type 0
IsClear c = (c.state.todo ≡ []) × HasTry c.doing

-- From two configurations that are the same but for places and tries a turn comes to the same but for those. So it asks the same, but for places.
abbrev pub TurnsAlike : Type 0
TurnsAlike = (code : ThreadCode) (c d : Configuration) → IsClear c → IsClear d → plain_at c ≡ plain_at d → SameButPlaces (turn code c) (turn code d)

-- And so it does with replies that are the same but for places, where each takes its reply.
abbrev pub RepliesAlike : Type 0
RepliesAlike = (code : ThreadCode) (c d : Configuration) (q p : Ask) (r t : Reply) → IsClear c → IsClear d → plain_at c ≡ plain_at d → SameAsk q p → SameReply r t
    → AsksNothing (turn code (given (exchange q r ∷ []) c)) → AsksNothing (turn code (given (exchange p t ∷ []) d))
    → SameButPlaces (turn code (given (exchange q r ∷ []) c)) (turn code (given (exchange p t ∷ []) d))

-- a turn takes the reply of its ask, whatever that is
abbrev pub TakesReply : ThreadCode → Configuration → Type 0
TakesReply code c = (q : Ask) (r : Reply) → AsksAt code c q → AsksNothing (turn code (given (exchange q r ∷ []) c))

-- code that asks in stages takes its replies
abbrev pub StagedTakes : Type 0
StagedTakes = (agent : Bool) (code : ThreadCode) (c : Configuration) (st : Stage) → TurnIsStaged agent code c → StandsIn agent st c → TakesReply code c

-- what was printed
abbrev pub printed_in : Turned Configuration → List ℕ
printed_in (Ended s) = s.printed
printed_in (Failed f s) = s.printed
printed_in (Asking s) = s.printed
printed_in (Unfinished c) = c.state.printed
printed_in Stuck = []

-- how it ended, if it has: without a fault or with one
abbrev pub ended_in : Turned Configuration → Option (Option Fault)
ended_in (Ended s) = Some None
ended_in (Failed f s) = Some (Some f)
ended_in (Asking s) = None
ended_in (Unfinished c) = None
ended_in Stuck = None

-- the ask with which it waits
abbrev pub wanted_in : Turned Configuration → Option Ask
wanted_in (Ended s) = None
wanted_in (Failed f s) = None
wanted_in (Asking s) = s.wants
wanted_in (Unfinished c) = None
wanted_in Stuck = None

-- of both the same is told, and both wait with the same ask but for places
abbrev pub ToldAlike : Type 0
ToldAlike = (o p : Turned Configuration) → SameButPlaces o p → (printed_in o ≡ printed_in p) × (ended_in o ≡ ended_in p) × (wants_with none (wanted_in o) ≡ wants_with none (wanted_in p))

-- ---- actors of a run

-- actors that are the same but for places and tries, for what they were told and for how many turns they took
abbrev pub ActorsAlike : Actor → Actor → Type 0
ActorsAlike x y = SameButPlaces x.at y.at × (x.stopped ≡ y.stopped)

-- an actor that is ready for its turn
abbrev pub IsReady : ThreadCode → Turned Configuration → Type 0
IsReady code (Ended s) = Unit {0}
IsReady code (Failed f s) = Unit {0}
IsReady code (Asking s) = Unit {0}
IsReady code (Unfinished c) = IsClear c × TakesReply code c
IsReady code Stuck = Unit {0}

-- where an actor is it asks this next
abbrev pub AsksNext : ThreadCode → Turned Configuration → Ask → Type 0
AsksNext code o q = (c : Configuration) × (o ≡ Unfinished c) × AsksAt code c q

-- both may ask, or neither; and what is answered is the same but for places
abbrev pub AnswersAlike : List CellDefinition → ℕ → ℕ → Shared → Shared → Ask → Ask → Type 0
AnswersAlike cells threads a sh other q p =
    (may_ask cells threads sh.taken a q (sh.books (book_for cells q)) ≡ may_ask cells threads other.taken a p (other.books (book_for cells p)))
    × SameReply (serve_on cells a q (sh.books (book_for cells q))).reply (serve_on cells a p (other.books (book_for cells p))).reply

-- Two actors that are the same but for places and tries, each over its own shared state. If those answer their asks alike, the actors are so after a turn.
abbrev pub ActorsRunAlike : Type 0
ActorsRunAlike = (cells : List CellDefinition) (threads : ℕ) (code : ThreadCode) (a : ℕ) (x y : Actor) (sh other : Shared)
    → ActorsAlike x y → IsReady code x.at → IsReady code y.at
    → ((q p : Ask) → AsksNext code x.at q → AsksNext code y.at p → SameAsk q p → AnswersAlike cells threads a sh other q p)
    → ActorsAlike (turns_from cells threads code a x.at x.stopped x sh).actor (turns_from cells threads code a y.at y.stopped y other).actor
