-- Actors that run their code over the shared state: an instruction a turn, with its ask served and answered in the same step.
use Rattle.std.specs.Prelude.{ℕ, suc, Bool, true, false, ◌==◌, List, [], ◌∷◌, ◌++◌, length, Option, Some, None, if◌then◌else◌}
use Rattle.txs_world_protocol.specs.Ask.{Exchange}
use Rattle.txs_world_protocol.specs.declared.ask.Ask.{Ask}
use Rattle.txs_world_protocol.specs.declared.ask.Reply.{Reply}
use Rattle.txs_world_protocol.specs.declared.ask.Reply.TheVariants as reply
use Rattle.txs_value_cell.specs.declared.cell.CellDefinition.{CellDefinition}
use Rattle.txs_code_meaning.specs.ActorState.{ActorState}
use Rattle.txs_code_meaning.specs.Machine.{ThreadCode, Configuration, Turned, Ended, Failed, Asking, Unfinished, Stuck, turn}
use Rattle.txs_code_meaning.specs.Opening.{given, opening}
use Rattle.txs_world_book.specs.Served.{Served}
use Rattle.txs_theorem_runs.specs.Shared.{Shared, untouched, book_for, serve_on, may_ask, shared_after}
use Rattle.txs_theorem_runs.specs.Told.{Entry}

-- why an actor was stopped before its code was done
pub data Stop : Type 0 where
  -- the book had no room for the event of its ask
  JournalFull : Stop
  -- there was no memory
  Memory : Stop
  -- it has taken as many turns as it may
  TurnsSpent : Stop
  -- it asked what it may not ask
  Unlawful : Stop

-- an actor of a run: where it is, what it was answered so far, how many instructions it has run, and why it was stopped there, if it was
pub record Actor : Type 0 where
  pub at : Turned Configuration
  pub entries : List Entry
  pub turns : ℕ
  pub stopped : Option Stop

-- an actor, and what is shared after its turn
pub record Moved : Type 0 where
  pub actor : Actor
  pub shared : Shared

-- an actor with what is shared after its turn
abbrev pub moved : Actor → Shared → Moved
moved x sh = record { actor = x; shared = sh }

-- an ask with its reply
abbrev pub exchange : Ask → Reply → Exchange
exchange q r = record { ask = q; reply = r }

-- an ask with its reply, where the book had so many events
abbrev pub entry : Ask → Reply → ℕ → Entry
entry q r k = record { ask = q; reply = r; at = k }

-- an actor that is stopped where it is
abbrev pub stop : Stop → Actor → Actor
stop why x = record x { stopped = Some why }

-- an actor after one more instruction
abbrev pub comes_to : Turned Configuration → Actor → Actor
comes_to o x = record x { at = o; turns = suc x.turns }

-- an actor after an instruction whose ask had this reply
abbrev pub hears : ThreadCode → Configuration → Ask → Reply → ℕ → Actor → Actor
hears code c q r k x =
    record x { at = turn code (given (exchange q r ∷ []) c); entries = x.entries ++ entry q r k ∷ []; turns = suc x.turns }

-- the reply is taken; one that says that the book is full, or that memory ran out, stops the actor before the instruction, and an agent without an action stays where it is
abbrev pub replied : ThreadCode → Configuration → Ask → Reply → ℕ → Actor → Actor
replied code c q (reply.At p) k x = hears code c q (reply.At p) k x
replied code c q (reply.Is v) k x = hears code c q (reply.Is v) k x
replied code c q (reply.Views p vs) k x = hears code c q (reply.Views p vs) k x
replied code c q reply.Done k x = hears code c q reply.Done k x
replied code c q (reply.Retry d) k x = hears code c q (reply.Retry d) k x
replied code c q (reply.Changed d) k x = hears code c q (reply.Changed d) k x
replied code c q (reply.AgentIsFailed g) k x = hears code c q (reply.AgentIsFailed g) k x
replied code c q (reply.Action n a v) k x = hears code c q (reply.Action n a v) k x
replied code c q (reply.Opened p v) k x = hears code c q (reply.Opened p v) k x
replied code c q reply.Idle k x = x
replied code c q reply.Full k x = stop JournalFull x
replied code c q reply.Memory k x = stop Memory x

-- the actor takes the reply that was served, and what is shared is as after it
abbrev pub answered : List CellDefinition → ThreadCode → Configuration → Ask → Served → Actor → Shared → Moved
answered cells code c q v x sh = moved (replied code c q v.reply (length (sh.books (book_for cells q))) x) (shared_after cells q v sh)

-- an ask that the actor may make is served; another stops it before the instruction
abbrev pub asked : Bool → List CellDefinition → ThreadCode → ℕ → Configuration → Ask → Actor → Shared → Moved
asked true cells code a c q x sh = answered cells code c q (serve_on cells a q (sh.books (book_for cells q))) x sh
asked false cells code a c q x sh = moved (stop Unlawful x) sh

-- an instruction that waits: its ask is served if it is lawful; one that names no ask waits on
abbrev pub asks_for : List CellDefinition → ℕ → ThreadCode → ℕ → Configuration → ActorState → Option Ask → Actor → Shared → Moved
asks_for cells threads code a c s None x sh = moved (comes_to (Asking s) x) sh
asks_for cells threads code a c s (Some q) x sh = asked (may_ask cells threads sh.taken a q (sh.books (book_for cells q))) cells code a c q x sh

-- what the next instruction comes to
abbrev pub turned : List CellDefinition → ℕ → ThreadCode → ℕ → Configuration → Turned Configuration → Actor → Shared → Moved
turned cells threads code a c (Ended s) x sh = moved (comes_to (Ended s) x) sh
turned cells threads code a c (Failed f s) x sh = moved (comes_to (Failed f s) x) sh
turned cells threads code a c (Asking s) x sh = asks_for cells threads code a c s s.wants x sh
turned cells threads code a c (Unfinished d) x sh = moved (comes_to (Unfinished d) x) sh
turned cells threads code a c Stuck x sh = moved (comes_to Stuck x) sh

-- a turn from where the actor is: one that has ended or was stopped stays as it is
abbrev pub turns_from : List CellDefinition → ℕ → ThreadCode → ℕ → Turned Configuration → Option Stop → Actor → Shared → Moved
turns_from cells threads code a (Ended s) o x sh = moved x sh
turns_from cells threads code a (Failed f s) o x sh = moved x sh
turns_from cells threads code a (Asking s) o x sh = moved x sh
turns_from cells threads code a (Unfinished c) None x sh = turned cells threads code a c (turn code c) x sh
turns_from cells threads code a (Unfinished c) (Some why) x sh = moved x sh
turns_from cells threads code a Stuck o x sh = moved x sh

-- an actor that hasn't ended nor been stopped is stopped where it is
abbrev pub stops_from : Stop → Turned Configuration → Option Stop → Actor → Actor
stops_from why (Ended s) o x = x
stops_from why (Failed f s) o x = x
stops_from why (Asking s) o x = x
stops_from why (Unfinished c) None x = stop why x
stops_from why (Unfinished c) (Some w) x = x
stops_from why Stuck o x = x

-- one play: an actor takes a turn, or is stopped where it is, as when memory ran out
pub data Play : Type 0 where
  TakesTurn : (actor : ℕ) → Play
  IsStopped : (actor : ℕ) (why : Stop) → Play

-- what is shared, and the actors by number
pub record State : Type 0 where
  pub shared : Shared
  pub actors : ℕ → Actor

-- the actor of this number and what is shared, put in the place of what was there
abbrev pub placed : ℕ → Moved → State → State
placed a m st = record { shared = m.shared; actors = λ b. if a == b then m.actor else st.actors b }

-- what a play makes of its actor and of what is shared
abbrev pub moves : List CellDefinition → ℕ → (ℕ → ThreadCode) → Play → State → Moved
moves cells threads codes (TakesTurn a) st = turns_from cells threads (codes a) a (st.actors a).at (st.actors a).stopped (st.actors a) st.shared
moves cells threads codes (IsStopped a why) st = moved (stops_from why (st.actors a).at (st.actors a).stopped (st.actors a)) st.shared

-- whose play it is
abbrev pub actor_of : Play → ℕ
actor_of (TakesTurn a) = a
actor_of (IsStopped a why) = a

-- the state after one play
abbrev pub play : List CellDefinition → ℕ → (ℕ → ThreadCode) → Play → State → State
play cells threads codes y st = placed (actor_of y) (moves cells threads codes y st) st

-- an actor before its first turn
abbrev pub new_actor : ThreadCode → Actor
new_actor code = record { at = Unfinished (opening code []); entries = []; turns = 0; stopped = None }

-- the state before the first play
abbrev pub opens : List CellDefinition → (ℕ → ThreadCode) → State
opens cells codes = record { shared = untouched cells; actors = λ a. new_actor (codes a) }

-- the state after these plays, one after another
abbrev pub plays_from : List CellDefinition → ℕ → (ℕ → ThreadCode) → List Play → State → State
plays_from cells threads codes [] st = st
plays_from cells threads codes (y ∷ ys) st = plays_from cells threads codes ys (play cells threads codes y st)

-- the state after these plays
abbrev pub plays : List CellDefinition → ℕ → (ℕ → ThreadCode) → List Play → State
plays cells threads codes ys = plays_from cells threads codes ys (opens cells codes)
