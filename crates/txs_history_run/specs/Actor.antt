-- What holds of an actor that has seen a history: it follows the history by its code, and is where the run's actor is.
use Rattle.std.specs.Prelude.{◌≡◌, ◌<◌, ℕ, suc, Bool, true, false, List, [], ◌∷◌, ◌++◌, length, map, Option, Some, None, if◌then◌else◌, vec_capacity, vec_len}
use Rattle.txs_world_protocol.specs.Ask.{may_add_event}
use Rattle.txs_world_protocol.specs.declared.ask.Ask.{Ask}
use Rattle.txs_world_protocol.specs.declared.ask.Ask.TheVariants.{Begin}
use Rattle.txs_world_protocol.specs.declared.event.Place.{Place}
use Rattle.txs_code_meaning.specs.Machine.{Configuration}
use Rattle.txs_code_meaning.specs.PlainCode.{PlainCode}
use Rattle.txs_gate.specs.declared.gate.Made.{Made}
use Rattle.txs_machine_actor.specs.PlainActor.{PlainActor, Awaits, HasRun, Lives, answered, code_of, unanswered}
use Rattle.txs_machine_actor.specs.declared.outcome.Turn.{Turn}
use Rattle.txs_machine_actor.specs.declared.outcome.Turn.TheVariants as turned
use Rattle.txs_theorem_runs.specs.Run.{Actor}
use Rattle.txs_theorem_runs.specs.Stages.{Stage, Idle}
use Rattle.txs_theorem_runs.specs.Standing.{StandingCode}
use Rattle.txs_theorem_runs.specs.Told.{Entry, exchange_of, AllHold, AreStaged, trace_of}
use Rattle.txs_history.specs.declared.asked.Asked.{Asked}
use Rattle.txs_history.specs.Following.{FollowsAll, IsAt}
use Rattle.txs_history.specs.Asked.{History, asked_by, shared_by}
use Rattle.txs_history.specs.Logged.{WasServed, is_memory}
use Rattle.txs_history.specs.declared.serve.Served.{Served}
use Rattle.txs_machine.specs.RunOver.{IsIn, IsLimited, AskedOn, places_of}
use Rattle.txs_machine.specs.Running.{IsPlayerOf}
use Rattle.txs_machine.specs.declared.player.Player.{Player}
use Rattle.txs_history_run.specs.Callees.{HandsOutSent}
use Rattle.txs_history_run.specs.declared.actor.AfterReply.{AfterReply}
use Rattle.txs_history_run.specs.declared.actor.AfterReply.TheVariants as after
use Rattle.txs_history_run.specs.declared.step.Step.{Step}
use Rattle.txs_history_run.specs.declared.step.Step.TheVariants as step

-- ---- an ask

abbrev pub ask_or : Option Ask → Ask
ask_or None = Begin
ask_or (Some q) = q

-- what an actor waits with
abbrev pub asked_of : PlainActor → Asked
asked_of a = asked_by a.number (ask_or (unanswered a))

-- ---- an actor

-- What holds besides of a thread's actor: its asks came in their stages, and it asked for each of them on those before.
pub record IsThreadOn (code : PlainCode) (es : List Entry) (a : PlainActor) : Type 0 where
  pub stands : StandingCode (code_of code a.number)
  pub stage : Stage
  pub staged : AreStaged false Idle es stage
  pub here : IsIn a stage a.outcome (unanswered a)
  pub asked : (before : List Entry) (e : Entry) (rest : List Entry) → es ≡ before ++ e ∷ rest → AskedOn (code_of code a.number) before a

-- On these entries an actor has done what the machine does, within the steps that it may make.
pub record IsOn (code : PlainCode) (es : List Entry) (a : PlainActor) : Type 0 where
  pub ran : HasRun code (map exchange_of es) a
  pub limited : IsLimited a.limit a
  pub thread : a.number < length code.threads → IsThreadOn code es a

-- An actor that asks nothing follows a history, of which it made so many asks, to a place in a run; it is there, and its entries hold in the books of the history.
pub record IsFollowing (code : PlainCode) (a : PlainActor) (trace : List Place) (asks : ℕ) (h : History) : Type 0 where
  pub lives : Lives code a
  pub place : Actor
  pub follows : FollowsAll code.cells (length code.threads) (code_of code a.number) a.number asks h place
  pub hold : AllHold code.cells (length code.threads) (shared_by code.cells h).books a.number place.entries
  pub is : IsPlayerOf code a.number (shared_by code.cells h).books a trace place
  pub on : IsOn code place.entries a

-- An actor that asks this follows a history to the place where a run's actor makes this ask next.
pub record IsWaiting (code : PlainCode) (a : PlainActor) (q : Ask) (trace : List Place) (asks : ℕ) (h : History) : Type 0 where
  pub lives : Lives code a
  pub going : a.outcome ≡ None
  pub waits : unanswered a ≡ Some q
  pub place : Actor
  pub from : Configuration
  pub follows : FollowsAll code.cells (length code.threads) (code_of code a.number) a.number asks h place
  pub at : IsAt place from
  pub awaits : Awaits (code_of code a.number) from a q
  pub hold : AllHold code.cells (length code.threads) (shared_by code.cells h).books a.number place.entries
  pub counted : a.steps ≡ suc place.turns
  pub traced : places_of trace ≡ trace_of code.cells (shared_by code.cells h).books a.number place.entries
  pub on : IsOn code place.entries a

-- how many asks were made, with one more: where there was no memory for it nothing was served
abbrev pub made_with : Bool → ℕ → ℕ
made_with true n = n
made_with false n = suc n

-- An ask of an actor that had made so many was served by the store: it may make one more.
pub record AskServed (code : PlainCode) (a asks : ℕ) (q : Ask) (old new : History) (v : Served) : Type 0 where
  pub fewer : asks < 18446744073709551615
  pub was : WasServed code.cells (length code.threads) 0 a q old new v

-- the trace with the place of the event that was added, if one was
abbrev pub noted : Bool → ℕ → ℕ → List Place → List Place
noted added book at ps = if added then ps ++ record { book = book; at = at } ∷ [] else ps

-- An actor waits with this ask, of so many that it made, and has room for the place of the event that the ask may add.
pub record IsReady (code : PlainCode) (p : Player) (q : Ask) (asks : ℕ) (h : History) : Type 0 where
  pub waiting : IsWaiting code p.actor q p.trace.items asks h
  pub room : may_add_event q ≡ true → vec_len p.trace < vec_capacity p.trace

-- An actor took the answer to its ask, which was served so under the lock with this number: the place of the event is noted, and the ask is counted.
pub record HasTaken (code : PlainCode) (lock : ℕ) (v : Served) (old new : Player) (before later : ℕ) : Type 0 where
  pub took : new.actor ≡ answered old.actor v.reply
  pub lives : Lives code new.actor
  pub free : unanswered new.actor ≡ None
  pub traced : new.trace.items ≡ noted v.added lock v.at old.trace.items
  pub counted : later ≡ made_with (is_memory v.reply) before

-- An actor's ask was served under the lock with this number, and made this. The actor is to do that next: it took the answer, or was handed an action that no code sends.
pub record HasAsked (code : PlainCode) (lock : ℕ) (q : Ask) (old new : Player) (before later : ℕ) (h g : History) (m : Made) (n : AfterReply) : Type 0 where
  pub served : Served
  pub was : WasServed code.cells (length code.threads) lock old.actor.number q h g served
  pub made : m ≡ record { lock = lock; at = served.at; added = served.added }
  pub took : (n ≡ after.Broken → ⊥) → HasTaken code lock served old new before later
  pub broken : n ≡ after.Broken → HandsOutSent code served.reply → ⊥

-- ---- as it is kept

-- what an actor is to do next, by whether it met what no run gives, and by what its last turn came to
abbrev pub step_of : Bool → Turn → Step
step_of false turned.Went = step.Runs
step_of false (turned.Asks q) = step.Asks q
step_of false (turned.Ended o) = step.Broken
step_of true t = step.Broken

-- where it met what no run gives, the ask of the last turn was taken
abbrev pub IsTaken : Bool → Turn → Type 0
IsTaken false t = Unit {0}
IsTaken true t = t ≡ turned.Went

-- ---- as contracts see it

-- an actor with what it has seen
pub record PlainLogged : Type 0 where
  pub player : Player
  pub asks : ℕ
  pub past : History
  pub step : Step

-- what holds of it, by what it is to do next; of one that met what no run gives nothing is known
abbrev pub IsInStep : PlainCode → PlainActor → List Place → ℕ → History → Step → Type 0
IsInStep code a tr n h step.Runs = IsFollowing code a tr n h
IsInStep code a tr n h (step.Asks q) = IsWaiting code a q tr n h
IsInStep code a tr n h step.Broken = Unit {0}

-- Of so many places that are noted, and so many for which there is room: an ask that may add an event has room for its place.
abbrev pub HasRoom : (noted room : ℕ) → Step → Type 0
HasRoom n room step.Runs = Unit {0}
HasRoom n room (step.Asks q) = may_add_event q ≡ true → n < room
HasRoom n room step.Broken = Unit {0}

-- it was made for this code and so many steps
pub record IsLogged (code : PlainCode) (limit : ℕ) (p : PlainLogged) : Type 0 where
  pub limit_is : p.player.actor.limit ≡ limit
  pub in_step : IsInStep code p.player.actor p.player.trace.items p.asks p.past p.step
  pub room : HasRoom (vec_len p.player.trace) (vec_capacity p.player.trace) p.step

-- an actor that waited with an ask, which was served under the lock with this number and made this, is to do that next
pub record HasGone (code : PlainCode) (lock : ℕ) (old new : PlainLogged) (m : Made) (n : AfterReply) : Type 0 where
  pub ask : Ask
  pub waited : old.step ≡ step.Asks ask
  pub asked : HasAsked code lock ask old.player new.player old.asks new.asks old.past new.past m n
  pub runs : (n ≡ after.Broken → ⊥) → new.step ≡ step.Runs
