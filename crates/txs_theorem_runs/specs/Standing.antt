-- Where the instructions of an actor may be.
use Rattle.std.specs.Prelude.{◌≡◌, ℕ, Bool, true, false, List, Option, Some, None}
use Rattle.txs_world_protocol.specs.Ask.{Exchange}
use Rattle.txs_value_data.specs.declared.fault.Fault.{Fault}
use Rattle.txs_code_meaning.specs.Machine.{PlainInstr, LookOf, PutOf, OpenOf, CloseOf, SendOf, TakeOf, RunOf, FinishOf, ThreadCode, fetch, Activity, Outside, Applying, Swapping, Configuration, Unfinished, run}
use Rattle.txs_code_meaning.specs.Opening.{opening}
use Rattle.txs_theorem_runs.specs.Staged.{StagedActor}
use Rattle.txs_code_meaning.specs.ActorState.{InHand}

-- an agent takes and runs actions outside every transaction; the truth value says whether the actor is an agent's
abbrev pub IsOwn : Bool → Activity → Type 0
IsOwn true Outside = Unit {0}
IsOwn _ _ = ⊥

-- an agent hands an action in outside every commute phase and swap
abbrev pub MayHandIn : Bool → Activity → Type 0
MayHandIn true (Applying left from work values) = ⊥
MayHandIn true (Swapping swap from) = ⊥
MayHandIn true doing = Unit {0}
MayHandIn false doing = ⊥

-- A form on a cell is outside every transaction or in one, and in no commute phase and no swap, whose callees are pure; and
-- an agent's own instructions are none of a thread's.
abbrev pub MayStandIn : Bool → Activity → PlainInstr → Type 0
MayStandIn agent doing (TakeOf g) = IsOwn agent doing
MayStandIn agent doing RunOf = IsOwn agent doing
MayStandIn agent doing (FinishOf g) = MayHandIn agent doing
MayStandIn agent (Applying left from work values) (LookOf f span) = ⊥
MayStandIn agent (Applying left from work values) (PutOf f span) = ⊥
MayStandIn agent (Applying left from work values) (OpenOf f n span) = ⊥
MayStandIn agent (Applying left from work values) (CloseOf f span) = ⊥
MayStandIn agent (Applying left from work values) (SendOf f n span) = ⊥
MayStandIn agent (Swapping swap from) (LookOf f span) = ⊥
MayStandIn agent (Swapping swap from) (PutOf f span) = ⊥
MayStandIn agent (Swapping swap from) (OpenOf f n span) = ⊥
MayStandIn agent (Swapping swap from) (SendOf f n span) = ⊥
MayStandIn agent doing i = Unit {0}

-- the next instruction may be here
abbrev pub MayStandHere : Bool → Activity → Option PlainInstr → Type 0
MayStandHere agent doing None = Unit {0}
MayStandHere agent doing (Some i) = MayStandIn agent doing i

-- a thread runs no agent's action
abbrev pub MayRun : Bool → Option InHand → Type 0
MayRun agent None = Unit {0}
MayRun agent (Some h) = agent ≡ true

-- of an agent that runs an action, which is over with this fault or isn't over: one that is over is handed in, and no other is taken
abbrev pub RunsOne : Option Fault → Option PlainInstr → Type 0
RunsOne o (Some (TakeOf g)) = ⊥
RunsOne o (Some (FinishOf g)) = Unit {0}
RunsOne None i = Unit {0}
RunsOne (Some f) i = ⊥

-- an agent that runs no action takes one, and does nothing else
abbrev pub TakesOne : Option PlainInstr → Type 0
TakesOne (Some (TakeOf g)) = Unit {0}
TakesOne _ = ⊥

-- an agent takes an action, runs it, and hands it in, one after another
abbrev pub TakesTurns : Bool → Option InHand → Option PlainInstr → Type 0
TakesTurns false o i = Unit {0}
TakesTurns true None i = TakesOne i
TakesTurns true (Some h) i = RunsOne h.fault i

-- code whose instructions are where they may be, wherever it comes to, whatever it is answered
abbrev pub StandingActor : Bool → ThreadCode → Type 0
StandingActor agent code =
    (m : ℕ) (xs : List Exchange) (c : Configuration)
    → run code m (opening code xs) ≡ Unfinished c → MayStandHere agent c.doing (fetch code c.body c.place) × MayRun agent c.state.acting × TakesTurns agent c.state.acting (fetch code c.body c.place)

-- so it is of a thread's
abbrev pub StandingCode : ThreadCode → Type 0
StandingCode code = StandingActor false code

-- such code asks in its stages
abbrev pub StandingIsStaged : Type 0
StandingIsStaged = (agent : Bool) (code : ThreadCode) → StandingActor agent code → StagedActor agent code
