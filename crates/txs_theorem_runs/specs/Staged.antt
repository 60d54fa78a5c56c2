-- Code whose turns ask at most once, and each ask in its stage.
use Rattle.std.proofs.Common.{◌⊎◌}
use Rattle.std.specs.Prelude.{◌≡◌, ℕ, Bool, true, false, List, [], ◌∷◌, Option, Some, None}
use Rattle.txs_world_protocol.specs.Ask.{Exchange, Writes}
use Rattle.txs_world_protocol.specs.declared.ask.Ask.{Ask}
use Rattle.txs_world_protocol.specs.declared.ask.Ask.TheVariants as ask
use Rattle.txs_world_protocol.specs.declared.ask.Reply.{Reply}
use Rattle.txs_value_data.specs.declared.fault.Fault.{Fault}
use Rattle.txs_frame.specs.declared.phase.Task.{Task}
use Rattle.txs_frame.specs.declared.phase.Task.TheVariants.{Redoes, Validates}
use Rattle.txs_code_meaning.specs.ActorState.{ActorState, InHand}
use Rattle.txs_code_meaning.specs.Machine.{ThreadCode, Configuration, Turned, Ended, Failed, Asking, Unfinished, Stuck, Activity, first_place, turn, run}
use Rattle.txs_code_meaning.specs.Machine as machine
use Rattle.txs_code_meaning.specs.Opening.{given, opening}
use Rattle.txs_theorem_runs.specs.Stages.{Stage, Idle, Open, Viewing, Swapping, AsksIn, stage_after, Resting}
use Rattle.txs_theorem_runs.specs.Run.{exchange}
use Rattle.txs_theorem_threads.specs.FollowsAgent.{IsBetween}
use Rattle.txs_world.specs.Store.{is_over}

-- whether some of these tasks redoes a commute
abbrev pub redoes_some : List Task → Bool
redoes_some [] = false
redoes_some (Redoes k ∷ work) = true
redoes_some (Validates r f ∷ work) = redoes_some work

-- the stage at a transaction's end: there is a view where commutes are redone, or were, and none where validators alone look at what was set
abbrev pub stage_at_end : Bool → Writes → ActorState → Stage
stage_at_end true values s = Viewing s.at s.view
stage_at_end false [] s = Open s.at
stage_at_end false (w ∷ ws) s = Viewing s.at s.view

-- the stage outside every transaction and swap: an agent that runs no action rests
abbrev pub outside_stage : Bool → Option InHand → Stage
outside_stage false o = Idle
outside_stage true None = Resting
outside_stage true (Some h) = Idle

-- the stage, by what is being done; the truth value says whether the actor is an agent's
abbrev pub stage_in : Bool → Activity → ActorState → Stage
stage_in agent machine.Outside s = outside_stage agent s.acting
stage_in agent (machine.Restarting left) s = Idle
stage_in agent (machine.Running left inner from) s = Open s.at
stage_in agent (machine.Applying left from work values) s = stage_at_end (redoes_some work) values s
stage_in agent (machine.Swapping swap from) s = Swapping swap.cell swap.at

-- the stage of a configuration
abbrev pub stage_of : Bool → Configuration → Stage
stage_of agent c = stage_in agent c.doing c.state

-- whether an action is over with a fault that is yet to be handed in
abbrev pub HasFault : Option Fault → Type 0
HasFault None = ⊥
HasFault (Some f) = Unit {0}

abbrev pub IsOver : Option InHand → Type 0
IsOver None = ⊥
IsOver (Some h) = HasFault h.fault

-- a stage in a transaction that has no view
abbrev pub IsOpen : Stage → Type 0
IsOpen (Open at) = Unit {0}
IsOpen _ = ⊥

-- A configuration is in a stage; an action that is over may be in the stage of its last try.
abbrev pub StandsIn : Bool → Stage → Configuration → Type 0
StandsIn false st c = stage_of false c ≡ st
StandsIn true st c = (stage_of true c ≡ st) ⊎ (IsOpen st × IsOver c.state.acting)

-- a turn whose replies are all consumed, in this stage where it continues
abbrev pub IsStaged : Bool → Stage → Turned Configuration → Type 0
IsStaged agent st (Ended s) = s.todo ≡ []
IsStaged agent st (Failed f s) = s.todo ≡ []
IsStaged agent st (Asking s) = ⊥
IsStaged agent st (Unfinished c) = (c.state.todo ≡ []) × StandsIn agent st c
IsStaged agent st Stuck = Unit {0}

-- where an action was handed in, the agent is at the beginning of its body, and has printed what it had
abbrev pub IsRested : ActorState → Turned Configuration → Type 0
IsRested s o = (t : ActorState) × (o ≡ Unfinished (first_place [] t)) × IsBetween t × (t.todo ≡ []) × (t.printed ≡ s.printed)

-- so it is of this ask, if it hands an action in, with each reply that says that the action is over
abbrev pub HandsIn : ActorState → Ask → (Ask → Reply → Turned Configuration) → Type 0
HandsIn s (ask.Finish g new sends) go = (r : Reply) → is_over r ≡ true → IsRested s (go (ask.Finish g new sends) r)
HandsIn s _ go = Unit {0}

-- what an instruction comes to without a reply, and with one: it makes at most one ask, which comes in the stage
abbrev pub StagedFrom : Bool → Stage → Turned Configuration → (Ask → Reply → Turned Configuration) → Type 0
StagedFrom agent st (Ended s) go = s.todo ≡ []
StagedFrom agent st (Failed f s) go = s.todo ≡ []
StagedFrom agent st (Asking s) go = (q : Ask) × (s.wants ≡ Some q) × AsksIn agent st q × ((r : Reply) → IsStaged agent (stage_after st q r) (go q r)) × HandsIn s q go
StagedFrom agent st (Unfinished d) go = (d.state.todo ≡ []) × StandsIn agent st d
StagedFrom agent st Stuck go = Unit {0}

-- an instruction where all replies are consumed, in each stage that it is in
abbrev pub TurnIsStaged : Bool → ThreadCode → Configuration → Type 0
TurnIsStaged agent code c = (st : Stage) → StandsIn agent st c → StagedFrom agent st (turn code c) (λ q r. turn code (given (exchange q r ∷ []) c))

-- code whose turns ask in their stages, wherever it comes to, whatever it is answered
abbrev pub StagedActor : Bool → ThreadCode → Type 0
StagedActor agent code = (m : ℕ) (xs : List Exchange) (c : Configuration) → run code m (opening code xs) ≡ Unfinished c → c.state.todo ≡ [] → TurnIsStaged agent code c

-- a thread's code that asks so
abbrev pub StagedCode : ThreadCode → Type 0
StagedCode code = StagedActor false code
