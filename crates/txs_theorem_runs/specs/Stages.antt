-- In which order a thread asks.
use Rattle.std.specs.Prelude.{◌≡◌, ℕ, Bool, true, false, List, [], Some, None}
use Rattle.txs_world_protocol.specs.SeenEvent.{home}
use Rattle.txs_world_protocol.specs.declared.ask.Ask.{Ask}
use Rattle.txs_world_protocol.specs.declared.ask.Ask.TheVariants as ask
use Rattle.txs_world_protocol.specs.declared.ask.Reply.{Reply}
use Rattle.txs_world_protocol.specs.declared.ask.Reply.TheVariants as reply
use Rattle.txs_world_protocol.specs.declared.event.Event.{Event}
use Rattle.txs_value_cell.specs.declared.cell.CellDefinition.{CellDefinition}
use Rattle.txs_value_data.specs.declared.value.CellId.{CellId}
use Rattle.txs_theorem_threads.specs.RepliesFit.{Phase, Out, In, Viewed, WithSwap}
use Rattle.txs_theorem_runs.specs.Shared.{world_of}

-- where an actor is with the shared state: an agent that runs no action; outside every transaction, in one with this read point, in its commute
-- phase with this view, or while a swap is applied that was opened at this index
pub data Stage : Type 0 where
  Resting : Stage
  Idle : Stage
  Open : (at : ℕ) → Stage
  Viewing : (at view : ℕ) → Stage
  Swapping : (cell : CellId) (at : ℕ) → Stage

-- which asks come in a stage; the truth value says whether the actor is an agent's
abbrev pub AsksIn : Bool → Stage → Ask → Type 0
AsksIn agent Idle ask.Begin = Unit {0}
AsksIn agent Idle (ask.Peek c) = Unit {0}
-- (an action holds its sends)
AsksIn agent Idle (ask.Send x) = agent ≡ false
AsksIn agent Idle (ask.OpenAt c) = Unit {0}
AsksIn agent Idle (ask.CloseAt c None v) = Unit {0}
-- an action is handed in outside every transaction
AsksIn agent Idle (ask.Finish g new sends) = agent ≡ true
AsksIn agent Idle _ = ⊥
AsksIn agent Resting (ask.Take g) = agent ≡ true
AsksIn agent Resting _ = ⊥
-- a commit without a view has no commuted refs, and an agent's commit has no sends
AsksIn agent (Open at) (ask.Look c p) = at ≡ p
AsksIn agent (Open at) (ask.View cs) = Unit {0}
AsksIn agent (Open at) (ask.Commit p sets ensured q commuted sends) = (at ≡ p) × (commuted ≡ []) × (agent ≡ true → sends ≡ [])
AsksIn agent (Open at) (ask.Fail p q) = at ≡ p
-- an action whose last try was to begin its commutes again is over, and is handed in
AsksIn agent (Open at) (ask.Finish g new sends) = agent ≡ true
AsksIn agent (Open at) _ = ⊥
AsksIn agent (Viewing at view) (ask.Commit p sets ensured q commuted sends) = (at ≡ p) × (view ≡ q) × (agent ≡ true → sends ≡ [])
AsksIn agent (Viewing at view) (ask.Fail p q) = (at ≡ p) × (view ≡ q)
AsksIn agent (Viewing at view) _ = ⊥
AsksIn agent (Swapping c at) (ask.CloseAt d (Some p) v) = (c ≡ d) × (at ≡ p)
AsksIn agent (Swapping c at) (ask.Broke d p) = (c ≡ d) × (at ≡ p)
AsksIn agent (Swapping c at) _ = ⊥

-- the stage in which an actor begins
abbrev pub first_stage : Bool → Stage
first_stage false = Idle
first_stage true = Resting

-- the stage after a reply
abbrev pub stage_after : Stage → Ask → Reply → Stage
stage_after Idle ask.Begin (reply.At p) = Open p
stage_after Idle (ask.OpenAt c) (reply.Opened p v) = Swapping c p
stage_after Idle (ask.Finish g new sends) _ = Resting
stage_after Idle _ _ = Idle
stage_after Resting (ask.Take g) (reply.Action n x v) = Idle
stage_after Resting _ _ = Resting
stage_after (Open at) (ask.Look c p) (reply.Is v) = Open at
stage_after (Open at) (ask.View cs) (reply.Views q vs) = Viewing at q
-- (no commit without a view is answered so)
stage_after (Open at) (ask.Commit p sets ensured q commuted sends) (reply.Changed c) = Open at
stage_after (Open at) (ask.Finish g new sends) _ = Resting
stage_after (Open at) _ _ = Idle
-- the commutes alone are made again
stage_after (Viewing at view) (ask.Commit p sets ensured q commuted sends) (reply.Changed c) = Open at
stage_after (Viewing at view) _ _ = Idle
stage_after (Swapping c at) _ _ = Idle

-- a stage's phase: the worlds at its read point and view, and that of the atom at the place where a swap was opened
abbrev pub phase_of : List CellDefinition → (ℕ → List Event) → Stage → Phase
phase_of cells books Resting = Out
phase_of cells books Idle = Out
phase_of cells books (Open p) = In (world_of cells 0 (books 0) p)
phase_of cells books (Viewing p q) = Viewed (world_of cells 0 (books 0) p) (world_of cells 0 (books 0) q)
phase_of cells books (Swapping c p) = WithSwap c (world_of cells (home cells c) (books (home cells c)) p)
