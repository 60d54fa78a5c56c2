-- How much an actor has printed at least, wherever it is.
use Rattle.std.specs.Prelude.{◌≡◌, ℕ, List, [], ◌∷◌, ◌++◌}
use Rattle.std.proofs.Common.{◌⊎◌}
use Rattle.txs_world_protocol.specs.SeenEvent.{SeenEvent}
use Rattle.txs_world_protocol.specs.declared.event.Event.{Event}
use Rattle.txs_value_cell.specs.declared.cell.CellDefinition.{CellDefinition}
use Rattle.txs_tree_meaning.specs.Thread.{thread_meaning}
use Rattle.txs_tree_meaning.specs.Tree.{ThreadSource}
use Rattle.txs_code_meaning.specs.ActorState.{ActorState}
use Rattle.txs_code_meaning.specs.Machine.{ThreadCode, Configuration, Turned, Ended, Failed, Asking, Unfinished, Stuck}
use Rattle.txs_theorem_threads.specs.Follows.{Follows}
use Rattle.txs_theorem_threads.specs.RepliesFit.{halted, HasWaited}
use Rattle.txs_theorem_runs.specs.Told.{history_of}
use Rattle.txs_theorem_runs.specs.Staged.{StagedCode}
use Rattle.txs_theorem_runs.specs.Run.{Actor, Play, plays}

-- the state has printed this, and maybe more after it
abbrev pub Prints : List ℕ → ActorState → Type 0
Prints out s = (rest : List ℕ) × (s.printed ≡ out ++ rest)

-- and so where an actor is
abbrev pub HasPrinted : List ℕ → Turned Configuration → Type 0
HasPrinted out (Ended s) = Prints out s
HasPrinted out (Failed f s) = Prints out s
HasPrinted out (Asking s) = Prints out s
HasPrinted out (Unfinished c) = Prints out c.state
HasPrinted out Stuck = Unit {0}

-- what each source that the code follows means on these events, up to where it needs another, the actor has printed
abbrev pub PrintedOn : List CellDefinition → ThreadCode → Actor → List SeenEvent → Type 0
PrintedOn cells code x hs = (p : ThreadSource) → p.cells ≡ cells → Follows code p → (out : List ℕ) × HasWaited out (halted (thread_meaning p x.turns hs)) × HasPrinted out x.at

-- an actor that did something has printed what the source means on all of it but the last
abbrev pub PrintedBeforeLast : List CellDefinition → ThreadCode → (ℕ → List Event) → ℕ → Actor → Type 0
PrintedBeforeLast cells code books a x =
    (history_of cells books a x.entries ≡ []) ⊎ ((hs : List SeenEvent) × (e : SeenEvent) × (history_of cells books a x.entries ≡ hs ++ e ∷ []) × PrintedOn cells code x hs)

-- so it is of each actor of a run whose code asks in its stages, also of one that was stopped
abbrev pub RunPrints : Type 0
RunPrints =
    (cells : List CellDefinition) (threads : ℕ) (codes : ℕ → ThreadCode) (ys : List Play) (a : ℕ)
    → StagedCode (codes a)
    → PrintedBeforeLast cells (codes a) (plays cells threads codes ys).shared.books a ((plays cells threads codes ys).actors a)
