-- What an audit has decided with some turns of each loop it decides so with more.
use Rattle.std.specs.Prelude.{◌≡◌, ◌≤◌, ℕ, Bool, List, Option, Some, Result}
use Rattle.txs_value_data.specs.Places.{nth}
use Rattle.txs_value_data.specs.declared.fault.Fault.{Fault}
use Rattle.txs_value_cell.specs.declared.action.Action.{Action}
use Rattle.txs_value_data.specs.declared.value.CellId.{CellId}
use Rattle.txs_value_data.specs.declared.value.Value.{Value}
use Rattle.txs_world_protocol.specs.declared.event.Event.{Event}
use Rattle.txs_tree_meaning.specs.Sound.{Sound}
use Rattle.txs_tree_meaning.specs.Tree.{PlainProgram, PlainThread}
use Rattle.txs_theorem_threads.specs.Noted.{txs_of}
use Rattle.txs_world_book.specs.Served.{cells_of}
use Rattle.txs_world.specs.Store.{next_action}
use Rattle.txs_theorem_runs.specs.Told.{Place}
use Rattle.txs_theorem_audit.specs.Audited.{PlainActorReport, PlainReport, books_of, Finding, Fine, Off, Short}
use Rattle.txs_theorem_audit.specs.Explained.{meaning_of}
use Rattle.txs_theorem_audit.specs.Verdict.{thread_found, action_found, action_prints, action_covered, rest_found, covered_all}

-- a finding is no want of turns
abbrev pub IsDecided : Finding → Type 0
IsDecided Fine = Unit {0}
IsDecided (Off a i) = Unit {0}
IsDecided (Short a i) = ⊥

-- what is found of a thread of the program, and where nothing is found, whether its commits are covered
abbrev pub ThreadStays : Type 0
ThreadStays =
    (p : PlainProgram) (r : PlainReport) (n m a i : ℕ) (t : PlainThread) (ran : PlainActorReport) → Sound p → n ≤ m → nth p.threads i ≡ Some t → IsDecided (thread_found p r n a t ran)
    → (thread_found p r m a t ran ≡ thread_found p r n a t ran)
    × (thread_found p r n a t ran ≡ Fine → covered_all (books_of r) ran.trace (txs_of (meaning_of p r t ran m)) ≡ covered_all (books_of r) ran.trace (txs_of (meaning_of p r t ran n)))

-- the same of an action that is over, and where nothing is found, what it prints
abbrev pub ActionStays : Type 0
ActionStays =
    (p : PlainProgram) (r : PlainReport) (n m a i k : ℕ) (done : List Event) (g : CellId) (since : List Place) (new : Result Value Fault) (sends : List Action) (x : Option Action)
    → Sound p → n ≤ m → IsDecided (action_found p r n a i k done g since new sends x)
    → (action_found p r m a i k done g since new sends x ≡ action_found p r n a i k done g since new sends x)
    × (action_found p r n a i k done g since new sends x ≡ Fine → (action_prints p r m done g since x ≡ action_prints p r n done g since x) × (action_covered p r m done g since x ≡ action_covered p r n done g since x))

-- the same of what an agent's actor did behind its last act
abbrev pub RestStays : Type 0
RestStays =
    (p : PlainProgram) (r : PlainReport) (n m a i k : ℕ) (full : Bool) (g : CellId) (since : List Place) (out : List ℕ)
    → Sound p → n ≤ m → IsDecided (rest_found p r n full a i k g since out)
    → (rest_found p r m full a i k g since out ≡ rest_found p r n full a i k g since out)
    × (rest_found p r n full a i k g since out ≡ Fine → action_covered p r m r.book g since (next_action (cells_of p.cells) r.book g) ≡ action_covered p r n r.book g since (next_action (cells_of p.cells) r.book g))
