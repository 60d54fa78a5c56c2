-- What several workers did.
use Rattle.std.specs.Prelude.{◌≡◌, ℕ, true, List, [], ◌∷◌, length, Some, None}
use Rattle.txs_code_meaning.specs.PlainCode.{PlainCode}
use Rattle.txs_machine.specs.Agents.{AreDrained}
use Rattle.txs_machine.specs.RunOver.{IsStateOf}
use Rattle.txs_machine.specs.Schedule.{HaveEnded}
use Rattle.txs_machine.specs.declared.schedule.Entries.{Entries}
use Rattle.txs_theorem_runs.specs.Shared.{store_of, untouched}
use Rattle.txs_world_protocol.specs.declared.report.ActorReport.{ActorReport}
use Rattle.txs_history_run.specs.Settled.{IsRunReport}
use Rattle.txs_world_shared.specs.Kept.{atoms_of}
use Rattle.txs_world_shared.specs.SharedState.{PlainShared, numbered_book, shared_of}
use Rattle.txs_value_data.specs.Places.{nth}
use Rattle.txs_value_data.specs.declared.value.CellId.{CellId}
use Rattle.txs_world_book.specs.Atom.{PlainAtom}
use Rattle.txs_world_book.specs.Book.{has_agent}
use Rattle.txs_world_book.specs.Served.{cells_of}
use Rattle.txs_world.specs.Store.{PlainStore, next_action}

-- every thread has ended
abbrev pub AllEnded : List ActorReport → Type 0
AllEnded [] = Unit {0}
AllEnded (r ∷ rs) = (r.outcome ≡ None → ⊥) × AllEnded rs

-- these are agents of the state's cells
abbrev pub AreAgents : PlainShared → List CellId → Type 0
AreAgents s gs = (i : ℕ) (g : CellId) → nth gs i ≡ Some g → has_agent (cells_of s.cells) g ≡ true

-- an agent whose actor hasn't ended has failed, or nothing waits for it
abbrev pub IsDrained : PlainShared → CellId → ActorReport → Type 0
IsDrained s g r = r.outcome ≡ None → next_action (cells_of s.cells) (numbered_book s 0) g ≡ None

-- so it is of each of these agents, with its entry
abbrev pub AllDrained : PlainShared → List CellId → List ActorReport → Type 0
AllDrained s [] rs = Unit {0}
AllDrained s (g ∷ gs) [] = Unit {0}
AllDrained s (g ∷ gs) (r ∷ rs) = IsDrained s g r × AllDrained s gs rs

-- What is left of a run, its state and the report: all that `run_threads` says of them.
pub record IsLeft (code : PlainCode) (limit : ℕ) (s : PlainShared) (report : Entries) : Type 0 where
  pub of : IsStateOf code s
  pub ended : HaveEnded report.threads.items
  pub drained : AreDrained code (shared_of s) report.agents.items
  pub says : IsRunReport code limit s report

-- ---- before the first ask

-- The store and the atoms of the code's cells, as they open.
pub record AreOpened (code : PlainCode) (store : PlainStore) (atoms : List PlainAtom) : Type 0 where
  pub store_is : store ≡ store_of code.cells (length code.threads) (untouched code.cells)
  pub atoms_are : atoms ≡ atoms_of 0 code.cells
