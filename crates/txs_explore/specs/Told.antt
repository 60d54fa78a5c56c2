-- What is told of the end of a code's run, and what is explored of a code.
use Rattle.std.specs.Prelude.{ℕ, zero, suc, List, [], ◌∷◌, length, Option}
use Rattle.txs_world_protocol.specs.SeenEvent.{home}
use Rattle.txs_value_data.specs.declared.fault.Fault.{Fault}
use Rattle.txs_value_cell.specs.declared.cell.CellDefinition.{CellDefinition}
use Rattle.txs_value_data.specs.declared.value.CellId.{CellId}
use Rattle.txs_value_data.specs.declared.value.Value.{Value}
use Rattle.txs_code_meaning.specs.PlainCode.{PlainCode}
use Rattle.txs_machine_actor.specs.PlainActor.{code_of}
use Rattle.txs_world_book.specs.Book.{actors, mail_after}
use Rattle.txs_world_book.specs.Served.{cells_of}
use Rattle.txs_theorem_runs.specs.Run.{State, opens}
use Rattle.txs_theorem_runs.specs.Shared.{Shared, world_of}
use Rattle.txs_explore.specs.Runners.{Runner, End, Ending, Explored}
use Rattle.txs_world_shared.specs.Parts.{values_from, faults_from}
use Rattle.txs_machine.specs.Scheduled.{outcome_of, printed_at}

-- of each of so many numbers, from the k-th on
abbrev pub each_of : {A : Type 0} → (ℕ → A) → ℕ → ℕ → List A
each_of f k zero = []
each_of f k (suc n) = f k ∷ each_of f (suc k) n

-- what is told of an actor: how it ended, if it has, and what it printed
abbrev pub end_of : Runner → End
end_of l = record { ended = outcome_of l.at l.stopped; printed = printed_at l.at }

-- the newest value of a cell, of an agent its state
abbrev pub value_in : List CellDefinition → Shared → CellId → Value
value_in cells sh c = world_of cells (home cells c) (sh.books (home cells c)) (length (sh.books (home cells c))) c.number

-- the fault of the agent with this number, if it has failed
abbrev pub fault_in : List CellDefinition → Shared → ℕ → Option Fault
fault_in cells sh n = (mail_after (cells_of cells) (sh.books 0) n).fault

-- What is told of so many actors, and of what they share: how each ended, if it has, and what it printed; the value of each cell; and of each agent its fault if it has failed.
abbrev pub told_by : List CellDefinition → ℕ → Shared → (ℕ → Runner) → Ending
told_by cells n sh ls = record {
  actors = each_of (λ k. end_of (ls k)) 0 n;
  cells = values_from (value_in cells sh) 0 cells;
  failed = faults_from (fault_in cells sh) 0 cells;
}

-- the threads and agents of a code, each of which may run so many instructions
abbrev pub explored : PlainCode → ℕ → Explored
explored code limit = record {
  cells = code.cells;
  threads = length code.threads;
  codes = code_of code;
  limit = limit;
  told = told_by code.cells (actors (length code.threads) (cells_of code.cells));
}

-- the state of its run in which nothing was done yet
abbrev pub begins : PlainCode → State
begins code = opens code.cells (code_of code)
