-- What a report has of the state: of each cell its newest value, and of each agent its fault.
use Rattle.std.specs.Prelude.{ℕ, suc, List, [], ◌∷◌, Option}
use Rattle.txs_value_data.specs.declared.fault.Fault.{Fault}
use Rattle.txs_value_cell.specs.declared.cell.CellDefinition.{CellDefinition}
use Rattle.txs_value_data.specs.declared.value.CellId.{CellId}
use Rattle.txs_value_data.specs.declared.value.CellKind.{CellKind}
use Rattle.txs_value_data.specs.declared.value.CellKind.TheVariants.{Ref, Atom, Agent}
use Rattle.txs_value_data.specs.declared.value.Value.{Value}
use Rattle.txs_world_book.specs.Book.{mail_after}
use Rattle.txs_world_book.specs.Served.{cells_of}
use Rattle.txs_world_shared.specs.SharedState.{PlainShared, numbered_book, newest_of}

-- the values of these cells, of which the first has this number
abbrev pub values_from : (CellId → Value) → ℕ → List CellDefinition → List Value
values_from value n [] = []
values_from value n (d ∷ ds) = value (record { kind = d.kind; number = n }) ∷ values_from value (suc n) ds

-- the newest value of each cell, by its number
abbrev pub values_of : PlainShared → List Value
values_of s = values_from (newest_of s) 0 s.cells

-- the fault of the agent with this number, if it has failed
abbrev pub fault_of : PlainShared → ℕ → Option Fault
fault_of s n = (mail_after (cells_of s.cells) (numbered_book s 0) n).fault

-- what an agent with this number adds to what is said of those behind it; other cells add nothing
abbrev pub with_fault : (ℕ → Option Fault) → CellKind → ℕ → List (Option Fault) → List (Option Fault)
with_fault fault Ref n fs = fs
with_fault fault Atom n fs = fs
with_fault fault Agent n fs = fault n ∷ fs

-- the faults of the agents among these cells, of which the first has this number
abbrev pub faults_from : (ℕ → Option Fault) → ℕ → List CellDefinition → List (Option Fault)
faults_from fault n [] = []
faults_from fault n (d ∷ ds) = with_fault fault d.kind n (faults_from fault (suc n) ds)

-- of each agent, in the order of the cells, its fault if it has failed
abbrev pub faults_of : PlainShared → List (Option Fault)
faults_of s = faults_from (fault_of s) 0 s.cells
