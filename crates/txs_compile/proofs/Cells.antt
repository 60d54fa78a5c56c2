-- Cells that are defined have a byte form, with their validators.
use Rattle.std.proofs.Common.{◌≡◌, ◌≤◌, ℕ, Bool, true, false, ◌||◌, List, [], ◌∷◌, length, Option, Some, None, is_some, refl, arith}
use Rattle.std.specs.List.{AllByRecursion}
use Rattle.txs_value_data.specs.declared.op.Callee.{Callee}
use Rattle.txs_value_data.specs.declared.op.Callee.TheVariants as callee
use Rattle.txs_value_data.specs.View.{plain_of}
use Rattle.txs_value_data.specs.declared.value.CellKind.{CellKind}
use Rattle.txs_value_data.specs.declared.value.CellKind.TheVariants.{Ref, Atom, Agent}
use Rattle.txs_value_cell.specs.declared.cell.CellDefinition.{CellDefinition}
use Rattle.txs_value_cell.specs.declared.cell.ErrorMode.{ErrorMode}
use Rattle.txs_value_cell.specs.declared.cell.ErrorMode.TheVariants.{Fail, Continue}
use Rattle.txs_tree_meaning.specs.Known.{Known}
use Rattle.txs_tree_meaning.specs.Scoped.{ScopedValidator, ScopedCells}
use Rattle.txs_code_meaning.specs.OwnCells.{HoldsDefined, OpeningsNameNone}
use Rattle.txs_code_decode.specs.CellForm.{kind_format, mode_format, validator_format, cell_format}
use Rattle.txs_code_meaning.specs.Validating.{has_validator, is_validated}
use Rattle.txs_compile.specs.ReadProgram.{HasMode, CellIsRead}
use Rattle.txs_compile.proofs.Instrs.{IsCallee, callee_fits}
use Rattle.txs_compile.proofs.Values.{no_cell, cell_name_fits, constant_fits}

mode_fits : (k : CellKind) (mode : ErrorMode) → HasMode k mode → (mode_format k).fits mode
unfolding mode_format
mode_fits Ref Fail h = (omega arith, refl)
mode_fits Ref Continue h = absurd cc
mode_fits Atom Fail h = (omega arith, refl)
mode_fits Atom Continue h = absurd cc
mode_fits Agent Fail h = (omega arith, refl)
mode_fits Agent Continue h = (omega arith, refl)

kind_fits : (k : CellKind) → kind_format.fits k
unfolding kind_format
kind_fits Ref = (omega arith, refl)
kind_fits Atom = (omega arith, refl)
kind_fits Agent = (omega arith, refl)

-- ---- validators

-- a validator is an operation, or one of so many functions
abbrev pub IsThere : ℕ → Option Callee → Type 0
IsThere fs None = Unit {0}
IsThere fs (Some f) = IsCallee fs f

-- so is that of each cell
abbrev pub AreThere : ℕ → List CellDefinition → Type 0
AreThere fs ds = AllByRecursion (λ d. IsThere fs d.validator) ds

scoped_there : (ks : List Known) (v : Option Callee) → ScopedValidator ks v → IsThere (length ks) v
scoped_there ks None h = tt
scoped_there ks (Some (callee.Core op)) h = tt
scoped_there ks (Some (callee.Function f)) h = h

-- the validators of a program are functions of the program
pub cells_there : (ks : List Known) (ds : List CellDefinition) → ScopedCells ks ds → AreThere (length ks) ds
cells_there ks [] h = tt
cells_there ks (d ∷ ds) h = (scoped_there ks d.validator h.0, cells_there ks ds h.1)

among_all : (fs : ℕ) (c : Callee) → fs ≤ 1000 → IsCallee fs c → IsCallee 1000 c
among_all fs (callee.Core op) few h = tt
among_all fs (callee.Function f) few h = omega (arith, few, h)

some_fits : (fs : ℕ) (v : Option Callee) → fs ≤ 1000 → IsThere fs v → (validator_format true).fits v
unfolding validator_format
some_fits fs None few h = ((omega arith, refl), refl)
some_fits fs (Some f) few h = ((omega arith, refl), (callee_fits 1000 f (omega arith) (among_all fs f few h), refl))

none_fits : (v : Option Callee) → is_some v ≡ false → (validator_format false).fits v
unfolding validator_format
none_fits None e = refl
none_fits (Some f) e = absurd cc

validator_fits : (validated : Bool) (fs : ℕ) (v : Option Callee) → fs ≤ 1000 → (validated ≡ false → is_some v ≡ false) → IsThere fs v → (validator_format validated).fits v
validator_fits true fs v few none there = some_fits fs v few there
validator_fits false fs v few none there = none_fits v (none refl)

neither : (a b : Bool) → (a || b) ≡ false → (a ≡ false) × (b ≡ false)
neither false b e = (refl, e)
neither true b e = absurd cc

-- ---- cells

cell_fits : (validated : Bool) (d : CellDefinition) → CellIsRead d → HoldsDefined [] (plain_of d.opening) → (validator_format validated).fits d.validator → (cell_format validated).fits d
unfolding cell_format
cell_fits validated d h k v =
    ((kind_fits d.kind, (mode_fits d.kind d.error_mode h.mode, (cell_name_fits d.name h.name, (constant_fits false [] no_cell (omega arith) d.opening h.opening k, v)))), refl)

-- cells have a form in which they have validators, and one in which they have none where they have none
pub cells_fit : (validated : Bool) (fs : ℕ) (ds : List CellDefinition) → fs ≤ 1000 → (validated ≡ false → has_validator ds ≡ false) → AreThere fs ds → AllByRecursion CellIsRead ds → OpeningsNameNone ds → AllByRecursion (cell_format validated).fits ds
cells_fit validated fs [] few none there h k = tt
cells_fit validated fs (d ∷ ds) few none there h k =
    let without = λ (e : validated ≡ false). neither (is_validated d) (has_validator ds) (none e) in (
      cell_fits validated d h.0 k.0 (validator_fits validated fs d.validator few (λ e. (without e).0) there.0),
      cells_fit validated fs ds few (λ e. (without e).1) there.1 h.1 k.1,
    )
