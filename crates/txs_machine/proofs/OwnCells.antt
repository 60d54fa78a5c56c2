-- Code that names its own cells alone has constants and opening values in which all cells are the store's.
use Rattle.std.proofs.Common.{◌≡◌, ℕ, zero, suc, true, List, [], ◌∷◌, ◌-◌, length, Option, Some, None, refl, sym, ap, subst, slice_index_or}
use Rattle.txs_value_cell.specs.Forms.{same_kind}
use Rattle.txs_value_data.specs.PlainValue.{PlainValue, nil, truth, int, key, text, vector, cell, PlainValues, end, more}
use Rattle.txs_value_data.specs.Places.{nth}
use Rattle.txs_value_data.specs.View.{plain_of}
use Rattle.txs_value_cell.specs.declared.cell.CellDefinition.{CellDefinition}
use Rattle.txs_value_data.specs.declared.fault.Span.{Span}
use Rattle.txs_value_data.specs.declared.value.CellId.{CellId}
use Rattle.txs_value_data.specs.declared.value.CellKind.{CellKind}
use Rattle.txs_value_data.specs.declared.value.CellKind.TheVariants.{Ref, Atom, Agent}
use Rattle.txs_value_data.specs.declared.value.Value.{Value}
use Rattle.txs_value_data.specs.declared.value.Value.TheVariants.{Nil}
use Rattle.txs_code_meaning.specs.Machine.{PlainInstr, Push, fetch, instr_at}
use Rattle.txs_code_meaning.specs.OwnCells.{kind_at, HoldsDefined, RowHoldsDefined, NameDefined, OpeningsNameNone, NamesOwnCells}
use Rattle.txs_code_meaning.specs.PlainCode.{CodeBody, PlainCode, parameters_of, plain_instr, plain_instrs, plain_bodies}
use Rattle.txs_code_meaning.specs.declared.instr.Instr.{Instr}
use Rattle.txs_code_meaning.specs.declared.instr.Instr.TheVariants as instr
use Rattle.txs_machine_actor.specs.PlainActor.{agent_or_none, own_body, code_of}
use Rattle.txs_value_cell.specs.Agents.{agents_from}
use Rattle.txs_world_book.specs.Book.{is_of_kind, opening}
use Rattle.txs_world_book.specs.Served.{cells_of}
use Rattle.txs_theorem_runs.specs.Lawful.{HasCells, RowHasCells, IsKnown, CodeIsKnown, OpeningIsKnown}

-- ---- cells

kind_itself : (k : CellKind) → same_kind k k ≡ true
kind_itself Ref = refl
kind_itself Atom = refl
kind_itself Agent = refl

abbrev IsThere : {A : Type 0} → Option A → Type 0
IsThere None = ⊥
IsThere (Some x) = Unit {0}

abbrev kind_or : CellKind → Option CellKind → CellKind
kind_or k None = k
kind_or k (Some j) = j

-- a cell that is defined is one of the store's
is_there : (cells : List CellDefinition) (n : ℕ) (k : CellKind) → kind_at cells n ≡ Some k → is_of_kind k (nth (cells_of cells) n) ≡ true
is_there [] n k h = absurd (subst IsThere (sym h) tt)
is_there (d ∷ ds) zero k h = subst (λ j. same_kind k j ≡ true) (sym (ap (kind_or k) h)) (kind_itself k)
is_there (d ∷ ds) (suc n) k h = is_there ds n k h

-- ---- values

module _ (cells : List CellDefinition) where
  mutual
    plain_known : (d : PlainValue) → HoldsDefined cells d → HasCells cells d
    plain_known nil h = tt
    plain_known (truth b) h = tt
    plain_known (int z) h = tt
    plain_known (key bs) h = tt
    plain_known (text bs) h = tt
    plain_known (vector ds) h = row_known ds h
    plain_known (cell c) h = is_there cells c.number c.kind h

    row_known : (ds : PlainValues) → RowHoldsDefined cells ds → RowHasCells cells ds
    row_known end h = tt
    row_known (more d ds) h = (plain_known d h.0, row_known ds h.1)

  mutual
    plain_none : (d : PlainValue) → HoldsDefined [] d → HasCells cells d
    plain_none nil h = tt
    plain_none (truth b) h = tt
    plain_none (int z) h = tt
    plain_none (key bs) h = tt
    plain_none (text bs) h = tt
    plain_none (vector ds) h = row_none ds h
    plain_none (cell c) h = absurd (subst IsThere (sym h) tt)

    row_none : (ds : PlainValues) → RowHoldsDefined [] ds → RowHasCells cells ds
    row_none end h = tt
    row_none (more d ds) h = (plain_none d h.0, row_none ds h.1)

  opens_known : (ds : List CellDefinition) → OpeningsNameNone ds → (k : ℕ) → IsKnown cells (opening (cells_of ds) k)
  opens_known [] h k = tt
  opens_known (d ∷ ds) h zero = plain_none (plain_of d.opening) h.0
  opens_known (d ∷ ds) h (suc k) = opens_known ds h.1 k

  constant_known : (vs : List Value) (k : ℕ) → NameDefined cells vs → IsKnown cells (slice_index_or vs k Nil)
  constant_known [] zero h = tt
  constant_known [] (suc k) h = tt
  constant_known (v ∷ vs) zero h = plain_known (plain_of v) h.0
  constant_known (v ∷ vs) (suc k) h = constant_known vs k h.1

  -- ---- instructions

  abbrev PushKnown : PlainInstr → Type 0
  PushKnown (Push v) = IsKnown cells v
  PushKnown _ = Unit {0}

  abbrev FoundKnown : Option PlainInstr → Type 0
  FoundKnown None = Unit {0}
  FoundKnown (Some i) = PushKnown i

  instr_known : (ps : List ℕ) (vs : List Value) (i : Instr) (span : Span) → NameDefined cells vs → PushKnown (plain_instr ps vs i span)
  instr_known ps vs (instr.Const k) span h = constant_known vs k h
  instr_known ps vs _ span h = tt

  nth_known : (ps : List ℕ) (vs : List Value) (is : List Instr) (spans : List Span) (at : ℕ) → NameDefined cells vs → FoundKnown (nth (plain_instrs ps vs is spans) at)
  nth_known ps vs [] spans at h = tt
  nth_known ps vs (i ∷ is) [] at h = tt
  nth_known ps vs (i ∷ is) (span ∷ spans) zero h = instr_known ps vs i span h
  nth_known ps vs (i ∷ is) (span ∷ spans) (suc at) h = nth_known ps vs is spans at h

  body_known : (ps : List ℕ) (vs : List Value) (bs : List CodeBody) (f at : ℕ) → NameDefined cells vs → FoundKnown (instr_at (nth (plain_bodies ps vs bs) f) at)
  body_known ps vs [] f at h = tt
  body_known ps vs (b ∷ bs) zero at h = nth_known ps vs b.instrs b.spans at h
  body_known ps vs (b ∷ bs) (suc f) at h = body_known ps vs bs f at h

pub openings_known : (code : PlainCode) → NamesOwnCells code → OpeningIsKnown code.cells
openings_known code h k = opens_known code.cells code.cells h.openings k

-- the code of each actor
pub code_known : (code : PlainCode) (n : ℕ) → NamesOwnCells code → CodeIsKnown code.cells (code_of code n)
code_known code n h f at v e = subst (FoundKnown code.cells) e (found f)
  where
    agent_known : (o : Option CellId) (at : ℕ) → FoundKnown code.cells (nth (agent_or_none o).instrs at)
    agent_known None at = tt
    agent_known (Some g) zero = tt
    agent_known (Some g) (suc zero) = tt
    agent_known (Some g) (suc (suc zero)) = tt
    agent_known (Some g) (suc (suc (suc at))) = tt

    own_known : (o : Option CodeBody) → FoundKnown code.cells (nth (own_body code n o).instrs at)
    own_known None = agent_known (nth (agents_from 0 code.cells) (n - length code.threads)) at
    own_known (Some b) = nth_known code.cells (parameters_of code.functions) code.constants b.instrs b.spans at h.constants

    found : (f : ℕ) → FoundKnown code.cells (fetch (code_of code n) f at)
    found zero = own_known (nth code.threads n)
    found (suc f) = body_known code.cells (parameters_of code.functions) code.constants code.functions f at h.constants
