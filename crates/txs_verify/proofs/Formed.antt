-- Code that has a byte form is such as the verifier takes, and names its own cells alone.
use Rattle.std.proofs.Common.{arith, ◌≡◌, ◌∙◌, ℕ, zero, suc, ◌-◌, ◌<◌, ◌≤◌, Bool, true, false, List, [], ◌∷◌, length, map, Some, None, refl, sym, ap, subst}
use Rattle.std.specs.Prelude.{nat_lt, nat_le, ◌==◌, slice_index_or}
use Rattle.std.specs.List.{AllByRecursion}
use Rattle.std.proofs.lemmas.Bool.{eqb-true, ltb-true, leb-true}
use Rattle.txs_value_data.specs.PlainValue.{PlainValue, PlainValues, nil, truth, int, key, text, vector, cell, end, more, plain_list}
use Rattle.txs_value_data.specs.Places.{nth}
use Rattle.txs_value_data.specs.View.{plain_of}
use Rattle.txs_value_cell.specs.declared.cell.CellDefinition.{CellDefinition}
use Rattle.txs_value_data.specs.declared.fault.Span.{Span}
use Rattle.txs_value_data.specs.declared.value.CellId.{CellId}
use Rattle.txs_value_data.specs.declared.value.CellKind.TheVariants.{Ref}
use Rattle.txs_value_data.specs.declared.value.Value.{Value}
use Rattle.txs_code_meaning.specs.OwnCells.{kind_at, IsDefined, HoldsDefined, RowHoldsDefined, NameDefined, OpeningsNameNone, NamesOwnCells}
use Rattle.txs_code_meaning.specs.PlainCode.{CodeBody, PlainCode}
use Rattle.txs_code_meaning.specs.declared.instr.Instr.{Instr}
use Rattle.txs_code_meaning.specs.declared.instr.Instr.TheVariants as instr
use Rattle.txs_code_decode.specs.declared.error.CodeErrorKind.{CodeErrorKind}
use Rattle.txs_code_decode.specs.declared.error.CodeErrorKind.TheVariants.{BadOperand, TooLarge}
use Rattle.txs_code_decode.specs.CellForm.{cell_format, constant_format, kinds_of}
use Rattle.txs_code_meaning.specs.Validating.{has_validator}
use Rattle.txs_code_decode.specs.CodeForm.{paired, body_format, instructions, all_instructions, most_instructions, cells_format, told_cells_format, constants_format, functions_format, threads_format, program_format, code_format, HasForm}
use Rattle.txs_code_decode.specs.Format.{SharingFits}
use Rattle.txs_code_decode.specs.InstrForm.{instr_format, placed_format}
use Rattle.txs_code_decode.specs.ValueForm.{must, tag_format, value_format}
use Rattle.txs_verify.specs.Alone.{HasConstant}
use Rattle.txs_verify.specs.Verdict.{BodyInForm, IsInForm}

none_is : {A : Type 0} (x : A) → None ≡ Some x → ⊥
none_is x e = absurd cc

some_is : {A : Type 0} (x y : A) → Some x ≡ Some y → x ≡ y
some_is x y e = cc

-- a test that doesn't refuse holds
must_hold : (kind : CodeErrorKind) (b : Bool) → must kind b ≡ None → b ≡ true
must_hold kind true e = refl
must_hold kind false e = absurd cc

-- ---- instructions

constant_there : (ks fs : ℕ) (i : Instr) → (instr_format ks fs).fits i → HasConstant ks i
unfolding instr_format
constant_there ks fs (instr.Const k) fits = ltb-true k ks (must_hold BadOperand (nat_lt k ks) fits.1.0.1)
constant_there ks fs _ fits = tt

-- an item of the pairs, by its first part
first_of : (P : Instr × Span → Type 0) (ps : List (Instr × Span)) → AllByRecursion P ps → (at : ℕ) (i : Instr) → nth (map (λ p. p.0) ps) at ≡ Some i → (p : Instr × Span) × (p.0 ≡ i) × P p
first_of P [] all at i there = absurd (none_is i there)
first_of P (p ∷ ps) all zero i there = (p, some_is p.0 i there, all.0)
first_of P (p ∷ ps) all (suc at) i there = first_of P ps all.1 at i there

placed_there : (ks fs : ℕ) (p : Instr × Span) → (placed_format ks fs).fits p → HasConstant ks p.0
unfolding placed_format
placed_there ks fs p fits = constant_there ks fs p.0 fits.0

length_firsts : (ps : List (Instr × Span)) → length (map (λ p. p.0) ps) ≡ length ps
length_firsts [] = refl
length_firsts (p ∷ ps) = ap suc (length_firsts ps)

-- ---- bodies

few_by : (n m left : ℕ) → m ≡ n → m ≤ left → left ≤ 1000000 → n < 4294967295
few_by n m left e a b = omega (arith, e, a, b)

body_in_form : (thread : Bool) (ks fs left : ℕ) (b : CodeBody) → left ≤ 1000000 → (body_format thread ks fs left).fits b → BodyInForm ks b
unfolding body_format
body_in_form thread ks fs left b most fits =
    let ps = paired b.instrs b.spans in
    let same : map (λ p. p.0) ps ≡ b.instrs = ap (λ (b : CodeBody). b.instrs) fits.1 in
    let within : length ps ≤ left = leb-true (length ps) left (must_hold TooLarge (nat_le (length ps) left) fits.0.1.1.0.0.1) in
    let all : AllByRecursion (placed_format ks fs).fits ps = fits.0.1.1.0.1.1 in
    record {
      few = few_by (length b.instrs) (length ps) left (sym (length_firsts ps) ∙ ap length same) within most;
      known = λ at i there. (let p = first_of (placed_format ks fs).fits ps all at i (ap (λ is. nth is at) same ∙ there) in subst (HasConstant ks) p.1 (placed_there ks fs p.0 p.2));
    }

less_left : (left n : ℕ) → left ≤ 1000000 → left - n ≤ 1000000
less_left left n h = omega (arith, h)

bodies_in_form : (thread : Bool) (ks fs n left : ℕ) (bs : List CodeBody) → left ≤ 1000000 → SharingFits instructions (body_format thread ks fs) n left bs → (at : ℕ) (b : CodeBody) → nth bs at ≡ Some b → (rest : ℕ) × (rest ≤ 1000000) × (body_format thread ks fs rest).fits b
unfolding SharingFits
bodies_in_form thread ks fs n left [] most fits at b there = absurd (none_is b there)
bodies_in_form thread ks fs zero left (x ∷ bs) most fits at b there = absurd fits
bodies_in_form thread ks fs (suc n) left (x ∷ bs) most fits zero b there = (left, most, subst (λ y. (body_format thread ks fs left).fits y) (some_is x b there) fits.0)
bodies_in_form thread ks fs (suc n) left (x ∷ bs) most fits (suc at) b there = bodies_in_form thread ks fs n (left - instructions x) bs (less_left left (instructions x) most) fits.1 at b there

no_parameters : (ks fs left : ℕ) (b : CodeBody) → (body_format true ks fs left).fits b → b.parameters ≡ 0
unfolding body_format
no_parameters ks fs left b fits = eqb-true b.parameters 0 (must_hold BadOperand (b.parameters == 0) fits.0.0.1)

-- ---- cells in values

kind_there : (defs : List CellDefinition) (n : ℕ) → n < length (kinds_of defs) → kind_at defs n ≡ Some (slice_index_or (kinds_of defs) n Ref)
kind_there [] n h = absurd (omega (arith, h))
kind_there (d ∷ defs) zero h = refl
kind_there (d ∷ defs) (suc n) h = kind_there defs n (omega (arith, h))

cell_is : (a b : CellId) → cell a ≡ cell b → a ≡ b
cell_is a b e = cc

defined_by : (defs : List CellDefinition) (c : CellId) → must BadOperand (nat_lt c.number (length (kinds_of defs))) ≡ None → cell (record { kind = slice_index_or (kinds_of defs) c.number Ref; number = c.number }) ≡ cell c → IsDefined defs c
defined_by defs c test same =
    let below : c.number < length (kinds_of defs) = ltb-true c.number (length (kinds_of defs)) (must_hold BadOperand (nat_lt c.number (length (kinds_of defs))) test) in
    let kind = ap (λ (x : CellId). x.kind) (cell_is (record { kind = slice_index_or (kinds_of defs) c.number Ref; number = c.number }) c same) in
    kind_there defs c.number below ∙ ap Some kind

mutual
  unfolding value_format tag_format

  value_held : (defs : List CellDefinition) (cells : Bool) (room : ℕ) (v : PlainValue) → (value_format cells (kinds_of defs) room).fits v → HoldsDefined defs v
  value_held defs cells room nil fits = tt
  value_held defs cells room (truth b) fits = tt
  value_held defs cells room (int z) fits = tt
  value_held defs cells room (key bs) fits = tt
  value_held defs cells room (text bs) fits = tt
  value_held defs cells zero (vector vs) fits = let bad = fits.0.1 in absurd cc
  value_held defs cells (suc room) (vector vs) fits = row_held defs cells room vs fits.1.0.0.1.1
  value_held defs cells zero (cell c) fits = defined_by defs c fits.1.0.1 fits.1.1
  value_held defs cells (suc room) (cell c) fits = defined_by defs c fits.1.0.1 fits.1.1

  row_held : (defs : List CellDefinition) (cells : Bool) (room : ℕ) (vs : PlainValues) → AllByRecursion (value_format cells (kinds_of defs) room).fits (plain_list vs) → RowHoldsDefined defs vs
  row_held defs cells room end fits = tt
  row_held defs cells room (more v vs) fits = (value_held defs cells room v fits.0, row_held defs cells room vs fits.1)

constant_held : (defs : List CellDefinition) (cells : Bool) (v : Value) → (constant_format cells (kinds_of defs)).fits v → HoldsDefined defs (plain_of v)
unfolding constant_format
constant_held defs cells v fits = value_held defs cells 32 (plain_of v) fits.0

constants_held : (defs : List CellDefinition) (vs : List Value) → AllByRecursion (constant_format true (kinds_of defs)).fits vs → NameDefined defs vs
constants_held defs [] all = tt
constants_held defs (v ∷ vs) all = (constant_held defs true v all.0, constants_held defs vs all.1)

opening_held : (validated : Bool) (c : CellDefinition) → (cell_format validated).fits c → HoldsDefined [] (plain_of c.opening)
unfolding cell_format
opening_held validated c fits = constant_held [] false c.opening fits.0.1.1.1.0

openings_held : (validated : Bool) (cells : List CellDefinition) → AllByRecursion (cell_format validated).fits cells → OpeningsNameNone cells
openings_held validated [] all = tt
openings_held validated (c ∷ cells) all = (opening_held validated c all.0, openings_held validated cells all.1)

-- ---- code

-- the parts of code that has a form
record IsFormed (code : PlainCode) : Type 0 where
  pub cells : AllByRecursion (cell_format (has_validator code.cells)).fits code.cells
  pub constants : AllByRecursion (constant_format true (kinds_of code.cells)).fits code.constants
  pub functions : SharingFits instructions (body_format false (length code.constants) (length code.functions)) (length code.functions) most_instructions code.functions
  pub threads : SharingFits instructions (body_format true (length code.constants) (length code.functions)) (length code.threads) (most_instructions - all_instructions code.functions) code.threads

formed : (code : PlainCode) → HasForm code → IsFormed code
unfolding code_format told_cells_format cells_format constants_format program_format functions_format threads_format
formed code fits = record {
  cells = fits.0.1.0.0.0.1.1;
  constants = fits.0.1.1.0.0.1.1;
  functions = fits.0.1.1.1.0.0.1;
  threads = fits.0.1.1.1.1.0.1;
}

-- it is such as the verifier takes
pub in_form : (code : PlainCode) → HasForm code → IsInForm code
in_form code fits =
    let f = formed code fits in
    let ks = length code.constants in
    let fs = length code.functions in
    let left = most_instructions - all_instructions code.functions in
    let few : left ≤ 1000000 = less_left most_instructions (all_instructions code.functions) (let e : most_instructions ≤ 1000000 = omega arith in e) in
    record {
      functions = λ n b there. (let x = bodies_in_form false ks fs fs most_instructions code.functions (omega arith) f.functions n b there in body_in_form false ks fs x.0 b x.1 x.2);
      threads = λ n b there. (let x = bodies_in_form true ks fs (length code.threads) left code.threads few f.threads n b there in body_in_form true ks fs x.0 b x.1 x.2);
      parameters = λ n b there. (let x = bodies_in_form true ks fs (length code.threads) left code.threads few f.threads n b there in no_parameters ks fs x.0 b x.2);
    }

-- and names its own cells alone
pub own_cells : (code : PlainCode) → HasForm code → NamesOwnCells code
own_cells code fits =
    let f = formed code fits in
    record { constants = constants_held code.cells code.constants f.constants; openings = openings_held (has_validator code.cells) code.cells f.cells }

-- it has few cells
pub few_cells : (code : PlainCode) → HasForm code → length code.cells ≤ 1000
unfolding code_format told_cells_format cells_format
few_cells code fits = leb-true (length code.cells) 1000 (must_hold TooLarge (nat_le (length code.cells) 1000) fits.0.1.0.0.0.0.1)

-- and few threads
pub few_threads : (code : PlainCode) → HasForm code → length code.threads ≤ 64
unfolding code_format program_format threads_format
few_threads code fits = leb-true (length code.threads) 64 (must_hold TooLarge (nat_le (length code.threads) 64) fits.0.1.1.1.1.0.0.1)
