-- The bytes of the formats are those that are written.
use Rattle.std.proofs.Common.{◌≡◌, ℕ, zero, suc, ◌+◌, ◌-◌, ◌^◌, ◌<◌, Bool, true, false, List, [], ◌∷◌, ◌++◌, length, map, get_or, Option, Some, None, refl, sym, ap, ◌∙◌, append_assoc, arith}
use Rattle.std.specs.List.{flat_map, AllByRecursion}
use Rattle.std.specs.Int.{w16, w32, to_be_bytes}
use Rattle.std.proofs.lemmas.List.Concat.{flat_map-cons}
use Rattle.txs_value_data.specs.PlainValue.{PlainValue, PlainValues, nil, truth, int, key, text, vector, cell, end, more, plain_list}
use Rattle.txs_value_data.specs.View.{plain_of}
use Rattle.txs_value_cell.specs.declared.cell.CellDefinition.{CellDefinition}
use Rattle.txs_value_data.specs.declared.fault.Span.{Span}
use Rattle.txs_value_cell.specs.declared.form.LookForm.TheVariants.{Deref, Ensure}
use Rattle.txs_value_cell.specs.declared.form.PutForm.TheVariants.{RefSet, Reset}
use Rattle.txs_value_cell.specs.declared.form.UpdateForm.TheVariants as update
use Rattle.txs_value_data.specs.declared.op.Callee.{Callee}
use Rattle.txs_value_data.specs.declared.op.Callee.TheVariants as callee
use Rattle.txs_value_data.specs.declared.value.CellKind.{CellKind}
use Rattle.txs_value_data.specs.declared.value.Value.{Value}
use Rattle.txs_code_meaning.specs.PlainCode.{CodeBody, PlainCode}
use Rattle.txs_code_meaning.specs.declared.instr.Instr.{Instr}
use Rattle.txs_code_meaning.specs.declared.instr.Instr.TheVariants as instr
use Rattle.txs_code_meaning.specs.declared.instr.OpenForm.TheVariants as open_form
use Rattle.txs_code_decode.specs.CellForm.{kind_byte, mode_byte, kind_format, mode_format, constant_format, cell_format, kinds_of, validator_bytes, validator_format, cell_bytes, constant_bytes}
use Rattle.txs_code_meaning.specs.Validating.{has_validator}
use Rattle.txs_code_decode.specs.CodeForm.{paired, body_format, instructions, all_instructions, most_instructions, magic_bytes, magic_format, cells_format, told_cells_format, constants_format, functions_format, threads_format, program_format, code_format, HasForm, counted_bytes, body_bytes, form, AreBodies, IsSmall}
use Rattle.txs_code_decode.specs.Format.{Format, sharing_form, SharingFits}
use Rattle.txs_code_decode.specs.InstrForm.{op_format, callee_format, callee_bytes, opcode_format, instr_format, instr_bytes, span_format, placed_format, placed_bytes}
use Rattle.txs_code_decode.specs.ValueForm.{tag_format, keyword_format, cell_name_format, text_format, value_format, name_bytes, value_bytes, row_bytes, IsWritable, AreWritable}

-- ---- values

mutual
  unfolding value_format tag_format keyword_format text_format

  -- the format's bytes of what it is for
  pub value_form : (cells : Bool) (kinds : List CellKind) (room : ℕ) (v : PlainValue) → (value_format cells kinds room).fits v → (value_format cells kinds room).form v ≡ value_bytes v
  value_form cells kinds zero nil fits = refl
  value_form cells kinds zero (truth false) fits = refl
  value_form cells kinds zero (truth true) fits = refl
  value_form cells kinds zero (int z) fits = refl
  value_form cells kinds zero (key bs) fits = refl
  value_form cells kinds zero (text bs) fits = refl
  value_form cells kinds zero (vector vs) fits = let bad = fits.0.1 in absurd cc
  value_form cells kinds zero (cell c) fits = refl
  value_form cells kinds (suc room) nil fits = refl
  value_form cells kinds (suc room) (truth false) fits = refl
  value_form cells kinds (suc room) (truth true) fits = refl
  value_form cells kinds (suc room) (int z) fits = refl
  value_form cells kinds (suc room) (key bs) fits = refl
  value_form cells kinds (suc room) (text bs) fits = refl
  value_form cells kinds (suc room) (vector vs) fits = ap (λ bs. 6 ∷ (to_be_bytes w16 (length (plain_list vs)) ++ bs)) (row_form cells kinds room vs fits.1.0.0.1.1)
  value_form cells kinds (suc room) (cell c) fits = refl

  pub row_form : (cells : Bool) (kinds : List CellKind) (room : ℕ) (vs : PlainValues) → AllByRecursion (value_format cells kinds room).fits (plain_list vs) → flat_map (value_format cells kinds room).form (plain_list vs) ≡ row_bytes vs
  row_form cells kinds room end fits = refl
  row_form cells kinds room (more v vs) fits =
      flat_map-cons (value_format cells kinds room).form v (plain_list vs)
      ∙ ap (λ bs. bs ++ flat_map (value_format cells kinds room).form (plain_list vs)) (value_form cells kinds room v fits.0)
      ∙ ap (λ bs. value_bytes v ++ bs) (row_form cells kinds room vs fits.1)

mutual
  unfolding value_format tag_format text_format

  -- what the format is for can be written
  pub value_writable : (cells : Bool) (kinds : List CellKind) (room : ℕ) (v : PlainValue) → (value_format cells kinds room).fits v → IsWritable v
  value_writable cells kinds room nil fits = tt
  value_writable cells kinds room (truth b) fits = tt
  value_writable cells kinds room (int z) fits = tt
  value_writable cells kinds room (key bs) fits = tt
  value_writable cells kinds zero (text bs) fits = fits.1.0.0.0
  value_writable cells kinds (suc room) (text bs) fits = fits.1.0.0.0
  value_writable cells kinds zero (vector vs) fits = let bad = fits.0.1 in absurd cc
  value_writable cells kinds (suc room) (vector vs) fits = row_writable cells kinds room vs fits.1.0.0.1.1
  value_writable cells kinds room (cell c) fits = tt

  pub row_writable : (cells : Bool) (kinds : List CellKind) (room : ℕ) (vs : PlainValues) → AllByRecursion (value_format cells kinds room).fits (plain_list vs) → AreWritable vs
  row_writable cells kinds room end fits = tt
  row_writable cells kinds room (more v vs) fits = (value_writable cells kinds room v fits.0, row_writable cells kinds room vs fits.1)

constant_form : (cells : Bool) (kinds : List CellKind) (v : Value) → (constant_format cells kinds).fits v → (constant_format cells kinds).form v ≡ constant_bytes v
unfolding constant_format
constant_form cells kinds v fits = value_form cells kinds 32 (plain_of v) fits.0

constant_writable : (cells : Bool) (kinds : List CellKind) (v : Value) → (constant_format cells kinds).fits v → IsWritable (plain_of v)
unfolding constant_format
constant_writable cells kinds v fits = value_writable cells kinds 32 (plain_of v) fits.0

callee_form : (fs : ℕ) (c : Callee) → (callee_format fs).form c ≡ callee_bytes c
unfolding callee_format
callee_form fs (callee.Core op) = refl
callee_form fs (callee.Function f) = refl

validator_form : (validated : Bool) (v : Option Callee) → (validator_format validated).form v ≡ validator_bytes validated v
unfolding validator_format
validator_form false v = refl
validator_form true None = refl
validator_form true (Some f) = ap (λ (bs : List ℕ). 1 ∷ bs) (callee_form 1000 f)

cell_form : (validated : Bool) (c : CellDefinition) → (cell_format validated).fits c → (cell_format validated).form c ≡ cell_bytes validated c
unfolding cell_format kind_format mode_format cell_name_format
cell_form validated c fits =
    ap (λ (bs : List ℕ). kind_byte c.kind ∷ mode_byte c.error_mode ∷ (name_bytes c.name ++ (bs ++ (validator_format validated).form c.validator))) (constant_form false [] c.opening fits.0.1.1.1.0)
    ∙ ap (λ (bs : List ℕ). kind_byte c.kind ∷ mode_byte c.error_mode ∷ (name_bytes c.name ++ (constant_bytes c.opening ++ bs))) (validator_form validated c.validator)

cell_writable : (validated : Bool) (c : CellDefinition) → (cell_format validated).fits c → IsWritable (plain_of c.opening)
unfolding cell_format
cell_writable validated c fits = constant_writable false [] c.opening fits.0.1.1.1.0

-- ---- lists

flat_form : {A : Type 0} (f g : A → List ℕ) (P : A → Type 0) → ((a : A) → P a → f a ≡ g a) → (xs : List A) → AllByRecursion P xs → flat_map f xs ≡ flat_map g xs
flat_form f g P h [] all = refl
flat_form f g P h (x ∷ xs) all = flat_map-cons f x xs ∙ ap (λ bs. bs ++ flat_map f xs) (h x all.0) ∙ ap (λ bs. g x ++ bs) (flat_form f g P h xs all.1) ∙ sym (flat_map-cons g x xs)

flat_same : {A : Type 0} (f g : A → List ℕ) → ((a : A) → f a ≡ g a) → (xs : List A) → flat_map f xs ≡ flat_map g xs
flat_same f g h [] = refl
flat_same f g h (x ∷ xs) = flat_map-cons f x xs ∙ ap (λ bs. bs ++ flat_map f xs) (h x) ∙ ap (λ bs. g x ++ bs) (flat_same f g h xs) ∙ sym (flat_map-cons g x xs)

all_map : {A : Type 0} (P Q : A → Type 0) → ((a : A) → P a → Q a) → (xs : List A) → AllByRecursion P xs → AllByRecursion Q xs
all_map P Q h [] all = tt
all_map P Q h (x ∷ xs) all = (h x all.0, all_map P Q h xs all.1)

-- what holds of each item holds of one
pub all_at : {A : Type 0} (P : A → Type 0) (xs : List A) (i : ℕ) (x : A) → AllByRecursion P xs → i < length xs → x ≡ get_or xs i x → P x
all_at P [] i x all lt is = absurd (omega (arith, lt))
all_at P (y ∷ xs) zero x all lt is = rw is all.0
all_at P (y ∷ xs) (suc i) x all lt is = all_at P xs i x all.1 (omega (arith, lt)) is

-- ---- instructions

instr_form : (ks fs : ℕ) (i : Instr) → (instr_format ks fs).form i ≡ instr_bytes i
unfolding instr_format opcode_format op_format
instr_form ks fs (instr.Const k) = refl
instr_form ks fs (instr.Local i) = refl
instr_form ks fs (instr.Store i) = refl
instr_form ks fs instr.Pop = refl
instr_form ks fs (instr.Jump to) = refl
instr_form ks fs (instr.JumpFalse to) = refl
instr_form ks fs (instr.Core op n) = refl
instr_form ks fs (instr.Call f) = refl
instr_form ks fs instr.Return = refl
instr_form ks fs (instr.Vector n) = refl
instr_form ks fs (instr.Print n) = refl
instr_form ks fs (instr.Look Deref) = refl
instr_form ks fs (instr.Look Ensure) = refl
instr_form ks fs (instr.Put RefSet) = refl
instr_form ks fs (instr.Put Reset) = refl
instr_form ks fs instr.TxBegin = refl
instr_form ks fs instr.TxEnd = refl
instr_form ks fs (instr.Open open_form.Alter n) = refl
instr_form ks fs (instr.Open (open_form.Commute c) n) = ap (λ (bs : List ℕ). 17 ∷ (bs ++ to_be_bytes w16 n)) (callee_form fs c)
instr_form ks fs (instr.Open (open_form.Swap c) n) = ap (λ (bs : List ℕ). 20 ∷ (bs ++ to_be_bytes w16 n)) (callee_form fs c)
instr_form ks fs (instr.Close update.Alter) = refl
instr_form ks fs (instr.Close update.Commute) = refl
instr_form ks fs (instr.Close update.Swap) = refl
instr_form ks fs (instr.Send c n) = ap (λ (bs : List ℕ). 23 ∷ (bs ++ to_be_bytes w16 n)) (callee_form fs c)
instr_form ks fs instr.Halt = refl

placed_form : (ks fs : ℕ) (p : Instr × Span) → (placed_format ks fs).form p ≡ placed_bytes p
unfolding placed_format span_format
placed_form ks fs p = ap (λ (bs : List ℕ). bs ++ (to_be_bytes w32 p.1.from ++ to_be_bytes w32 p.1.to)) (instr_form ks fs p.0)

-- ---- bodies

body_form : (thread : Bool) (ks fs left : ℕ) (b : CodeBody) → (body_format thread ks fs left).form b ≡ body_bytes b
unfolding body_format
body_form true ks fs left b = ap (λ (bs : List ℕ). b.parameters ∷ b.locals ∷ (to_be_bytes w32 (length (paired b.instrs b.spans)) ++ bs)) (flat_same (placed_format ks fs).form placed_bytes (placed_form ks fs) (paired b.instrs b.spans))
body_form false ks fs left b = ap (λ (bs : List ℕ). b.parameters ∷ b.locals ∷ (to_be_bytes w32 (length (paired b.instrs b.spans)) ++ bs)) (flat_same (placed_format ks fs).form placed_bytes (placed_form ks fs) (paired b.instrs b.spans))

bodies_form : (f : ℕ → Format CodeBody) → ((left : ℕ) (b : CodeBody) → (f left).form b ≡ body_bytes b) → (left : ℕ) (bs : List CodeBody) → sharing_form instructions f left bs ≡ flat_map body_bytes bs
unfolding sharing_form
bodies_form f h left [] = refl
bodies_form f h left (b ∷ bs) =
    ap (λ (xs : List ℕ). xs ++ sharing_form instructions f (left - instructions b) bs) (h left b) ∙ ap (λ (xs : List ℕ). body_bytes b ++ xs) (bodies_form f h (left - instructions b) bs) ∙ sym (flat_map-cons body_bytes b bs)

length_firsts : (ps : List (Instr × Span)) → length (map (λ p. p.0) ps) ≡ length ps
length_firsts [] = refl
length_firsts (p ∷ ps) = ap suc (length_firsts ps)

body_short : (thread : Bool) (ks fs left : ℕ) (b : CodeBody) → (body_format thread ks fs left).fits b → length b.instrs < 2 ^ 32
unfolding body_format
body_short thread ks fs left b fits =
    let few : length (paired b.instrs b.spans) < 2 ^ 32 = fits.0.1.1.0.0.0 in
    let same : length (map (λ p. p.0) (paired b.instrs b.spans)) ≡ length b.instrs = ap (λ (b : CodeBody). length b.instrs) fits.1 in
    let n = length_firsts (paired b.instrs b.spans) in
    omega (arith, few, same, n)

bodies_short : (f : ℕ → Format CodeBody) → ((left : ℕ) (b : CodeBody) → (f left).fits b → length b.instrs < 2 ^ 32) → (n left : ℕ) (bs : List CodeBody) → SharingFits instructions f n left bs → AreBodies bs
unfolding SharingFits
bodies_short f h zero left [] fits = tt
bodies_short f h zero left (b ∷ bs) fits = absurd fits
bodies_short f h (suc n) left [] fits = absurd fits
bodies_short f h (suc n) left (b ∷ bs) fits = (h left b fits.0, bodies_short f h n (left - instructions b) bs fits.1)

-- ---- code

-- code that has a form is small
pub code_small : (c : PlainCode) → HasForm c → IsSmall c
unfolding code_format told_cells_format cells_format constants_format program_format functions_format threads_format
code_small c fits = record {
  few_cells = fits.0.1.0.0.0.0.0;
  few_constants = fits.0.1.1.0.0.0.0;
  few_functions = fits.0.1.1.1.0.0.0.0;
  few_threads = fits.0.1.1.1.1.0.0.0;
  cells = all_map (cell_format (has_validator c.cells)).fits (λ c. IsWritable (plain_of c.opening)) (cell_writable (has_validator c.cells)) c.cells fits.0.1.0.0.0.1.1;
  constants = all_map (constant_format true (kinds_of c.cells)).fits (λ v. IsWritable (plain_of v)) (constant_writable true (kinds_of c.cells)) c.constants fits.0.1.1.0.0.1.1;
  functions = bodies_short (body_format false (length c.constants) (length c.functions)) (body_short false (length c.constants) (length c.functions)) (length c.functions) most_instructions c.functions fits.0.1.1.1.0.0.1;
  threads = bodies_short (body_format true (length c.constants) (length c.functions)) (body_short true (length c.constants) (length c.functions)) (length c.threads) (most_instructions - all_instructions c.functions) c.threads fits.0.1.1.1.1.0.1;
}

together : {m a b c d m' a' b' c' d' : List ℕ} → m ≡ m' → a ≡ a' → b ≡ b' → c ≡ c' → d ≡ d' → m ++ (a ++ (b ++ (c ++ d))) ≡ m' ++ (a' ++ (b' ++ (c' ++ d')))
together k e f g h = λ i. k i ++ (e i ++ (f i ++ (g i ++ h i)))

magic_form : (validated : Bool) → magic_format.form validated ≡ magic_bytes validated
unfolding magic_format
magic_form false = refl
magic_form true = refl

-- the format's bytes of code are its form
pub code_form : (c : PlainCode) → HasForm c → code_format.form c ≡ form c
unfolding code_format told_cells_format cells_format constants_format program_format functions_format threads_format
code_form c fits =
    let kinds = kinds_of c.cells in
    let ks = length c.constants in
    let fs = length c.functions in
    let validated = has_validator c.cells in
    together (magic_form validated)
    (ap (λ (bs : List ℕ). to_be_bytes w16 (length c.cells) ++ bs) (flat_form (cell_format validated).form (cell_bytes validated) (cell_format validated).fits (cell_form validated) c.cells fits.0.1.0.0.0.1.1))
    (ap (λ (bs : List ℕ). to_be_bytes w32 ks ++ bs) (flat_form (constant_format true kinds).form constant_bytes (constant_format true kinds).fits (constant_form true kinds) c.constants fits.0.1.1.0.0.1.1))
    (ap (λ (bs : List ℕ). to_be_bytes w16 fs ++ bs) (bodies_form (body_format false ks fs) (body_form false ks fs) most_instructions c.functions))
    (ap (λ (bs : List ℕ). to_be_bytes w16 (length c.threads) ++ bs) (bodies_form (body_format true ks fs) (body_form true ks fs) (most_instructions - all_instructions c.functions) c.threads))

-- the parts put one behind the other are the form
pub code_put : (c : PlainCode) → (o0 o1 o2 o3 o4 : List ℕ) → o0 ≡ magic_bytes (has_validator c.cells) → o1 ≡ o0 ++ counted_bytes w16 (cell_bytes (has_validator c.cells)) c.cells
    → o2 ≡ o1 ++ counted_bytes w32 constant_bytes c.constants → o3 ≡ o2 ++ counted_bytes w16 body_bytes c.functions
    → o4 ≡ o3 ++ counted_bytes w16 body_bytes c.threads → o4 ≡ form c
code_put c o0 o1 o2 o3 o4 e0 e1 e2 e3 e4 =
    let a : List ℕ = counted_bytes w16 (cell_bytes (has_validator c.cells)) c.cells in
    let b : List ℕ = counted_bytes w32 constant_bytes c.constants in
    let d : List ℕ = counted_bytes w16 body_bytes c.functions in
    let f : List ℕ = counted_bytes w16 body_bytes c.threads in
    let m : List ℕ = magic_bytes (has_validator c.cells) in
    e4 ∙ ap (λ x. x ++ f) (e3 ∙ ap (λ x. x ++ d) (e2 ∙ ap (λ x. x ++ b) (e1 ∙ ap (λ x. x ++ a) e0)))
    ∙ append_assoc ((m ++ a) ++ b) d f ∙ append_assoc (m ++ a) b (d ++ f) ∙ append_assoc m a (b ++ (d ++ f))
