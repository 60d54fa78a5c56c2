-- No refusal is true of well-typed code.
use Rattle.std.proofs.Common.{arith, inl, inr, ◌≡◌, ◌⊎◌, ◌∙◌, ℕ, zero, suc, ◌+◌, ◌<◌, ◌≤◌, List, [], ◌∷◌, length, Bool, true, false, not, Option, Some, None, refl, sym, ap, subst}
use Rattle.txs_value_data.specs.Places.{nth}
use Rattle.txs_value_cell.specs.Cells.{validators_of}
use Rattle.txs_value_cell.specs.declared.cell.CellDefinition.{CellDefinition}
use Rattle.txs_value_data.specs.declared.op.Callee.{Callee}
use Rattle.txs_value_data.specs.declared.op.Callee.TheVariants as callee
use Rattle.txs_value_data.specs.declared.value.Value.{Value}
use Rattle.txs_code_meaning.specs.PlainCode.{CodeBody, PlainCode, parameters_of}
use Rattle.txs_code_meaning.specs.WellTyped.{FunctionKind, Functions, Owner, a_thread, a_function, CalleeTakes, NamedTakes, IsLawful, IsPureCallee, IsPureFunction, Stage, plain, opened, applied, Stages, FitsStage, WellTypedBody, WellTyped}
use Rattle.txs_code_meaning.specs.declared.instr.OpenForm.{OpenForm}
use Rattle.txs_code_meaning.specs.declared.instr.OpenForm.TheVariants as open_form
use Rattle.txs_code_meaning.specs.declared.instr.Instr.{Instr}
use Rattle.txs_code_meaning.specs.declared.instr.Instr.TheVariants.{Local, Store, Jump, JumpFalse, Core, Call, Return, Open, Close, Send, Halt}
use Rattle.txs_verify.specs.declared.error.VerifyError.{VerifyError}
use Rattle.txs_verify.specs.declared.error.VerifyErrorKind.{VerifyErrorKind}
use Rattle.txs_verify.specs.declared.error.VerifyErrorKind.TheVariants.{JumpOut, StackLow, StackDiffers, LocalOut, ArityWrong, CallOrder, TxNesting, FallsOff, Memory}
use Rattle.txs_verify.specs.declared.standing.Kind.{Kind}
use Rattle.txs_verify.specs.Alone.{HasLocal, TakesSo, NamedTakesSo, HasCount, IsBelow, NamedIsBelow, IsInOrder, IsWrongAlone}
use Rattle.txs_verify.specs.Going.{JumpsWithin}
use Rattle.txs_verify.specs.Paths.{EndsWell, opens, before, before_that, stage_behind, stage_for}
use Rattle.txs_verify.specs.Refused.{BreaksOff, IsMet}
use Rattle.txs_verify.specs.Standing.{IsEnd, EndsSo, IsInsideCallee, NestsWrongly, ends_within, outside_within, inside_without, sends_inside, opens_impure, StandsWrongly, or_pure, kind_of}
use Rattle.txs_verify.specs.Validators.{EachValidator, IsPure, IsRefusedValidator, TakesOne}
use Rattle.txs_verify.specs.Verdict.{AreKinds, AreRightBodies, IsWrongOnPaths, IsRefusedAlone, IsRefusedOnPaths, IsRefusedFunction, AreKnownKinds, of_all, up_to_a_refused, IsRefusedWalk, of_a_validator, of_a_function, IsRefused, in_a_cell, in_a_function, in_a_thread, on_paths_of_functions, on_paths_of_a_thread, IsIllTyped, OrMemory}
use Rattle.txs_verify.proofs.Ends.{or_map, or_memory}
use Rattle.txs_verify.proofs.Least.{AreBelow, AreAllKinds, MayBeKind, met_may, typed_function, all_are_kinds, all_below, typed_thread}
use Rattle.txs_verify.proofs.Never.{right_at, staged_at, never_low, never_two_depths, never_two_nestings, never_ends_nothing, never_past}
use Rattle.txs_verify.proofs.Roomy.{nth_less}
use Rattle.txs_verify.proofs.Validated.{typed_each}

some_is : {A : Type 0} (x y : A) → Some x ≡ Some y → x ≡ y
some_is x y e = cc

none_is : {A : Type 0} (x : A) → None ≡ Some x → ⊥
none_is x e = absurd cc

true_is : {A : Type 0} → true ≡ false → A
true_is e = absurd cc

-- ---- what is lawful is right alone

jumps_within : (n : ℕ) (ps : List ℕ) (ks : List Value) (b : CodeBody) (at : ℕ) (i : Instr) → IsLawful n ps ks b at i → JumpsWithin (length b.instrs) i
jumps_within n ps ks b at (Jump to) h = h.0
jumps_within n ps ks b at (JumpFalse to) h = h.0
jumps_within n ps ks b at _ h = tt

has_local : (n : ℕ) (ps : List ℕ) (ks : List Value) (b : CodeBody) (at : ℕ) (i : Instr) → IsLawful n ps ks b at i → HasLocal b.locals i
has_local n ps ks b at (Local i) h = h
has_local n ps ks b at (Store i) h = h
has_local n ps ks b at _ h = tt

takes_so : (n : ℕ) (ps : List ℕ) (c : Callee) (m : ℕ) → CalleeTakes n ps c m → TakesSo ps c m
takes_so n ps (callee.Core o) m h = h
takes_so n ps (callee.Function f) m h = λ k there. some_is k m (sym there ∙ h.1)

named_takes_so : (n : ℕ) (ps : List ℕ) (by : OpenForm) (m : ℕ) → NamedTakes n ps by m → NamedTakesSo ps by m
named_takes_so n ps open_form.Alter m h = tt
named_takes_so n ps (open_form.Commute c) m h = takes_so n ps c m h
named_takes_so n ps (open_form.Swap c) m h = takes_so n ps c m h

has_count : (n : ℕ) (ps : List ℕ) (ks : List Value) (b : CodeBody) (at : ℕ) (i : Instr) → IsLawful n ps ks b at i → HasCount ps i
has_count n ps ks b at (Core o m) h = h
has_count n ps ks b at (Open by m) h = named_takes_so n ps by (m + 1) h.0
has_count n ps ks b at (Send c m) h = takes_so n ps c (m + 1) h
has_count n ps ks b at _ h = tt

is_below : (n : ℕ) (ps : List ℕ) (c : Callee) (m : ℕ) → CalleeTakes n ps c m → IsBelow n c
is_below n ps (callee.Core o) m h = tt
is_below n ps (callee.Function f) m h = h.0

named_is_below : (n : ℕ) (ps : List ℕ) (by : OpenForm) (m : ℕ) → NamedTakes n ps by m → NamedIsBelow n by
named_is_below n ps open_form.Alter m h = tt
named_is_below n ps (open_form.Commute c) m h = is_below n ps c m h
named_is_below n ps (open_form.Swap c) m h = is_below n ps c m h

in_order : (n : ℕ) (ps : List ℕ) (ks : List Value) (b : CodeBody) (at : ℕ) (i : Instr) → IsLawful n ps ks b at i → IsInOrder n ps b.instrs at i
in_order n ps ks b at (Jump to) h = h.1
in_order n ps ks b at (JumpFalse to) h = h.1
in_order n ps ks b at (Call f) h = h
in_order n ps ks b at (Open by m) h = (named_is_below n ps by (m + 1) h.0, h.1)
in_order n ps ks b at (Close form) h = h
in_order n ps ks b at (Send c m) h = is_below n ps c (m + 1) h
in_order n ps ks b at _ h = tt

local_by : (locals parameters : ℕ) → parameters ≤ locals → locals < parameters → ⊥
local_by locals parameters a b = absurd (omega (arith, a, b))

module _ (fs : Functions) (owner : Owner) (n : ℕ) (consts : List Value) (b : CodeBody) (room : ℕ) (typed : WellTypedBody fs owner n consts b room) where
  no_local : (at : ℕ) → ((at ≡ 0) × (b.locals < b.parameters)) ⊎ ((i : Instr) × (nth b.instrs at ≡ Some i) × JumpsWithin (length b.instrs) i × (HasLocal b.locals i → ⊥)) → ⊥
  no_local at (inl w) = local_by b.locals b.parameters typed.parameters w.1
  no_local at (inr w) = w.3 (has_local n fs.parameters consts b at w.0 (typed.lawful at w.0 w.1))

  -- nothing is wrong alone
  never_alone : (kind : VerifyErrorKind) (at : ℕ) → IsWrongAlone n fs.parameters b kind at → ⊥
  never_alone JumpOut at w = w.2 (jumps_within n fs.parameters consts b at w.0 (typed.lawful at w.0 w.1))
  never_alone StackLow at w = w
  never_alone StackDiffers at w = w
  never_alone LocalOut at w = no_local at w
  never_alone ArityWrong at w = w.4 (has_count n fs.parameters consts b at w.0 (typed.lawful at w.0 w.1))
  never_alone CallOrder at w = w.5 (in_order n fs.parameters consts b at w.0 (typed.lawful at w.0 w.1))
  never_alone TxNesting at w = w
  never_alone FallsOff at w = w
  never_alone Memory at w = w

-- ---- nothing is wrong on paths

-- a thread's body, or that of a function of some kind
abbrev pub IsOwner : Bool → Owner → Type 0
IsOwner true owner = owner ≡ a_thread
IsOwner false owner = (kind : FunctionKind) × (owner ≡ a_function kind)

ends_so : (thread : Bool) (owner : Owner) (d t : ℕ) (i : Instr) → IsOwner thread owner → EndsWell owner d t i → EndsSo thread i
ends_so true owner d t Return so ends = absurd (subst (λ x. EndsWell x d t Return) so ends).0
ends_so false owner d t Return so ends = refl
ends_so true owner d t Halt so ends = refl
ends_so false owner d t Halt so ends = absurd (subst (λ x. EndsWell x d t Halt) so.1 ends).0
ends_so thread owner d t _ so ends = tt

ends_one : (owner : Owner) (d t : ℕ) (i : Instr) → IsEnd i → EndsWell owner d t i → (d ≡ 1) × (t ≡ 0)
ends_one owner d t Return end ends = (ends.1, ends.2)
ends_one owner d t Halt end ends = (ends.1, ends.2)
ends_one owner d t _ end ends = absurd end

no_outside : (owner : Owner) (t : ℕ) (k : Kind) → MayBeKind owner t k → (t ≡ 0 → ⊥) → k.outside ≡ true → ⊥
no_outside owner zero k may within h = within refl
no_outside owner (suc t) k may within h = may.outside h

no_inside : (owner : Owner) (t : ℕ) (k : Kind) → MayBeKind owner t k → t ≡ 0 → owner ≡ a_thread → k.inside ≡ true → ⊥
no_inside owner t k may none thread h =
    let there : MayBeKind a_thread 0 k = subst (λ x. MayBeKind x 0 k) thread (subst (λ x. MayBeKind owner x k) none may) in
    there.inside h

is_thread : (thread : Bool) (owner : Owner) → IsOwner thread owner → thread ≡ true → owner ≡ a_thread
is_thread true owner so e = so
is_thread false owner so e = true_is (sym e)

-- nothing is told to be impure that is pure
not_impure : (ks : List Kind) (kinds : List FunctionKind) (f : ℕ) (o : Option Kind) → nth ks f ≡ o → AreBelow ks kinds → IsPureFunction kinds f → (or_pure o).impure ≡ true → ⊥
not_impure ks kinds f None is_o below pure h = true_is (sym h)
not_impure ks kinds f (Some told) is_o below pure h =
    let b = below f told is_o in
    let same : b.0 ≡ pure.0 = some_is b.0 pure.0 (sym b.1 ∙ pure.1) in
    true_is (sym pure.2 ∙ ap (λ x. x.pure) (sym same) ∙ b.2.impure h)

unless_so : (b : Bool) → (b ≡ true → ⊥) → not b ≡ true
unless_so true h = absurd (h refl)
unless_so false h = refl

-- nothing is told to be for transactions alone that isn't
not_inside : (ks : List Kind) (kinds : List FunctionKind) (f : ℕ) (o : Option Kind) → nth ks f ≡ o → AreBelow ks kinds → (kind : FunctionKind) × (nth kinds f ≡ Some kind) × (kind.inside ≡ false) → (or_pure o).inside ≡ true → ⊥
not_inside ks kinds f None is_o below sent h = true_is (sym h)
not_inside ks kinds f (Some told) is_o below sent h =
    let b = below f told is_o in
    let same : b.0 ≡ sent.0 = some_is b.0 sent.0 (sym b.1 ∙ sent.1) in
    true_is (sym (b.2.inside h) ∙ ap (λ x. x.inside) same ∙ sent.2)

-- what is pure isn't told to be impure
told_pure : (ks : List Kind) (kinds : List FunctionKind) (f : Callee) → AreBelow ks kinds → IsPureCallee kinds f → IsPure ks f
told_pure ks kinds (callee.Core o) below pure = refl
told_pure ks kinds (callee.Function g) below pure = unless_so (or_pure (nth ks g)).impure (not_impure ks kinds g (nth ks g) refl below pure)

module _ (fs : Functions) (ks : List Kind) (below : AreBelow ks fs.kinds) where
  -- where a send fits a stage, its callee isn't for transactions alone
  send_zoned : (owner : Owner) (ss : Stages) (p n : ℕ) (c : Callee) (s : Stage) → FitsStage fs owner ss p s (Send c n) → IsInsideCallee ks c → ⊥
  send_zoned owner ss p n (callee.Core o) (plain t) f h = h
  send_zoned owner ss p n (callee.Function g) (plain t) f h = not_inside ks fs.kinds g (nth ks g) refl below f.1 h
  send_zoned owner ss p n c (opened t m by) f h = f
  send_zoned owner ss p n c (applied t by) f h = f

  -- where a call behind an open fits a stage, the function is pure
  call_pure : (owner : Owner) (ss : Stages) (p t g : ℕ) (x : OpenForm × ℕ) (y : Option (OpenForm × ℕ)) (o : Option (OpenForm × ℕ)) → o ≡ Some x → FitsStage fs owner ss p (stage_behind o y t) (Call g) → (or_pure (nth ks g)).impure ≡ true → ⊥
  call_pure owner ss p t g x y None e f h = absurd (none_is x e)
  call_pure owner ss p t g x y (Some z) e f h = not_impure ks fs.kinds g (nth ks g) refl below f.1 h

module _ (fs : Functions) (ks : List Kind) (below : AreBelow ks fs.kinds) (all : AreAllKinds fs.kinds) (thread : Bool) (owner : Owner) (so : IsOwner thread owner) (n : ℕ) (consts : List Value) (b : CodeBody) (room : ℕ) (typed : WellTypedBody fs owner n consts b room) where
  ends_well : (p d t : ℕ) (i : Instr) → IsMet fs.parameters b.instrs p d t i → EndsWell owner d t i
  ends_well p d t i met =
      let r = right_at fs owner n consts b room typed p d t met.comes in
      subst (λ x. EndsWell owner d t x) (some_is r.instr i (sym r.stands ∙ met.stands)) r.ends

  may_here : (p d t : ℕ) (i : Instr) → IsMet fs.parameters b.instrs p d t i → MayBeKind owner t (kind_of ks i)
  may_here p d t i met = met_may fs ks below all owner n consts b room typed p d t i met

  never_nests : (p : ℕ) → NestsWrongly ks thread fs.parameters b.instrs p → ⊥
  never_nests p (ends_within d t i met end within) = within (ends_one owner d t i end (ends_well p d t i met)).1
  never_nests p (outside_within d t i met within h) = no_outside owner t (kind_of ks i) (may_here p d t i met) within h
  never_nests p (inside_without d t i met none is_thread_so h) = no_inside owner t (kind_of ks i) (may_here p d t i met) none (is_thread thread owner so is_thread_so) h
  never_nests p (sends_inside d t c m met h) =
      let s = staged_at fs owner n consts b room typed p d t (Send c m) met in
      send_zoned fs ks below owner s.0 p m c (stage_for b.instrs p t) s.1 h
  never_nests p (opens_impure x d t g is_open met h) =
      let s = staged_at fs owner n consts b room typed (suc p) d t (Call g) met in
      call_pure fs ks below owner s.0 (suc p) t g x (opens (before_that b.instrs (suc p))) (opens (before b.instrs (suc p))) is_open s.1 h

  never_stands : (kind : VerifyErrorKind) (p : ℕ) → StandsWrongly ks thread fs.parameters b.instrs kind p → ⊥
  never_stands JumpOut p w = w
  never_stands StackLow p w = w
  never_stands StackDiffers p w = w.5 (ends_one owner w.0 w.1 w.2 w.4 (ends_well p w.0 w.1 w.2 w.3)).0
  never_stands LocalOut p w = w
  never_stands ArityWrong p w = w
  never_stands CallOrder p w = w
  never_stands TxNesting p w = never_nests p w
  never_stands FallsOff p w = w.4 (ends_so thread owner w.0 w.1 w.2 so (ends_well p w.0 w.1 w.2 w.3))
  never_stands Memory p w = w

  never_breaks : (kind : VerifyErrorKind) (p : ℕ) → BreaksOff fs.parameters b.instrs kind p → ⊥
  never_breaks JumpOut p w = w
  never_breaks StackLow p w = never_low fs owner n consts b room typed p w
  never_breaks StackDiffers p w = never_two_depths fs owner n consts b room typed p w
  never_breaks LocalOut p w = w
  never_breaks ArityWrong p w = w
  never_breaks CallOrder p w = w
  never_breaks TxNesting p (inl w) = never_two_nestings fs owner n consts b room typed p w
  never_breaks TxNesting p (inr w) = never_ends_nothing fs owner n consts b room typed p w
  never_breaks FallsOff p w = never_past fs owner n consts b room typed p w
  never_breaks Memory p w = w

  never_on_paths : (kind : VerifyErrorKind) (p : ℕ) → IsWrongOnPaths ks thread fs.parameters b.instrs kind p → ⊥
  never_on_paths kind p (inl w) = never_breaks kind p w
  never_on_paths kind p (inr w) = never_stands kind p w

-- ---- code

plus_zero : (n : ℕ) → 0 + n ≡ n
plus_zero n = omega arith

long_as : (bs : List CodeBody) → length (parameters_of bs) ≡ length bs
long_as [] = refl
long_as (b ∷ bs) = omega (arith, long_as bs)

module _ (code : PlainCode) (function_rooms thread_rooms : List ℕ) (typed : WellTyped code function_rooms thread_rooms) where
  abbrev ps : List ℕ
  ps = parameters_of code.functions

  abbrev fs : Functions
  fs = record { parameters = ps; kinds = typed.kinds }

  alone_in_a_function : (e : VerifyError) → IsRefusedAlone false code.functions code.functions e → ⊥
  alone_in_a_function e r =
      let f = typed_function fs 0 code.constants code.functions typed.kinds function_rooms typed.functions r.number r.body r.stands in
      never_alone fs (a_function f.0) r.number code.constants r.body f.2.room (subst (λ n. WellTypedBody fs (a_function f.0) n code.constants r.body f.2.room) (plus_zero r.number) f.2.typed) e.kind e.at r.wrong

  alone_in_a_thread : (e : VerifyError) → IsRefusedAlone true code.functions code.threads e → ⊥
  alone_in_a_thread e r =
      let t = typed_thread fs code.constants code.threads thread_rooms typed.threads r.number r.body r.stands in
      never_alone fs a_thread (length ps) code.constants r.body t.room t.typed e.kind e.at (subst (λ n. IsWrongAlone n ps r.body e.kind e.at) (sym (long_as code.functions)) r.wrong)

  below_all : (ks : List Kind) → AreKinds ps code.functions ks → length ks ≤ length code.functions → AreBelow ks typed.kinds
  below_all ks are few = all_below ps typed.kinds code.constants code.functions function_rooms typed.functions ks are few

  all_kinds : AreAllKinds typed.kinds
  all_kinds = all_are_kinds fs 0 code.constants code.functions typed.kinds function_rooms typed.functions

  paths_of_a_function : (e : VerifyError) → IsRefusedFunction code.functions e → ⊥
  paths_of_a_function e w =
      let r = w.refused in
      let f = typed_function fs 0 code.constants code.functions typed.kinds function_rooms typed.functions r.number r.body r.stands in
      let few : length w.kinds ≤ length code.functions = omega (arith, w.before, nth_less code.functions r.number r.body r.stands) in
      never_on_paths fs w.kinds (below_all w.kinds w.are few) all_kinds false (a_function f.0) (f.0, refl) r.number code.constants r.body f.2.room (subst (λ n. WellTypedBody fs (a_function f.0) n code.constants r.body f.2.room) (plus_zero r.number) f.2.typed) e.kind e.at r.wrong

  paths_of_a_thread : (e : VerifyError) (ks : List Kind) → AreKinds ps code.functions ks → length ks ≡ length code.functions → IsRefusedOnPaths ks true ps code.threads e → ⊥
  paths_of_a_thread e ks are many r =
      let t = typed_thread fs code.constants code.threads thread_rooms typed.threads r.number r.body r.stands in
      never_on_paths fs ks (below_all ks are (omega (arith, many))) all_kinds true a_thread refl (length ps) code.constants r.body t.room t.typed e.kind e.at r.wrong

  known_below : (ks : List Kind) → AreKnownKinds code.functions ks → AreBelow ks typed.kinds
  known_below ks (of_all are many) = below_all ks are (omega (arith, many))
  known_below ks (up_to_a_refused e w same) =
      let r = w.refused in
      let few : length w.kinds ≤ length code.functions = omega (arith, w.before, nth_less code.functions r.number r.body r.stands) in
      subst (λ x. AreBelow x typed.kinds) same (below_all w.kinds w.are few)

  on_walk : (e : VerifyError) → IsRefusedWalk code.functions (validators_of code.cells) e → ⊥
  on_walk e (of_a_validator ks are r) = r.wrong (told_pure ks typed.kinds r.callee (known_below ks are) (typed_each fs (validators_of code.cells) typed.validators r.number r.callee r.stands).1)
  on_walk e (of_a_function r pure) = paths_of_a_function e r

  never_refused : (e : VerifyError) → IsRefused code e → ⊥
  never_refused e (in_a_cell r) = r.wrong (typed_each fs (validators_of code.cells) typed.validators r.number r.callee r.stands).0
  never_refused e (in_a_function take r) = alone_in_a_function e r
  never_refused e (in_a_thread take before r) = alone_in_a_thread e r
  never_refused e (on_paths_of_functions right r) = on_walk e r
  never_refused e (on_paths_of_a_thread right ks are many pure r) = paths_of_a_thread e ks are many r

-- refused code is ill typed
pub ill_typed : (code : PlainCode) (e : VerifyError) → IsRefused code e → IsIllTyped code
ill_typed code e refused = λ function_rooms thread_rooms typed. never_refused code function_rooms thread_rooms typed e refused

-- so, unless it is want of memory
pub ill_typed_or : (code : PlainCode) (e : VerifyError) → OrMemory e.kind (IsRefused code e) → OrMemory e.kind (IsIllTyped code)
ill_typed_or code e h = or_map e.kind (IsRefused code e) (IsIllTyped code) (ill_typed code e) h

-- where functions, threads and cells are those of the code
module _ (code : PlainCode) (ds : List CellDefinition) (fs ts : List CodeBody) (d : ds ≡ code.cells) (f : fs ≡ code.functions) (t : ts ≡ code.threads) (e : VerifyError) where
  of_cell : IsRefusedValidator (TakesOne (parameters_of fs)) ArityWrong (validators_of ds) e → IsRefused code e
  of_cell r =
      in_a_cell (subst (λ x. IsRefusedValidator (TakesOne (parameters_of code.functions)) ArityWrong (validators_of x) e) d (subst (λ x. IsRefusedValidator (TakesOne (parameters_of x)) ArityWrong (validators_of ds) e) f r))

  pub cell_refused : IsRefusedValidator (TakesOne (parameters_of fs)) ArityWrong (validators_of ds) e → OrMemory e.kind (IsRefused code e)
  cell_refused r = or_memory e.kind (IsRefused code e) (of_cell r)

  pub ill_cell : IsRefusedValidator (TakesOne (parameters_of fs)) ArityWrong (validators_of ds) e → OrMemory e.kind (IsIllTyped code)
  ill_cell r = or_memory e.kind (IsIllTyped code) (ill_typed code e (of_cell r))

  take_one : EachValidator (TakesOne (parameters_of fs)) (validators_of ds) → EachValidator (TakesOne (parameters_of code.functions)) (validators_of code.cells)
  take_one take = subst (λ x. EachValidator (TakesOne (parameters_of code.functions)) (validators_of x)) d (subst (λ x. EachValidator (TakesOne (parameters_of x)) (validators_of ds)) f take)

  of_function : EachValidator (TakesOne (parameters_of fs)) (validators_of ds) → IsRefusedAlone false fs fs e → IsRefused code e
  of_function take r = in_a_function (take_one take) (subst (λ x. IsRefusedAlone false x x e) f r)

  pub function_alone : EachValidator (TakesOne (parameters_of fs)) (validators_of ds) → IsRefusedAlone false fs fs e → OrMemory e.kind (IsRefused code e)
  function_alone take r = or_memory e.kind (IsRefused code e) (of_function take r)

  pub ill_alone : EachValidator (TakesOne (parameters_of fs)) (validators_of ds) → IsRefusedAlone false fs fs e → OrMemory e.kind (IsIllTyped code)
  ill_alone take r = or_memory e.kind (IsIllTyped code) (ill_typed code e (of_function take r))

  of_thread : EachValidator (TakesOne (parameters_of fs)) (validators_of ds) → AreRightBodies false fs fs (length fs) → IsRefusedAlone true fs ts e → IsRefused code e
  of_thread take right r =
      in_a_thread (take_one take) (subst (λ x. AreRightBodies false x x (length x)) f right) (subst (λ x. IsRefusedAlone true code.functions x e) t (subst (λ x. IsRefusedAlone true x ts e) f r))

  pub thread_alone : EachValidator (TakesOne (parameters_of fs)) (validators_of ds) → AreRightBodies false fs fs (length fs) → IsRefusedAlone true fs ts e → OrMemory e.kind (IsRefused code e)
  thread_alone take right r = or_memory e.kind (IsRefused code e) (of_thread take right r)

  pub ill_thread : EachValidator (TakesOne (parameters_of fs)) (validators_of ds) → AreRightBodies false fs fs (length fs) → IsRefusedAlone true fs ts e → OrMemory e.kind (IsIllTyped code)
  ill_thread take right r = or_memory e.kind (IsIllTyped code) (ill_typed code e (of_thread take right r))
