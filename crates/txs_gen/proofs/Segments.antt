-- A run of instructions: what the machine sees of it, its constants, and its depths.
use Rattle.std.proofs.Common.{◌⊎◌, ⊎_elim, inl, inr, append_assoc, ◌≡◌, ℕ, zero, suc, ◌+◌, ◌<◌, ◌≤◌, List, [], ◌∷◌, ◌++◌, length, refl, sym, ap, ◌∙◌, subst, length-append, arith, Option, Some, slice_index_or}
use Rattle.std.proofs.lemmas.Bool.{cases_lt}
use Rattle.std.specs.List.{range_with_len}
use Rattle.txs_value_data.specs.Places.{nth}
use Rattle.txs_value_data.specs.declared.fault.Span.{Span}
use Rattle.txs_value_data.specs.declared.value.Value.{Value}
use Rattle.txs_value_data.specs.declared.value.Value.TheVariants.{Nil}
use Rattle.txs_code_meaning.specs.declared.instr.Instr.{Instr}
use Rattle.txs_code_meaning.specs.declared.instr.Instr.TheVariants.{Const, Local, Store, Pop, Jump, JumpFalse, Core, Call, Return, Vector, Print, Look, Put, TxBegin, TxEnd, Open, Close, Send, Halt}
use Rattle.txs_value_cell.specs.declared.form.UpdateForm.{UpdateForm}
use Rattle.txs_code_meaning.specs.declared.instr.OpenForm.{OpenForm}
use Rattle.txs_code_meaning.specs.Machine.{PlainInstr}
use Rattle.txs_code_meaning.specs.PlainCode.{CodeBody, plain_instr, plain_instrs}
use Rattle.txs_code_meaning.specs.WellTyped.{Functions, Owner, Depths, depth_at, Stage, plain, opened, applied, Stages, stage_at, LeadsTo, MayJump, IsLawful, Fits, FitsStage, WellTypedBody}
use Rattle.txs_gen.specs.Gen.{then_code}
use Rattle.txs_gen.specs.Generated.{numbers_in}

-- the constants stand in the list from a place on
abbrev pub At : List Value → ℕ → List Value → Type 0
At ks k [] = Unit {0}
At ks k (v ∷ vs) = (slice_index_or ks k Nil ≡ v) × (k < length ks) × At ks (k + 1) vs

pub at_first : (ks : List Value) (k : ℕ) (vs ws : List Value) → At ks k (vs ++ ws) → At ks k vs
at_first ks k [] ws p = tt
at_first ks k (v ∷ vs) ws p = (p.0, p.1, at_first ks (k + 1) vs ws p.2)

pub at_rest : (ks : List Value) (k : ℕ) (vs ws : List Value) → At ks k (vs ++ ws) → At ks (k + length vs) ws
at_rest ks k [] ws p = let e : k ≡ k + 0 = omega arith in subst (λ n. At ks n ws) e p
at_rest ks k (v ∷ vs) ws p =
    let e : k + 1 + length vs ≡ k + suc (length vs) = omega arith in subst (λ n. At ks n ws) e (at_rest ks (k + 1) vs ws p.2)

at_cons : (v : Value) (ks : List Value) (k : ℕ) (vs : List Value) → At ks k vs → At (v ∷ ks) (suc k) vs
at_cons v ks k [] p = tt
at_cons v ks k (w ∷ vs) p =
    let e : suc (k + 1) ≡ suc k + 1 = omega arith in
    let l : suc k < length (v ∷ ks) = omega (arith, p.1) in
    (p.0, l, subst (λ n. At (v ∷ ks) n vs) e (at_cons v ks (k + 1) vs p.2))

at_self : (vs ws : List Value) → At (vs ++ ws) 0 vs
at_self [] ws = tt
at_self (v ∷ vs) ws =
    let l : 0 < length (v ∷ (vs ++ ws)) = omega arith in
    (refl, l, at_cons v (vs ++ ws) 0 vs (at_self vs ws))

-- what stands in the middle stands there
pub at_middle : (us vs ws : List Value) → At (us ++ (vs ++ ws)) (length us) vs
at_middle [] vs ws = at_self vs ws
at_middle (u ∷ us) vs ws = at_cons u (us ++ (vs ++ ws)) (length us) vs (at_middle us vs ws)

-- the depth and the stage at a place
pub record State : Type 0 where
  pub depth : ℕ
  pub stage : Stage

abbrev pub state : ℕ → Stage → State
state d s = record { depth = d; stage = s }

-- the tables have this depth and this stage at this place
abbrev pub Here : Depths → Stages → ℕ → ℕ → Stage → Type 0
Here ds zs at d s = (depth_at ds at ≡ Some d) × (stage_at zs at ≡ Some s)

-- the states at the places from one on
abbrev pub On : Depths → Stages → ℕ → List State → Type 0
On ds zs at [] = Unit {0}
On ds zs at (h ∷ hs) = Here ds zs at h.depth h.stage × On ds zs (at + 1) hs

pub on_first : (ds : Depths) (zs : Stages) (at : ℕ) (hs gs : List State) → On ds zs at (hs ++ gs) → On ds zs at hs
on_first ds zs at [] gs p = tt
on_first ds zs at (d ∷ hs) gs p = (p.0, on_first ds zs (at + 1) hs gs p.1)

pub on_rest : (ds : Depths) (zs : Stages) (at : ℕ) (hs gs : List State) → On ds zs at (hs ++ gs) → On ds zs (at + length hs) gs
on_rest ds zs at [] gs p = let e : at ≡ at + 0 = omega arith in subst (λ n. On ds zs n gs) e p
on_rest ds zs at (d ∷ hs) gs p =
    let e : at + 1 + length hs ≡ at + suc (length hs) = omega arith in subst (λ n. On ds zs n gs) e (on_rest ds zs (at + 1) hs gs p.1)

-- where there is a depth, there is a place
pub depth_within : (ds : Depths) (at d : ℕ) → depth_at ds at ≡ Some d → at < length ds
depth_within [] at d e = cc
depth_within (x ∷ ds) zero d e = omega arith
depth_within (x ∷ ds) (suc at) d e = omega (arith, depth_within ds at d e)

pub stage_within : (zs : Stages) (at : ℕ) (s : Stage) → stage_at zs at ≡ Some s → at < length zs
stage_within [] at s e = cc
stage_within (x ∷ zs) zero s e = omega arith
stage_within (x ∷ zs) (suc at) s e = omega (arith, stage_within zs at s e)

-- tables of these states
abbrev pub depths_of : List State → Depths
depths_of [] = []
depths_of (h ∷ hs) = Some h.depth ∷ depths_of hs

abbrev pub stages_of : List State → Stages
stages_of [] = []
stages_of (h ∷ hs) = Some h.stage ∷ stages_of hs

pub depths_length : (hs : List State) → length (depths_of hs) ≡ length hs
depths_length [] = refl
depths_length (h ∷ hs) = ap suc (depths_length hs)

pub stages_length : (hs : List State) → length (stages_of hs) ≡ length hs
stages_length [] = refl
stages_length (h ∷ hs) = ap suc (stages_length hs)

on_cons : (x : Option ℕ) (y : Option Stage) (ds : Depths) (zs : Stages) (at : ℕ) (hs : List State) → On ds zs at hs → On (x ∷ ds) (y ∷ zs) (suc at) hs
on_cons x y ds zs at [] p = tt
on_cons x y ds zs at (h ∷ hs) p =
    let e : suc (at + 1) ≡ suc at + 1 = omega arith in
    ((p.0.0, p.0.1), subst (λ n. On (x ∷ ds) (y ∷ zs) n hs) e (on_cons x y ds zs (at + 1) hs p.1))

pub tables_on : (hs : List State) → On (depths_of hs) (stages_of hs) 0 hs
tables_on [] = tt
tables_on (h ∷ hs) = ((refl, refl), on_cons (Some h.depth) (Some h.stage) (depths_of hs) (stages_of hs) 0 hs (tables_on hs))

-- what is known of the functions, whose body the instructions are of, how many functions it may call, the constants, the body, the
-- room for its stack, and tables for it
pub record Setting : Type 0 where
  pub functions : Functions
  pub owner : Owner
  pub callable : ℕ
  pub constants : List Value
  pub body : CodeBody
  pub most : ℕ
  pub depths : Depths
  pub stages : Stages

-- the instruction at this place fits the tables
abbrev pub StandsAt : Setting → ℕ → Instr → Type 0
StandsAt x at i =
    ((d : ℕ) × (depth_at x.depths at ≡ Some d) × (d ≤ x.most) × Fits x.owner x.functions.parameters x.depths x.most at d i) × ((s : Stage) × (stage_at x.stages at ≡ Some s) × FitsStage x.functions x.owner x.stages at s i)

-- the instructions from this place on fit the tables
abbrev pub Stand : Setting → ℕ → List Instr → Type 0
Stand x at [] = Unit {0}
Stand x at (i ∷ is) = StandsAt x at i × Stand x (at + 1) is

pub stand_append : (x : Setting) (at : ℕ) (is js : List Instr) → Stand x at is → Stand x (at + length is) js → Stand x at (is ++ js)
stand_append x at [] js p q = let e : at + 0 ≡ at = omega arith in subst (λ n. Stand x n js) e q
stand_append x at (i ∷ is) js p q =
    let e : at + suc (length is) ≡ at + 1 + length is = omega arith in
    (p.0, stand_append x (at + 1) is js p.1 (subst (λ n. Stand x n js) e q))

stand_from : (x : Setting) (from : ℕ) (is : List Instr) (at : ℕ) → Stand x from is → at < length is → (i : Instr) × (nth is at ≡ Some i) × StandsAt x (from + at) i
stand_from x from [] at p l = absurd (omega (arith, l))
stand_from x from (i ∷ is) zero p l =
    let e : from ≡ from + 0 = omega arith in (i, refl, subst (λ n. StandsAt x n i) e p.0)
stand_from x from (i ∷ is) (suc at) p l =
    let e : from + 1 + at ≡ from + suc at = omega arith in
    let r = stand_from x (from + 1) is at p.1 (omega (arith, l)) in
    (r.0, r.1, subst (λ n. StandsAt x n r.0) e r.2)

stand_at : (x : Setting) (is : List Instr) (at : ℕ) → Stand x 0 is → at < length is → (i : Instr) × (nth is at ≡ Some i) × StandsAt x at i
stand_at x is at p l =
    let e : 0 + at ≡ at = omega arith in
    let r = stand_from x 0 is at p l in
    (r.0, r.1, subst (λ n. StandsAt x n r.0) e r.2)

-- these instructions stand in the body from this place on
abbrev pub Within : Setting → ℕ → List Instr → Type 0
Within x at [] = Unit {0}
Within x at (i ∷ is) = (nth x.body.instrs at ≡ Some i) × Within x (at + 1) is

pub within_first : (x : Setting) (at : ℕ) (is js : List Instr) → Within x at (is ++ js) → Within x at is
within_first x at [] js p = tt
within_first x at (i ∷ is) js p = (p.0, within_first x (at + 1) is js p.1)

pub within_rest : (x : Setting) (at : ℕ) (is js : List Instr) → Within x at (is ++ js) → Within x (at + length is) js
within_rest x at [] js p = let e : at ≡ at + 0 = omega arith in subst (λ n. Within x n js) e p
within_rest x at (i ∷ is) js p =
    let e : at + 1 + length is ≡ at + suc (length is) = omega arith in subst (λ n. Within x n js) e (within_rest x (at + 1) is js p.1)

nth_seam : {A : Type 0} (pre is : List A) (i : A) → nth (pre ++ i ∷ is) (length pre) ≡ Some i
nth_seam [] is i = refl
nth_seam (x ∷ pre) is i = nth_seam pre is i

within_from : (x : Setting) (pre is : List Instr) → x.body.instrs ≡ pre ++ is → Within x (length pre) is
within_from x pre [] e = tt
within_from x pre (i ∷ is) e =
    let n : length (pre ++ i ∷ []) ≡ length pre + 1 = omega (arith, length-append pre (i ∷ [])) in
    (ap (λ l. nth l (length pre)) e ∙ nth_seam pre is i, subst (λ k. Within x k is) n (within_from x (pre ++ i ∷ []) is (e ∙ sym (append_assoc pre (i ∷ []) is))))

pub within_all : (x : Setting) → Within x 0 x.body.instrs
within_all x = within_from x [] x.body.instrs refl

-- the tables have an entry for each instruction of the body, and fit it
pub record Whole (x : Setting) : Type 0 where
  pub same : length x.depths ≡ length x.body.instrs
  pub alike : length x.stages ≡ length x.body.instrs
  pub stand : Stand x 0 x.body.instrs

some_stage : (s z : Stage) → Some s ≡ Some z → s ≡ z
some_stage s z e = cc

some_instr : (i j : Instr) → Some i ≡ Some j → i ≡ j
some_instr i j e = cc

abbrev IsPlain : Stage → Type 0
IsPlain (plain t) = Unit {0}
IsPlain (opened t n by) = ⊥
IsPlain (applied t by) = ⊥

-- what stands behind an open leads to the close
opened_leads : (fs : Functions) (owner : Owner) (ss : Stages) (at t n : ℕ) (by : OpenForm) (i : Instr) → FitsStage fs owner ss at (opened t n by) i → (form : UpdateForm) × LeadsTo ss (at + 1) (applied t form)
opened_leads fs owner ss at t n by (Const k) p = absurd p
opened_leads fs owner ss at t n by (Local i) p = absurd p
opened_leads fs owner ss at t n by (Store i) p = absurd p
opened_leads fs owner ss at t n by Pop p = absurd p
opened_leads fs owner ss at t n by (Jump to) p = absurd p
opened_leads fs owner ss at t n by (JumpFalse to) p = absurd p
opened_leads fs owner ss at t n by (Core op m) p = (_, p.2)
opened_leads fs owner ss at t n by (Call f) p = (_, p.3)
opened_leads fs owner ss at t n by Return p = absurd p
opened_leads fs owner ss at t n by (Vector m) p = absurd p
opened_leads fs owner ss at t n by (Print m) p = absurd p
opened_leads fs owner ss at t n by (Look form) p = absurd p
opened_leads fs owner ss at t n by (Put form) p = absurd p
opened_leads fs owner ss at t n by TxBegin p = absurd p
opened_leads fs owner ss at t n by TxEnd p = absurd p
opened_leads fs owner ss at t n by (Open form m) p = absurd p
opened_leads fs owner ss at t n by (Close form) p = absurd p
opened_leads fs owner ss at t n by (Send callee m) p = absurd p
opened_leads fs owner ss at t n by Halt p = absurd p

-- an open leads to its call
open_leads : (fs : Functions) (owner : Owner) (ss : Stages) (at n : ℕ) (by : OpenForm) (s : Stage) → FitsStage fs owner ss at s (Open by n) → (t : ℕ) × LeadsTo ss (at + 1) (opened t n by)
open_leads fs owner ss at n by (plain t) p = (t, p.1)
open_leads fs owner ss at n by (opened t m form) p = absurd p
open_leads fs owner ss at n by (applied t form) p = absurd p

plain_not : (ss : Stages) (at u : ℕ) (s : Stage) → stage_at ss at ≡ Some (plain u) → stage_at ss at ≡ Some s → (IsPlain s → ⊥) → ⊥
plain_not ss at u s e f never = never (subst IsPlain (some_stage (plain u) s (sym e ∙ f)) tt)

next_or_second : (from to : ℕ) → from < to → to ≤ from + 2 → (from + 1 ≡ to) ⊎ (from + 1 + 1 ≡ to)
next_or_second from to l m = ⊎_elim (λ e. inl (omega (arith, l, e))) (λ e. inr (omega (arith, m, e))) (cases_lt to (from + 2))

-- where the code is in the middle of nothing a jump may lead
pub may_jump : (x : Setting) → Whole x → (to d u : ℕ) → Here x.depths x.stages to d (plain u) → MayJump x.body.instrs to
may_jump x w to d u h = (
  omega (arith, w.same, depth_within x.depths to d h.0),
  λ b.
      let r = stand_at x x.body.instrs b.from w.stand (omega (arith, b.behind, w.same, depth_within x.depths to d h.0)) in
      let is_open = some_instr r.0 (Open b.opened b.arguments) (sym r.1 ∙ b.first) in
      let z = r.2.1 in
      let first = open_leads x.functions x.owner x.stages b.from b.arguments b.opened z.0 (subst (λ i. FitsStage x.functions x.owner x.stages b.from z.0 i) is_open z.2) in
      let q = stand_at x x.body.instrs (b.from + 1) w.stand (omega (arith, w.alike, stage_within x.stages (b.from + 1) (opened first.0 b.arguments b.opened) first.1)) in
      let y = q.2.1 in
      let so = some_stage y.0 (opened first.0 b.arguments b.opened) (sym y.1 ∙ first.1) in
      let second = opened_leads x.functions x.owner x.stages (b.from + 1) first.0 b.arguments b.opened q.0 (subst (λ s. FitsStage x.functions x.owner x.stages (b.from + 1) s q.0) so y.2) in
      ⊎_elim
      (λ (e : b.from + 1 ≡ to). plain_not x.stages (b.from + 1) u (opened first.0 b.arguments b.opened) (subst (λ k. stage_at x.stages k ≡ Some (plain u)) (sym e) h.1) first.1 (λ p. p))
      (λ (e : b.from + 1 + 1 ≡ to). plain_not x.stages (b.from + 1 + 1) u (applied first.0 second.0) (subst (λ k. stage_at x.stages k ≡ Some (plain u)) (sym e) h.1) second.1 (λ p. p))
      (next_or_second b.from to b.behind b.within),
)

-- each instruction is lawful
abbrev pub Lawful : Setting → ℕ → List Instr → Type 0
Lawful x at [] = Unit {0}
Lawful x at (i ∷ is) = IsLawful x.callable x.functions.parameters x.constants x.body at i × Lawful x (at + 1) is

pub lawful_append : (x : Setting) (at : ℕ) (is js : List Instr) → Lawful x at is → Lawful x (at + length is) js → Lawful x at (is ++ js)
lawful_append x at [] js p q = let e : at + 0 ≡ at = omega arith in subst (λ n. Lawful x n js) e q
lawful_append x at (i ∷ is) js p q =
    let e : at + suc (length is) ≡ at + 1 + length is = omega arith in
    (p.0, lawful_append x (at + 1) is js p.1 (subst (λ n. Lawful x n js) e q))

lawful_from : (x : Setting) (from : ℕ) (is : List Instr) → Lawful x from is → (at : ℕ) (i : Instr) → nth is at ≡ Some i → IsLawful x.callable x.functions.parameters x.constants x.body (from + at) i
lawful_from x from [] p at i e = cc
lawful_from x from (j ∷ is) p zero i e =
    let f : j ≡ i = cc in
    let z : from ≡ from + 0 = omega arith in
    subst (λ n. IsLawful x.callable x.functions.parameters x.constants x.body n i) z (subst (λ y. IsLawful x.callable x.functions.parameters x.constants x.body from y) f p.0)
lawful_from x from (j ∷ is) p (suc at) i e =
    let z : from + 1 + at ≡ from + suc at = omega arith in
    subst (λ n. IsLawful x.callable x.functions.parameters x.constants x.body n i) z (lawful_from x (from + 1) is p.1 at i e)

pub lawful_at : (x : Setting) → Lawful x 0 x.body.instrs → (at : ℕ) (i : Instr) → nth x.body.instrs at ≡ Some i → IsLawful x.callable x.functions.parameters x.constants x.body at i
lawful_at x p at i e =
    let z : 0 + at ≡ at = omega arith in
    subst (λ n. IsLawful x.callable x.functions.parameters x.constants x.body n i) z (lawful_from x 0 x.body.instrs p at i e)

pub plain_append : (ps : List ℕ) (ks : List Value) (is js : List Instr) (ss ts : List Span) → length ss ≡ length is → plain_instrs ps ks (is ++ js) (ss ++ ts) ≡ plain_instrs ps ks is ss ++ plain_instrs ps ks js ts
plain_append ps ks [] js [] ts e = refl
plain_append ps ks [] js (s ∷ ss) ts e = absurd (let f : suc (length ss) ≡ 0 = e in omega (arith, f))
plain_append ps ks (i ∷ is) js [] ts e = absurd (let f : 0 ≡ suc (length is) = e in omega (arith, f))
plain_append ps ks (i ∷ is) js (s ∷ ss) ts e = ap (λ l. plain_instr ps ks i s ∷ l) (plain_append ps ks is js ss ts (omega (arith, e)))

pub numbers_append : (is js : List Instr) → numbers_in (is ++ js) ≡ numbers_in is ++ numbers_in js
numbers_append [] js = refl
numbers_append (Const k ∷ is) js = ap (λ l. k ∷ l) (numbers_append is js)
numbers_append (Local i ∷ is) js = numbers_append is js
numbers_append (Store i ∷ is) js = numbers_append is js
numbers_append (Pop ∷ is) js = numbers_append is js
numbers_append (Jump t ∷ is) js = numbers_append is js
numbers_append (JumpFalse t ∷ is) js = numbers_append is js
numbers_append (Core op n ∷ is) js = numbers_append is js
numbers_append (Call f ∷ is) js = numbers_append is js
numbers_append (Return ∷ is) js = numbers_append is js
numbers_append (Vector n ∷ is) js = numbers_append is js
numbers_append (Print n ∷ is) js = numbers_append is js
numbers_append (Look form ∷ is) js = numbers_append is js
numbers_append (Put form ∷ is) js = numbers_append is js
numbers_append (TxBegin ∷ is) js = numbers_append is js
numbers_append (TxEnd ∷ is) js = numbers_append is js
numbers_append (Open form n ∷ is) js = numbers_append is js
numbers_append (Close form ∷ is) js = numbers_append is js
numbers_append (Send callee n ∷ is) js = numbers_append is js
numbers_append (Halt ∷ is) js = numbers_append is js

pub range_append : (k m n : ℕ) → range_with_len k m ++ range_with_len (k + m) n ≡ range_with_len k (m + n)
range_append k zero n =
    let e : k + 0 ≡ k = omega arith in let f : n ≡ 0 + n = omega arith in
    ap (λ x. range_with_len x n) e ∙ ap (λ x. range_with_len k x) f
range_append k (suc m) n =
    let e : k + suc m ≡ k + 1 + m = omega arith in let f : suc (m + n) ≡ suc m + n = omega arith in
    ap (λ x. k ∷ (range_with_len (k + 1) m ++ range_with_len x n)) e ∙ ap (λ l. k ∷ l) (range_append (k + 1) m n) ∙ ap (λ x. range_with_len k x) f

-- A run of instructions with their spans, at a place: what the machine sees, n constants from k on, and that they fit the
-- tables, which have the depth to and the stage z behind them. hs: as many as there are states behind each.
pub record Segment (x : Setting) (k n at to : ℕ) (z : Stage) (hs : List State) (is : List Instr) (ss : List Span) (code : List PlainInstr) : Type 0 where
  pub as_many : length ss ≡ length is
  pub places : length hs ≡ length is
  pub seen : plain_instrs x.functions.parameters x.constants is ss ≡ code
  pub numbers : numbers_in is ≡ range_with_len k n
  pub stand : Stand x at is
  pub leaves : Here x.depths x.stages (at + length is) to z
  pub high : to ≤ x.most
  pub lawful : Whole x → Within x at is → Lawful x at is

pub segment_nil : (x : Setting) (k at to : ℕ) (z : Stage) → Here x.depths x.stages at to z → to ≤ x.most → Segment x k 0 at to z [] [] [] []
segment_nil x k at to z e l =
    let f : at ≡ at + 0 = omega arith in
    record {
      as_many = refl;
      places = refl;
      seen = refl;
      numbers = refl;
      stand = tt;
      leaves = subst (λ n. Here x.depths x.stages n to z) f e;
      high = l;
      lawful = λ w p. tt;
    }

-- an instruction that pushes these constants
pub segment_one : (x : Setting) (k n at d to : ℕ) (z y : Stage) (i : Instr) (s : Span) →
    numbers_in (i ∷ []) ≡ range_with_len k n → Here x.depths x.stages at d z → d ≤ x.most → Fits x.owner x.functions.parameters x.depths x.most at d i → FitsStage x.functions x.owner x.stages at z i →
    Here x.depths x.stages (at + 1) to y → to ≤ x.most → (Whole x → IsLawful x.callable x.functions.parameters x.constants x.body at i) →
    Segment x k n at to y (state to y ∷ []) (i ∷ []) (s ∷ []) (plain_instr x.functions.parameters x.constants i s ∷ [])
segment_one x k n at d to z y i s numbers e l fits stage f g w = record {
  as_many = refl;
  places = refl;
  seen = refl;
  numbers = numbers;
  stand = (((d, e.0, l, fits), (z, e.1, stage)), tt);
  leaves = f;
  high = g;
  lawful = λ whole p. (w whole, tt);
}

-- an instruction that pushes no constant, and then more
pub segment_cons : (x : Setting) (k n at d mid to : ℕ) (z u y : Stage) (i : Instr) (gs : List State) (js : List Instr) (s : Span) (ts : List Span) (c : List PlainInstr) →
    numbers_in (i ∷ js) ≡ numbers_in js → Here x.depths x.stages at d z → d ≤ x.most → Fits x.owner x.functions.parameters x.depths x.most at d i → FitsStage x.functions x.owner x.stages at z i →
    (Whole x → IsLawful x.callable x.functions.parameters x.constants x.body at i) →
    Segment x k n (at + 1) to y gs js ts c → Segment x k n at to y (state mid u ∷ gs) (i ∷ js) (s ∷ ts) (plain_instr x.functions.parameters x.constants i s ∷ c)
segment_cons x k n at d mid to z u y i gs js s ts c numbers e l fits stage w q =
    let f : at + 1 + length js ≡ at + suc (length js) = omega arith in
    record {
      as_many = ap suc q.as_many;
      places = ap suc q.places;
      seen = ap (λ y. plain_instr x.functions.parameters x.constants i s ∷ y) q.seen;
      numbers = numbers ∙ q.numbers;
      stand = (((d, e.0, l, fits), (z, e.1, stage)), q.stand);
      leaves = subst (λ n'. Here x.depths x.stages n' to y) f q.leaves;
      high = q.high;
      lawful = λ whole p. (w whole, q.lawful whole p.1);
    }

-- one after the other
pub segment_join : (x : Setting) (k m n at mid to : ℕ) (z y : Stage) (hs gs : List State) (is js : List Instr) (ss ts : List Span) (c e : List PlainInstr) →
    Segment x k m at mid z hs is ss c → Segment x (k + m) n (at + length is) to y gs js ts e → Segment x k (m + n) at to y (hs ++ gs) (is ++ js) (ss ++ ts) (c ++ e)
segment_join x k m n at mid to z y hs gs is js ss ts c e p q =
    let f : at + length is + length js ≡ at + length (is ++ js) = omega (arith, length-append is js) in
    record {
      as_many = omega (arith, length-append is js, length-append ss ts, p.as_many, q.as_many);
      places = omega (arith, length-append is js, length-append hs gs, p.places, q.places);
      seen = plain_append x.functions.parameters x.constants is js ss ts p.as_many ∙ ap (λ l. l ++ plain_instrs x.functions.parameters x.constants js ts) p.seen ∙ ap (λ l. c ++ l) q.seen;
      numbers = numbers_append is js ∙ ap (λ l. l ++ numbers_in js) p.numbers ∙ ap (λ l. range_with_len k m ++ l) q.numbers ∙ range_append k m n;
      stand = stand_append x at is js p.stand q.stand;
      leaves = subst (λ n'. Here x.depths x.stages n' to y) f q.leaves;
      high = q.high;
      lawful = λ whole r. lawful_append x at is js (p.lawful whole (within_first x at is js r)) (q.lawful whole (within_rest x at is js r));
    }

-- the same segment, counted and seen otherwise
pub segment_is : (x : Setting) (k m n at d to : ℕ) (z : Stage) (hs : List State) (is : List Instr) (ss : List Span) (c e : List PlainInstr) →
    m ≡ n → d ≡ to → c ≡ e → Segment x k m at d z hs is ss c → Segment x k n at to z hs is ss e
segment_is x k m n at d to z hs is ss c e f g s p = record {
  as_many = p.as_many;
  places = p.places;
  seen = p.seen ∙ s;
  numbers = p.numbers ∙ ap (λ v. range_with_len k v) f;
  stand = p.stand;
  leaves = (p.leaves.0 ∙ ap (λ v. Some v) g, p.leaves.1);
  high = omega (arith, g, p.high);
  lawful = p.lawful;
}

pub plain_length : (ps : List ℕ) (ks : List Value) (is : List Instr) (ss : List Span) → length ss ≡ length is → length (plain_instrs ps ks is ss) ≡ length is
plain_length ps ks [] ss e = refl
plain_length ps ks (i ∷ is) [] e = absurd (let f : 0 ≡ suc (length is) = e in omega (arith, f))
plain_length ps ks (i ∷ is) (s ∷ ss) e = ap suc (plain_length ps ks is ss (omega (arith, e)))

module _ (x : Setting) (k n at to : ℕ) (z : Stage) (hs : List State) (is : List Instr) (ss : List Span) (code : List PlainInstr) (p : Segment x k n at to z hs is ss code) where
  -- the machine sees as many
  pub seen_length : length is ≡ length code
  seen_length = sym (plain_length x.functions.parameters x.constants is ss p.as_many) ∙ ap length p.seen

  -- the states behind what follows
  pub states_rest : (gs : List State) → On x.depths x.stages (at + 1) (hs ++ gs) → On x.depths x.stages (at + length is + 1) gs
  states_rest gs o =
      let e : at + 1 + length hs ≡ at + length is + 1 = omega (arith, p.places) in
      subst (λ m. On x.depths x.stages m gs) e (on_rest x.depths x.stages (at + 1) hs gs o)

  -- code that follows, as the machine sees it
  pub seen_then : (f : ℕ → List PlainInstr) → code ++ f (at + length is) ≡ then_code at code f
  seen_then f = ap (λ m. code ++ f (at + m)) seen_length

some_same : {A : Type 0} (m n : A) → Some m ≡ Some n → m ≡ n
some_same m n e = cc

-- instructions that fit tables of their length are well typed
pub stand_well_typed : (x : Setting) → Whole x → x.body.parameters ≤ x.body.locals → Here x.depths x.stages 0 0 (plain 0) → Lawful x 0 x.body.instrs → WellTypedBody x.functions x.owner x.callable x.constants x.body x.most
stand_well_typed x whole few first w =
    let found = λ (at : ℕ) (l : at < length x.body.instrs). stand_at x x.body.instrs at whole.stand l in
    record {
      parameters = few;
      lawful = lawful_at x w;
      table = (
        x.depths,
        record {
          first = first.0;
          within = λ at d e. let r = found at (omega (arith, whole.same, depth_within x.depths at d e)) in let f : r.2.0.0 ≡ d = some_same r.2.0.0 d (sym r.2.0.1 ∙ e) in omega (arith, f, r.2.0.2);
          fits = λ at d e. let r = found at (omega (arith, whole.same, depth_within x.depths at d e)) in let f : r.2.0.0 ≡ d = some_same r.2.0.0 d (sym r.2.0.1 ∙ e) in (r.0, r.1, subst (λ n. Fits x.owner x.functions.parameters x.depths x.most at n r.0) f r.2.0.3);
        },
      );
      staging = (
        x.stages,
        record {
          first = first.1;
          fits = λ at s e. let r = found at (omega (arith, whole.alike, stage_within x.stages at s e)) in let f : r.2.1.0 ≡ s = some_stage r.2.1.0 s (sym r.2.1.1 ∙ e) in (r.0, r.1, subst (λ n. FitsStage x.functions x.owner x.stages at n r.0) f r.2.1.2);
        },
      );
    }
