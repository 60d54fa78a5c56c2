-- What a path comes to in a well-typed body, so that no such body is refused.
use Rattle.std.proofs.Common.{arith, ◌≡◌, ◌≤◌, ℕ, suc, List, Option, Some, None, refl, sym, ap, subst, ◌∙◌}
use Rattle.txs_value_data.specs.Places.{nth}
use Rattle.txs_value_data.specs.declared.value.Value.{Value}
use Rattle.txs_code_meaning.specs.PlainCode.{CodeBody}
use Rattle.txs_code_meaning.specs.WellTyped.{Functions, Owner, Stage, plain, opened, applied, Depths, Fits, Stages, FitsStage, WellTypedBody}
use Rattle.txs_code_meaning.specs.declared.instr.OpenForm.{OpenForm}
use Rattle.txs_code_meaning.specs.declared.instr.Instr.{Instr}
use Rattle.txs_code_meaning.specs.declared.instr.Instr.TheVariants.{Const, Local, Store, Pop, Jump, JumpFalse, Core, Call, Return, Vector, Print, Look, Put, TxBegin, TxEnd, Open, Close, Send, Halt}
use Rattle.txs_verify.specs.Paths.{wants, EndsWell, IsAllowed, MayEnd, Steps, ComesIn, opens, before, before_that, stage_behind, stage_for}
use Rattle.txs_verify.specs.Refused.{Comes, IsMet, IsLow, HasTwoDepths, HasTwoNestings, EndsNothing, GoesPast, of_none, behind}
use Rattle.txs_verify.proofs.Agree.{enough_of, has_depth}
use Rattle.txs_verify.proofs.Staged.{JumpsPlainly, has_stage}
use Rattle.txs_verify.proofs.Whole.{jumps}

some_is : {A : Type 0} (x y : A) → Some x ≡ Some y → x ≡ y
some_is x y e = cc

-- how many transactions are open in a stage
abbrev pub txs_in : Stage → ℕ
txs_in (plain t) = t
txs_in (opened t n by) = t
txs_in (applied t by) = t

-- where an instruction fits a stage, it may stand there
allowed_of : (fs : Functions) (owner : Owner) (ss : Stages) (p : ℕ) (s : Stage) (i : Instr) → FitsStage fs owner ss p s i → IsAllowed fs owner s i
allowed_of fs owner ss p (plain t) (Const k) f = tt
allowed_of fs owner ss p (plain t) (Local i) f = tt
allowed_of fs owner ss p (plain t) (Store i) f = tt
allowed_of fs owner ss p (plain t) Pop f = tt
allowed_of fs owner ss p (plain t) (Jump to) f = tt
allowed_of fs owner ss p (plain t) (JumpFalse to) f = tt
allowed_of fs owner ss p (plain t) (Core op n) f = tt
allowed_of fs owner ss p (plain t) (Call g) f = f.0
allowed_of fs owner ss p (plain t) Return f = tt
allowed_of fs owner ss p (plain t) (Vector n) f = tt
allowed_of fs owner ss p (plain t) (Print n) f = (f.0, f.1)
allowed_of fs owner ss p (plain t) (Look look) f = f.0
allowed_of fs owner ss p (plain t) (Put put) f = f.0
allowed_of fs owner ss p (plain t) TxBegin f = f.0
allowed_of fs owner ss p (plain t) TxEnd f = tt
allowed_of fs owner ss p (plain t) (Open other m) f = f.0
allowed_of fs owner ss p (plain t) (Close closed) f = tt
allowed_of fs owner ss p (plain t) (Send callee n) f = (f.0, f.1)
allowed_of fs owner ss p (plain t) Halt f = tt
allowed_of fs owner ss p (opened t n by) (Const k) f = tt
allowed_of fs owner ss p (opened t n by) (Local i) f = tt
allowed_of fs owner ss p (opened t n by) (Store i) f = tt
allowed_of fs owner ss p (opened t n by) Pop f = tt
allowed_of fs owner ss p (opened t n by) (Jump to) f = tt
allowed_of fs owner ss p (opened t n by) (JumpFalse to) f = tt
allowed_of fs owner ss p (opened t n by) (Core op k) f = tt
allowed_of fs owner ss p (opened t n by) (Call g) f = f.1
allowed_of fs owner ss p (opened t n by) Return f = tt
allowed_of fs owner ss p (opened t n by) (Vector k) f = tt
allowed_of fs owner ss p (opened t n by) (Print k) f = tt
allowed_of fs owner ss p (opened t n by) (Look look) f = tt
allowed_of fs owner ss p (opened t n by) (Put put) f = tt
allowed_of fs owner ss p (opened t n by) TxBegin f = tt
allowed_of fs owner ss p (opened t n by) TxEnd f = tt
allowed_of fs owner ss p (opened t n by) (Open other m) f = tt
allowed_of fs owner ss p (opened t n by) (Close closed) f = tt
allowed_of fs owner ss p (opened t n by) (Send callee k) f = tt
allowed_of fs owner ss p (opened t n by) Halt f = tt
allowed_of fs owner ss p (applied t by) i f = tt

ends_of : (fs : Functions) (owner : Owner) (ss : Stages) (p : ℕ) (s : Stage) (i : Instr) → FitsStage fs owner ss p s i → MayEnd i (txs_in s)
ends_of fs owner ss p (plain t) (Const k) f = tt
ends_of fs owner ss p (plain t) (Local i) f = tt
ends_of fs owner ss p (plain t) (Store i) f = tt
ends_of fs owner ss p (plain t) Pop f = tt
ends_of fs owner ss p (plain t) (Jump to) f = tt
ends_of fs owner ss p (plain t) (JumpFalse to) f = tt
ends_of fs owner ss p (plain t) (Core op n) f = tt
ends_of fs owner ss p (plain t) (Call g) f = tt
ends_of fs owner ss p (plain t) Return f = tt
ends_of fs owner ss p (plain t) (Vector n) f = tt
ends_of fs owner ss p (plain t) (Print n) f = tt
ends_of fs owner ss p (plain t) (Look look) f = tt
ends_of fs owner ss p (plain t) (Put put) f = tt
ends_of fs owner ss p (plain t) TxBegin f = tt
ends_of fs owner ss p (plain t) TxEnd f = f.0
ends_of fs owner ss p (plain t) (Open other m) f = tt
ends_of fs owner ss p (plain t) (Close closed) f = tt
ends_of fs owner ss p (plain t) (Send callee n) f = tt
ends_of fs owner ss p (plain t) Halt f = tt
ends_of fs owner ss p (opened t n by) (Const k) f = tt
ends_of fs owner ss p (opened t n by) (Local i) f = tt
ends_of fs owner ss p (opened t n by) (Store i) f = tt
ends_of fs owner ss p (opened t n by) Pop f = tt
ends_of fs owner ss p (opened t n by) (Jump to) f = tt
ends_of fs owner ss p (opened t n by) (JumpFalse to) f = tt
ends_of fs owner ss p (opened t n by) (Core op k) f = tt
ends_of fs owner ss p (opened t n by) (Call g) f = tt
ends_of fs owner ss p (opened t n by) Return f = tt
ends_of fs owner ss p (opened t n by) (Vector k) f = tt
ends_of fs owner ss p (opened t n by) (Print k) f = tt
ends_of fs owner ss p (opened t n by) (Look look) f = tt
ends_of fs owner ss p (opened t n by) (Put put) f = tt
ends_of fs owner ss p (opened t n by) TxBegin f = tt
ends_of fs owner ss p (opened t n by) TxEnd f = absurd f
ends_of fs owner ss p (opened t n by) (Open other m) f = tt
ends_of fs owner ss p (opened t n by) (Close closed) f = tt
ends_of fs owner ss p (opened t n by) (Send callee k) f = tt
ends_of fs owner ss p (opened t n by) Halt f = tt
ends_of fs owner ss p (applied t by) (Const k) f = tt
ends_of fs owner ss p (applied t by) (Local i) f = tt
ends_of fs owner ss p (applied t by) (Store i) f = tt
ends_of fs owner ss p (applied t by) Pop f = tt
ends_of fs owner ss p (applied t by) (Jump to) f = tt
ends_of fs owner ss p (applied t by) (JumpFalse to) f = tt
ends_of fs owner ss p (applied t by) (Core op n) f = tt
ends_of fs owner ss p (applied t by) (Call g) f = tt
ends_of fs owner ss p (applied t by) Return f = tt
ends_of fs owner ss p (applied t by) (Vector n) f = tt
ends_of fs owner ss p (applied t by) (Print n) f = tt
ends_of fs owner ss p (applied t by) (Look look) f = tt
ends_of fs owner ss p (applied t by) (Put put) f = tt
ends_of fs owner ss p (applied t by) TxBegin f = tt
ends_of fs owner ss p (applied t by) TxEnd f = absurd f
ends_of fs owner ss p (applied t by) (Open other m) f = tt
ends_of fs owner ss p (applied t by) (Close closed) f = tt
ends_of fs owner ss p (applied t by) (Send callee n) f = tt
ends_of fs owner ss p (applied t by) Halt f = tt

ends_well_of : (fs : Functions) (owner : Owner) (ss : Stages) (ps : List ℕ) (ds : Depths) (most p d : ℕ) (s : Stage) (i : Instr) → Fits owner ps ds most p d i → FitsStage fs owner ss p s i → EndsWell owner d (txs_in s) i
ends_well_of fs owner ss ps ds most p d (plain t) (Const k) h f = tt
ends_well_of fs owner ss ps ds most p d (plain t) (Local i) h f = tt
ends_well_of fs owner ss ps ds most p d (plain t) (Store i) h f = tt
ends_well_of fs owner ss ps ds most p d (plain t) Pop h f = tt
ends_well_of fs owner ss ps ds most p d (plain t) (Jump to) h f = tt
ends_well_of fs owner ss ps ds most p d (plain t) (JumpFalse to) h f = tt
ends_well_of fs owner ss ps ds most p d (plain t) (Core op n) h f = tt
ends_well_of fs owner ss ps ds most p d (plain t) (Call g) h f = tt
ends_well_of fs owner ss ps ds most p d (plain t) Return h f = (h.0, h.1, f)
ends_well_of fs owner ss ps ds most p d (plain t) (Vector n) h f = tt
ends_well_of fs owner ss ps ds most p d (plain t) (Print n) h f = tt
ends_well_of fs owner ss ps ds most p d (plain t) (Look look) h f = tt
ends_well_of fs owner ss ps ds most p d (plain t) (Put put) h f = tt
ends_well_of fs owner ss ps ds most p d (plain t) TxBegin h f = tt
ends_well_of fs owner ss ps ds most p d (plain t) TxEnd h f = tt
ends_well_of fs owner ss ps ds most p d (plain t) (Open other m) h f = tt
ends_well_of fs owner ss ps ds most p d (plain t) (Close closed) h f = tt
ends_well_of fs owner ss ps ds most p d (plain t) (Send callee n) h f = tt
ends_well_of fs owner ss ps ds most p d (plain t) Halt h f = (h.0, h.1, f)
ends_well_of fs owner ss ps ds most p d (opened t n by) (Const k) h f = tt
ends_well_of fs owner ss ps ds most p d (opened t n by) (Local i) h f = tt
ends_well_of fs owner ss ps ds most p d (opened t n by) (Store i) h f = tt
ends_well_of fs owner ss ps ds most p d (opened t n by) Pop h f = tt
ends_well_of fs owner ss ps ds most p d (opened t n by) (Jump to) h f = tt
ends_well_of fs owner ss ps ds most p d (opened t n by) (JumpFalse to) h f = tt
ends_well_of fs owner ss ps ds most p d (opened t n by) (Core op k) h f = tt
ends_well_of fs owner ss ps ds most p d (opened t n by) (Call g) h f = tt
ends_well_of fs owner ss ps ds most p d (opened t n by) Return h f = absurd f
ends_well_of fs owner ss ps ds most p d (opened t n by) (Vector k) h f = tt
ends_well_of fs owner ss ps ds most p d (opened t n by) (Print k) h f = tt
ends_well_of fs owner ss ps ds most p d (opened t n by) (Look look) h f = tt
ends_well_of fs owner ss ps ds most p d (opened t n by) (Put put) h f = tt
ends_well_of fs owner ss ps ds most p d (opened t n by) TxBegin h f = tt
ends_well_of fs owner ss ps ds most p d (opened t n by) TxEnd h f = tt
ends_well_of fs owner ss ps ds most p d (opened t n by) (Open other m) h f = tt
ends_well_of fs owner ss ps ds most p d (opened t n by) (Close closed) h f = tt
ends_well_of fs owner ss ps ds most p d (opened t n by) (Send callee k) h f = tt
ends_well_of fs owner ss ps ds most p d (opened t n by) Halt h f = absurd f
ends_well_of fs owner ss ps ds most p d (applied t by) (Const k) h f = tt
ends_well_of fs owner ss ps ds most p d (applied t by) (Local i) h f = tt
ends_well_of fs owner ss ps ds most p d (applied t by) (Store i) h f = tt
ends_well_of fs owner ss ps ds most p d (applied t by) Pop h f = tt
ends_well_of fs owner ss ps ds most p d (applied t by) (Jump to) h f = tt
ends_well_of fs owner ss ps ds most p d (applied t by) (JumpFalse to) h f = tt
ends_well_of fs owner ss ps ds most p d (applied t by) (Core op n) h f = tt
ends_well_of fs owner ss ps ds most p d (applied t by) (Call g) h f = tt
ends_well_of fs owner ss ps ds most p d (applied t by) Return h f = absurd f
ends_well_of fs owner ss ps ds most p d (applied t by) (Vector n) h f = tt
ends_well_of fs owner ss ps ds most p d (applied t by) (Print n) h f = tt
ends_well_of fs owner ss ps ds most p d (applied t by) (Look look) h f = tt
ends_well_of fs owner ss ps ds most p d (applied t by) (Put put) h f = tt
ends_well_of fs owner ss ps ds most p d (applied t by) TxBegin h f = tt
ends_well_of fs owner ss ps ds most p d (applied t by) TxEnd h f = tt
ends_well_of fs owner ss ps ds most p d (applied t by) (Open other m) h f = tt
ends_well_of fs owner ss ps ds most p d (applied t by) (Close closed) h f = tt
ends_well_of fs owner ss ps ds most p d (applied t by) (Send callee n) h f = tt
ends_well_of fs owner ss ps ds most p d (applied t by) Halt h f = absurd f

txs_are : (x y : Option (OpenForm × ℕ)) (t : ℕ) → txs_in (stage_behind x y t) ≡ t
txs_are (Some x) y t = refl
txs_are None (Some y) t = refl
txs_are None None t = refl

-- what a path comes to in a well-typed body
pub record IsRight (fs : Functions) (owner : Owner) (b : CodeBody) (p d t : ℕ) : Type 0 where
  pub instr : Instr
  pub stands : nth b.instrs p ≡ Some instr
  pub enough : wants fs.parameters instr ≤ d
  pub within : MayEnd instr t
  pub ends : EndsWell owner d t instr
  pub allowed : IsAllowed fs owner (stage_for b.instrs p t) instr

pub right_at : (fs : Functions) (owner : Owner) (callable : ℕ) (ks : List Value) (b : CodeBody) (room : ℕ) → WellTypedBody fs owner callable ks b room → (p d t : ℕ) → Comes fs.parameters b.instrs p d t → IsRight fs owner b p d t
right_at fs owner callable ks b room typed p d t comes =
    let ds = typed.table.0 in
    let ss = typed.staging.0 in
    let deep = typed.table.1.fits p d (has_depth owner fs.parameters b room ds typed.table.1 comes.0 p d t comes.1) in
    let staged = typed.staging.1.fits p (stage_for b.instrs p t) (has_stage fs owner b ss (λ at i stands. jumps callable fs.parameters ks b at i (typed.lawful at i stands)) typed.staging.1 comes.0 p d t comes.1) in
    let same : staged.0 ≡ deep.0 = some_is staged.0 deep.0 (sym staged.1 ∙ deep.1) in
    let stage = subst (λ i. FitsStage fs owner ss p (stage_for b.instrs p t) i) same staged.2 in
    let one : txs_in (stage_for b.instrs p t) ≡ t = txs_are (opens (before b.instrs p)) (opens (before_that b.instrs p)) t in
    record {
      instr = deep.0;
      stands = deep.1;
      enough = enough_of owner fs.parameters ds room p d deep.0 deep.2;
      within = subst (λ x. MayEnd deep.0 x) one (ends_of fs owner ss p (stage_for b.instrs p t) deep.0 stage);
      ends = subst (λ x. EndsWell owner d x deep.0) one (ends_well_of fs owner ss fs.parameters ds room p d (stage_for b.instrs p t) deep.0 deep.2 stage);
      allowed = allowed_of fs owner ss p (stage_for b.instrs p t) deep.0 stage;
    }

-- what a path comes to fits the stage there, in as many transactions as the path
pub staged_at : (fs : Functions) (owner : Owner) (callable : ℕ) (ks : List Value) (b : CodeBody) (room : ℕ) → WellTypedBody fs owner callable ks b room → (p d t : ℕ) (i : Instr) → IsMet fs.parameters b.instrs p d t i → (ss : Stages) × FitsStage fs owner ss p (stage_for b.instrs p t) i × (txs_in (stage_for b.instrs p t) ≡ t)
staged_at fs owner callable ks b room typed p d t i met =
    let ss = typed.staging.0 in
    let staged = typed.staging.1.fits p (stage_for b.instrs p t) (has_stage fs owner b ss (λ at i stands. jumps callable fs.parameters ks b at i (typed.lawful at i stands)) typed.staging.1 met.comes.0 p d t met.comes.1) in
    let same : staged.0 ≡ i = some_is staged.0 i (sym staged.1 ∙ met.stands) in
    (ss, subst (λ x. FitsStage fs owner ss p (stage_for b.instrs p t) x) same staged.2, txs_are (opens (before b.instrs p)) (opens (before_that b.instrs p)) t)

-- ---- no refusal is true of a well-typed body

module _ (fs : Functions) (owner : Owner) (callable : ℕ) (ks : List Value) (b : CodeBody) (room : ℕ) (typed : WellTypedBody fs owner callable ks b room) where
  here : (p d t : ℕ) (i : Instr) → (met : IsMet fs.parameters b.instrs p d t i) → (r : IsRight fs owner b p d t) × (r.instr ≡ i)
  here p d t i met =
      let r = right_at fs owner callable ks b room typed p d t met.comes in
      (r, some_is r.instr i (sym r.stands ∙ met.stands))

  pub never_low : (p : ℕ) → IsLow fs.parameters b.instrs p → ⊥
  never_low p low =
      let r = here p low.0 low.1 low.2 low.3 in
      let enough : wants fs.parameters low.2 ≤ low.0 = subst (λ i. wants fs.parameters i ≤ low.0) r.1 r.0.enough in
      absurd (omega (arith, enough, low.4))

  pub never_ends_nothing : (p : ℕ) → EndsNothing fs.parameters b.instrs p → ⊥
  never_ends_nothing p bad =
      let r = here p bad.0 bad.1 bad.2 bad.3 in
      bad.4 (subst (λ i. MayEnd i bad.1) r.1 r.0.within)

  starts : Comes fs.parameters b.instrs 0 0 0
  unfolding ComesIn
  starts = (0, (refl, refl, refl))

  then_on : (p d t q e u : ℕ) → Comes fs.parameters b.instrs p d t → Steps fs.parameters b.instrs p d t q e u → Comes fs.parameters b.instrs q e u
  unfolding ComesIn
  then_on p d t q e u comes step = (suc comes.0, (p, d, t, comes.1, step))

  never_without : (p d t : ℕ) → Comes fs.parameters b.instrs p d t → nth b.instrs p ≡ None → ⊥
  never_without p d t comes none =
      let r = right_at fs owner callable ks b room typed p d t comes in
      let bad : Some r.instr ≡ None = sym r.stands ∙ none in
      absurd cc

  pub never_past : (p : ℕ) → GoesPast fs.parameters b.instrs p → ⊥
  never_past p (of_none empty first) = never_without 0 0 0 starts (ap (λ is. nth is 0) empty)
  never_past p (behind d t q e u comes leads past) = never_without q e u (then_on p d t q e u comes leads) past

  pub never_two_depths : (p : ℕ) → HasTwoDepths fs.parameters b.instrs p → ⊥
  never_two_depths p two =
      let at_first = has_depth owner fs.parameters b room typed.table.0 typed.table.1 two.4.0 p two.0 two.1 two.4.1 in
      let at_second = has_depth owner fs.parameters b room typed.table.0 typed.table.1 two.5.0 p two.2 two.3 two.5.1 in
      two.6 (some_is two.0 two.2 (sym at_first ∙ at_second))

  pub never_two_nestings : (p : ℕ) → HasTwoNestings fs.parameters b.instrs p → ⊥
  never_two_nestings p two =
      let lawful_jumps : (at : ℕ) (i : Instr) → nth b.instrs at ≡ Some i → JumpsPlainly b.instrs i = λ at i stands. jumps callable fs.parameters ks b at i (typed.lawful at i stands) in
      let at_first = has_stage fs owner b typed.staging.0 lawful_jumps typed.staging.1 two.4.0 p two.0 two.1 two.4.1 in
      let at_second = has_stage fs owner b typed.staging.0 lawful_jumps typed.staging.1 two.5.0 p two.2 two.3 two.5.1 in
      let stages : stage_for b.instrs p two.1 ≡ stage_for b.instrs p two.3 = some_is (stage_for b.instrs p two.1) (stage_for b.instrs p two.3) (sym at_first ∙ at_second) in
      two.6 (sym (txs_are (opens (before b.instrs p)) (opens (before_that b.instrs p)) two.1) ∙ ap txs_in stages ∙ txs_are (opens (before b.instrs p)) (opens (before_that b.instrs p)) two.3)
