-- A staging has at each place that the code comes to the stage that the instructions before it make, in as many transactions as the path.
use Rattle.std.proofs.Common.{arith, inl, inr, ◌≡◌, ◌+◌, ◌-◌, ℕ, zero, suc, List, Option, Some, None, refl, sym, ap, subst, ◌∙◌}
use Rattle.txs_value_data.specs.Places.{nth}
use Rattle.txs_code_meaning.specs.PlainCode.{CodeBody}
use Rattle.txs_code_meaning.specs.WellTyped.{Functions, Owner, plain, opened, applied, form_of, Stages, stage_at, FitsStage, IsStaging, IsBehindOpen}
use Rattle.txs_code_meaning.specs.declared.instr.OpenForm.{OpenForm}
use Rattle.txs_value_cell.specs.declared.form.UpdateForm.{UpdateForm}
use Rattle.txs_code_meaning.specs.declared.instr.Instr.{Instr}
use Rattle.txs_code_meaning.specs.declared.instr.Instr.TheVariants.{Const, Local, Store, Pop, Jump, JumpFalse, Core, Call, Return, Vector, Print, Look, Put, TxBegin, TxEnd, Open, Close, Send, Halt}
use Rattle.txs_verify.specs.Paths.{txs_behind, LeadsTo, Steps, ComesIn, opens, before, before_that, stage_behind, stage_for}

some_is : {A : Type 0} (x y : A) → Some x ≡ Some y → x ≡ y
some_is x y e = cc

-- what is no open opens nothing
nothing_opened : (o : Option Instr) → ((by : OpenForm) (n : ℕ) → o ≡ Some (Open by n) → ⊥) → opens o ≡ None
nothing_opened None h = refl
nothing_opened (Some (Const k)) h = refl
nothing_opened (Some (Local i)) h = refl
nothing_opened (Some (Store i)) h = refl
nothing_opened (Some Pop) h = refl
nothing_opened (Some (Jump to)) h = refl
nothing_opened (Some (JumpFalse to)) h = refl
nothing_opened (Some (Core op n)) h = refl
nothing_opened (Some (Call g)) h = refl
nothing_opened (Some Return) h = refl
nothing_opened (Some (Vector n)) h = refl
nothing_opened (Some (Print n)) h = refl
nothing_opened (Some (Look look)) h = refl
nothing_opened (Some (Put put)) h = refl
nothing_opened (Some TxBegin) h = refl
nothing_opened (Some TxEnd) h = refl
nothing_opened (Some (Open by n)) h = absurd (h by n refl)
nothing_opened (Some (Close by)) h = refl
nothing_opened (Some (Send callee n)) h = refl
nothing_opened (Some Halt) h = refl

-- a place that isn't behind an open is in the middle of nothing
pub plain_unless : (is : List Instr) (q u : ℕ) → (IsBehindOpen is q → ⊥) → stage_for is q u ≡ plain u
plain_unless is zero u h = refl
plain_unless is (suc zero) u h =
    ap (λ x. stage_behind x None u) (nothing_opened (nth is zero) (λ by n e. h (record { from = zero; opened = by; arguments = n; first = e; behind = omega (arith); within = omega (arith) })))
plain_unless is (suc (suc q)) u h =
    let near : opens (nth is (suc q)) ≡ None = nothing_opened (nth is (suc q)) (λ by n e. h (record { from = suc q; opened = by; arguments = n; first = e; behind = omega (arith); within = omega (arith) })) in
    let far : opens (nth is q) ≡ None = nothing_opened (nth is q) (λ by n e. h (record { from = q; opened = by; arguments = n; first = e; behind = omega (arith); within = omega (arith) })) in
    ap (λ x. stage_behind x (opens (nth is q)) u) near ∙ ap (λ x. stage_behind None x u) far

-- where one jumps to is no place behind an open
abbrev pub JumpsPlainly : List Instr → Instr → Type 0
JumpsPlainly is (Jump to) = IsBehindOpen is to → ⊥
JumpsPlainly is (JumpFalse to) = IsBehindOpen is to → ⊥
JumpsPlainly is _ = Unit {0}

next_is : (p : ℕ) → p + 1 ≡ suc p
next_is p = omega (arith)

-- the stage one place on
pub stage_on : (is : List Instr) (p u : ℕ) (i : Instr) → nth is p ≡ Some i → stage_for is (p + 1) u ≡ stage_behind (opens (Some i)) (opens (before is p)) u
stage_on is p u i e = ap (λ x. stage_for is x u) (next_is p) ∙ ap (λ x. stage_behind (opens x) (opens (before is p)) u) e

-- outside an open and its close
from_plain : (fs : Functions) (owner : Owner) (ss : Stages) (is : List Instr) (p t q : ℕ) (i : Instr) → nth is p ≡ Some i → JumpsPlainly is i → opens (before is p) ≡ None → FitsStage fs owner ss p (plain t) i → LeadsTo p i q → stage_at ss q ≡ Some (stage_for is q (txs_behind i t))
from_plain fs owner ss is p t q (Const k) stands jumps none f e = ap (stage_at ss) e ∙ f ∙ ap Some (sym (stage_on is p (t) (Const k) stands ∙ ap (λ x. stage_behind (opens (Some (Const k))) x (t)) none)) ∙ ap (λ x. Some (stage_for is x (t))) (sym e)
from_plain fs owner ss is p t q (Local i) stands jumps none f e = ap (stage_at ss) e ∙ f ∙ ap Some (sym (stage_on is p (t) (Local i) stands ∙ ap (λ x. stage_behind (opens (Some (Local i))) x (t)) none)) ∙ ap (λ x. Some (stage_for is x (t))) (sym e)
from_plain fs owner ss is p t q (Store i) stands jumps none f e = ap (stage_at ss) e ∙ f ∙ ap Some (sym (stage_on is p (t) (Store i) stands ∙ ap (λ x. stage_behind (opens (Some (Store i))) x (t)) none)) ∙ ap (λ x. Some (stage_for is x (t))) (sym e)
from_plain fs owner ss is p t q Pop stands jumps none f e = ap (stage_at ss) e ∙ f ∙ ap Some (sym (stage_on is p (t) Pop stands ∙ ap (λ x. stage_behind (opens (Some Pop)) x (t)) none)) ∙ ap (λ x. Some (stage_for is x (t))) (sym e)
from_plain fs owner ss is p t q (Jump to) stands jumps none f e = ap (stage_at ss) e ∙ f ∙ ap Some (sym (plain_unless is to t jumps)) ∙ ap (λ x. Some (stage_for is x t)) (sym e)
from_plain fs owner ss is p t q (JumpFalse to) stands jumps none f (inl e) = ap (stage_at ss) e ∙ f.0 ∙ ap Some (sym (plain_unless is to t jumps)) ∙ ap (λ x. Some (stage_for is x t)) (sym e)
from_plain fs owner ss is p t q (JumpFalse to) stands jumps none f (inr e) = ap (stage_at ss) e ∙ f.1 ∙ ap Some (sym (stage_on is p (t) (JumpFalse to) stands ∙ ap (λ x. stage_behind (opens (Some (JumpFalse to))) x (t)) none)) ∙ ap (λ x. Some (stage_for is x (t))) (sym e)
from_plain fs owner ss is p t q (Core op n) stands jumps none f e = ap (stage_at ss) e ∙ f ∙ ap Some (sym (stage_on is p (t) (Core op n) stands ∙ ap (λ x. stage_behind (opens (Some (Core op n))) x (t)) none)) ∙ ap (λ x. Some (stage_for is x (t))) (sym e)
from_plain fs owner ss is p t q (Call g) stands jumps none f e = ap (stage_at ss) e ∙ f.1 ∙ ap Some (sym (stage_on is p (t) (Call g) stands ∙ ap (λ x. stage_behind (opens (Some (Call g))) x (t)) none)) ∙ ap (λ x. Some (stage_for is x (t))) (sym e)
from_plain fs owner ss is p t q Return stands jumps none f e = absurd e
from_plain fs owner ss is p t q (Vector n) stands jumps none f e = ap (stage_at ss) e ∙ f ∙ ap Some (sym (stage_on is p (t) (Vector n) stands ∙ ap (λ x. stage_behind (opens (Some (Vector n))) x (t)) none)) ∙ ap (λ x. Some (stage_for is x (t))) (sym e)
from_plain fs owner ss is p t q (Print n) stands jumps none f e = ap (stage_at ss) e ∙ f.2 ∙ ap Some (sym (stage_on is p (t) (Print n) stands ∙ ap (λ x. stage_behind (opens (Some (Print n))) x (t)) none)) ∙ ap (λ x. Some (stage_for is x (t))) (sym e)
from_plain fs owner ss is p t q (Look look) stands jumps none f e = ap (stage_at ss) e ∙ f.1 ∙ ap Some (sym (stage_on is p (t) (Look look) stands ∙ ap (λ x. stage_behind (opens (Some (Look look))) x (t)) none)) ∙ ap (λ x. Some (stage_for is x (t))) (sym e)
from_plain fs owner ss is p t q (Put put) stands jumps none f e = ap (stage_at ss) e ∙ f.1 ∙ ap Some (sym (stage_on is p (t) (Put put) stands ∙ ap (λ x. stage_behind (opens (Some (Put put))) x (t)) none)) ∙ ap (λ x. Some (stage_for is x (t))) (sym e)
from_plain fs owner ss is p t q TxBegin stands jumps none f e = ap (stage_at ss) e ∙ f.1 ∙ ap Some (sym (stage_on is p (suc t) TxBegin stands ∙ ap (λ x. stage_behind (opens (Some TxBegin)) x (suc t)) none)) ∙ ap (λ x. Some (stage_for is x (suc t))) (sym e)
from_plain fs owner ss is p t q TxEnd stands jumps none f e = ap (stage_at ss) e ∙ f.1 ∙ ap Some (sym (stage_on is p (t - 1) TxEnd stands ∙ ap (λ x. stage_behind (opens (Some TxEnd)) x (t - 1)) none)) ∙ ap (λ x. Some (stage_for is x (t - 1))) (sym e)
from_plain fs owner ss is p t q (Open by n) stands jumps none f e = ap (stage_at ss) e ∙ f.1 ∙ ap Some (sym (stage_on is p (t) (Open by n) stands ∙ ap (λ x. stage_behind (opens (Some (Open by n))) x (t)) none)) ∙ ap (λ x. Some (stage_for is x (t))) (sym e)
from_plain fs owner ss is p t q (Close by) stands jumps none f e = absurd f
from_plain fs owner ss is p t q (Send callee n) stands jumps none f e = ap (stage_at ss) e ∙ f.2 ∙ ap Some (sym (stage_on is p (t) (Send callee n) stands ∙ ap (λ x. stage_behind (opens (Some (Send callee n))) x (t)) none)) ∙ ap (λ x. Some (stage_for is x (t))) (sym e)
from_plain fs owner ss is p t q Halt stands jumps none f e = absurd e

-- behind an open
from_opened : (fs : Functions) (owner : Owner) (ss : Stages) (is : List Instr) (p t q m : ℕ) (opener : OpenForm) (i : Instr) → nth is p ≡ Some i → opens (before is p) ≡ Some (opener, m) → FitsStage fs owner ss p (opened t m opener) i → LeadsTo p i q → stage_at ss q ≡ Some (stage_for is q (txs_behind i t))
from_opened fs owner ss is p t q m opener (Const k) stands some f e = absurd f
from_opened fs owner ss is p t q m opener (Local i) stands some f e = absurd f
from_opened fs owner ss is p t q m opener (Store i) stands some f e = absurd f
from_opened fs owner ss is p t q m opener Pop stands some f e = absurd f
from_opened fs owner ss is p t q m opener (Jump to) stands some f e = absurd f
from_opened fs owner ss is p t q m opener (JumpFalse to) stands some f e = absurd f
from_opened fs owner ss is p t q m opener (Core op n) stands some f e = ap (stage_at ss) e ∙ f.2 ∙ ap Some (sym (stage_on is p t (Core op n) stands ∙ ap (λ x. stage_behind (opens (Some (Core op n))) x t) some)) ∙ ap (λ x. Some (stage_for is x t)) (sym e)
from_opened fs owner ss is p t q m opener (Call g) stands some f e = ap (stage_at ss) e ∙ f.3 ∙ ap Some (sym (stage_on is p t (Call g) stands ∙ ap (λ x. stage_behind (opens (Some (Call g))) x t) some)) ∙ ap (λ x. Some (stage_for is x t)) (sym e)
from_opened fs owner ss is p t q m opener Return stands some f e = absurd f
from_opened fs owner ss is p t q m opener (Vector n) stands some f e = absurd f
from_opened fs owner ss is p t q m opener (Print n) stands some f e = absurd f
from_opened fs owner ss is p t q m opener (Look look) stands some f e = absurd f
from_opened fs owner ss is p t q m opener (Put put) stands some f e = absurd f
from_opened fs owner ss is p t q m opener TxBegin stands some f e = absurd f
from_opened fs owner ss is p t q m opener TxEnd stands some f e = absurd f
from_opened fs owner ss is p t q m opener (Open by n) stands some f e = absurd f
from_opened fs owner ss is p t q m opener (Close by) stands some f e = absurd f
from_opened fs owner ss is p t q m opener (Send callee n) stands some f e = absurd f
from_opened fs owner ss is p t q m opener Halt stands some f e = absurd f

-- before a close
from_applied : (fs : Functions) (owner : Owner) (ss : Stages) (is : List Instr) (p t q : ℕ) (by : UpdateForm) (i : Instr) → nth is p ≡ Some i → opens (before is p) ≡ None → FitsStage fs owner ss p (applied t by) i → LeadsTo p i q → stage_at ss q ≡ Some (stage_for is q (txs_behind i t))
from_applied fs owner ss is p t q by (Const k) stands none f e = absurd f
from_applied fs owner ss is p t q by (Local i) stands none f e = absurd f
from_applied fs owner ss is p t q by (Store i) stands none f e = absurd f
from_applied fs owner ss is p t q by Pop stands none f e = absurd f
from_applied fs owner ss is p t q by (Jump to) stands none f e = absurd f
from_applied fs owner ss is p t q by (JumpFalse to) stands none f e = absurd f
from_applied fs owner ss is p t q by (Core op n) stands none f e = absurd f
from_applied fs owner ss is p t q by (Call g) stands none f e = absurd f
from_applied fs owner ss is p t q by Return stands none f e = absurd f
from_applied fs owner ss is p t q by (Vector n) stands none f e = absurd f
from_applied fs owner ss is p t q by (Print n) stands none f e = absurd f
from_applied fs owner ss is p t q by (Look look) stands none f e = absurd f
from_applied fs owner ss is p t q by (Put put) stands none f e = absurd f
from_applied fs owner ss is p t q by TxBegin stands none f e = absurd f
from_applied fs owner ss is p t q by TxEnd stands none f e = absurd f
from_applied fs owner ss is p t q by (Open other n) stands none f e = absurd f
from_applied fs owner ss is p t q by (Close closed) stands none f e = ap (stage_at ss) e ∙ f.1 ∙ ap Some (sym (stage_on is p (t) (Close closed) stands ∙ ap (λ x. stage_behind (opens (Some (Close closed))) x (t)) none)) ∙ ap (λ x. Some (stage_for is x (t))) (sym e)
from_applied fs owner ss is p t q by (Send callee n) stands none f e = absurd f
from_applied fs owner ss is p t q by Halt stands none f e = absurd f

staged_by : (fs : Functions) (owner : Owner) (ss : Stages) (is : List Instr) (p t q : ℕ) (i : Instr) → nth is p ≡ Some i → JumpsPlainly is i → LeadsTo p i q → (x y : Option (OpenForm × ℕ)) → opens (before is p) ≡ x → FitsStage fs owner ss p (stage_behind x y t) i → stage_at ss q ≡ Some (stage_for is q (txs_behind i t))
staged_by fs owner ss is p t q i stands jumps e (Some x) y is_x g = from_opened fs owner ss is p t q x.1 x.0 i stands is_x g e
staged_by fs owner ss is p t q i stands jumps e None (Some y) is_x g = from_applied fs owner ss is p t q (form_of y.0) i stands is_x g e
staged_by fs owner ss is p t q i stands jumps e None None is_x g = from_plain fs owner ss is p t q i stands jumps is_x g e

-- from any stage
pub stage_of : (fs : Functions) (owner : Owner) (ss : Stages) (is : List Instr) (p t q : ℕ) (i : Instr) → nth is p ≡ Some i → JumpsPlainly is i → FitsStage fs owner ss p (stage_for is p t) i → LeadsTo p i q → stage_at ss q ≡ Some (stage_for is q (txs_behind i t))
stage_of fs owner ss is p t q i stands jumps f e = staged_by fs owner ss is p t q i stands jumps e (opens (before is p)) (opens (before_that is p)) refl f

-- a path comes to a place with the stage that the staging has there
pub has_stage : (fs : Functions) (owner : Owner) (b : CodeBody) (ss : Stages) → ((p : ℕ) (i : Instr) → nth b.instrs p ≡ Some i → JumpsPlainly b.instrs i) → IsStaging fs owner b ss → (n q e u : ℕ) → ComesIn fs.parameters b.instrs n q e u → stage_at ss q ≡ Some (stage_for b.instrs q u)
unfolding ComesIn
has_stage fs owner b ss jumps staging zero q e u c = ap (stage_at ss) c.0 ∙ staging.first ∙ ap (λ x. Some (plain x)) (sym c.2) ∙ ap (λ x. Some (stage_for b.instrs x u)) (sym c.0)
has_stage fs owner b ss jumps staging (suc n) q e u c =
    let p = c.0 in
    let d = c.1 in
    let t = c.2 in
    let past : ComesIn fs.parameters b.instrs n p d t = c.3 in
    let step : Steps fs.parameters b.instrs p d t q e u = c.4 in
    let fit = staging.fits p (stage_for b.instrs p t) (has_stage fs owner b ss jumps staging n p d t past) in
    let same : fit.0 ≡ step.instr = some_is fit.0 step.instr (sym fit.1 ∙ step.stands) in
    let fits = subst (λ i. FitsStage fs owner ss p (stage_for b.instrs p t) i) same fit.2 in
    stage_of fs owner ss b.instrs p t q step.instr step.stands (jumps p step.instr step.stands) fits step.leads ∙ ap (λ x. Some (stage_for b.instrs q x)) (sym step.txs)
