-- Where each marked place leads to marked places with what is behind its instruction, the marks are a table of depths and a staging.
use Rattle.std.proofs.Common.{arith, inl, inr, ◌≡◌, ◌+◌, ◌-◌, ◌<◌, ◌≤◌, ℕ, suc, List, Some, None, refl, sym, ap, subst, ◌∙◌}
use Rattle.txs_value_data.specs.Places.{nth}
use Rattle.txs_value_cell.specs.declared.form.UpdateForm.{UpdateForm}
use Rattle.txs_value_data.specs.declared.op.Callee.{Callee}
use Rattle.txs_value_data.specs.declared.op.Callee.TheVariants as callee
use Rattle.txs_code_meaning.specs.WellTyped.{Functions, Owner, plain, opened, applied, Depths, depth_at, Fits, Stages, stage_at, Leads, TakesParameters, FitsStage, IsNamed, Applies, IsPureFunction}
use Rattle.txs_code_meaning.specs.declared.instr.OpenForm.{OpenForm}
use Rattle.txs_code_meaning.specs.declared.instr.Instr.{Instr}
use Rattle.txs_code_meaning.specs.declared.instr.Instr.TheVariants.{Const, Local, Store, Pop, Jump, JumpFalse, Core, Call, Return, Vector, Print, Look, Put, TxBegin, TxEnd, Open, Close, Send, Halt}
use Rattle.txs_verify.specs.Paths.{or_none, wants, depth_behind, EndsWell, MayBe, MayEnd, txs_behind, LeadsTo, opens, before, stage_behind, stage_for}
use Rattle.txs_verify.proofs.Staged.{JumpsPlainly, plain_unless, stage_on}

-- ---- depths

-- what an instruction alone must be for the table: an operation takes a value, a function is there
abbrev pub IsCountable : List ℕ → Instr → Type 0
IsCountable ps (Core op n) = 0 < n
IsCountable ps (Call g) = (n : ℕ) × (nth ps g ≡ Some n)
IsCountable ps _ = Unit {0}

-- a call
call_fits : (ps : List ℕ) (ds : Depths) (most at d g : ℕ) → (c : (n : ℕ) × (nth ps g ≡ Some n)) → or_none (nth ps g) ≤ d → ((q e : ℕ) → depth_at ds q ≡ Some e → e ≤ most) → depth_at ds (at + 1) ≡ Some (d - or_none (nth ps g) + 1) → (c : TakesParameters ps g d most) × Leads ds (at + 1) (d - c.parameters + 1)
call_fits ps ds most at d g c enough within next =
    let n = c.0 in
    let plenty : n ≤ d = subst (λ x. or_none x ≤ d) c.1 enough in
    let behind : depth_at ds (at + 1) ≡ Some (d - n + 1) = next ∙ ap (λ x. Some (d - or_none x + 1)) c.1 in
    (record { parameters = n; found = c.1; enough = plenty; roomy = omega (arith, plenty, within (at + 1) (d - n + 1) behind) }, behind)

-- an instruction fits where it finds what it takes, and the table has what is behind it
pub fits_of : (owner : Owner) (ps : List ℕ) (ds : Depths) (most at d t : ℕ) (i : Instr) → IsCountable ps i → wants ps i ≤ d → EndsWell owner d t i → ((q e : ℕ) → depth_at ds q ≡ Some e → e ≤ most) → ((q : ℕ) → LeadsTo at i q → depth_at ds q ≡ Some (depth_behind ps i d)) → Fits owner ps ds most at d i
fits_of owner ps ds most at d t (Const k) count enough ends within next = (omega (arith, enough, within (at + 1) (d + 1) (next (at + 1) refl)), next (at + 1) refl)
fits_of owner ps ds most at d t (Local i) count enough ends within next = (omega (arith, enough, within (at + 1) (d + 1) (next (at + 1) refl)), next (at + 1) refl)
fits_of owner ps ds most at d t (Store i) count enough ends within next = (omega (arith, enough), next (at + 1) refl)
fits_of owner ps ds most at d t Pop count enough ends within next = (omega (arith, enough), next (at + 1) refl)
fits_of owner ps ds most at d t (Jump to) count enough ends within next = next to refl
fits_of owner ps ds most at d t (JumpFalse to) count enough ends within next = (omega (arith, enough), next to (inl refl), next (at + 1) (inr refl))
fits_of owner ps ds most at d t (Core op n) count enough ends within next = (enough, count, next (at + 1) refl)
fits_of owner ps ds most at d t (Call g) count enough ends within next = call_fits ps ds most at d g count enough within (next (at + 1) refl)
fits_of owner ps ds most at d t Return count enough ends within next = (ends.0, ends.1)
fits_of owner ps ds most at d t (Vector n) count enough ends within next = (enough, omega (arith, enough, within (at + 1) (d - n + 1) (next (at + 1) refl)), next (at + 1) refl)
fits_of owner ps ds most at d t (Print n) count enough ends within next = (enough, omega (arith, enough, within (at + 1) (d - n + 1) (next (at + 1) refl)), next (at + 1) refl)
fits_of owner ps ds most at d t (Look look) count enough ends within next = (omega (arith, enough), next (at + 1) refl)
fits_of owner ps ds most at d t (Put put) count enough ends within next = (omega (arith, enough), next (at + 1) refl)
fits_of owner ps ds most at d t TxBegin count enough ends within next = next (at + 1) refl
fits_of owner ps ds most at d t TxEnd count enough ends within next = next (at + 1) refl
fits_of owner ps ds most at d t (Open by n) count enough ends within next = (omega (arith, enough), omega (arith, enough, within (at + 1) (d + 1) (next (at + 1) refl)), next (at + 1) refl)
fits_of owner ps ds most at d t (Close by) count enough ends within next = (omega (arith, enough), next (at + 1) refl)
fits_of owner ps ds most at d t (Send callee n) count enough ends within next = (omega (arith, enough), next (at + 1) refl)
fits_of owner ps ds most at d t Halt count enough ends within next = (ends.0, ends.1)

-- ---- stages

-- what is known at a marked place: its instruction, and the stages where it leads to
abbrev pub Known : Functions → Stages → List Instr → ℕ → ℕ → Instr → Type 0
Known fs ss is p t i = (nth is p ≡ Some i) × ((q : ℕ) → LeadsTo p i q → stage_at ss q ≡ Some (stage_for is q (txs_behind i t)))

-- outside an open and its close
pub at_plain : (fs : Functions) (owner : Owner) (ss : Stages) (is : List Instr) (p d t : ℕ) (i : Instr) → Known fs ss is p t i → JumpsPlainly is i → opens (before is p) ≡ None → ((by : UpdateForm) → i ≡ Close by → ⊥) → MayBe fs owner t i → MayEnd i t → EndsWell owner d t i → FitsStage fs owner ss p (plain t) i
at_plain fs owner ss is p d t (Const k) known jumps none closes may end ends = (known.1 (p + 1) (refl) ∙ ap Some (stage_on is p (t) (Const k) known.0 ∙ ap (λ x. stage_behind (opens (Some (Const k))) x (t)) none))
at_plain fs owner ss is p d t (Local i) known jumps none closes may end ends = (known.1 (p + 1) (refl) ∙ ap Some (stage_on is p (t) (Local i) known.0 ∙ ap (λ x. stage_behind (opens (Some (Local i))) x (t)) none))
at_plain fs owner ss is p d t (Store i) known jumps none closes may end ends = (known.1 (p + 1) (refl) ∙ ap Some (stage_on is p (t) (Store i) known.0 ∙ ap (λ x. stage_behind (opens (Some (Store i))) x (t)) none))
at_plain fs owner ss is p d t Pop known jumps none closes may end ends = (known.1 (p + 1) (refl) ∙ ap Some (stage_on is p (t) Pop known.0 ∙ ap (λ x. stage_behind (opens (Some Pop)) x (t)) none))
at_plain fs owner ss is p d t (Jump to) known jumps none closes may end ends = known.1 to refl ∙ ap Some (plain_unless is to t jumps)
at_plain fs owner ss is p d t (JumpFalse to) known jumps none closes may end ends = (known.1 to (inl refl) ∙ ap Some (plain_unless is to t jumps), (known.1 (p + 1) (inr refl) ∙ ap Some (stage_on is p (t) (JumpFalse to) known.0 ∙ ap (λ x. stage_behind (opens (Some (JumpFalse to))) x (t)) none)))
at_plain fs owner ss is p d t (Core op n) known jumps none closes may end ends = (known.1 (p + 1) (refl) ∙ ap Some (stage_on is p (t) (Core op n) known.0 ∙ ap (λ x. stage_behind (opens (Some (Core op n))) x (t)) none))
at_plain fs owner ss is p d t (Call g) known jumps none closes may end ends = (may, (known.1 (p + 1) (refl) ∙ ap Some (stage_on is p (t) (Call g) known.0 ∙ ap (λ x. stage_behind (opens (Some (Call g))) x (t)) none)))
at_plain fs owner ss is p d t Return known jumps none closes may end ends = ends.2
at_plain fs owner ss is p d t (Vector n) known jumps none closes may end ends = (known.1 (p + 1) (refl) ∙ ap Some (stage_on is p (t) (Vector n) known.0 ∙ ap (λ x. stage_behind (opens (Some (Vector n))) x (t)) none))
at_plain fs owner ss is p d t (Print n) known jumps none closes may end ends = (may.0, may.1, (known.1 (p + 1) (refl) ∙ ap Some (stage_on is p (t) (Print n) known.0 ∙ ap (λ x. stage_behind (opens (Some (Print n))) x (t)) none)))
at_plain fs owner ss is p d t (Look look) known jumps none closes may end ends = (may, (known.1 (p + 1) (refl) ∙ ap Some (stage_on is p (t) (Look look) known.0 ∙ ap (λ x. stage_behind (opens (Some (Look look))) x (t)) none)))
at_plain fs owner ss is p d t (Put put) known jumps none closes may end ends = (may, (known.1 (p + 1) (refl) ∙ ap Some (stage_on is p (t) (Put put) known.0 ∙ ap (λ x. stage_behind (opens (Some (Put put))) x (t)) none)))
at_plain fs owner ss is p d t TxBegin known jumps none closes may end ends = (may, (known.1 (p + 1) (refl) ∙ ap Some (stage_on is p (suc t) TxBegin known.0 ∙ ap (λ x. stage_behind (opens (Some TxBegin)) x (suc t)) none)))
at_plain fs owner ss is p d t TxEnd known jumps none closes may end ends = (end, (known.1 (p + 1) (refl) ∙ ap Some (stage_on is p (t - 1) TxEnd known.0 ∙ ap (λ x. stage_behind (opens (Some TxEnd)) x (t - 1)) none)))
at_plain fs owner ss is p d t (Open by n) known jumps none closes may end ends = (may, (known.1 (p + 1) (refl) ∙ ap Some (stage_on is p (t) (Open by n) known.0 ∙ ap (λ x. stage_behind (opens (Some (Open by n))) x (t)) none)))
at_plain fs owner ss is p d t (Close by) known jumps none closes may end ends = absurd (closes by refl)
at_plain fs owner ss is p d t (Send callee n) known jumps none closes may end ends = (may.0, may.1, (known.1 (p + 1) (refl) ∙ ap Some (stage_on is p (t) (Send callee n) known.0 ∙ ap (λ x. stage_behind (opens (Some (Send callee n))) x (t)) none)))
at_plain fs owner ss is p d t Halt known jumps none closes may end ends = ends.2

-- behind an open
pub by_callee : (fs : Functions) (owner : Owner) (ss : Stages) (is : List Instr) (p t n : ℕ) (by : OpenForm) (c : Callee) → IsNamed by c → (i : Instr) → Applies fs.parameters c (n + 1) i → opens (before is p) ≡ Some (by, n) → Known fs ss is p t i → ((g : ℕ) → i ≡ Call g → IsPureFunction fs.kinds g) → FitsStage fs owner ss p (opened t n by) i
by_callee fs owner ss is p t n by (callee.Core op) named i e some known pure =
    let here : Known fs ss is p t (Core op (n + 1)) = subst (λ x. Known fs ss is p t x) e known in
    subst (λ x. FitsStage fs owner ss p (opened t n by) x) (sym e) (refl, named, here.1 (p + 1) refl ∙ ap Some (stage_on is p t (Core op (n + 1)) here.0 ∙ ap (λ x. stage_behind None x t) some))
by_callee fs owner ss is p t n by (callee.Function g) named i e some known pure =
    let here : Known fs ss is p t (Call g) = subst (λ x. Known fs ss is p t x) e.0 known in
    subst (λ x. FitsStage fs owner ss p (opened t n by) x) (sym e.0) (e.1, pure g e.0, named, here.1 (p + 1) refl ∙ ap Some (stage_on is p t (Call g) here.0 ∙ ap (λ x. stage_behind None x t) some))

-- before a close
pub at_applied : (fs : Functions) (owner : Owner) (ss : Stages) (is : List Instr) (p t : ℕ) (by : UpdateForm) (i : Instr) → i ≡ Close by → opens (before is p) ≡ None → Known fs ss is p t i → FitsStage fs owner ss p (applied t by) i
at_applied fs owner ss is p t by i e none known =
    let here : Known fs ss is p t (Close by) = subst (λ x. Known fs ss is p t x) e known in
    subst (λ x. FitsStage fs owner ss p (applied t by) x) (sym e) (refl, here.1 (p + 1) refl ∙ ap Some (stage_on is p t (Close by) here.0 ∙ ap (λ x. stage_behind None x t) none))
