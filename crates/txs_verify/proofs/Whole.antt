-- Closed marks of lawful code whose instructions may all stand there make a body well typed.
use Rattle.std.proofs.Common.{arith, ◌≡◌, ◌+◌, ◌<◌, ◌≤◌, ℕ, zero, suc, List, [], ◌∷◌, Option, Some, None, refl, sym, ap, subst, ◌∙◌, length}
use Rattle.txs_value_apply.proofs.CoreLemmas.{takes_some}
use Rattle.txs_value_data.specs.Places.{nth}
use Rattle.txs_value_cell.specs.declared.form.UpdateForm.{UpdateForm}
use Rattle.txs_value_data.specs.declared.value.Value.{Value}
use Rattle.txs_code_meaning.specs.PlainCode.{CodeBody}
use Rattle.txs_code_meaning.specs.WellTyped.{Functions, Owner, Stage, opened, form_of, depth_at, Fits, IsTable, Stages, stage_at, FitsStage, IsStaging, IsLawful, IsFollowed, IsOpened, Applies, WellTypedBody}
use Rattle.txs_code_meaning.specs.declared.instr.OpenForm.{OpenForm}
use Rattle.txs_code_meaning.specs.declared.instr.Instr.{Instr}
use Rattle.txs_code_meaning.specs.declared.instr.Instr.TheVariants.{Const, Local, Store, Pop, Jump, JumpFalse, Core, Call, Return, Vector, Print, Look, Put, TxBegin, TxEnd, Open, Close, Send, Halt}
use Rattle.txs_verify.specs.declared.walk.Mark.{Mark}
use Rattle.txs_verify.specs.Marks.{Marks, mark_at, depth_part, depths_of, stages_from, mark_behind, IsClosed}
use Rattle.txs_verify.specs.Paths.{EndsWell, IsAllowed, MayEnd, opens, before, before_that, stage_behind, stage_for}
use Rattle.txs_verify.proofs.Closed.{IsCountable, fits_of, Known, at_plain, by_callee, at_applied}
use Rattle.txs_verify.proofs.Staged.{JumpsPlainly}

some_is : {A : Type 0} (x y : A) → Some x ≡ Some y → x ≡ y
some_is x y e = cc

-- what stands at a place below the length
nth_below : (ns : List ℕ) (i : ℕ) → i < length ns → (n : ℕ) × (nth ns i ≡ Some n)
nth_below [] i h = absurd (omega (arith, h))
nth_below (n ∷ ns) zero h = (n, refl)
nth_below (n ∷ ns) (suc i) h = nth_below ns i (omega (arith, h))

countable : (fs : ℕ) (ps : List ℕ) (ks : List Value) (b : CodeBody) (at : ℕ) (i : Instr) → fs ≤ length ps → IsLawful fs ps ks b at i → IsCountable ps i
countable fs ps ks b at (Const k) few h = tt
countable fs ps ks b at (Local i) few h = tt
countable fs ps ks b at (Store i) few h = tt
countable fs ps ks b at Pop few h = tt
countable fs ps ks b at (Jump to) few h = tt
countable fs ps ks b at (JumpFalse to) few h = tt
countable fs ps ks b at (Core op n) few h = takes_some op n h
countable fs ps ks b at (Call g) few h = nth_below ps g (omega (arith, few, h))
countable fs ps ks b at Return few h = tt
countable fs ps ks b at (Vector n) few h = tt
countable fs ps ks b at (Print n) few h = tt
countable fs ps ks b at (Look look) few h = tt
countable fs ps ks b at (Put put) few h = tt
countable fs ps ks b at TxBegin few h = tt
countable fs ps ks b at TxEnd few h = tt
countable fs ps ks b at (Open by n) few h = tt
countable fs ps ks b at (Close by) few h = tt
countable fs ps ks b at (Send callee n) few h = tt
countable fs ps ks b at Halt few h = tt

pub jumps : (fs : ℕ) (ps : List ℕ) (ks : List Value) (b : CodeBody) (at : ℕ) (i : Instr) → IsLawful fs ps ks b at i → JumpsPlainly b.instrs i
jumps fs ps ks b at (Const k) h = tt
jumps fs ps ks b at (Local i) h = tt
jumps fs ps ks b at (Store i) h = tt
jumps fs ps ks b at Pop h = tt
jumps fs ps ks b at (Jump to) h = h.1
jumps fs ps ks b at (JumpFalse to) h = h.1
jumps fs ps ks b at (Core op n) h = tt
jumps fs ps ks b at (Call g) h = tt
jumps fs ps ks b at Return h = tt
jumps fs ps ks b at (Vector n) h = tt
jumps fs ps ks b at (Print n) h = tt
jumps fs ps ks b at (Look look) h = tt
jumps fs ps ks b at (Put put) h = tt
jumps fs ps ks b at TxBegin h = tt
jumps fs ps ks b at TxEnd h = tt
jumps fs ps ks b at (Open by n) h = tt
jumps fs ps ks b at (Close by) h = tt
jumps fs ps ks b at (Send callee n) h = tt
jumps fs ps ks b at Halt h = tt

-- ---- the tables that marks tell

depth_told : (ms : Marks) (p : ℕ) → depth_at (depths_of ms) p ≡ depth_part (mark_at ms p)
depth_told [] p = refl
depth_told (m ∷ ms) zero = refl
depth_told (m ∷ ms) (suc p) = depth_told ms p

-- the stage of a mark
abbrev stage_part : List Instr → ℕ → Option Mark → Option Stage
stage_part is p None = None
stage_part is p (Some m) = Some (stage_for is p m.txs)

stage_told : (is : List Instr) (k : ℕ) (ms : Marks) (p : ℕ) → stage_at (stages_from is k ms) p ≡ stage_part is (k + p) (mark_at ms p)
stage_told is k [] p = refl
stage_told is k (None ∷ ms) zero = refl
stage_told is k (Some m ∷ ms) zero = ap (λ x. Some (stage_for is x m.txs)) (omega (arith))
stage_told is k (None ∷ ms) (suc p) = stage_told is (suc k) ms p ∙ ap (λ x. stage_part is x (mark_at ms p)) (omega (arith))
stage_told is k (Some m ∷ ms) (suc p) = stage_told is (suc k) ms p ∙ ap (λ x. stage_part is x (mark_at ms p)) (omega (arith))

abbrev stages_of : List Instr → Marks → Stages
stages_of is ms = stages_from is 0 ms

marked_stage : (is : List Instr) (ms : Marks) (p : ℕ) (m : Mark) → mark_at ms p ≡ Some m → stage_at (stages_of is ms) p ≡ Some (stage_for is p m.txs)
marked_stage is ms p m e = stage_told is 0 ms p ∙ ap (λ x. stage_part is x (mark_at ms p)) (omega (arith)) ∙ ap (stage_part is p) e

marked_depth : (ms : Marks) (p : ℕ) (m : Mark) → mark_at ms p ≡ Some m → depth_at (depths_of ms) p ≡ Some m.depth
marked_depth ms p m e = depth_told ms p ∙ ap depth_part e

-- a depth is that of a mark
mark_of_depth : (o : Option Mark) (d : ℕ) → depth_part o ≡ Some d → (m : Mark) × (o ≡ Some m) × (m.depth ≡ d)
mark_of_depth None d e = absurd cc
mark_of_depth (Some m) d e = (m, refl, some_is m.depth d e)

-- a stage too
mark_of_stage : (is : List Instr) (p : ℕ) (o : Option Mark) (s : Stage) → stage_part is p o ≡ Some s → (m : Mark) × (o ≡ Some m) × (stage_for is p m.txs ≡ s)
mark_of_stage is p None s e = absurd cc
mark_of_stage is p (Some m) s e = (m, refl, some_is (stage_for is p m.txs) s e)

-- ---- a body

-- what else is known of each marked place: its body ends well there, and its instruction may stand there
abbrev pub MayAllStand : Functions → Owner → CodeBody → Marks → Type 0
MayAllStand fs owner b ms = (p : ℕ) (m : Mark) (i : Instr) → mark_at ms p ≡ Some m → nth b.instrs p ≡ Some i → EndsWell owner m.depth m.txs i × IsAllowed fs owner (stage_for b.instrs p m.txs) i

-- there is room for what stands on the stack at each
abbrev pub IsRoom : Marks → ℕ → Type 0
IsRoom ms room = (p : ℕ) (m : Mark) → mark_at ms p ≡ Some m → m.depth ≤ room

-- the marks tell a table of depths
pub table_of : (fs : Functions) (owner : Owner) (callable : ℕ) (ks : List Value) (b : CodeBody) (ms : Marks) (room : ℕ) → callable ≤ length fs.parameters → ((at : ℕ) (i : Instr) → nth b.instrs at ≡ Some i → IsLawful callable fs.parameters ks b at i) → IsClosed fs.parameters b.instrs ms → MayAllStand fs owner b ms → IsRoom ms room → IsTable owner fs.parameters b room (depths_of ms)
table_of fs owner callable ks b ms room few lawful closed stand roomy =
    let below : (q e : ℕ) → depth_at (depths_of ms) q ≡ Some e → e ≤ room = λ q e is_e. (let m = mark_of_depth (mark_at ms q) e (sym (depth_told ms q) ∙ is_e) in subst (λ x. x ≤ room) m.2 (roomy q m.0 m.1)) in
    record {
      first = marked_depth ms 0 (record { depth = 0; txs = 0 }) closed.first;
      within = below;
      fits =
          λ at d is_d.
          (let m = mark_of_depth (mark_at ms at) d (sym (depth_told ms at) ∙ is_d) in
          let done = closed.done at m.0 m.1 in
          let i = done.instr in
          let fit = fits_of owner fs.parameters (depths_of ms) room at m.0.depth m.0.txs i (countable callable fs.parameters ks b at i few (lawful at i done.stands)) done.enough (stand at m.0 i m.1 done.stands).0 below (λ q leads. marked_depth ms q (mark_behind fs.parameters i m.0) (done.next q leads)) in
          (i, done.stands, subst (λ x. Fits owner fs.parameters (depths_of ms) room at x i) m.2 fit));
    }

-- ---- the staging

-- what opens is an open
opener : (o : Option Instr) (x : OpenForm × ℕ) → opens o ≡ Some x → o ≡ Some (Open x.0 x.1)
opener None x e = absurd cc
opener (Some (Const k)) x e = absurd cc
opener (Some (Local i)) x e = absurd cc
opener (Some (Store i)) x e = absurd cc
opener (Some Pop) x e = absurd cc
opener (Some (Jump to)) x e = absurd cc
opener (Some (JumpFalse to)) x e = absurd cc
opener (Some (Core op n)) x e = absurd cc
opener (Some (Call g)) x e = absurd cc
opener (Some Return) x e = absurd cc
opener (Some (Vector n)) x e = absurd cc
opener (Some (Print n)) x e = absurd cc
opener (Some (Look look)) x e = absurd cc
opener (Some (Put put)) x e = absurd cc
opener (Some TxBegin) x e = absurd cc
opener (Some TxEnd) x e = absurd cc
opener (Some (Open by n)) x e = ap (λ y. Some (Open y.0 y.1)) (some_is (by, n) x e)
opener (Some (Close by)) x e = absurd cc
opener (Some (Send callee n)) x e = absurd cc
opener (Some Halt) x e = absurd cc

pub open_before : (is : List Instr) (p : ℕ) (x : OpenForm × ℕ) → opens (before is p) ≡ Some x → (q : ℕ) × (p ≡ suc q) × (nth is q ≡ Some (Open x.0 x.1))
open_before is zero x e = absurd cc
open_before is (suc q) x e = (q, refl, opener (nth is q) x e)

pub open_before_that : (is : List Instr) (p : ℕ) (x : OpenForm × ℕ) → opens (before_that is p) ≡ Some x → (q : ℕ) × (p ≡ suc (suc q)) × (nth is q ≡ Some (Open x.0 x.1))
open_before_that is zero x e = absurd cc
open_before_that is (suc zero) x e = absurd cc
open_before_that is (suc (suc q)) x e = (q, refl, opener (nth is q) x e)

-- a close behind nothing isn't lawful
no_close : (is : List Instr) (p : ℕ) (by : UpdateForm) → opens (before_that is p) ≡ None → IsOpened is p by → ⊥
no_close is p by none o =
    let at : p ≡ suc (suc o.from) = o.behind ∙ omega (arith) in
    let found : opens (before_that is p) ≡ Some (o.opened, o.arguments) = ap (λ x. opens (before_that is x)) at ∙ ap opens o.first in
    let bad : None ≡ Some (o.opened, o.arguments) = sym none ∙ found in
    absurd cc

-- all instructions of a body are lawful
abbrev pub AllLawful : ℕ → List ℕ → List Value → CodeBody → Type 0
AllLawful callable ps ks b = (at : ℕ) (i : Instr) → nth b.instrs at ≡ Some i → IsLawful callable ps ks b at i

fits_stage_by : (fs : Functions) (owner : Owner) (callable : ℕ) (ks : List Value) (b : CodeBody) (ss : Stages) (p d t : ℕ) (i : Instr) → AllLawful callable fs.parameters ks b → Known fs ss b.instrs p t i → MayEnd i t → EndsWell owner d t i → (x y : Option (OpenForm × ℕ)) → opens (before b.instrs p) ≡ x → opens (before_that b.instrs p) ≡ y → IsAllowed fs owner (stage_behind x y t) i → FitsStage fs owner ss p (stage_behind x y t) i
fits_stage_by fs owner callable ks b ss p d t i lawful known end ends (Some x) y is_x is_y may =
    let o = open_before b.instrs p x is_x in
    let followed : IsFollowed fs.parameters b.instrs o.0 x.0 x.1 = (lawful o.0 (Open x.0 x.1) o.2).1 in
    let same : followed.applied ≡ i = some_is followed.applied i (sym followed.second ∙ ap (nth b.instrs) (omega (arith, o.1)) ∙ known.0) in
    by_callee fs owner ss b.instrs p t x.1 x.0 followed.callee followed.named i (subst (λ a. Applies fs.parameters followed.callee (x.1 + 1) a) same followed.applies) is_x known (λ g e. subst (λ a. IsAllowed fs owner (opened t x.1 x.0) a) e may)
fits_stage_by fs owner callable ks b ss p d t i lawful known end ends None (Some y) is_x is_y may =
    let o = open_before_that b.instrs p y is_y in
    let followed : IsFollowed fs.parameters b.instrs o.0 y.0 y.1 = (lawful o.0 (Open y.0 y.1) o.2).1 in
    let same : i ≡ Close (form_of y.0) = some_is i (Close (form_of y.0)) (sym known.0 ∙ ap (nth b.instrs) (omega (arith, o.1)) ∙ followed.third) in
    at_applied fs owner ss b.instrs p t (form_of y.0) i same is_x known
fits_stage_by fs owner callable ks b ss p d t i lawful known end ends None None is_x is_y may =
    at_plain fs owner ss b.instrs p d t i known (jumps callable fs.parameters ks b p i (lawful p i known.0)) is_x (λ by e. no_close b.instrs p by is_y (subst (λ a. IsLawful callable fs.parameters ks b p a) e (lawful p i known.0))) may end ends

-- the marks tell a staging
pub staging_of : (fs : Functions) (owner : Owner) (callable : ℕ) (ks : List Value) (b : CodeBody) (ms : Marks) → AllLawful callable fs.parameters ks b → IsClosed fs.parameters b.instrs ms → MayAllStand fs owner b ms → IsStaging fs owner b (stages_of b.instrs ms)
staging_of fs owner callable ks b ms lawful closed stand =
    record {
      first = marked_stage b.instrs ms 0 (record { depth = 0; txs = 0 }) closed.first;
      fits =
          λ at s is_s.
          (let m = mark_of_stage b.instrs at (mark_at ms at) s (sym (stage_told b.instrs 0 ms at ∙ ap (λ x. stage_part b.instrs x (mark_at ms at)) (omega (arith))) ∙ is_s) in
          let done = closed.done at m.0 m.1 in
          let i = done.instr in
          let may = stand at m.0 i m.1 done.stands in
          let known : Known fs (stages_of b.instrs ms) b.instrs at m.0.txs i = (done.stands, λ q leads. marked_stage b.instrs ms q (mark_behind fs.parameters i m.0) (done.next q leads)) in
          let fit = fits_stage_by fs owner callable ks b (stages_of b.instrs ms) at m.0.depth m.0.txs i lawful known done.within may.0 (opens (before b.instrs at)) (opens (before_that b.instrs at)) refl refl may.1 in
          (i, done.stands, subst (λ x. FitsStage fs owner (stages_of b.instrs ms) at x i) m.2 fit));
    }

-- so the body is well typed
pub body_well_typed : (fs : Functions) (owner : Owner) (callable : ℕ) (ks : List Value) (b : CodeBody) (ms : Marks) (room : ℕ) → b.parameters ≤ b.locals → callable ≤ length fs.parameters → AllLawful callable fs.parameters ks b → IsClosed fs.parameters b.instrs ms → MayAllStand fs owner b ms → IsRoom ms room → WellTypedBody fs owner callable ks b room
body_well_typed fs owner callable ks b ms room among few lawful closed stand roomy =
    record {
      parameters = among;
      lawful = lawful;
      table = (depths_of ms, table_of fs owner callable ks b ms room few lawful closed stand roomy);
      staging = (stages_of b.instrs ms, staging_of fs owner callable ks b ms lawful closed stand);
    }
