-- Pure callees: they mean the same whatever surrounds them, and leave the state as it was. So do commutes that are redone.
use Rattle.std.proofs.Common.{◌≡◌, ℕ, Bool, true, false, List, [], ◌∷◌, ◌++◌, Result, Ok, Err, refl, ap, ◌∙◌, if◌then◌else◌, ◌==◌}
use Rattle.txs_world_protocol.specs.Ask.{Writes, buffered, with_write}
use Rattle.txs_frame.specs.Frame.{PlainTxFrame, commuted, commutes_of, by_ref, phase_work}
use Rattle.txs_frame.specs.declared.frame.Commute.{Commute}
use Rattle.txs_value_apply.specs.Core.{core}
use Rattle.txs_value_data.specs.declared.fault.FaultKind.{FaultKind}
use Rattle.txs_value_data.specs.declared.fault.Span.{Span}
use Rattle.txs_value_data.specs.declared.op.Callee.{Callee}
use Rattle.txs_value_data.specs.declared.op.Callee.TheVariants.{Core as CoreOp, Function}
use Rattle.txs_value_data.specs.declared.value.CellId.{CellId}
use Rattle.txs_value_data.specs.declared.value.Value.{Value}
use Rattle.txs_value_data.specs.declared.value.Value.TheVariants.{Nil}
use Rattle.txs_tree_meaning.specs.Known.{known}
use Rattle.txs_tree_meaning.specs.Meaning.{Completion, Completes, Recurs, Faults, Retries, Waits, OutOfTurns, Invalid, bind, result_of, Applies, Effects, apply, call_at}
use Rattle.txs_tree_meaning.specs.Pure.{no_effects}
use Rattle.txs_tree_meaning.specs.Sound.{SoundFunctions}
use Rattle.txs_tree_meaning.specs.Transaction.{value_or, redone}
use Rattle.txs_tree_meaning.specs.Tree.{PlainFunction}
use Rattle.txs_tree_meaning.proofs.PureLaw.{Agrees, call_agrees}
use Rattle.txs_theorem_threads.proofs.Callees.{IsPure}

-- a pure answer, with a state that it leaves as it was
abbrev pub carried : {S A : Type 0} → S → Completion (Unit {0}) A → Completion S A
carried s (Completes a u) = Completes a s
carried s (Recurs vs u) = Recurs vs s
carried s (Faults f u) = Faults f s
carried s (Retries u) = Retries s
carried s (Waits u) = Waits s
carried s (OutOfTurns u) = OutOfTurns s
carried s Invalid = Invalid

-- it waits for nothing
abbrev pub IsQuiet : {A : Type 0} → Completion (Unit {0}) A → Type 0
IsQuiet (Completes a u) = Unit {0}
IsQuiet (Recurs vs u) = Unit {0}
IsQuiet (Faults f u) = Unit {0}
IsQuiet (Retries u) = ⊥
IsQuiet (Waits u) = ⊥
IsQuiet (OutOfTurns u) = Unit {0}
IsQuiet Invalid = Unit {0}

agrees_carried : {S A : Type 0} (s : S) (p : Completion (Unit {0}) A) (c : Completion S A) → Agrees s p c → (c ≡ carried s p) × IsQuiet p
agrees_carried s (Completes a u) c h = (h, tt)
agrees_carried s (Recurs vs u) c h = (h, tt)
agrees_carried s (Faults f u) c h = (h, tt)
agrees_carried s (Retries u) c h = absurd h
agrees_carried s (Waits u) c h = absurd h
agrees_carried s (OutOfTurns u) c h = (h, tt)
agrees_carried s Invalid c h = (h, tt)

result_carried : {S : Type 0} (s : S) (r : Result Value FaultKind) (span : Span) → (result_of r span s ≡ carried s (result_of r span tt)) × IsQuiet (result_of r span tt)
result_carried s (Ok v) span = (refl, tt)
result_carried s (Err k) span = (refl, tt)

-- what a callee means with nothing around it
abbrev pub quietly : ℕ → List PlainFunction → ℕ → Span → Applies (Unit {0})
quietly n functions d span = apply (call_at (λ b. no_effects) n functions d false) span

-- a pure callee means that, whatever surrounds it
pub callee_carried : {S : Type 0} (fx : ℕ → Effects S) (n : ℕ) (inside : Bool) (functions : List PlainFunction) → SoundFunctions [] functions → (d : ℕ) (span : Span) (c : Callee) (vs : List Value) (s : S) → IsPure (known functions) c
    → (apply (call_at fx n functions d inside) span c vs s ≡ carried s (quietly n functions d span c vs tt)) × IsQuiet (quietly n functions d span c vs tt)
callee_carried fx n inside functions sound d span (CoreOp op) vs s pure = result_carried s (core op vs) span
callee_carried fx n inside functions sound d span (Function f) vs s pure =
    agrees_carried s (call_at (λ b. no_effects) n functions d false f vs tt) (call_at fx n functions d inside f vs s) (call_agrees s fx n inside functions sound d f vs pure)

pub bind_carried : {S A B : Type 0} (s : S) (p : Completion (Unit {0}) A) (go : A → S → Completion S B) (on : A → Unit {0} → Completion (Unit {0}) B) → ((a : A) → go a s ≡ carried s (on a tt)) → bind (carried s p) go ≡ carried s (bind p on)
bind_carried s (Completes a tt) go on h = h a
bind_carried s (Recurs vs u) go on h = refl
bind_carried s (Faults f u) go on h = refl
bind_carried s (Retries u) go on h = refl
bind_carried s (Waits u) go on h = refl
bind_carried s (OutOfTurns u) go on h = refl
bind_carried s Invalid go on h = refl

pub bind_quiet : {A B : Type 0} (p : Completion (Unit {0}) A) (on : A → Unit {0} → Completion (Unit {0}) B) → IsQuiet p → ((a : A) → IsQuiet (on a tt)) → IsQuiet (bind p on)
bind_quiet (Completes a tt) on q h = h a
bind_quiet (Recurs vs u) on q h = tt
bind_quiet (Faults f u) on q h = tt
bind_quiet (Retries u) on q h = absurd q
bind_quiet (Waits u) on q h = absurd q
bind_quiet (OutOfTurns u) on q h = tt
bind_quiet Invalid on q h = tt

-- ---- commutes

-- this holds of each commute
abbrev pub Each : (Commute → Type 0) → List Commute → Type 0
Each P [] = Unit {0}
Each P (c ∷ cs) = P c × Each P cs

pub each_both : (P : Commute → Type 0) (xs ys : List Commute) → Each P xs → Each P ys → Each P (xs ++ ys)
each_both P [] ys h k = k
each_both P (x ∷ xs) ys h k = (h.0, each_both P xs ys h.1 k)

each_of : (P : Commute → Type 0) (k : ℕ) (cs : List Commute) → Each P cs → Each P (commutes_of k cs)
each_of P k [] h = tt
each_of P k (c ∷ cs) h = test (each_of P k cs h.1) (c.cell.number == k)
  where
    test : Each P (commutes_of k cs) → (b : Bool) → Each P (if b then c ∷ commutes_of k cs else commutes_of k cs)
    test rest true = (h.0, rest)
    test rest false = rest

each_by_ref : (P : Commute → Type 0) (ds : List CellId) (cs : List Commute) → Each P cs → Each P (by_ref ds cs)
each_by_ref P [] cs h = tt
each_by_ref P (d ∷ ds) cs h = each_both P (commutes_of d.number cs) (by_ref ds cs) (each_of P d.number cs h) (each_by_ref P ds cs h)

-- then it holds of each commute of the phase
pub each_phase : (P : Commute → Type 0) (w : PlainTxFrame) → Each P w.commutes → Each P (phase_work w)
each_phase P w h = each_by_ref P (commuted w) w.commutes h

-- each commute has such a callee
abbrev pub AllCommutes : (Callee → Type 0) → List Commute → Type 0
AllCommutes P cs = Each (λ c. P c.callee) cs

pub commutes_both : (P : Callee → Type 0) (xs ys : List Commute) → AllCommutes P xs → AllCommutes P ys → AllCommutes P (xs ++ ys)
commutes_both P xs ys h k = each_both (λ c. P c.callee) xs ys h k

-- so has each commute of the phase
pub phase_some : (P : Callee → Type 0) (w : PlainTxFrame) → AllCommutes P w.commutes → AllCommutes P (phase_work w)
phase_some P w h = each_phase (λ c. P c.callee) w h

-- commutes with pure callees, redone
pub redone_carried : {S : Type 0} (P : Callee → Type 0) (s : S) (f : Applies S) (q : Applies (Unit {0})) → ((c : Callee) (vs : List Value) → P c → (f c vs s ≡ carried s (q c vs tt)) × IsQuiet (q c vs tt)) → (work : List Commute) → AllCommutes P work → (ws : Writes)
    → (redone f work ws s ≡ carried s (redone q work ws tt)) × IsQuiet (redone q work ws tt)
redone_carried P s f q h [] all ws = (refl, tt)
redone_carried P s f q h (c ∷ cs) all ws =
    let args : List Value = value_or (buffered ws c.cell.number) Nil ∷ c.args in
    let one = h c.callee args all.0 in
    let rest : (v : Value) → (redone f cs (with_write ws c.cell v) s ≡ carried s (redone q cs (with_write ws c.cell v) tt)) × IsQuiet (redone q cs (with_write ws c.cell v) tt) =
    λ v. redone_carried P s f q h cs all.1 (with_write ws c.cell v) in (
      ap (λ x. bind x (λ v s1. redone f cs (with_write ws c.cell v) s1)) one.0
          ∙ bind_carried s (q c.callee args tt) (λ v s1. redone f cs (with_write ws c.cell v) s1) (λ v u. redone q cs (with_write ws c.cell v) u) (λ v. (rest v).0),
      bind_quiet (q c.callee args tt) (λ v u. redone q cs (with_write ws c.cell v) u) one.1 (λ v. (rest v).1),
    )
