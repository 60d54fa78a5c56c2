-- What is wrong at a marked place is so where a path comes to it; and where nothing is wrong, an instruction may stand.
use Rattle.std.proofs.Common.{arith, inl, inr, ◌≡◌, ◌⊎◌, ◌∙◌, ℕ, zero, suc, ◌-◌, ◌<◌, List, [], ◌∷◌, length, Bool, true, false, not, ◌&&◌, nat_eq, if◌then◌else◌, is_some, Option, Some, None, refl, sym, ap, subst}
use Rattle.std.proofs.Math.Dec.{eqb-suc-zero}
use Rattle.std.proofs.lemmas.Bool.{eqb-true, eqb-false, eq-eqb}
use Rattle.txs_value_cell.specs.Forms.{rule}
use Rattle.txs_value_data.specs.Places.{nth}
use Rattle.txs_value_cell.specs.declared.form.CellForm.TheVariants as form
use Rattle.txs_value_cell.specs.declared.form.Standing.{Standing}
use Rattle.txs_value_cell.specs.declared.form.Standing.TheVariants.{Anywhere, Inside, Outside}
use Rattle.txs_value_data.specs.declared.op.Callee.{Callee}
use Rattle.txs_value_data.specs.declared.op.Callee.TheVariants as callee
use Rattle.txs_code_meaning.specs.WellTyped.{Owner, a_thread, a_function, opened, IsImpure, MayStand, KindMayStand, IsPureFunction, MayBeSent, form_of}
use Rattle.txs_code_meaning.specs.declared.instr.OpenForm.{OpenForm}
use Rattle.txs_code_meaning.specs.declared.instr.Instr.{Instr}
use Rattle.txs_code_meaning.specs.declared.instr.Instr.TheVariants.{Call, Return, Print, Look, Put, TxBegin, Open, Send, Halt}
use Rattle.txs_verify.specs.declared.error.Refusal.{Refusal}
use Rattle.txs_verify.specs.declared.error.VerifyErrorKind.{VerifyErrorKind}
use Rattle.txs_verify.specs.declared.error.VerifyErrorKind.TheVariants.{StackDiffers, TxNesting, FallsOff}
use Rattle.txs_verify.specs.declared.standing.Kind.{Kind}
use Rattle.txs_verify.specs.declared.walk.Mark.{Mark}
use Rattle.txs_verify.specs.Going.{AreReached}
use Rattle.txs_verify.specs.Marks.{Marks, mark_at, mark_behind, IsClosed}
use Rattle.txs_verify.specs.Paths.{LeadsTo, EndsWell, MayBe, IsAllowed, Steps, ComesIn, opens, before, before_that, stage_behind, stage_for}
use Rattle.txs_verify.specs.Refused.{IsMet}
use Rattle.txs_verify.specs.Standing.{kind_from, kinds_from, impure_kind, or_pure, kind_of, seen_from, Flag, for_inside, for_outside, not_pure, has, Meets, IsKindOf, IsEnd, EndsSo, IsInsideCallee, ends_within, outside_within, inside_without, sends_inside, opens_impure, StandsWrongly, unless, first, end_wrong, ends_wrong, kind_wrong, may_be_sent, send_wrong, call_wrong, wrong, IsMarked, IsSeen, IsWrong}
use Rattle.txs_verify.specs.Walk.{refusal}

some_is : {A : Type 0} (x y : A) → Some x ≡ Some y → x ≡ y
some_is x y e = cc

none_is : {A : Type 0} (x : A) → None ≡ Some x → ⊥
none_is x e = absurd cc

first_some : (a b : Option Refusal) (r : Refusal) → first a b ≡ Some r → (a ≡ Some r) ⊎ (b ≡ Some r)
first_some None b r e = inr e
first_some (Some x) b r e = inl e

first_none : (a b : Option Refusal) → first a b ≡ None → (a ≡ None) × (b ≡ None)
first_none None b e = (refl, e)
first_none (Some x) b e = absurd cc

unless_some : (b : Bool) (kind : VerifyErrorKind) (p : ℕ) (r : Refusal) → unless b kind p ≡ Some r → (b ≡ false) × (refusal kind p ≡ r)
unless_some true kind p r e = absurd (none_is r e)
unless_some false kind p r e = (refl, some_is (refusal kind p) r e)

unless_none : (b : Bool) (kind : VerifyErrorKind) (p : ℕ) → unless b kind p ≡ None → b ≡ true
unless_none true kind p e = refl
unless_none false kind p e = absurd cc

not_false : (b : Bool) → not b ≡ false → b ≡ true
not_false true e = refl
not_false false e = absurd cc

not_true : (b : Bool) → not b ≡ true → b ≡ false
not_true true e = absurd cc
not_true false e = refl

both : (a b : Bool) → not (a && b) ≡ false → (a ≡ true) × (b ≡ true)
both true true e = (refl, refl)
both true false e = absurd cc
both false b e = absurd cc

true_is : {A : Type 0} → true ≡ false → A
true_is e = absurd cc

-- ---- a refusal

module _ (ks : List Kind) (thread : Bool) (ps : List ℕ) (is : List Instr) where
  -- the refusal is that of this kind
  here : (kind : VerifyErrorKind) (p : ℕ) (r : Refusal) → refusal kind p ≡ r → StandsWrongly ks thread ps is kind p → StandsWrongly ks thread ps is r.kind r.at
  here kind p r e h = subst (λ (x : Refusal). StandsWrongly ks thread ps is x.kind x.at) e h

  module _ (p : ℕ) (m : Mark) (i : Instr) (r : Refusal) (met : IsMet ps is p m.depth m.txs i) where
    within_by : IsEnd i → (unless (nat_eq m.depth 1) StackDiffers p ≡ Some r) ⊎ (unless (nat_eq m.txs 0) TxNesting p ≡ Some r) → StandsWrongly ks thread ps is r.kind r.at
    within_by ends (inl e) =
        let u = unless_some (nat_eq m.depth 1) StackDiffers p r e in
        here StackDiffers p r u.1 (m.depth, m.txs, i, met, ends, eqb-false m.depth 1 u.0)
    within_by ends (inr e) =
        let u = unless_some (nat_eq m.txs 0) TxNesting p r e in
        here TxNesting p r u.1 (ends_within m.depth m.txs i met ends (eqb-false m.txs 0 u.0))

    end_by : (so : Bool) → IsEnd i → (so ≡ false → EndsSo thread i → ⊥) → (unless so FallsOff p ≡ Some r) ⊎ (first (unless (nat_eq m.depth 1) StackDiffers p) (unless (nat_eq m.txs 0) TxNesting p) ≡ Some r) → StandsWrongly ks thread ps is r.kind r.at
    end_by so ends never (inl e) =
        let u = unless_some so FallsOff p r e in
        here FallsOff p r u.1 (m.depth, m.txs, i, met, never u.0)
    end_by so ends never (inr e) = within_by ends (first_some (unless (nat_eq m.depth 1) StackDiffers p) (unless (nat_eq m.txs 0) TxNesting p) r e)

    end_on : (so : Bool) → IsEnd i → (so ≡ false → EndsSo thread i → ⊥) → end_wrong so p m ≡ Some r → StandsWrongly ks thread ps is r.kind r.at
    end_on so ends never e = end_by so ends never (first_some (unless so FallsOff p) (first (unless (nat_eq m.depth 1) StackDiffers p) (unless (nat_eq m.txs 0) TxNesting p)) r e)

    kind_by : (x : Bool) → nat_eq m.txs 0 ≡ x → (if x then unless (not (thread && (kind_of ks i).inside)) TxNesting p else unless (not (kind_of ks i).outside) TxNesting p) ≡ Some r → StandsWrongly ks thread ps is r.kind r.at
    kind_by true is_x e =
        let u = unless_some (not (thread && (kind_of ks i).inside)) TxNesting p r e in
        let b = both thread (kind_of ks i).inside u.0 in
        here TxNesting p r u.1 (inside_without m.depth m.txs i met (eqb-true m.txs 0 is_x) b.0 b.1)
    kind_by false is_x e =
        let u = unless_some (not (kind_of ks i).outside) TxNesting p r e in
        here TxNesting p r u.1 (outside_within m.depth m.txs i met (eqb-false m.txs 0 is_x) (not_false (kind_of ks i).outside u.0))

  ends_on : (p : ℕ) (m : Mark) (i : Instr) (r : Refusal) → IsMet ps is p m.depth m.txs i → ends_wrong thread p m i ≡ Some r → StandsWrongly ks thread ps is r.kind r.at
  ends_on p m Return r met e = end_on p m Return r met (not thread) tt (λ never so. true_is (sym (not_false thread never) ∙ so)) e
  ends_on p m Halt r met e = end_on p m Halt r met thread tt (λ never so. true_is (sym so ∙ never)) e
  ends_on p m _ r met e = absurd (none_is r e)

  inside_by : (c : Callee) → may_be_sent ks c ≡ false → IsInsideCallee ks c
  inside_by (callee.Core op) e = true_is e
  inside_by (callee.Function f) e = not_false (or_pure (nth ks f)).inside e

  send_on : (p : ℕ) (m : Mark) (i : Instr) (r : Refusal) → IsMet ps is p m.depth m.txs i → send_wrong ks p i ≡ Some r → StandsWrongly ks thread ps is r.kind r.at
  send_on p m (Send c n) r met e =
      let u = unless_some (may_be_sent ks c) TxNesting p r e in
      here TxNesting p r u.1 (sends_inside m.depth m.txs c n met (inside_by c u.0))
  send_on p m _ r met e = absurd (none_is r e)

  call_by : (q d t : ℕ) (i : Instr) (r : Refusal) (o : Option (OpenForm × ℕ)) → opens (nth is q) ≡ o → IsMet ps is (suc q) d t i → call_wrong ks (is_some o) (suc q) i ≡ Some r → StandsWrongly ks thread ps is r.kind r.at
  call_by q d t i r None is_o met e = absurd (none_is r e)
  call_by q d t (Call f) r (Some x) is_o met e =
      let u = unless_some (not (or_pure (nth ks f)).impure) TxNesting (suc q - 1) r e in
      here TxNesting q r (ap (refusal TxNesting) (let e : q ≡ suc q - 1 = omega arith in e) ∙ u.1) (opens_impure x d t f is_o met (not_false (or_pure (nth ks f)).impure u.0))
  call_by q d t _ r (Some x) is_o met e = absurd (none_is r e)

  call_on : (p d t : ℕ) (i : Instr) (r : Refusal) → IsMet ps is p d t i → call_wrong ks (is_some (opens (before is p))) p i ≡ Some r → StandsWrongly ks thread ps is r.kind r.at
  call_on zero d t i r met e = absurd (none_is r e)
  call_on (suc q) d t i r met e = call_by q d t i r (opens (nth is q)) refl met e

  module _ (p : ℕ) (m : Mark) (i : Instr) (r : Refusal) (met : IsMet ps is p m.depth m.txs i) where
    third_by : (send_wrong ks p i ≡ Some r) ⊎ (call_wrong ks (is_some (opens (before is p))) p i ≡ Some r) → StandsWrongly ks thread ps is r.kind r.at
    third_by (inl e) = send_on p m i r met e
    third_by (inr e) = call_on p m.depth m.txs i r met e

    second_by : (kind_wrong thread p m (kind_of ks i) ≡ Some r) ⊎ (first (send_wrong ks p i) (call_wrong ks (is_some (opens (before is p))) p i) ≡ Some r) → StandsWrongly ks thread ps is r.kind r.at
    second_by (inl e) = kind_by p m i r met (nat_eq m.txs 0) refl e
    second_by (inr e) = third_by (first_some (send_wrong ks p i) (call_wrong ks (is_some (opens (before is p))) p i) r e)

    first_by : (ends_wrong thread p m i ≡ Some r) ⊎ (first (kind_wrong thread p m (kind_of ks i)) (first (send_wrong ks p i) (call_wrong ks (is_some (opens (before is p))) p i)) ≡ Some r) → StandsWrongly ks thread ps is r.kind r.at
    first_by (inl e) = ends_on p m i r met e
    first_by (inr e) = second_by (first_some (kind_wrong thread p m (kind_of ks i)) (first (send_wrong ks p i) (call_wrong ks (is_some (opens (before is p))) p i)) r e)

  -- what is wrong with a marked place is wrong where a path comes to it
  pub stands_wrongly : (ms : Marks) (r : Refusal) → AreReached ps is ms → IsWrong ks thread is ms r → StandsWrongly ks thread ps is r.kind r.at
  stands_wrongly ms r reached w =
      let p = w.0 in
      let m : Mark = w.1 in
      let i = w.2 in
      let marked : IsMarked is ms p m i = w.3 in
      let met : IsMet ps is p m.depth m.txs i = record { comes = reached p m marked.mark; stands = marked.stands } in
      first_by p m i r met (first_some (ends_wrong thread p m i) (first (kind_wrong thread p m (kind_of ks i)) (first (send_wrong ks p i) (call_wrong ks (is_some (opens (before is p))) p i))) r w.4)

-- ---- where nothing is wrong

-- the owner of a thread's body, or of a function's of this kind
abbrev pub owner_of : Bool → Kind → Owner
owner_of true kind = a_thread
owner_of false kind = a_function (kind_from kind)

-- a kind has what this one has, as seen from so many transactions
abbrev Covers : Kind → ℕ → Kind → Type 0
Covers kind t k = (flag : Flag) → has flag (seen_from t k) ≡ true → has flag kind ≡ true

seen_inside : (k : Kind) (t : ℕ) → t ≡ 0 → has for_inside (seen_from t k) ≡ k.inside
seen_inside k t e = ap (λ b. b && k.inside) (eq-eqb t 0 e)

seen_outside : (k : Kind) (t : ℕ) → t ≡ 0 → has for_outside (seen_from t k) ≡ k.outside
seen_outside k t e = ap (λ b. b && k.outside) (eq-eqb t 0 e)

kept_impure : (kind k : Kind) (t : ℕ) → Covers kind t k → not k.impure ≡ false → not kind.impure ≡ false
kept_impure kind k t covers e = ap not (covers not_pure (not_false k.impure e))

may_by : (thread : Bool) (kind : Kind) (p t : ℕ) (k : Kind) → Covers kind t k → (if nat_eq t 0 then unless (not (thread && k.inside)) TxNesting p else unless (not k.outside) TxNesting p) ≡ None → KindMayStand (owner_of thread kind) t (kind_from k)
may_by true kind p zero k covers e =
    record {
      inside = λ h. true_is (sym h ∙ not_true k.inside (unless_none (not k.inside) TxNesting p e));
      outside = λ h. tt;
      pure = λ h. tt;
    }
may_by true kind p (suc t) k covers e =
    let out = ap (λ b. if b then unless (not k.inside) TxNesting p else unless (not k.outside) TxNesting p) (sym (eqb-suc-zero t)) ∙ e in
    record {
      inside = λ h. tt;
      outside = λ h. true_is (sym h ∙ not_true k.outside (unless_none (not k.outside) TxNesting p out));
      pure = λ h. tt;
    }
may_by false kind p zero k covers e =
    record {
      inside = λ h. covers for_inside (seen_inside k zero refl ∙ h);
      outside = λ h. covers for_outside (seen_outside k zero refl ∙ h);
      pure = λ h. kept_impure kind k zero covers h;
    }
may_by false kind p (suc t) k covers e =
    let out = ap (λ b. if b then unless (not (false && k.inside)) TxNesting p else unless (not k.outside) TxNesting p) (sym (eqb-suc-zero t)) ∙ e in
    record {
      inside = λ h. tt;
      outside = λ h. true_is (sym h ∙ not_true k.outside (unless_none (not k.outside) TxNesting p out));
      pure = λ h. kept_impure kind k (suc t) covers h;
    }

form_may : (owner : Owner) (t : ℕ) (s : Standing) → KindMayStand owner t (kind_from (impure_kind s)) → IsImpure owner × MayStand owner t s
form_may owner t Anywhere may = (may.pure refl, tt)
form_may owner t Inside may = (may.pure refl, may.inside refl)
form_may owner t Outside may = (may.pure refl, may.outside refl)

nth_from : (ks : List Kind) (f : ℕ) → f < length ks → nth (kinds_from ks) f ≡ Some (kind_from (or_pure (nth ks f)))
nth_from [] f h = absurd (omega (arith, h))
nth_from (k ∷ ks) zero h = refl
nth_from (k ∷ ks) (suc f) h = nth_from ks f (omega (arith, h))

-- the functions that an instruction calls are among the first so many
abbrev pub CalleeBelow : ℕ → Callee → Type 0
CalleeBelow n (callee.Core op) = Unit {0}
CalleeBelow n (callee.Function f) = f < n

abbrev pub CallsBelow : ℕ → Instr → Type 0
CallsBelow n (Call f) = f < n
CallsBelow n (Send c m) = CalleeBelow n c
CallsBelow n _ = Unit {0}

pure_by : (ks : List Kind) (f : ℕ) → f < length ks → not (or_pure (nth ks f)).impure ≡ true → IsPureFunction (kinds_from ks) f
pure_by ks f below e = (kind_from (or_pure (nth ks f)), nth_from ks f below, e)

callee_may : (ks : List Kind) (c : Callee) → CalleeBelow (length ks) c → may_be_sent ks c ≡ true → MayBeSent (kinds_from ks) c
callee_may ks (callee.Core op) below e = tt
callee_may ks (callee.Function f) below e = (kind_from (or_pure (nth ks f)), nth_from ks f below, not_true (or_pure (nth ks f)).inside e)

may_be : (ps : List ℕ) (ks : List Kind) (owner : Owner) (p t : ℕ) (i : Instr) → CallsBelow (length ks) i → KindMayStand owner t (kind_from (kind_of ks i)) → send_wrong ks p i ≡ None → MayBe (record { parameters = ps; kinds = kinds_from ks }) owner t i
may_be ps ks owner p t (Call f) below may sent = (kind_from (or_pure (nth ks f)), nth_from ks f below, may)
may_be ps ks owner p t (Print n) below may sent = form_may owner t Outside may
may_be ps ks owner p t (Look look) below may sent = form_may owner t (rule (form.Look look)).stands may
may_be ps ks owner p t (Put put) below may sent = form_may owner t (rule (form.Put put)).stands may
may_be ps ks owner p t TxBegin below may sent = may.pure refl
may_be ps ks owner p t (Open by n) below may sent = form_may owner t (rule (form.Update (form_of by))).stands may
may_be ps ks owner p t (Send c n) below may sent = (form_may owner t (rule form.Send).stands may, callee_may ks c below (unless_none (may_be_sent ks c) TxNesting p sent))
may_be ps ks owner p t _ below may sent = tt

end_right : (so : Bool) (p : ℕ) (m : Mark) → end_wrong so p m ≡ None → (so ≡ true) × (m.depth ≡ 1) × (m.txs ≡ 0)
end_right so p m e =
    let a = first_none (unless so FallsOff p) (first (unless (nat_eq m.depth 1) StackDiffers p) (unless (nat_eq m.txs 0) TxNesting p)) e in
    let b = first_none (unless (nat_eq m.depth 1) StackDiffers p) (unless (nat_eq m.txs 0) TxNesting p) a.1 in
    (unless_none so FallsOff p a.0, eqb-true m.depth 1 (unless_none (nat_eq m.depth 1) StackDiffers p b.0), eqb-true m.txs 0 (unless_none (nat_eq m.txs 0) TxNesting p b.1))

ends_right : (thread : Bool) (kind : Kind) (p : ℕ) (m : Mark) (i : Instr) → ends_wrong thread p m i ≡ None → EndsWell (owner_of thread kind) m.depth m.txs i
ends_right true kind p m Return e = true_is (sym (end_right false p m e).0)
ends_right false kind p m Return e =
    let r = end_right true p m e in
    (tt, r.1, r.2)
ends_right true kind p m Halt e =
    let r = end_right true p m e in
    (tt, r.1, r.2)
ends_right false kind p m Halt e = true_is (sym (end_right false p m e).0)
ends_right thread kind p m _ e = tt

opened_may : (ps : List ℕ) (ks : List Kind) (owner : Owner) (x : OpenForm × ℕ) (p t : ℕ) (i : Instr) → CallsBelow (length ks) i → call_wrong ks true p i ≡ None → IsAllowed (record { parameters = ps; kinds = kinds_from ks }) owner (opened t x.1 x.0) i
opened_may ps ks owner x p t (Call f) below e = pure_by ks f below (unless_none (not (or_pure (nth ks f)).impure) TxNesting (p - 1) e)
opened_may ps ks owner x p t _ below e = tt

allowed_by : (ps : List ℕ) (ks : List Kind) (owner : Owner) (p t : ℕ) (i : Instr) (x y : Option (OpenForm × ℕ)) → CallsBelow (length ks) i → KindMayStand owner t (kind_from (kind_of ks i)) → send_wrong ks p i ≡ None → call_wrong ks (is_some x) p i ≡ None → IsAllowed (record { parameters = ps; kinds = kinds_from ks }) owner (stage_behind x y t) i
allowed_by ps ks owner p t i (Some x) y below may sent called = opened_may ps ks owner x p t i below called
allowed_by ps ks owner p t i None (Some y) below may sent called = tt
allowed_by ps ks owner p t i None None below may sent called = may_be ps ks owner p t i below may sent

-- an instruction with which nothing is wrong may stand
pub stands_right : (ps : List ℕ) (ks : List Kind) (thread : Bool) (kind : Kind) (is : List Instr) (p : ℕ) (m : Mark) (i : Instr) → CallsBelow (length ks) i → Covers kind m.txs (kind_of ks i) → wrong ks thread is p m i ≡ None → EndsWell (owner_of thread kind) m.depth m.txs i × IsAllowed (record { parameters = ps; kinds = kinds_from ks }) (owner_of thread kind) (stage_for is p m.txs) i
stands_right ps ks thread kind is p m i below covers e =
    let a = first_none (ends_wrong thread p m i) (first (kind_wrong thread p m (kind_of ks i)) (first (send_wrong ks p i) (call_wrong ks (is_some (opens (before is p))) p i))) e in
    let b = first_none (kind_wrong thread p m (kind_of ks i)) (first (send_wrong ks p i) (call_wrong ks (is_some (opens (before is p))) p i)) a.1 in
    let c = first_none (send_wrong ks p i) (call_wrong ks (is_some (opens (before is p))) p i) b.1 in
    let may = may_by thread kind p m.txs (kind_of ks i) covers b.0 in
    (ends_right thread kind p m i a.0, allowed_by ps ks (owner_of thread kind) p m.txs i (opens (before is p)) (opens (before_that is p)) below may c.0 c.1)

-- ---- the kind of a body

-- closed marks have each path's mark
pub has_mark : (ps : List ℕ) (is : List Instr) (ms : Marks) → IsClosed ps is ms → (n q e u : ℕ) → ComesIn ps is n q e u → mark_at ms q ≡ Some (record { depth = e; txs = u })
unfolding ComesIn
has_mark ps is ms closed zero q e u c = ap (mark_at ms) c.0 ∙ closed.first ∙ ap (λ d. Some (record { depth = d; txs = 0 })) (sym c.1) ∙ ap (λ t. Some (record { depth = e; txs = t })) (sym c.2)
has_mark ps is ms closed (suc n) q e u c =
    let p = c.0 in
    let d = c.1 in
    let t = c.2 in
    let past : ComesIn ps is n p d t = c.3 in
    let step : Steps ps is p d t q e u = c.4 in
    let done = closed.done p (record { depth = d; txs = t }) (has_mark ps is ms closed n p d t past) in
    let same : step.instr ≡ done.instr = some_is step.instr done.instr (sym step.stands ∙ done.stands) in
    let next = done.next q (subst (λ i. LeadsTo p i q) same step.leads) in
    next ∙ ap (λ i. Some (mark_behind ps i (record { depth = d; txs = t }))) (sym same) ∙ ap (λ x. Some (record { depth = x; txs = (mark_behind ps step.instr (record { depth = d; txs = t })).txs })) (sym step.depth) ∙ ap (λ x. Some (record { depth = e; txs = x })) (sym step.txs)

stands_below : (is : List Instr) (p : ℕ) (i : Instr) → nth is p ≡ Some i → p < length is
stands_below [] p i e = absurd (none_is i e)
stands_below (x ∷ is) zero i e = omega arith
stands_below (x ∷ is) (suc p) i e = omega (arith, stands_below is p i e)

-- what is seen at all places is the kind of the body
pub kind_is : (ks : List Kind) (thread : Bool) (ps : List ℕ) (is : List Instr) (ms : Marks) (kind : Kind) → IsClosed ps is ms → AreReached ps is ms → IsSeen ks thread is ms (length is) kind → IsKindOf ks ps is kind
kind_is ks thread ps is ms kind closed reached seen =
    λ flag.
    (let to : has flag kind ≡ true → Meets flag ks ps is = λ h. (let f = seen.from flag h in let m : Mark = f.1 in let marked : IsMarked is ms f.0 m f.2 = f.3 in (f.0, m.depth, m.txs, f.2, record { comes = reached f.0 m marked.mark; stands = marked.stands }, f.4)) in
    let back : Meets flag ks ps is → has flag kind ≡ true = λ x. (let met : IsMet ps is x.0 x.1 x.2 x.3 = x.4 in seen.all flag x.0 (record { depth = x.1; txs = x.2 }) x.3 (stands_below is x.0 x.3 met.stands) (record { mark = has_mark ps is ms closed met.comes.0 x.0 x.1 x.2 met.comes.1; stands = met.stands }) x.5) in
    (to, back))
