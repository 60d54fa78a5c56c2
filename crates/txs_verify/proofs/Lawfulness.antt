-- The tests of an instruction alone say what is wanted of it; and what is right alone is lawful.
use Rattle.std.proofs.Common.{arith, inl, inr, ◌≡◌, ◌⊎◌, ◌∙◌, ℕ, zero, suc, ◌+◌, ◌<◌, ◌≤◌, List, [], ◌∷◌, length, Bool, true, false, not, ◌&&◌, ◌||◌, nat_eq, nat_lt, if◌then◌else◌, is_some, Option, Some, None, refl, sym, ap, subst}
use Rattle.std.proofs.lemmas.Bool.{eqb-true, eqb-false, eq-eqb, ltb-true, ltb-false}
use Rattle.txs_world_protocol.specs.Ask.{same_callee}
use Rattle.txs_value_data.specs.Operations.{op_number}
use Rattle.txs_value_data.specs.Places.{nth}
use Rattle.txs_value_cell.specs.declared.form.UpdateForm.{UpdateForm}
use Rattle.txs_value_cell.specs.declared.form.UpdateForm.TheVariants as update
use Rattle.txs_value_data.specs.declared.op.Callee.{Callee}
use Rattle.txs_value_data.specs.declared.op.Callee.TheVariants as callee
use Rattle.txs_value_data.specs.declared.value.Value.{Value}
use Rattle.txs_value_data.proofs.OperationsLemmas.{op_number-differs}
use Rattle.txs_code_meaning.specs.PlainCode.{CodeBody}
use Rattle.txs_code_meaning.specs.WellTyped.{form_of, IsNamed, CalleeTakes, NamedTakes, Applies, IsBehindOpen, IsFollowed, IsOpened, IsLawful}
use Rattle.txs_code_meaning.specs.declared.instr.OpenForm.{OpenForm}
use Rattle.txs_code_meaning.specs.declared.instr.OpenForm.TheVariants as open_form
use Rattle.txs_code_meaning.specs.declared.instr.Instr.{Instr}
use Rattle.txs_code_meaning.specs.declared.instr.Instr.TheVariants.{Const, Local, Store, Pop, Jump, JumpFalse, Core, Call, Return, Vector, Print, Look, Put, TxBegin, TxEnd, Open, Close, Send, Halt}
use Rattle.txs_verify.specs.declared.error.VerifyErrorKind.{VerifyErrorKind}
use Rattle.txs_verify.specs.declared.error.VerifyErrorKind.TheVariants.{JumpOut, LocalOut, ArityWrong, CallOrder}
use Rattle.txs_verify.specs.Alone.{HasConstant, HasLocal, TakesSo, NamedTakesSo, HasCount, IsBelow, NamedIsBelow, IsInOrder, IsRight, IsRightBody, IsWrongAlone, jumps_within, has_local, is_so_many, takes_so, has_count, is_below, named_is_below, is_named, same_form, has_so_many, applies, closes, opens_form, is_behind, is_followed, in_order, fault}
use Rattle.txs_verify.specs.Going.{JumpsWithin}
use Rattle.txs_verify.specs.Paths.{opens, before, before_that}
use Rattle.txs_verify.proofs.Whole.{open_before, open_before_that}

some_is : {A : Type 0} (x y : A) → Some x ≡ Some y → x ≡ y
some_is x y e = cc

none_is : {A : Type 0} (x : A) → None ≡ Some x → ⊥
none_is x e = absurd cc

true_is : {A : Type 0} → true ≡ false → A
true_is e = absurd cc

and_both : (a b : Bool) → (a && b) ≡ true → (a ≡ true) × (b ≡ true)
and_both true b e = (refl, e)
and_both false b e = true_is (sym e)

and_true : (a b : Bool) → a ≡ true → b ≡ true → (a && b) ≡ true
and_true true b x y = y
and_true false b x y = true_is (sym x)

or_left : (a b : Bool) → a ≡ true → (a || b) ≡ true
or_left true b e = refl
or_left false b e = true_is (sym e)

or_right : (a b : Bool) → b ≡ true → (a || b) ≡ true
or_right true b e = refl
or_right false b e = e

either : (a b : Bool) → (a || b) ≡ true → (a ≡ true) ⊎ (b ≡ true)
either true b e = inl refl
either false b e = inr e

not_false : (b : Bool) → not b ≡ false → b ≡ true
not_false true e = refl
not_false false e = true_is e

not_true : (b : Bool) → not b ≡ true → b ≡ false
not_true true e = true_is (sym e)
not_true false e = refl

lt_by : (a b : ℕ) (x : Bool) → nat_lt a b ≡ x → a < b → nat_lt a b ≡ true
lt_by a b true e h = e
lt_by a b false e h = absurd (omega (arith, ltb-false a b e, h))

lt_true : (a b : ℕ) → a < b → nat_lt a b ≡ true
lt_true a b h = lt_by a b (nat_lt a b) refl h

-- ---- jumps and locals

jumps_are : (n : ℕ) (i : Instr) → jumps_within n i ≡ true → JumpsWithin n i
jumps_are n (Jump to) e = ltb-true to n e
jumps_are n (JumpFalse to) e = ltb-true to n e
jumps_are n _ e = tt

jumps_out : (n : ℕ) (i : Instr) → jumps_within n i ≡ false → JumpsWithin n i → ⊥
jumps_out n (Jump to) e h = absurd (omega (arith, ltb-false to n e, h))
jumps_out n (JumpFalse to) e h = absurd (omega (arith, ltb-false to n e, h))
jumps_out n _ e h = true_is e

local_is : (n : ℕ) (i : Instr) → has_local n i ≡ true → HasLocal n i
local_is n (Local i) e = ltb-true i n e
local_is n (Store i) e = ltb-true i n e
local_is n _ e = tt

local_out : (n : ℕ) (i : Instr) → has_local n i ≡ false → HasLocal n i → ⊥
local_out n (Local i) e h = absurd (omega (arith, ltb-false i n e, h))
local_out n (Store i) e h = absurd (omega (arith, ltb-false i n e, h))
local_out n _ e h = true_is e

-- ---- counts

many_is : (o : Option ℕ) (n : ℕ) → is_so_many o n ≡ true → (m : ℕ) → o ≡ Some m → m ≡ n
many_is None n e m is = absurd (none_is m is)
many_is (Some k) n e m is = sym (some_is k m is) ∙ eqb-true k n e

many_isnt : (o : Option ℕ) (n : ℕ) → is_so_many o n ≡ false → ((m : ℕ) → o ≡ Some m → m ≡ n) → ⊥
many_isnt None n e h = true_is e
many_isnt (Some k) n e h = eqb-false k n e (h k refl)

takes_is : (ps : List ℕ) (c : Callee) (n : ℕ) → takes_so ps c n ≡ true → TakesSo ps c n
takes_is ps (callee.Core o) n e = e
takes_is ps (callee.Function f) n e = many_is (nth ps f) n e

takes_isnt : (ps : List ℕ) (c : Callee) (n : ℕ) → takes_so ps c n ≡ false → TakesSo ps c n → ⊥
takes_isnt ps (callee.Core o) n e h = true_is (sym h ∙ e)
takes_isnt ps (callee.Function f) n e h = many_isnt (nth ps f) n e h

count_is : (ps : List ℕ) (i : Instr) → has_count ps i ≡ true → HasCount ps i
count_is ps (Core o n) e = e
count_is ps (Open open_form.Alter n) e = tt
count_is ps (Open (open_form.Commute c) n) e = takes_is ps c (n + 1) e
count_is ps (Open (open_form.Swap c) n) e = takes_is ps c (n + 1) e
count_is ps (Send c n) e = takes_is ps c (n + 1) e
count_is ps _ e = tt

count_isnt : (ps : List ℕ) (i : Instr) → has_count ps i ≡ false → HasCount ps i → ⊥
count_isnt ps (Core o n) e h = true_is (sym h ∙ e)
count_isnt ps (Open open_form.Alter n) e h = true_is e
count_isnt ps (Open (open_form.Commute c) n) e h = takes_isnt ps c (n + 1) e h
count_isnt ps (Open (open_form.Swap c) n) e h = takes_isnt ps c (n + 1) e h
count_isnt ps (Send c n) e h = takes_isnt ps c (n + 1) e h
count_isnt ps _ e h = true_is e

-- ---- order

below_is : (n : ℕ) (c : Callee) → is_below n c ≡ true → IsBelow n c
below_is n (callee.Core o) e = tt
below_is n (callee.Function f) e = ltb-true f n e

below_test : (n : ℕ) (c : Callee) → IsBelow n c → is_below n c ≡ true
below_test n (callee.Core o) h = refl
below_test n (callee.Function f) h = lt_true f n h

named_below_is : (n : ℕ) (by : OpenForm) → named_is_below n by ≡ true → NamedIsBelow n by
named_below_is n open_form.Alter e = tt
named_below_is n (open_form.Commute c) e = below_is n c e
named_below_is n (open_form.Swap c) e = below_is n c e

named_below_test : (n : ℕ) (by : OpenForm) → NamedIsBelow n by → named_is_below n by ≡ true
named_below_test n open_form.Alter h = refl
named_below_test n (open_form.Commute c) h = below_test n c h
named_below_test n (open_form.Swap c) h = below_test n c h

callee_same : (a b : Callee) → same_callee a b ≡ true → a ≡ b
callee_same (callee.Core a) (callee.Core b) h = ap callee.Core (op_number-differs a b (eqb-true (op_number a) (op_number b) h))
callee_same (callee.Core a) (callee.Function g) h = true_is (sym h)
callee_same (callee.Function f) (callee.Core b) h = true_is (sym h)
callee_same (callee.Function f) (callee.Function g) h = ap callee.Function (eqb-true f g h)

callee_itself : (a : Callee) → same_callee a a ≡ true
callee_itself (callee.Core a) = eq-eqb (op_number a) (op_number a) refl
callee_itself (callee.Function f) = eq-eqb f f refl

named_is : (by : OpenForm) (c : Callee) → is_named by c ≡ true → IsNamed by c
named_is open_form.Alter c e = tt
named_is (open_form.Commute x) c e = callee_same x c e
named_is (open_form.Swap x) c e = callee_same x c e

named_test : (by : OpenForm) (c : Callee) → IsNamed by c → is_named by c ≡ true
named_test open_form.Alter c h = refl
named_test (open_form.Commute x) c h = subst (λ y. same_callee x y ≡ true) h (callee_itself x)
named_test (open_form.Swap x) c h = subst (λ y. same_callee x y ≡ true) h (callee_itself x)

form_is : (a b : UpdateForm) → same_form a b ≡ true → a ≡ b
form_is update.Alter update.Alter e = refl
form_is update.Alter update.Commute e = true_is (sym e)
form_is update.Alter update.Swap e = true_is (sym e)
form_is update.Commute update.Alter e = true_is (sym e)
form_is update.Commute update.Commute e = refl
form_is update.Commute update.Swap e = true_is (sym e)
form_is update.Swap update.Alter e = true_is (sym e)
form_is update.Swap update.Commute e = true_is (sym e)
form_is update.Swap update.Swap e = refl

form_itself : (a : UpdateForm) → same_form a a ≡ true
form_itself update.Alter = refl
form_itself update.Commute = refl
form_itself update.Swap = refl

has_many_is : (o : Option ℕ) (n : ℕ) → has_so_many o n ≡ true → o ≡ Some n
has_many_is None n e = true_is (sym e)
has_many_is (Some m) n e = ap Some (eqb-true m n e)

-- what applies is the operation or call of a callee that the open names
applies_is : (ps : List ℕ) (by : OpenForm) (n : ℕ) (o : Option Instr) → applies ps by n o ≡ true → (c : Callee) × (i : Instr) × IsNamed by c × (o ≡ Some i) × Applies ps c n i
applies_is ps by n None e = true_is (sym e)
applies_is ps by n (Some (Core o m)) e =
    let b = and_both (nat_eq m n) (is_named by (callee.Core o)) e in
    (callee.Core o, Core o m, named_is by (callee.Core o) b.1, refl, ap (Core o) (eqb-true m n b.0))
applies_is ps by n (Some (Call f)) e =
    let b = and_both (has_so_many (nth ps f) n) (is_named by (callee.Function f)) e in
    (callee.Function f, Call f, named_is by (callee.Function f) b.1, refl, (refl, has_many_is (nth ps f) n b.0))
applies_is ps by n (Some _) e = true_is (sym e)

applies_by : (ps : List ℕ) (by : OpenForm) (n : ℕ) (c : Callee) (i : Instr) → IsNamed by c → Applies ps c n i → applies ps by n (Some i) ≡ true
applies_by ps by n (callee.Core o) i named e = ap (λ x. applies ps by n (Some x)) e ∙ and_true (nat_eq n n) (is_named by (callee.Core o)) (eq-eqb n n refl) (named_test by (callee.Core o) named)
applies_by ps by n (callee.Function f) i named e = ap (λ x. applies ps by n (Some x)) e.0 ∙ and_true (has_so_many (nth ps f) n) (is_named by (callee.Function f)) (ap (λ x. has_so_many x n) e.1 ∙ eq-eqb n n refl) (named_test by (callee.Function f) named)

closes_is : (form : UpdateForm) (o : Option Instr) → closes form o ≡ true → o ≡ Some (Close form)
closes_is form None e = true_is (sym e)
closes_is form (Some (Close x)) e = ap (λ y. Some (Close y)) (form_is x form e)
closes_is form (Some _) e = true_is (sym e)

followed_is : (ps : List ℕ) (is : List Instr) (at : ℕ) (by : OpenForm) (n : ℕ) → is_followed ps is at by n ≡ true → IsFollowed ps is at by n
followed_is ps is at by n e =
    let b = and_both (applies ps by (n + 1) (nth is (at + 1))) (closes (form_of by) (nth is (at + 2))) e in
    let a = applies_is ps by (n + 1) (nth is (at + 1)) b.0 in
    record { callee = a.0; named = a.2; applied = a.1; second = a.3; applies = a.4; third = closes_is (form_of by) (nth is (at + 2)) b.1 }

followed_test : (ps : List ℕ) (is : List Instr) (at : ℕ) (by : OpenForm) (n : ℕ) → IsFollowed ps is at by n → is_followed ps is at by n ≡ true
followed_test ps is at by n f =
    and_true (applies ps by (n + 1) (nth is (at + 1))) (closes (form_of by) (nth is (at + 2))) (ap (applies ps by (n + 1)) f.second ∙ applies_by ps by (n + 1) f.callee f.applied f.named f.applies) (ap (closes (form_of by)) f.third ∙ form_itself (form_of by))

some_there : {A : Type 0} (o : Option A) → is_some o ≡ true → (x : A) × (o ≡ Some x)
some_there None e = true_is (sym e)
some_there (Some x) e = (x, refl)

behind_one : (is : List Instr) (to : ℕ) → is_some (opens (before is to)) ≡ true → IsBehindOpen is to
behind_one is to e =
    let x = some_there (opens (before is to)) e in
    let o = open_before is to x.0 x.1 in
    record { from = o.0; opened = x.0.0; arguments = x.0.1; first = o.2; behind = omega (arith, o.1); within = omega (arith, o.1) }

behind_two : (is : List Instr) (to : ℕ) → is_some (opens (before_that is to)) ≡ true → IsBehindOpen is to
behind_two is to e =
    let x = some_there (opens (before_that is to)) e in
    let o = open_before_that is to x.0 x.1 in
    record { from = o.0; opened = x.0.0; arguments = x.0.1; first = o.2; behind = omega (arith, o.1); within = omega (arith, o.1) }

behind_by : (is : List Instr) (to : ℕ) → (is_some (opens (before is to)) ≡ true) ⊎ (is_some (opens (before_that is to)) ≡ true) → IsBehindOpen is to
behind_by is to (inl e) = behind_one is to e
behind_by is to (inr e) = behind_two is to e

behind_is : (is : List Instr) (to : ℕ) → is_behind is to ≡ true → IsBehindOpen is to
behind_is is to e = behind_by is to (either (is_some (opens (before is to))) (is_some (opens (before_that is to))) e)

-- one or two places behind
far_by : (from to : ℕ) → from < to → to ≤ from + 2 → (to ≡ suc from → ⊥) → to ≡ suc (suc from)
far_by from to lt le apart = grind (arith, lt, le, apart)

near : (from to : ℕ) → from < to → to ≤ from + 2 → (b : Bool) → nat_eq to (suc from) ≡ b → (to ≡ suc from) ⊎ (to ≡ suc (suc from))
near from to lt le true e = inl (eqb-true to (suc from) e)
near from to lt le false e = inr (far_by from to lt le (eqb-false to (suc from) e))

behind_near : (is : List Instr) (to : ℕ) → (h : IsBehindOpen is to) → (to ≡ suc h.from) ⊎ (to ≡ suc (suc h.from)) → is_behind is to ≡ true
behind_near is to h (inl e) = or_left (is_some (opens (before is to))) (is_some (opens (before_that is to))) (ap (λ x. is_some (opens (before is x))) e ∙ ap (λ x. is_some (opens x)) h.first)
behind_near is to h (inr e) = or_right (is_some (opens (before is to))) (is_some (opens (before_that is to))) (ap (λ x. is_some (opens (before_that is x))) e ∙ ap (λ x. is_some (opens x)) h.first)

behind_test : (is : List Instr) (to : ℕ) → IsBehindOpen is to → is_behind is to ≡ true
behind_test is to h = behind_near is to h (near h.from to h.behind h.within (nat_eq to (suc h.from)) refl)

opened_by : (is : List Instr) (q : ℕ) (form : UpdateForm) (o : Option Instr) → nth is q ≡ o → opens_form form o ≡ true → IsOpened is (suc (suc q)) form
opened_by is q form None is_o e = true_is (sym e)
opened_by is q form (Some (Open by n)) is_o e = record { from = q; behind = omega arith; opened = by; arguments = n; first = is_o; form = form_is (form_of by) form e }
opened_by is q form (Some _) is_o e = true_is (sym e)

opened_is : (is : List Instr) (at : ℕ) (form : UpdateForm) → opens_form form (before_that is at) ≡ true → IsOpened is at form
opened_is is zero form e = true_is (sym e)
opened_is is (suc zero) form e = true_is (sym e)
opened_is is (suc (suc q)) form e = opened_by is q form (nth is q) refl e

two_on : (from at : ℕ) → at ≡ from + 2 → at ≡ suc (suc from)
two_on from at e = omega (arith, e)

opened_test : (is : List Instr) (at : ℕ) (form : UpdateForm) → IsOpened is at form → opens_form form (before_that is at) ≡ true
opened_test is at form o = ap (λ x. opens_form form (before_that is x)) (two_on o.from at o.behind) ∙ ap (opens_form form) o.first ∙ ap (λ x. same_form x form) o.form ∙ form_itself form

order_is : (n : ℕ) (ps : List ℕ) (is : List Instr) (at : ℕ) (i : Instr) → in_order n ps is at i ≡ true → IsInOrder n ps is at i
order_is n ps is at (Jump to) e = λ h. true_is (sym (behind_test is to h) ∙ not_true (is_behind is to) e)
order_is n ps is at (JumpFalse to) e = λ h. true_is (sym (behind_test is to h) ∙ not_true (is_behind is to) e)
order_is n ps is at (Call f) e = ltb-true f n e
order_is n ps is at (Open by m) e =
    let b = and_both (named_is_below n by) (is_followed ps is at by m) e in
    (named_below_is n by b.0, followed_is ps is at by m b.1)
order_is n ps is at (Close form) e = opened_is is at form e
order_is n ps is at (Send c m) e = below_is n c e
order_is n ps is at _ e = tt

order_isnt : (n : ℕ) (ps : List ℕ) (is : List Instr) (at : ℕ) (i : Instr) → in_order n ps is at i ≡ false → IsInOrder n ps is at i → ⊥
order_isnt n ps is at (Jump to) e h = h (behind_is is to (not_false (is_behind is to) e))
order_isnt n ps is at (JumpFalse to) e h = h (behind_is is to (not_false (is_behind is to) e))
order_isnt n ps is at (Call f) e h = absurd (omega (arith, ltb-false f n e, h))
order_isnt n ps is at (Open by m) e h = true_is (sym (and_true (named_is_below n by) (is_followed ps is at by m) (named_below_test n by h.0) (followed_test ps is at by m h.1)) ∙ e)
order_isnt n ps is at (Close form) e h = true_is (sym (opened_test is at form h) ∙ e)
order_isnt n ps is at (Send c m) e h = true_is (sym (below_test n c h) ∙ e)
order_isnt n ps is at _ e h = true_is e

-- ---- all four

module _ (n : ℕ) (ps : List ℕ) (b : CodeBody) (at : ℕ) (i : Instr) where
  right_by : (x y z w : Bool) → jumps_within (length b.instrs) i ≡ x → has_local b.locals i ≡ y → has_count ps i ≡ z → in_order n ps b.instrs at i ≡ w → (if x then (if y then (if z then (if w then None else Some CallOrder) else Some ArityWrong) else Some LocalOut) else Some JumpOut) ≡ None → IsRight n ps b at i
  right_by true true true true j l c o e = record { jumps = jumps_are (length b.instrs) i j; local = local_is b.locals i l; count = count_is ps i c; order = order_is n ps b.instrs at i o }
  right_by true true true false j l c o e = absurd (none_is CallOrder (sym e))
  right_by true true false w j l c o e = absurd (none_is ArityWrong (sym e))
  right_by true false z w j l c o e = absurd (none_is LocalOut (sym e))
  right_by false y z w j l c o e = absurd (none_is JumpOut (sym e))

  -- no fault
  pub right_of : fault n ps b.instrs b.locals at i ≡ None → IsRight n ps b at i
  right_of e = right_by (jumps_within (length b.instrs) i) (has_local b.locals i) (has_count ps i) (in_order n ps b.instrs at i) refl refl refl refl e

  wrong_by : (kind : VerifyErrorKind) → nth b.instrs at ≡ Some i → (x y z w : Bool) → jumps_within (length b.instrs) i ≡ x → has_local b.locals i ≡ y → has_count ps i ≡ z → in_order n ps b.instrs at i ≡ w → (if x then (if y then (if z then (if w then None else Some CallOrder) else Some ArityWrong) else Some LocalOut) else Some JumpOut) ≡ Some kind → IsWrongAlone n ps b kind at
  wrong_by kind stands true true true true j l c o e = absurd (none_is kind e)
  wrong_by kind stands true true true false j l c o e = subst (λ k. IsWrongAlone n ps b k at) (some_is CallOrder kind e) (i, stands, jumps_are (length b.instrs) i j, local_is b.locals i l, count_is ps i c, order_isnt n ps b.instrs at i o)
  wrong_by kind stands true true false w j l c o e = subst (λ k. IsWrongAlone n ps b k at) (some_is ArityWrong kind e) (i, stands, jumps_are (length b.instrs) i j, local_is b.locals i l, count_isnt ps i c)
  wrong_by kind stands true false z w j l c o e = subst (λ k. IsWrongAlone n ps b k at) (some_is LocalOut kind e) (inr (i, stands, jumps_are (length b.instrs) i j, local_out b.locals i l))
  wrong_by kind stands false y z w j l c o e = subst (λ k. IsWrongAlone n ps b k at) (some_is JumpOut kind e) (i, stands, jumps_out (length b.instrs) i j)

  -- a fault
  pub wrong_of : (kind : VerifyErrorKind) → nth b.instrs at ≡ Some i → fault n ps b.instrs b.locals at i ≡ Some kind → IsWrongAlone n ps b kind at
  wrong_of kind stands e = wrong_by kind stands (jumps_within (length b.instrs) i) (has_local b.locals i) (has_count ps i) (in_order n ps b.instrs at i) refl refl refl refl e

-- ---- lawful

nth_below : (ns : List ℕ) (f : ℕ) → f < length ns → (m : ℕ) × (nth ns f ≡ Some m)
nth_below [] f h = absurd (omega (arith, h))
nth_below (m ∷ ns) zero h = (m, refl)
nth_below (m ∷ ns) (suc f) h = nth_below ns f (omega (arith, h))

callee_takes : (n : ℕ) (ps : List ℕ) (c : Callee) (m : ℕ) → n ≤ length ps → IsBelow n c → TakesSo ps c m → CalleeTakes n ps c m
callee_takes n ps (callee.Core o) m few below so = so
callee_takes n ps (callee.Function f) m few below so =
    let x = nth_below ps f (omega (arith, few, below)) in
    (below, x.1 ∙ ap Some (so x.0 x.1))

named_takes : (n : ℕ) (ps : List ℕ) (by : OpenForm) (m : ℕ) → n ≤ length ps → NamedIsBelow n by → NamedTakesSo ps by m → NamedTakes n ps by m
named_takes n ps open_form.Alter m few below so = tt
named_takes n ps (open_form.Commute c) m few below so = callee_takes n ps c m few below so
named_takes n ps (open_form.Swap c) m few below so = callee_takes n ps c m few below so

pub lawful_of : (n : ℕ) (ps : List ℕ) (ks : List Value) (b : CodeBody) (at : ℕ) (i : Instr) → n ≤ length ps → HasConstant (length ks) i → IsRight n ps b at i → IsLawful n ps ks b at i
lawful_of n ps ks b at (Const k) few known r = known
lawful_of n ps ks b at (Local i) few known r = r.local
lawful_of n ps ks b at (Store i) few known r = r.local
lawful_of n ps ks b at Pop few known r = tt
lawful_of n ps ks b at (Jump to) few known r = (r.jumps, r.order)
lawful_of n ps ks b at (JumpFalse to) few known r = (r.jumps, r.order)
lawful_of n ps ks b at (Core o m) few known r = r.count
lawful_of n ps ks b at (Call f) few known r = r.order
lawful_of n ps ks b at Return few known r = tt
lawful_of n ps ks b at (Vector m) few known r = tt
lawful_of n ps ks b at (Print m) few known r = tt
lawful_of n ps ks b at (Look look) few known r = tt
lawful_of n ps ks b at (Put put) few known r = tt
lawful_of n ps ks b at TxBegin few known r = tt
lawful_of n ps ks b at TxEnd few known r = tt
lawful_of n ps ks b at (Open by m) few known r = (named_takes n ps by (m + 1) few r.order.0 r.count, r.order.1)
lawful_of n ps ks b at (Close form) few known r = r.order
lawful_of n ps ks b at (Send c m) few known r = callee_takes n ps c (m + 1) few r.order r.count
lawful_of n ps ks b at Halt few known r = tt

below_by : (p k : ℕ) → p < k + 1 → (p ≡ k → ⊥) → p < k
below_by p k lt apart = grind (arith, lt, apart)

right_at : (n : ℕ) (ps : List ℕ) (b : CodeBody) (k : ℕ) → ((at : ℕ) (i : Instr) → at < k → nth b.instrs at ≡ Some i → IsRight n ps b at i) → ((i : Instr) → nth b.instrs k ≡ Some i → IsRight n ps b k i) → (at : ℕ) (i : Instr) → nth b.instrs at ≡ Some i → (x : Bool) → nat_eq at k ≡ x → at < k + 1 → IsRight n ps b at i
right_at n ps b k before here at i stands true e below =
    let same = eqb-true at k e in
    subst (λ q. IsRight n ps b q i) (sym same) (here i (ap (nth b.instrs) (sym same) ∙ stands))
right_at n ps b k before here at i stands false e below = before at i (below_by at k below (eqb-false at k e)) stands

-- a place more is right
pub all_right : (n : ℕ) (ps : List ℕ) (b : CodeBody) (k : ℕ) → ((at : ℕ) (i : Instr) → at < k → nth b.instrs at ≡ Some i → IsRight n ps b at i) → ((i : Instr) → nth b.instrs k ≡ Some i → IsRight n ps b k i) → (at : ℕ) (i : Instr) → at < k + 1 → nth b.instrs at ≡ Some i → IsRight n ps b at i
all_right n ps b k before here at i below stands = right_at n ps b k before here at i stands (nat_eq at k) refl below

stands_below : (is : List Instr) (p : ℕ) (i : Instr) → nth is p ≡ Some i → p < length is
stands_below [] p i e = absurd (none_is i e)
stands_below (x ∷ is) zero i e = omega arith
stands_below (x ∷ is) (suc p) i e = omega (arith, stands_below is p i e)

-- at all places
pub right_body : (n : ℕ) (ps : List ℕ) (b : CodeBody) (k : ℕ) → b.parameters ≤ b.locals → length b.instrs ≤ k → ((at : ℕ) (i : Instr) → at < k → nth b.instrs at ≡ Some i → IsRight n ps b at i) → IsRightBody n ps b
right_body n ps b k among le before = record { parameters = among; right = λ at i stands. before at i (omega (arith, stands_below b.instrs at i stands, le)) stands }
