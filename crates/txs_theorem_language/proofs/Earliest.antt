-- No fault of a tree begins before its refusal, where its forms begin in the order in which they are checked.
use Rattle.std.proofs.Common.{◌≡◌, ℕ, zero, suc, ◌+◌, ◌≤◌, ◌⊎◌, inl, inr, Bool, true, false, not, nat_eq, List, [], ◌∷◌, ◌++◌, map, take, drop, Option, Some, None, Ok, Err, refl, sym, ap, subst, arith}
use Rattle.txs_value_apply.specs.Core.{takes}
use Rattle.txs_value_cell.specs.Forms.{rule}
use Rattle.txs_value_data.specs.Places.{nth}
use Rattle.txs_value_data.specs.declared.fault.Span.{Span}
use Rattle.txs_value_cell.specs.declared.form.CellForm.{CellForm}
use Rattle.txs_value_cell.specs.declared.form.CellForm.TheVariants as form_of
use Rattle.txs_value_cell.specs.declared.form.LookForm.{LookForm}
use Rattle.txs_value_cell.specs.declared.form.PutForm.{PutForm}
use Rattle.txs_value_cell.specs.declared.form.UpdateForm.{UpdateForm}
use Rattle.txs_value_data.specs.declared.op.Op.{Op}
use Rattle.txs_value_data.specs.declared.value.Value.{Value}
use Rattle.txs_value_cell.specs.declared.form.Standing.{Standing}
use Rattle.txs_value_cell.specs.declared.form.Standing.TheVariants.{Anywhere, Inside, Outside}
use Rattle.txs_value_data.specs.declared.op.Callee.{Callee}
use Rattle.txs_value_data.specs.declared.op.Callee.TheVariants.{Core as CoreOp, Function}
use Rattle.txs_tree_meaning.specs.Known.{Known, is_pure, known}
use Rattle.txs_tree_meaning.specs.Tree.{Tree, Mark, Const, Local, If, Do, Let, Loop, Recur, Core, Call, VectorOf, Println, Dosync, Look, Put, Update, Send, Trees, none, more, count, PlainProgram}
use Rattle.txs_check.specs.Faulty.{IsAmong, is_first, is_later, IsLast, is_only, is_behind, IsBefore, is_now, is_then, Stands, as_whole, in_test, in_first, in_second, in_block, in_last, in_bound, in_let, in_start, in_loop, in_recur, in_operation, in_call, in_vector, in_line, in_transaction, in_looked, in_filled, in_value, in_updated, in_further, in_agent, in_sent, IsForm, it_looks, it_puts, it_updates, it_sends, HasApplied, in_update, in_action, callee_takes, HasFault, recurs_nowhere, recurs_before_end, recurs_across, recurs_with_others, operates_on_others, calls_with_others, applies_to_others, applies_impurely, calls_outside, sends_inside, stands_outside, calls_inside, stands_inside, prints_inside, FaultIn, IsBody, body_first, body_later, IsValidator, ValidatorFault, validates_others, validates_impurely, FaultOfValidator}
use Rattle.txs_check.specs.declared.error.CheckError.{CheckError}
use Rattle.txs_check.specs.declared.error.CheckErrorKind.{CheckErrorKind}
use Rattle.txs_check.specs.declared.error.CheckErrorKind.TheVariants.{RecurNotTail, RecurCount, Arity, NotPure, InsideOnly, OutsideOnly}
use Rattle.txs_check.specs.declared.place.Target.{Target}
use Rattle.txs_check.specs.declared.place.Target.TheVariants.{Nowhere, Across, Nearest}
use Rattle.txs_check.specs.declared.place.Zone.{Zone}
use Rattle.txs_check.specs.declared.place.Zone.TheVariants.{InFunction, InFuture, InDosync}
use Rattle.txs_check.specs.Refused.{Checked, fine, ◌>>◌, only, inner, across, recurs, accepts, zoned, called, sent, sent_zoned, placed, formed, here, place_of, turned_in, in_turn, checked, checked_all, checked_do, Body, in_order, Validator, validators_in, validates, Checkable, of_body, of_validator, earlier, together, checked_one, checked_each, room, few, CheckStops}
use Rattle.txs_theorem_language.proofs.Spreads.{InTurn, Spreads, SpreadRow, spreads_order, row_order}

-- ---- one form

-- a refusal has this place
abbrev IsAt : Span → Checked → Type 0
IsAt at (Ok u) = Unit {0}
IsAt at (Err e) = e.at ≡ at

at_then : (at : Span) (a b : Checked) → IsAt at a → IsAt at b → IsAt at (a >> b)
at_then at (Ok u) b p q = q
at_then at (Err e) b p q = p

at_only : (b : Bool) (kind : CheckErrorKind) (at : Span) → IsAt at (only b kind at)
at_only true kind at = tt
at_only false kind at = refl

at_placed : (z : Zone) (s : Standing) (at : Span) → IsAt at (placed z s at)
at_placed InFunction s at = tt
at_placed InFuture Anywhere at = tt
at_placed InFuture Inside at = refl
at_placed InFuture Outside at = tt
at_placed InDosync Anywhere at = tt
at_placed InDosync Inside at = tt
at_placed InDosync Outside at = refl

-- this refuses
abbrev Refuses : Checked → Type 0
Refuses (Ok u) = ⊥
Refuses (Err e) = Unit {0}

first_refuses : (a b : Checked) → Refuses a → Refuses (a >> b)
first_refuses (Ok u) b p = absurd p
first_refuses (Err e) b p = tt

second_refuses : (a b : Checked) → Refuses b → Refuses (a >> b)
second_refuses (Ok u) b p = p
second_refuses (Err e) b p = tt

only_refuses : (b : Bool) (kind : CheckErrorKind) (at : Span) → b ≡ false → Refuses (only b kind at)
only_refuses b kind at is = subst (λ x. Refuses (only x kind at)) (sym is) tt

placed_refuses : (z : Zone) (s : Standing) (at : Span) → z ≡ InFuture → s ≡ Inside → Refuses (placed z s at)
placed_refuses z s at zone is = subst (λ x. Refuses (placed x s at)) (sym zone) (subst (λ x. Refuses (placed InFuture x at)) (sym is) tt)

outside_refuses : (z : Zone) (s : Standing) (at : Span) → z ≡ InDosync → s ≡ Outside → Refuses (placed z s at)
outside_refuses z s at zone is = subst (λ x. Refuses (placed x s at)) (sym zone) (subst (λ x. Refuses (placed InDosync x at)) (sym is) tt)

module _ (ks : List Known) where
  at_zoned : (z : Zone) (o : Option Known) (at : Span) → IsAt at (zoned z o at)
  at_zoned z None at = tt
  at_zoned InFunction (Some k) at = tt
  at_zoned InFuture (Some k) at = at_only (not k.inside) InsideOnly at
  at_zoned InDosync (Some k) at = at_only (not k.outside) OutsideOnly at

  at_called : (c : Callee) (n : ℕ) (at : Span) → IsAt at (called ks c n at)
  at_called (CoreOp op) n at = at_only (takes op n) Arity at
  at_called (Function f) n at = at_then at (only (accepts (nth ks f) n) Arity at) (only (is_pure (nth ks f)) NotPure at) (at_only (accepts (nth ks f) n) Arity at) (at_only (is_pure (nth ks f)) NotPure at)

  at_sent_zoned : (o : Option Known) (at : Span) → IsAt at (sent_zoned o at)
  at_sent_zoned None at = tt
  at_sent_zoned (Some k) at = at_only (not k.inside) InsideOnly at

  at_sent : (c : Callee) (n : ℕ) (at : Span) → IsAt at (sent ks c n at)
  at_sent (CoreOp op) n at = at_only (takes op n) Arity at
  at_sent (Function f) n at = at_then at (only (accepts (nth ks f) n) Arity at) (sent_zoned (nth ks f) at) (at_only (accepts (nth ks f) n) Arity at) (at_sent_zoned (nth ks f) at)

  at_recurs : (t : Target) (n : ℕ) (at : Span) → IsAt at (recurs t n at)
  at_recurs Nowhere n at = refl
  at_recurs Across n at = refl
  at_recurs (Nearest k tail) n at = at_then at (only tail RecurNotTail at) (only (nat_eq k n) RecurCount at) (at_only tail RecurNotTail at) (at_only (nat_eq k n) RecurCount at)

  -- the refusal of a form has its place
  here_at : (z : Zone) (t : Target) (e : Tree) → IsAt (place_of e) (here ks z t e)
  here_at z t (Const v m) = tt
  here_at z t (Local i m) = tt
  here_at z t (If c a b m) = tt
  here_at z t (Do items m) = tt
  here_at z t (Let values body m) = tt
  here_at z t (Loop values body m) = tt
  here_at z t (Recur values m) = at_recurs t (count values) m.span
  here_at z t (Core op args m) = at_only (takes op (count args)) Arity m.span
  here_at z t (Call f args m) = at_then m.span (only (accepts (nth ks f) (count args)) Arity m.span) (zoned z (nth ks f) m.span) (at_only (accepts (nth ks f) (count args)) Arity m.span) (at_zoned z (nth ks f) m.span)
  here_at z t (VectorOf items m) = tt
  here_at z t (Println args m) = at_placed z Outside m.span
  here_at z t (Dosync body m) = tt
  here_at z t (Look form cell m) = at_placed z (rule (form_of.Look form)).stands m.span
  here_at z t (Put form cell value m) = at_placed z (rule (form_of.Put form)).stands m.span
  here_at z t (Update form cell callee args m) = at_then m.span (called ks callee (suc (count args)) m.span) (formed z (form_of.Update form) m.span) (at_called callee (suc (count args)) m.span) (at_placed z (rule (form_of.Update form)).stands m.span)
  here_at z t (Send cell callee args m) = at_then m.span (sent ks callee (suc (count args)) m.span) (formed z form_of.Send m.span) (at_sent callee (suc (count args)) m.span) (at_placed z (rule form_of.Send).stands m.span)

  called_refuses : (callee : Callee) (n : ℕ) (at : Span) → callee_takes ks callee n ≡ false → Refuses (called ks callee n at)
  called_refuses (CoreOp op) n at h = only_refuses (takes op n) Arity at h
  called_refuses (Function f) n at h = first_refuses (only (accepts (nth ks f) n) Arity at) (only (is_pure (nth ks f)) NotPure at) (only_refuses (accepts (nth ks f) n) Arity at h)

  sent_refuses : (callee : Callee) (n : ℕ) (at : Span) → callee_takes ks callee n ≡ false → Refuses (sent ks callee n at)
  sent_refuses (CoreOp op) n at h = only_refuses (takes op n) Arity at h
  sent_refuses (Function f) n at h = first_refuses (only (accepts (nth ks f) n) Arity at) (sent_zoned (nth ks f) at) (only_refuses (accepts (nth ks f) n) Arity at h)

  -- a callee that doesn't take so many arguments has the form refused
  applied_refuses : (z : Zone) (t : Target) (callee : Callee) (n : ℕ) (e : Tree) → HasApplied callee n e → callee_takes ks callee n ≡ false → Refuses (here ks z t e)
  applied_refuses z t callee n _ (in_update f cell _ args m) h =
      first_refuses (called ks callee (suc (count args)) m.span) (formed z (form_of.Update f) m.span) (called_refuses callee (suc (count args)) m.span h)
  applied_refuses z t callee n _ (in_action cell _ args m) h =
      first_refuses (sent ks callee (suc (count args)) m.span) (formed z form_of.Send m.span) (sent_refuses callee (suc (count args)) m.span h)

  sent_inside : (o : Option Known) (k : Known) (at : Span) → o ≡ Some k → k.inside ≡ true → Refuses (sent_zoned o at)
  sent_inside o k at is inside = subst (λ x. Refuses (sent_zoned x at)) (sym is) (only_refuses (not k.inside) InsideOnly at (ap not inside))

  formed_refuses : (z : Zone) (t : Target) (f : CellForm) (e : Tree) → IsForm f e → ((at : Span) → Refuses (formed z f at)) → Refuses (here ks z t e)
  formed_refuses z t f _ (it_looks l cell m) h = h m.span
  formed_refuses z t f _ (it_puts l cell value m) h = h m.span
  formed_refuses z t f _ (it_updates l cell callee args m) h = second_refuses (called ks callee (suc (count args)) m.span) (formed z (form_of.Update l) m.span) (h m.span)
  formed_refuses z t f _ (it_sends cell callee args m) h = second_refuses (sent ks callee (suc (count args)) m.span) (formed z form_of.Send m.span) (h m.span)

  zoned_future : (z : Zone) (o : Option Known) (k : Known) (at : Span) → z ≡ InFuture → o ≡ Some k → k.inside ≡ true → Refuses (zoned z o at)
  zoned_future z o k at zone is inside =
      subst (λ x. Refuses (zoned x o at)) (sym zone) (subst (λ x. Refuses (zoned InFuture x at)) (sym is) (only_refuses (not k.inside) InsideOnly at (ap not inside)))

  zoned_dosync : (z : Zone) (o : Option Known) (k : Known) (at : Span) → z ≡ InDosync → o ≡ Some k → k.outside ≡ true → Refuses (zoned z o at)
  zoned_dosync z o k at zone is outside =
      subst (λ x. Refuses (zoned x o at)) (sym zone) (subst (λ x. Refuses (zoned InDosync x at)) (sym is) (only_refuses (not k.outside) OutsideOnly at (ap not outside)))

  -- a form with a fault is refused
  fault_refuses : (z : Zone) (t : Target) (kind : CheckErrorKind) (e : Tree) → HasFault ks z t kind e → Refuses (here ks z t e)
  fault_refuses z t _ _ (recurs_nowhere values m is) = subst (λ x. Refuses (recurs x (count values) m.span)) (sym is) tt
  fault_refuses z t _ _ (recurs_before_end values m k is) = subst (λ x. Refuses (recurs x (count values) m.span)) (sym is) tt
  fault_refuses z t _ _ (recurs_across values m is) = subst (λ x. Refuses (recurs x (count values) m.span)) (sym is) tt
  fault_refuses z t _ _ (recurs_with_others values m k tail is other) =
      subst (λ x. Refuses (recurs x (count values) m.span)) (sym is)
      (second_refuses (only tail RecurNotTail m.span) (only (nat_eq k (count values)) RecurCount m.span) (only_refuses (nat_eq k (count values)) RecurCount m.span other))
  fault_refuses z t _ _ (operates_on_others op args m h) = only_refuses (takes op (count args)) Arity m.span h
  fault_refuses z t _ _ (calls_with_others f args m h) = first_refuses (only (accepts (nth ks f) (count args)) Arity m.span) (zoned z (nth ks f) m.span) (only_refuses (accepts (nth ks f) (count args)) Arity m.span h)
  fault_refuses z t _ _ (applies_to_others callee n e has h) = applied_refuses z t callee n e has h
  fault_refuses z t _ _ (applies_impurely form cell f args m h) =
      let n = suc (count args) in
      first_refuses (called ks (Function f) n m.span) (formed z (form_of.Update form) m.span)
      (second_refuses (only (accepts (nth ks f) n) Arity m.span) (only (is_pure (nth ks f)) NotPure m.span) (only_refuses (is_pure (nth ks f)) NotPure m.span h))
  fault_refuses z t _ _ (sends_inside cell f args m k is inside) =
      let n = suc (count args) in
      first_refuses (sent ks (Function f) n m.span) (formed z form_of.Send m.span)
      (second_refuses (only (accepts (nth ks f) n) Arity m.span) (sent_zoned (nth ks f) m.span) (sent_inside (nth ks f) k m.span is inside))
  fault_refuses z t _ _ (calls_outside f args m k zone is inside) =
      second_refuses (only (accepts (nth ks f) (count args)) Arity m.span) (zoned z (nth ks f) m.span) (zoned_future z (nth ks f) k m.span zone is inside)
  fault_refuses z t _ _ (stands_outside f e zone it is) = formed_refuses z t f e it (λ at. placed_refuses z (rule f).stands at zone is)
  fault_refuses z t _ _ (calls_inside f args m k zone is outside) =
      second_refuses (only (accepts (nth ks f) (count args)) Arity m.span) (zoned z (nth ks f) m.span) (zoned_dosync z (nth ks f) k m.span zone is outside)
  fault_refuses z t _ _ (stands_inside f e zone it is) = formed_refuses z t f e it (λ at. outside_refuses z (rule f).stands at zone is)
  fault_refuses z t _ _ (prints_inside args m zone) = outside_refuses z Outside m.span zone refl

  -- ---- the first of several

  -- where nothing is refused nothing has a fault, and no fault begins before a refusal, which begins in this stretch
  abbrev First : ℕ → Checked → (ℕ → Type 0) → Type 0
  First hi (Ok u) F = (n : ℕ) → F n → ⊥
  First hi (Err e) F = (e.at.from ≤ hi) × ((n : ℕ) → F n → e.at.from ≤ n)

  -- faults that begin in this stretch, at these offsets, and the first refusal
  pub record Part (lo hi : ℕ) (r : Checked) (F : ℕ → Type 0) : Type 0 where
    pub low : (n : ℕ) → F n → lo ≤ n
    pub told : First hi r F

  then_first : (lo mid hi : ℕ) (a b : Checked) (F G : ℕ → Type 0) → mid ≤ hi → First mid a F → First hi b G → ((n : ℕ) → G n → mid ≤ n) → First hi (a >> b) (λ n. F n ⊎ G n)
  then_first lo mid hi (Err e) b F G le p q low = (omega (arith, le, p.0), λ n h. by n h)
    where
      by : (n : ℕ) → F n ⊎ G n → e.at.from ≤ n
      by n (inl h) = p.1 n h
      by n (inr h) = omega (arith, p.0, low n h)
  then_first lo mid hi (Ok u) (Ok w) F G le p q low = λ n h. by n h
    where
      by : (n : ℕ) → F n ⊎ G n → ⊥
      by n (inl h) = p n h
      by n (inr h) = q n h
  then_first lo mid hi (Ok u) (Err e) F G le p q low = (q.0, λ n h. by n h)
    where
      by : (n : ℕ) → F n ⊎ G n → e.at.from ≤ n
      by n (inl h) = absurd (p n h)
      by n (inr h) = q.1 n h

  then_part : (lo mid hi : ℕ) (a b : Checked) (F G : ℕ → Type 0) → lo ≤ mid → mid ≤ hi → Part lo mid a F → Part mid hi b G → Part lo hi (a >> b) (λ n. F n ⊎ G n)
  then_part lo mid hi a b F G ge le p q = record { low = λ n h. by n h; told = then_first lo mid hi a b F G le p.told q.told q.low }
    where
      by : (n : ℕ) → F n ⊎ G n → lo ≤ n
      by n (inl h) = p.low n h
      by n (inr h) = omega (arith, ge, q.low n h)

  first_maps : (hi : ℕ) (r : Checked) (F G : ℕ → Type 0) → First hi r F → ((n : ℕ) → G n → F n) → First hi r G
  first_maps hi (Ok u) F G p f = λ n h. p n (f n h)
  first_maps hi (Err e) F G p f = (p.0, λ n h. p.1 n (f n h))

  map_part : (lo hi : ℕ) (r : Checked) (F G : ℕ → Type 0) → Part lo hi r F → ((n : ℕ) → G n → F n) → Part lo hi r G
  map_part lo hi r F G p f = record { low = λ n h. p.low n (f n h); told = first_maps hi r F G p.told f }

  -- the form itself has a fault, and begins here
  abbrev Own : Zone → Target → Tree → ℕ → Type 0
  Own z t e n = ((kind : CheckErrorKind) × HasFault ks z t kind e) × (n ≡ (place_of e).from)

  own_part : (z : Zone) (t : Target) (e : Tree) (lo : ℕ) → lo ≤ (place_of e).from → Part lo (place_of e).from (here ks z t e) (Own z t e)
  own_part z t e lo le = record { low = λ n h. omega (arith, le, h.1); told = by (here ks z t e) (here_at z t e) (λ kind f. fault_refuses z t kind e f) }
    where
      by : (r : Checked) → IsAt (place_of e) r → ((kind : CheckErrorKind) → HasFault ks z t kind e → Refuses r) → First (place_of e).from r (Own z t e)
      by (Ok u) at refuses = λ n h. refuses h.0.0 h.0.1
      by (Err error) at refuses = (omega (arith, ap (λ (p : Span). p.from) at), λ n h. omega (arith, ap (λ (p : Span). p.from) at, h.1))

  -- a form that stands in this one has a fault, and begins here
  pub record FaultAt (z : Zone) (t : Target) (e : Tree) (n : ℕ) : Type 0 where
    pub form_zone : Zone
    pub form_target : Target
    pub form : Tree
    pub kind : CheckErrorKind
    pub stands : Stands form_zone form_target form z t e
    pub fault : HasFault ks form_zone form_target kind form
    pub begins : n ≡ (place_of form).from

  abbrev RowFault : Zone → Target → Trees → ℕ → Type 0
  RowFault z t es n = (e : Tree) × IsAmong e es × FaultAt z t e n

  abbrev BlockFault : Zone → Target → Trees → ℕ → Type 0
  BlockFault z t es n = ((e : Tree) × IsLast e es × FaultAt z t e n) ⊎ ((e : Tree) × IsBefore e es × FaultAt z (inner t) e n)

  at_form : (z : Zone) (t : Target) (e : Tree) (n : ℕ) (fz : Zone) (ft : Target) (f : Tree) (kind : CheckErrorKind) → Stands fz ft f z t e → HasFault ks fz ft kind f → n ≡ (place_of f).from → FaultAt z t e n
  at_form z t e n fz ft f kind stands fault is = record { form_zone = fz; form_target = ft; form = f; kind = kind; stands = stands; fault = fault; begins = is }

  stands_const : (z : Zone) (t : Target) (v : Value) (m : Mark) (n : ℕ) (fz : Zone) (ft : Target) (f : Tree) (kind : CheckErrorKind) → Stands fz ft f z t (Const v m) → HasFault ks fz ft kind f → n ≡ (place_of f).from → ⊥
  stands_const z t v m n _ _ _ kind as_whole fault is = absurd (fault_refuses z t kind (Const v m) fault)

  split_const : (z : Zone) (t : Target) (v : Value) (m : Mark) (n : ℕ) → FaultAt z t (Const v m) n → ⊥
  split_const z t v m n h = stands_const z t v m n h.form_zone h.form_target h.form h.kind h.stands h.fault h.begins

  stands_local : (z : Zone) (t : Target) (i : ℕ) (m : Mark) (n : ℕ) (fz : Zone) (ft : Target) (f : Tree) (kind : CheckErrorKind) → Stands fz ft f z t (Local i m) → HasFault ks fz ft kind f → n ≡ (place_of f).from → ⊥
  stands_local z t i m n _ _ _ kind as_whole fault is = absurd (fault_refuses z t kind (Local i m) fault)

  split_local : (z : Zone) (t : Target) (i : ℕ) (m : Mark) (n : ℕ) → FaultAt z t (Local i m) n → ⊥
  split_local z t i m n h = stands_local z t i m n h.form_zone h.form_target h.form h.kind h.stands h.fault h.begins

  stands_if : (z : Zone) (t : Target) (c a b : Tree) (m : Mark) (n : ℕ) (fz : Zone) (ft : Target) (f : Tree) (kind : CheckErrorKind) → Stands fz ft f z t (If c a b m) → HasFault ks fz ft kind f → n ≡ (place_of f).from → FaultAt z (inner t) c n ⊎ (FaultAt z t a n ⊎ FaultAt z t b n)
  stands_if z t c a b m n _ _ _ kind as_whole fault is = absurd (fault_refuses z t kind (If c a b m) fault)
  stands_if z t c a b m n fz ft f kind (in_test _ _ _ _ _ _ s) fault is = inl (at_form z (inner t) c n fz ft f kind s fault is)
  stands_if z t c a b m n fz ft f kind (in_first _ _ _ _ _ _ s) fault is = inr (inl (at_form z t a n fz ft f kind s fault is))
  stands_if z t c a b m n fz ft f kind (in_second _ _ _ _ _ _ s) fault is = inr (inr (at_form z t b n fz ft f kind s fault is))

  split_if : (z : Zone) (t : Target) (c a b : Tree) (m : Mark) (n : ℕ) → FaultAt z t (If c a b m) n → FaultAt z (inner t) c n ⊎ (FaultAt z t a n ⊎ FaultAt z t b n)
  split_if z t c a b m n h = stands_if z t c a b m n h.form_zone h.form_target h.form h.kind h.stands h.fault h.begins

  stands_do : (z : Zone) (t : Target) (items : Trees) (m : Mark) (n : ℕ) (fz : Zone) (ft : Target) (f : Tree) (kind : CheckErrorKind) → Stands fz ft f z t (Do items m) → HasFault ks fz ft kind f → n ≡ (place_of f).from → BlockFault z t items n
  stands_do z t items m n _ _ _ kind as_whole fault is = absurd (fault_refuses z t kind (Do items m) fault)
  stands_do z t items m n fz ft f kind (in_block _ _ _ _ e among s) fault is = inr (e, among, at_form z (inner t) e n fz ft f kind s fault is)
  stands_do z t items m n fz ft f kind (in_last _ _ _ _ e among s) fault is = inl (e, among, at_form z t e n fz ft f kind s fault is)

  split_do : (z : Zone) (t : Target) (items : Trees) (m : Mark) (n : ℕ) → FaultAt z t (Do items m) n → BlockFault z t items n
  split_do z t items m n h = stands_do z t items m n h.form_zone h.form_target h.form h.kind h.stands h.fault h.begins

  stands_let : (z : Zone) (t : Target) (values : Trees) (body : Tree) (m : Mark) (n : ℕ) (fz : Zone) (ft : Target) (f : Tree) (kind : CheckErrorKind) → Stands fz ft f z t (Let values body m) → HasFault ks fz ft kind f → n ≡ (place_of f).from → RowFault z (inner t) values n ⊎ FaultAt z t body n
  stands_let z t values body m n _ _ _ kind as_whole fault is = absurd (fault_refuses z t kind (Let values body m) fault)
  stands_let z t values body m n fz ft f kind (in_bound _ _ _ _ _ e among s) fault is = inl (e, among, at_form z (inner t) e n fz ft f kind s fault is)
  stands_let z t values body m n fz ft f kind (in_let _ _ _ _ _ s) fault is = inr (at_form z t body n fz ft f kind s fault is)

  split_let : (z : Zone) (t : Target) (values : Trees) (body : Tree) (m : Mark) (n : ℕ) → FaultAt z t (Let values body m) n → RowFault z (inner t) values n ⊎ FaultAt z t body n
  split_let z t values body m n h = stands_let z t values body m n h.form_zone h.form_target h.form h.kind h.stands h.fault h.begins

  stands_loop : (z : Zone) (t : Target) (values : Trees) (body : Tree) (m : Mark) (n : ℕ) (fz : Zone) (ft : Target) (f : Tree) (kind : CheckErrorKind) → Stands fz ft f z t (Loop values body m) → HasFault ks fz ft kind f → n ≡ (place_of f).from → RowFault z (inner t) values n ⊎ FaultAt z (Nearest (count values) true) body n
  stands_loop z t values body m n _ _ _ kind as_whole fault is = absurd (fault_refuses z t kind (Loop values body m) fault)
  stands_loop z t values body m n fz ft f kind (in_start _ _ _ _ _ e among s) fault is = inl (e, among, at_form z (inner t) e n fz ft f kind s fault is)
  stands_loop z t values body m n fz ft f kind (in_loop _ _ _ _ _ s) fault is = inr (at_form z (Nearest (count values) true) body n fz ft f kind s fault is)

  split_loop : (z : Zone) (t : Target) (values : Trees) (body : Tree) (m : Mark) (n : ℕ) → FaultAt z t (Loop values body m) n → RowFault z (inner t) values n ⊎ FaultAt z (Nearest (count values) true) body n
  split_loop z t values body m n h = stands_loop z t values body m n h.form_zone h.form_target h.form h.kind h.stands h.fault h.begins

  stands_recur : (z : Zone) (t : Target) (values : Trees) (m : Mark) (n : ℕ) (fz : Zone) (ft : Target) (f : Tree) (kind : CheckErrorKind) → Stands fz ft f z t (Recur values m) → HasFault ks fz ft kind f → n ≡ (place_of f).from → Own z t (Recur values m) n ⊎ RowFault z (inner t) values n
  stands_recur z t values m n _ _ _ kind as_whole fault is = inl ((kind, fault), is)
  stands_recur z t values m n fz ft f kind (in_recur _ _ _ _ e among s) fault is = inr (e, among, at_form z (inner t) e n fz ft f kind s fault is)

  split_recur : (z : Zone) (t : Target) (values : Trees) (m : Mark) (n : ℕ) → FaultAt z t (Recur values m) n → Own z t (Recur values m) n ⊎ RowFault z (inner t) values n
  split_recur z t values m n h = stands_recur z t values m n h.form_zone h.form_target h.form h.kind h.stands h.fault h.begins

  stands_core : (z : Zone) (t : Target) (op : Op) (args : Trees) (m : Mark) (n : ℕ) (fz : Zone) (ft : Target) (f : Tree) (kind : CheckErrorKind) → Stands fz ft f z t (Core op args m) → HasFault ks fz ft kind f → n ≡ (place_of f).from → Own z t (Core op args m) n ⊎ RowFault z (inner t) args n
  stands_core z t op args m n _ _ _ kind as_whole fault is = inl ((kind, fault), is)
  stands_core z t op args m n fz ft f kind (in_operation _ _ _ _ _ e among s) fault is = inr (e, among, at_form z (inner t) e n fz ft f kind s fault is)

  split_core : (z : Zone) (t : Target) (op : Op) (args : Trees) (m : Mark) (n : ℕ) → FaultAt z t (Core op args m) n → Own z t (Core op args m) n ⊎ RowFault z (inner t) args n
  split_core z t op args m n h = stands_core z t op args m n h.form_zone h.form_target h.form h.kind h.stands h.fault h.begins

  stands_call : (z : Zone) (t : Target) (g : ℕ) (args : Trees) (m : Mark) (n : ℕ) (fz : Zone) (ft : Target) (f : Tree) (kind : CheckErrorKind) → Stands fz ft f z t (Call g args m) → HasFault ks fz ft kind f → n ≡ (place_of f).from → Own z t (Call g args m) n ⊎ RowFault z (inner t) args n
  stands_call z t g args m n _ _ _ kind as_whole fault is = inl ((kind, fault), is)
  stands_call z t g args m n fz ft f kind (in_call _ _ _ _ _ e among s) fault is = inr (e, among, at_form z (inner t) e n fz ft f kind s fault is)

  split_call : (z : Zone) (t : Target) (g : ℕ) (args : Trees) (m : Mark) (n : ℕ) → FaultAt z t (Call g args m) n → Own z t (Call g args m) n ⊎ RowFault z (inner t) args n
  split_call z t g args m n h = stands_call z t g args m n h.form_zone h.form_target h.form h.kind h.stands h.fault h.begins

  stands_vector : (z : Zone) (t : Target) (items : Trees) (m : Mark) (n : ℕ) (fz : Zone) (ft : Target) (f : Tree) (kind : CheckErrorKind) → Stands fz ft f z t (VectorOf items m) → HasFault ks fz ft kind f → n ≡ (place_of f).from → Own z t (VectorOf items m) n ⊎ RowFault z (inner t) items n
  stands_vector z t items m n _ _ _ kind as_whole fault is = inl ((kind, fault), is)
  stands_vector z t items m n fz ft f kind (in_vector _ _ _ _ e among s) fault is = inr (e, among, at_form z (inner t) e n fz ft f kind s fault is)

  split_vector : (z : Zone) (t : Target) (items : Trees) (m : Mark) (n : ℕ) → FaultAt z t (VectorOf items m) n → Own z t (VectorOf items m) n ⊎ RowFault z (inner t) items n
  split_vector z t items m n h = stands_vector z t items m n h.form_zone h.form_target h.form h.kind h.stands h.fault h.begins

  stands_line : (z : Zone) (t : Target) (args : Trees) (m : Mark) (n : ℕ) (fz : Zone) (ft : Target) (f : Tree) (kind : CheckErrorKind) → Stands fz ft f z t (Println args m) → HasFault ks fz ft kind f → n ≡ (place_of f).from → Own z t (Println args m) n ⊎ RowFault z (inner t) args n
  stands_line z t args m n _ _ _ kind as_whole fault is = inl ((kind, fault), is)
  stands_line z t args m n fz ft f kind (in_line _ _ _ _ e among s) fault is = inr (e, among, at_form z (inner t) e n fz ft f kind s fault is)

  split_line : (z : Zone) (t : Target) (args : Trees) (m : Mark) (n : ℕ) → FaultAt z t (Println args m) n → Own z t (Println args m) n ⊎ RowFault z (inner t) args n
  split_line z t args m n h = stands_line z t args m n h.form_zone h.form_target h.form h.kind h.stands h.fault h.begins

  stands_dosync : (z : Zone) (t : Target) (body : Tree) (m : Mark) (n : ℕ) (fz : Zone) (ft : Target) (f : Tree) (kind : CheckErrorKind) → Stands fz ft f z t (Dosync body m) → HasFault ks fz ft kind f → n ≡ (place_of f).from → Own z t (Dosync body m) n ⊎ FaultAt InDosync (across t) body n
  stands_dosync z t body m n _ _ _ kind as_whole fault is = inl ((kind, fault), is)
  stands_dosync z t body m n fz ft f kind (in_transaction _ _ _ _ s) fault is = inr (at_form InDosync (across t) body n fz ft f kind s fault is)

  split_dosync : (z : Zone) (t : Target) (body : Tree) (m : Mark) (n : ℕ) → FaultAt z t (Dosync body m) n → Own z t (Dosync body m) n ⊎ FaultAt InDosync (across t) body n
  split_dosync z t body m n h = stands_dosync z t body m n h.form_zone h.form_target h.form h.kind h.stands h.fault h.begins

  stands_look : (z : Zone) (t : Target) (form : LookForm) (cell : Tree) (m : Mark) (n : ℕ) (fz : Zone) (ft : Target) (f : Tree) (kind : CheckErrorKind) → Stands fz ft f z t (Look form cell m) → HasFault ks fz ft kind f → n ≡ (place_of f).from → Own z t (Look form cell m) n ⊎ FaultAt z (inner t) cell n
  stands_look z t form cell m n _ _ _ kind as_whole fault is = inl ((kind, fault), is)
  stands_look z t form cell m n fz ft f kind (in_looked _ _ _ _ _ s) fault is = inr (at_form z (inner t) cell n fz ft f kind s fault is)

  split_look : (z : Zone) (t : Target) (form : LookForm) (cell : Tree) (m : Mark) (n : ℕ) → FaultAt z t (Look form cell m) n → Own z t (Look form cell m) n ⊎ FaultAt z (inner t) cell n
  split_look z t form cell m n h = stands_look z t form cell m n h.form_zone h.form_target h.form h.kind h.stands h.fault h.begins

  stands_put : (z : Zone) (t : Target) (form : PutForm) (cell value : Tree) (m : Mark) (n : ℕ) (fz : Zone) (ft : Target) (f : Tree) (kind : CheckErrorKind) → Stands fz ft f z t (Put form cell value m) → HasFault ks fz ft kind f → n ≡ (place_of f).from → Own z t (Put form cell value m) n ⊎ (FaultAt z (inner t) cell n ⊎ FaultAt z (inner t) value n)
  stands_put z t form cell value m n _ _ _ kind as_whole fault is = inl ((kind, fault), is)
  stands_put z t form cell value m n fz ft f kind (in_filled _ _ _ _ _ _ s) fault is = inr (inl (at_form z (inner t) cell n fz ft f kind s fault is))
  stands_put z t form cell value m n fz ft f kind (in_value _ _ _ _ _ _ s) fault is = inr (inr (at_form z (inner t) value n fz ft f kind s fault is))

  split_put : (z : Zone) (t : Target) (form : PutForm) (cell value : Tree) (m : Mark) (n : ℕ) → FaultAt z t (Put form cell value m) n → Own z t (Put form cell value m) n ⊎ (FaultAt z (inner t) cell n ⊎ FaultAt z (inner t) value n)
  split_put z t form cell value m n h = stands_put z t form cell value m n h.form_zone h.form_target h.form h.kind h.stands h.fault h.begins

  stands_update : (z : Zone) (t : Target) (form : UpdateForm) (cell : Tree) (callee : Callee) (args : Trees) (m : Mark) (n : ℕ) (fz : Zone) (ft : Target) (f : Tree) (kind : CheckErrorKind) → Stands fz ft f z t (Update form cell callee args m) → HasFault ks fz ft kind f → n ≡ (place_of f).from → Own z t (Update form cell callee args m) n ⊎ (FaultAt z (inner t) cell n ⊎ RowFault z (inner t) args n)
  stands_update z t form cell callee args m n _ _ _ kind as_whole fault is = inl ((kind, fault), is)
  stands_update z t form cell callee args m n fz ft f kind (in_updated _ _ _ _ _ _ _ s) fault is = inr (inl (at_form z (inner t) cell n fz ft f kind s fault is))
  stands_update z t form cell callee args m n fz ft f kind (in_further _ _ _ _ _ _ _ e among s) fault is = inr (inr (e, among, at_form z (inner t) e n fz ft f kind s fault is))

  split_update : (z : Zone) (t : Target) (form : UpdateForm) (cell : Tree) (callee : Callee) (args : Trees) (m : Mark) (n : ℕ) → FaultAt z t (Update form cell callee args m) n → Own z t (Update form cell callee args m) n ⊎ (FaultAt z (inner t) cell n ⊎ RowFault z (inner t) args n)
  split_update z t form cell callee args m n h = stands_update z t form cell callee args m n h.form_zone h.form_target h.form h.kind h.stands h.fault h.begins

  stands_send : (z : Zone) (t : Target) (cell : Tree) (callee : Callee) (args : Trees) (m : Mark) (n : ℕ) (fz : Zone) (ft : Target) (f : Tree) (kind : CheckErrorKind) → Stands fz ft f z t (Send cell callee args m) → HasFault ks fz ft kind f → n ≡ (place_of f).from → Own z t (Send cell callee args m) n ⊎ (FaultAt z (inner t) cell n ⊎ RowFault z (inner t) args n)
  stands_send z t cell callee args m n _ _ _ kind as_whole fault is = inl ((kind, fault), is)
  stands_send z t cell callee args m n fz ft f kind (in_agent _ _ _ _ _ _ s) fault is = inr (inl (at_form z (inner t) cell n fz ft f kind s fault is))
  stands_send z t cell callee args m n fz ft f kind (in_sent _ _ _ _ _ _ e among s) fault is = inr (inr (e, among, at_form z (inner t) e n fz ft f kind s fault is))

  split_send : (z : Zone) (t : Target) (cell : Tree) (callee : Callee) (args : Trees) (m : Mark) (n : ℕ) → FaultAt z t (Send cell callee args m) n → Own z t (Send cell callee args m) n ⊎ (FaultAt z (inner t) cell n ⊎ RowFault z (inner t) args n)
  split_send z t cell callee args m n h = stands_send z t cell callee args m n h.form_zone h.form_target h.form h.kind h.stands h.fault h.begins

  row_split : (z : Zone) (t : Target) (e : Tree) (rest : Trees) (n : ℕ) (g : Tree) → IsAmong g (more e rest) → FaultAt z t g n → FaultAt z t e n ⊎ RowFault z t rest n
  row_split z t e rest n _ (is_first _) h = inl h
  row_split z t e rest n g (is_later _ _ among) h = inr (g, among, h)

  none_among : (z : Zone) (t : Target) (n : ℕ) (g : Tree) → IsAmong g none → ⊥
  none_among z t n g is = elim is [ ]

  only_last : (e g : Tree) → IsLast g (more e none) → g ≡ e
  only_last e _ is_only = refl
  only_last e g (is_behind _ _ k) = elim k [ ]

  no_last : (g : Tree) → IsLast g none → ⊥
  no_last g is = elim is [ ]

  none_before : (g : Tree) → IsBefore g none → ⊥
  none_before g is = elim is [ ]

  not_before : (e g : Tree) → IsBefore g (more e none) → ⊥
  not_before e g (is_then _ _ k) = elim k [ ]

  block_split : (z : Zone) (t : Target) (e f : Tree) (rest : Trees) (n : ℕ) → BlockFault z t (more e (more f rest)) n → FaultAt z (inner t) e n ⊎ BlockFault z t (more f rest) n
  block_split z t e f rest n (inl h) = inr (inl (h.0, last h.0 h.1, h.2))
    where
      last : (g : Tree) → IsLast g (more e (more f rest)) → IsLast g (more f rest)
      last g (is_behind _ _ k) = k
  block_split z t e f rest n (inr h) = by h.0 h.1 h.2
    where
      by : (g : Tree) → IsBefore g (more e (more f rest)) → FaultAt z (inner t) g n → FaultAt z (inner t) e n ⊎ BlockFault z t (more f rest) n
      by _ (is_now _ _) k = inl k
      by g (is_then _ _ before) k = inr (inr (g, before, k))

  lone_split : (z : Zone) (t : Target) (e : Tree) (n : ℕ) → BlockFault z t (more e none) n → FaultAt z t e n
  lone_split z t e n (inl h) = subst (λ g. FaultAt z t g n) (only_last e h.0 h.1) h.2
  lone_split z t e n (inr h) = absurd (not_before e h.0 h.1)

  -- nothing is refused, and nothing has a fault
  no_part : (lo hi : ℕ) (F : ℕ → Type 0) → ((n : ℕ) → F n → ⊥) → Part lo hi fine F
  no_part lo hi F f = record { low = λ n h. absurd (f n h); told = f }

  swap : (A B : Type 0) → A ⊎ B → B ⊎ A
  swap A B (inl a) = inr a
  swap A B (inr b) = inl b

  later : (hi mid : ℕ) (r : Checked) (F : ℕ → Type 0) → mid ≤ hi → First mid r F → First hi r F
  later hi mid (Ok u) F le h = h
  later hi mid (Err e) F le h = (omega (arith, le, h.0), h.1)

  branch_order : (z : Zone) (t : Target) (a b : Tree) (n k hi : ℕ) (turn : Bool) → InTurn turn (Spreads n k a × Spreads k hi b) (Spreads n k b × Spreads k hi a) → n ≤ hi
  branch_order z t a b n k hi false h = omega (arith, spreads_order n k a h.0, spreads_order k hi b h.1)
  branch_order z t a b n k hi true h = omega (arith, spreads_order n k b h.0, spreads_order k hi a h.1)

  branches_part : (z : Zone) (t : Target) (a b : Tree) → ((x y : ℕ) → Spreads x y a → Part x y (checked ks z t a) (FaultAt z t a)) → ((x y : ℕ) → Spreads x y b → Part x y (checked ks z t b) (FaultAt z t b))
      → (n k hi : ℕ) (turn : Bool) → InTurn turn (Spreads n k a × Spreads k hi b) (Spreads n k b × Spreads k hi a)
      → Part n hi (in_turn turn (checked ks z t a) (checked ks z t b)) (λ i. FaultAt z t a i ⊎ FaultAt z t b i)
  branches_part z t a b f g n k hi false h =
      then_part n k hi (checked ks z t a) (checked ks z t b) (FaultAt z t a) (FaultAt z t b) (spreads_order n k a h.0) (spreads_order k hi b h.1) (f n k h.0) (g k hi h.1)
  branches_part z t a b f g n k hi true h =
      map_part n hi (checked ks z t b >> checked ks z t a) (λ i. FaultAt z t b i ⊎ FaultAt z t a i) (λ i. FaultAt z t a i ⊎ FaultAt z t b i)
      (then_part n k hi (checked ks z t b) (checked ks z t a) (FaultAt z t b) (FaultAt z t a) (spreads_order n k b h.0) (spreads_order k hi a h.1) (g n k h.0) (f k hi h.1))
      (λ i e. swap (FaultAt z t a i) (FaultAt z t b i) e)

  mutual
    pub part_of : (z : Zone) (t : Target) (e : Tree) (lo hi : ℕ) → Spreads lo hi e → Part lo hi (checked ks z t e) (FaultAt z t e)
    part_of z t (Const v m) lo hi h = no_part lo hi (FaultAt z t (Const v m)) (λ n k. split_const z t v m n k)
    part_of z t (Local i m) lo hi h = no_part lo hi (FaultAt z t (Local i m)) (λ n k. split_local z t i m n k)
    part_of z t (If c a b m) lo hi h =
        let F = FaultAt z (inner t) c in
        let G : ℕ → Type 0 = λ n. FaultAt z t a n ⊎ FaultAt z t b n in
        map_part lo hi (checked ks z (inner t) c >> in_turn (turned_in m a b) (checked ks z t a) (checked ks z t b)) (λ n. F n ⊎ G n) (FaultAt z t (If c a b m))
        (then_part lo h.0 hi (checked ks z (inner t) c) (in_turn (turned_in m a b) (checked ks z t a) (checked ks z t b)) F G
        (spreads_order lo h.0 c h.1) (branch_order z t a b h.0 h.2 hi (turned_in m a b) h.3)
        (part_of z (inner t) c lo h.0 h.1) (branches_part z t a b (λ x y k. part_of z t a x y k) (λ x y k. part_of z t b x y k) h.0 h.2 hi (turned_in m a b) h.3))
        (λ n k. split_if z t c a b m n k)
    part_of z t (Do items m) lo hi h =
        map_part lo hi (checked_do ks z t items) (BlockFault z t items) (FaultAt z t (Do items m)) (part_do z t items lo hi h) (λ n k. split_do z t items m n k)
    part_of z t (Let values body m) lo hi h =
        map_part lo hi (checked_all ks z (inner t) values >> checked ks z t body) (λ n. RowFault z (inner t) values n ⊎ FaultAt z t body n) (FaultAt z t (Let values body m))
        (then_part lo h.0 hi (checked_all ks z (inner t) values) (checked ks z t body) (RowFault z (inner t) values) (FaultAt z t body)
        (row_order lo h.0 values h.1) (spreads_order h.0 hi body h.2) (part_all z (inner t) values lo h.0 h.1) (part_of z t body h.0 hi h.2))
        (λ n k. split_let z t values body m n k)
    part_of z t (Loop values body m) lo hi h =
        let near = Nearest (count values) true in
        map_part lo hi (checked_all ks z (inner t) values >> checked ks z near body) (λ n. RowFault z (inner t) values n ⊎ FaultAt z near body n) (FaultAt z t (Loop values body m))
        (then_part lo h.0 hi (checked_all ks z (inner t) values) (checked ks z near body) (RowFault z (inner t) values) (FaultAt z near body)
        (row_order lo h.0 values h.1) (spreads_order h.0 hi body h.2) (part_all z (inner t) values lo h.0 h.1) (part_of z near body h.0 hi h.2))
        (λ n k. split_loop z t values body m n k)
    part_of z t (Recur values m) lo hi h =
        let e = Recur values m in
        map_part lo hi (here ks z t e >> checked_all ks z (inner t) values) (λ n. Own z t e n ⊎ RowFault z (inner t) values n) (FaultAt z t e)
        (then_part lo m.span.from hi (here ks z t e) (checked_all ks z (inner t) values) (Own z t e) (RowFault z (inner t) values)
        h.0 (row_order m.span.from hi values h.1) (own_part z t e lo h.0) (part_all z (inner t) values m.span.from hi h.1))
        (λ n k. split_recur z t values m n k)
    part_of z t (Core op args m) lo hi h =
        let e = Core op args m in
        map_part lo hi (here ks z t e >> checked_all ks z (inner t) args) (λ n. Own z t e n ⊎ RowFault z (inner t) args n) (FaultAt z t e)
        (then_part lo m.span.from hi (here ks z t e) (checked_all ks z (inner t) args) (Own z t e) (RowFault z (inner t) args)
        h.0 (row_order m.span.from hi args h.1) (own_part z t e lo h.0) (part_all z (inner t) args m.span.from hi h.1))
        (λ n k. split_core z t op args m n k)
    part_of z t (Call g args m) lo hi h =
        let e = Call g args m in
        map_part lo hi (here ks z t e >> checked_all ks z (inner t) args) (λ n. Own z t e n ⊎ RowFault z (inner t) args n) (FaultAt z t e)
        (then_part lo m.span.from hi (here ks z t e) (checked_all ks z (inner t) args) (Own z t e) (RowFault z (inner t) args)
        h.0 (row_order m.span.from hi args h.1) (own_part z t e lo h.0) (part_all z (inner t) args m.span.from hi h.1))
        (λ n k. split_call z t g args m n k)
    part_of z t (VectorOf items m) lo hi h =
        let e = VectorOf items m in
        map_part lo hi (here ks z t e >> checked_all ks z (inner t) items) (λ n. Own z t e n ⊎ RowFault z (inner t) items n) (FaultAt z t e)
        (then_part lo m.span.from hi (here ks z t e) (checked_all ks z (inner t) items) (Own z t e) (RowFault z (inner t) items)
        h.0 (row_order m.span.from hi items h.1) (own_part z t e lo h.0) (part_all z (inner t) items m.span.from hi h.1))
        (λ n k. split_vector z t items m n k)
    part_of z t (Println args m) lo hi h =
        let e = Println args m in
        map_part lo hi (here ks z t e >> checked_all ks z (inner t) args) (λ n. Own z t e n ⊎ RowFault z (inner t) args n) (FaultAt z t e)
        (then_part lo m.span.from hi (here ks z t e) (checked_all ks z (inner t) args) (Own z t e) (RowFault z (inner t) args)
        h.0 (row_order m.span.from hi args h.1) (own_part z t e lo h.0) (part_all z (inner t) args m.span.from hi h.1))
        (λ n k. split_line z t args m n k)
    part_of z t (Dosync body m) lo hi h =
        let e = Dosync body m in
        let p = part_of InDosync (across t) body h.1 hi h.3 in
        map_part lo hi (here ks z t e >> checked ks InDosync (across t) body) (λ n. Own z t e n ⊎ FaultAt InDosync (across t) body n) (FaultAt z t e)
        (then_part lo m.span.from hi (here ks z t e) (checked ks InDosync (across t) body) (Own z t e) (FaultAt InDosync (across t) body)
        h.0 (omega (arith, h.2, spreads_order h.1 hi body h.3)) (own_part z t e lo h.0) (record { low = λ n k. omega (arith, h.2, p.low n k); told = p.told }))
        (λ n k. split_dosync z t body m n k)
    part_of z t (Look form cell m) lo hi h =
        let e = Look form cell m in
        let p = part_of z (inner t) cell h.1 hi h.3 in
        map_part lo hi (here ks z t e >> checked ks z (inner t) cell) (λ n. Own z t e n ⊎ FaultAt z (inner t) cell n) (FaultAt z t e)
        (then_part lo m.span.from hi (here ks z t e) (checked ks z (inner t) cell) (Own z t e) (FaultAt z (inner t) cell)
        h.0 (omega (arith, h.2, spreads_order h.1 hi cell h.3)) (own_part z t e lo h.0) (record { low = λ n k. omega (arith, h.2, p.low n k); told = p.told }))
        (λ n k. split_look z t form cell m n k)
    part_of z t (Put form cell value m) lo hi h =
        let e = Put form cell value m in
        let F = FaultAt z (inner t) cell in
        let G = FaultAt z (inner t) value in
        map_part lo hi (here ks z t e >> (checked ks z (inner t) cell >> checked ks z (inner t) value)) (λ n. Own z t e n ⊎ (F n ⊎ G n)) (FaultAt z t e)
        (then_part lo m.span.from hi (here ks z t e) (checked ks z (inner t) cell >> checked ks z (inner t) value) (Own z t e) (λ n. F n ⊎ G n)
        h.0 (omega (arith, spreads_order m.span.from h.1 cell h.2, spreads_order h.1 hi value h.3)) (own_part z t e lo h.0)
        (then_part m.span.from h.1 hi (checked ks z (inner t) cell) (checked ks z (inner t) value) F G
        (spreads_order m.span.from h.1 cell h.2) (spreads_order h.1 hi value h.3) (part_of z (inner t) cell m.span.from h.1 h.2) (part_of z (inner t) value h.1 hi h.3)))
        (λ n k. split_put z t form cell value m n k)
    part_of z t (Update form cell callee args m) lo hi h =
        let e = Update form cell callee args m in
        let F = FaultAt z (inner t) cell in
        let G = RowFault z (inner t) args in
        map_part lo hi (here ks z t e >> (checked ks z (inner t) cell >> checked_all ks z (inner t) args)) (λ n. Own z t e n ⊎ (F n ⊎ G n)) (FaultAt z t e)
        (then_part lo m.span.from hi (here ks z t e) (checked ks z (inner t) cell >> checked_all ks z (inner t) args) (Own z t e) (λ n. F n ⊎ G n)
        h.0 (omega (arith, spreads_order m.span.from h.1 cell h.2, row_order h.1 hi args h.3)) (own_part z t e lo h.0)
        (then_part m.span.from h.1 hi (checked ks z (inner t) cell) (checked_all ks z (inner t) args) F G
        (spreads_order m.span.from h.1 cell h.2) (row_order h.1 hi args h.3) (part_of z (inner t) cell m.span.from h.1 h.2) (part_all z (inner t) args h.1 hi h.3)))
        (λ n k. split_update z t form cell callee args m n k)
    part_of z t (Send cell callee args m) lo hi h =
        let e = Send cell callee args m in
        let F = FaultAt z (inner t) cell in
        let G = RowFault z (inner t) args in
        map_part lo hi (here ks z t e >> (checked ks z (inner t) cell >> checked_all ks z (inner t) args)) (λ n. Own z t e n ⊎ (F n ⊎ G n)) (FaultAt z t e)
        (then_part lo m.span.from hi (here ks z t e) (checked ks z (inner t) cell >> checked_all ks z (inner t) args) (Own z t e) (λ n. F n ⊎ G n)
        h.0 (omega (arith, spreads_order m.span.from h.1 cell h.2, row_order h.1 hi args h.3)) (own_part z t e lo h.0)
        (then_part m.span.from h.1 hi (checked ks z (inner t) cell) (checked_all ks z (inner t) args) F G
        (spreads_order m.span.from h.1 cell h.2) (row_order h.1 hi args h.3) (part_of z (inner t) cell m.span.from h.1 h.2) (part_all z (inner t) args h.1 hi h.3)))
        (λ n k. split_send z t cell callee args m n k)

    part_all : (z : Zone) (t : Target) (es : Trees) (lo hi : ℕ) → SpreadRow lo hi es → Part lo hi (checked_all ks z t es) (RowFault z t es)
    part_all z t none lo hi h = no_part lo hi (RowFault z t none) (λ n k. none_among z t n k.0 k.1)
    part_all z t (more e rest) lo hi h =
        map_part lo hi (checked ks z t e >> checked_all ks z t rest) (λ n. FaultAt z t e n ⊎ RowFault z t rest n) (RowFault z t (more e rest))
        (then_part lo h.0 hi (checked ks z t e) (checked_all ks z t rest) (FaultAt z t e) (RowFault z t rest)
        (spreads_order lo h.0 e h.1) (row_order h.0 hi rest h.2) (part_of z t e lo h.0 h.1) (part_all z t rest h.0 hi h.2))
        (λ n k. row_split z t e rest n k.0 k.1 k.2)

    part_do : (z : Zone) (t : Target) (es : Trees) (lo hi : ℕ) → SpreadRow lo hi es → Part lo hi (checked_do ks z t es) (BlockFault z t es)
    part_do z t none lo hi h = no_part lo hi (BlockFault z t none) (λ n k. no_block n k)
      where
        no_block : (n : ℕ) → BlockFault z t none n → ⊥
        no_block n (inl h) = no_last h.0 h.1
        no_block n (inr h) = none_before h.0 h.1
    part_do z t (more e none) lo hi h =
        let p = part_of z t e lo h.0 h.1 in
        map_part lo hi (checked ks z t e) (FaultAt z t e) (BlockFault z t (more e none)) (record { low = p.low; told = later hi h.0 (checked ks z t e) (FaultAt z t e) h.2 p.told }) (λ n k. lone_split z t e n k)
    part_do z t (more e (more f rest)) lo hi h =
        map_part lo hi (checked ks z (inner t) e >> checked_do ks z t (more f rest)) (λ n. FaultAt z (inner t) e n ⊎ BlockFault z t (more f rest) n) (BlockFault z t (more e (more f rest)))
        (then_part lo h.0 hi (checked ks z (inner t) e) (checked_do ks z t (more f rest)) (FaultAt z (inner t) e) (BlockFault z t (more f rest))
        (spreads_order lo h.0 e h.1) (row_order h.0 hi (more f rest) h.2) (part_of z (inner t) e lo h.0 h.1) (part_do z t (more f rest) h.0 hi h.2))
        (λ n k. block_split z t e f rest n k)

-- ---- bodies and validators

-- bodies and validators whose forms begin in this stretch, one behind the other
abbrev pub EachLies : ℕ → ℕ → List Checkable → Type 0
EachLies lo hi [] = lo ≤ hi
EachLies lo hi (of_body b ∷ cs) = (n : ℕ) × Spreads lo n b.tree × EachLies n hi cs
EachLies lo hi (of_validator v ∷ cs) = (lo ≤ v.span.from) × EachLies v.span.from hi cs

each_order : (lo hi : ℕ) (cs : List Checkable) → EachLies lo hi cs → lo ≤ hi
each_order lo hi [] h = h
each_order lo hi (of_body b ∷ cs) h = omega (arith, spreads_order lo h.0 b.tree h.1, each_order h.0 hi cs h.2)
each_order lo hi (of_validator v ∷ cs) h = omega (arith, h.0, each_order v.span.from hi cs h.1)

module _ (ks : List Known) where
  -- a validator has a fault, and begins here
  abbrev OwnValidator : Validator → ℕ → Type 0
  OwnValidator v n = ((callee : Callee) × (kind : CheckErrorKind) × (v.callee ≡ Some callee) × ValidatorFault ks callee kind) × (n ≡ v.span.from)

  validates_at : (o : Option Callee) (at : Span) → IsAt at (validates ks o at)
  validates_at None at = tt
  validates_at (Some callee) at = at_called ks callee 1 at

  validator_refuses : (callee : Callee) (kind : CheckErrorKind) → ValidatorFault ks callee kind → (at : Span) → Refuses (called ks callee 1 at)
  validator_refuses callee _ (validates_others h) at = called_refuses ks callee 1 at h
  validator_refuses callee _ (validates_impurely f is h) at =
      subst (λ x. Refuses (called ks x 1 at)) (sym is) (second_refuses (only (accepts (nth ks f) 1) Arity at) (only (is_pure (nth ks f)) NotPure at) (only_refuses (is_pure (nth ks f)) NotPure at h))

  validator_part : (v : Validator) (lo : ℕ) → lo ≤ v.span.from → Part ks lo v.span.from (validates ks v.callee v.span) (OwnValidator v)
  validator_part v lo le = record {
    low = λ n h. omega (arith, le, h.1);
    told = by (validates ks v.callee v.span) (validates_at v.callee v.span)
        (λ callee kind is f. subst (λ (o : Option Callee). Refuses (validates ks o v.span)) (sym is) (validator_refuses callee kind f v.span));
  }
    where
      by : (r : Checked) → IsAt v.span r → ((callee : Callee) (kind : CheckErrorKind) → v.callee ≡ Some callee → ValidatorFault ks callee kind → Refuses r) → First ks v.span.from r (OwnValidator v)
      by (Ok u) at refuses = λ n h. refuses h.0.0 h.0.1 h.0.2 h.0.3
      by (Err error) at refuses = (omega (arith, ap (λ (p : Span). p.from) at), λ n h. omega (arith, ap (λ (p : Span). p.from) at, h.1))

  -- a fault in one of these begins here
  abbrev EachFault : List Checkable → ℕ → Type 0
  EachFault [] n = ⊥
  EachFault (of_body b ∷ cs) n = FaultAt ks b.zone b.target b.tree n ⊎ EachFault cs n
  EachFault (of_validator v ∷ cs) n = OwnValidator v n ⊎ EachFault cs n

  each_part : (cs : List Checkable) (lo hi : ℕ) → EachLies lo hi cs → Part ks lo hi (checked_each ks cs) (EachFault cs)
  each_part [] lo hi h = no_part ks lo hi (EachFault []) (λ n k. k)
  each_part (of_body b ∷ cs) lo hi h =
      then_part ks lo h.0 hi (checked_one ks (of_body b)) (checked_each ks cs) (FaultAt ks b.zone b.target b.tree) (EachFault cs)
      (spreads_order lo h.0 b.tree h.1) (each_order h.0 hi cs h.2) (part_of ks b.zone b.target b.tree lo h.0 h.1) (each_part cs h.0 hi h.2)
  each_part (of_validator v ∷ cs) lo hi h =
      then_part ks lo v.span.from hi (checked_one ks (of_validator v)) (checked_each ks cs) (OwnValidator v) (EachFault cs)
      h.0 (each_order v.span.from hi cs h.1) (validator_part v lo h.0) (each_part cs v.span.from hi h.1)

  -- ---- a fault of one is a fault of all together

  fault_left : (xs cs : List Checkable) (n : ℕ) → EachFault xs n → EachFault (xs ++ cs) n
  fault_left [] cs n h = absurd h
  fault_left (of_body b ∷ xs) cs n (inl h) = inl h
  fault_left (of_body b ∷ xs) cs n (inr h) = inr (fault_left xs cs n h)
  fault_left (of_validator v ∷ xs) cs n (inl h) = inl h
  fault_left (of_validator v ∷ xs) cs n (inr h) = inr (fault_left xs cs n h)

  fault_right : (xs cs : List Checkable) (n : ℕ) → EachFault cs n → EachFault (xs ++ cs) n
  fault_right [] cs n h = h
  fault_right (of_body b ∷ xs) cs n h = inr (fault_right xs cs n h)
  fault_right (of_validator v ∷ xs) cs n h = inr (fault_right xs cs n h)

  body_fault : (b : Body) (bs : List Body) (vs : List Validator) (n : ℕ) → IsBody b bs → FaultAt ks b.zone b.target b.tree n → EachFault (together bs vs) n
  body_fault b _ vs n (body_first bs) h =
      let k = earlier b.span.from vs in
      fault_right (map of_validator (take k vs)) (of_body b ∷ together bs (drop k vs)) n (inl h)
  body_fault b _ vs n (body_later c bs is) h =
      let k = earlier c.span.from vs in
      fault_right (map of_validator (take k vs)) (of_body c ∷ together bs (drop k vs)) n (inr (body_fault b bs (drop k vs) n is h))

  alone_fault : (v : Validator) (vs : List Validator) (n : ℕ) → IsValidator v vs → OwnValidator v n → EachFault (map of_validator vs) n
  alone_fault v [] n is h = absurd is
  alone_fault v (w ∷ ws) n (inl is) h = inl (subst (λ x. OwnValidator x n) is h)
  alone_fault v (w ∷ ws) n (inr is) h = inr (alone_fault v ws n is h)

  -- it is one of the first, or one of the others
  in_two : (k : ℕ) (v : Validator) (vs : List Validator) → IsValidator v vs → IsValidator v (take k vs) ⊎ IsValidator v (drop k vs)
  in_two zero v vs is = inr is
  in_two (suc k) v [] is = absurd is
  in_two (suc k) v (w ∷ ws) (inl is) = inl (inl is)
  in_two (suc k) v (w ∷ ws) (inr is) = by (in_two k v ws is)
    where
      by : IsValidator v (take k ws) ⊎ IsValidator v (drop k ws) → IsValidator v (w ∷ take k ws) ⊎ IsValidator v (drop k ws)
      by (inl h) = inl (inr h)
      by (inr h) = inr h

  validator_fault : (bs : List Body) (v : Validator) (vs : List Validator) (n : ℕ) → IsValidator v vs → OwnValidator v n → EachFault (together bs vs) n
  validator_fault [] v vs n is h = alone_fault v vs n is h
  validator_fault (b ∷ bs) v vs n is h =
      let k = earlier b.span.from vs in
      by (in_two k v vs is) (λ one. validator_fault bs v (drop k vs) n one h)
    where
      by : IsValidator v (take (earlier b.span.from vs) vs) ⊎ IsValidator v (drop (earlier b.span.from vs) vs)
          → (IsValidator v (drop (earlier b.span.from vs) vs) → EachFault (together bs (drop (earlier b.span.from vs) vs)) n) → EachFault (together (b ∷ bs) vs) n
      by (inl one) later =
          let k = earlier b.span.from vs in
          fault_left (map of_validator (take k vs)) (of_body b ∷ together bs (drop k vs)) n (alone_fault v (take k vs) n one h)
      by (inr one) later =
          let k = earlier b.span.from vs in
          fault_right (map of_validator (take k vs)) (of_body b ∷ together bs (drop k vs)) n (inr (later one))

  as_begun : (z : Zone) (t : Target) (e : Tree) (d : CheckError) → FaultIn ks z t e d → FaultAt ks z t e d.at.from
  as_begun z t e d h = record { form_zone = h.form_zone; form_target = h.form_target; form = h.form; kind = d.kind; stands = h.stands; fault = h.fault; begins = ap (λ (p : Span). p.from) h.place }

abbrev error_or : CheckError → Checked → CheckError
error_or d (Ok u) = d
error_or d (Err e) = e

module _ (p : PlainProgram) (hi : ℕ) (lie : EachLies 0 hi (together (in_order p.functions p.threads) (validators_in p.cells p.validator_spans))) (e : CheckError) (stops : CheckStops p e) (d : CheckError) where
  before_fault : EachFault (known p.functions) (together (in_order p.functions p.threads) (validators_in p.cells p.validator_spans)) d.at.from → e.at.from ≤ d.at.from
  before_fault there = by (checked_each ks cs) (each_part ks cs 0 hi lie).told stops
    where
      ks : List Known
      ks = known p.functions

      cs : List Checkable
      cs = together (in_order p.functions p.threads) (validators_in p.cells p.validator_spans)

      by : (r : Checked) → First ks hi r (EachFault ks cs) → (r >> few (room 200000 (in_order p.functions p.threads))) ≡ Err e → e.at.from ≤ d.at.from
      by (Ok u) first same = absurd (first d.at.from there)
      by (Err error) first same = subst (λ (x : CheckError). x.at.from ≤ d.at.from) (ap (error_or error) same) (first.1 d.at.from there)

  pub earliest : (b : Body) → IsBody b (in_order p.functions p.threads) → FaultIn (known p.functions) b.zone b.target b.tree d → e.at.from ≤ d.at.from
  earliest b is fault =
      let ks = known p.functions in
      before_fault (body_fault ks b (in_order p.functions p.threads) (validators_in p.cells p.validator_spans) d.at.from is (as_begun ks b.zone b.target b.tree d fault))

  pub earliest_validator : FaultOfValidator (known p.functions) (validators_in p.cells p.validator_spans) d → e.at.from ≤ d.at.from
  earliest_validator fault =
      let v : Validator = record { callee = Some fault.callee; span = fault.span } in
      before_fault (validator_fault (known p.functions) (in_order p.functions p.threads) v (validators_in p.cells p.validator_spans) d.at.from fault.stands
      ((fault.callee, d.kind, refl, fault.fault), ap (λ (x : Span). x.from) fault.place))
