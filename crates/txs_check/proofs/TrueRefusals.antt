-- Each refusal is true of the program.
use Rattle.std.proofs.Common.{◌≡◌, ℕ, suc, ◌<◌, ◌≤◌, ◌+◌, ◌-◌, ◌⊎◌, inl, inr, Bool, true, false, not, nat_eq, nat_le, Option, List, [], ◌∷◌, ◌++◌, map, take, drop, zero, Some, None, Ok, Err, refl, sym, ap, subst, arith, if◌then◌else◌}
use Rattle.std.proofs.lemmas.Bool.Decides.{nat_tests}
use Rattle.txs_value_apply.specs.Core.{takes}
use Rattle.txs_value_cell.specs.Forms.{rule}
use Rattle.txs_value_data.specs.Places.{nth}
use Rattle.txs_value_data.specs.declared.fault.Span.{Span}
use Rattle.txs_value_cell.specs.declared.form.CellForm.{CellForm}
use Rattle.txs_value_cell.specs.declared.form.CellForm.TheVariants as form_of
use Rattle.txs_value_cell.specs.declared.form.UpdateForm.{UpdateForm}
use Rattle.txs_value_cell.specs.declared.form.Standing.{Standing}
use Rattle.txs_value_cell.specs.declared.form.Standing.TheVariants.{Anywhere, Inside, Outside}
use Rattle.txs_value_data.specs.declared.op.Callee.{Callee}
use Rattle.txs_value_data.specs.declared.op.Callee.TheVariants.{Core as CoreOp, Function}
use Rattle.txs_tree_meaning.specs.Known.{Known, is_pure, known}
use Rattle.txs_tree_meaning.specs.Sound.{nodes}
use Rattle.txs_tree_meaning.specs.Tree.{Tree, Mark, Const, Local, If, Do, Let, Loop, Recur, Core, Call, VectorOf, Println, Dosync, Look, Put, Update, Send, Trees, none, more, count, PlainProgram}
use Rattle.txs_check.specs.Faulty.{IsAmong, is_first, is_later, IsLast, is_only, is_behind, IsBefore, is_now, is_then, Stands, as_whole, in_test, in_first, in_second, in_block, in_last, in_bound, in_let, in_start, in_loop, in_recur, in_operation, in_call, in_vector, in_line, in_transaction, in_looked, in_filled, in_value, in_updated, in_further, in_agent, in_sent, IsForm, it_looks, it_puts, it_updates, it_sends, in_update, in_action, HasFault, recurs_nowhere, recurs_before_end, recurs_across, recurs_with_others, operates_on_others, calls_with_others, applies_to_others, applies_impurely, calls_outside, sends_inside, stands_outside, calls_inside, stands_inside, prints_inside, FaultIn, IsBody, body_first, body_later, IsValidator, validates_others, validates_impurely, FaultOfValidator, all_nodes, IsTrueOf, of_form, of_validator, of_size}
use Rattle.txs_check.specs.declared.error.CheckError.{CheckError}
use Rattle.txs_check.specs.declared.error.CheckErrorKind.{CheckErrorKind}
use Rattle.txs_check.specs.declared.error.CheckErrorKind.TheVariants.{RecurCount, Arity, NotPure, InsideOnly, OutsideOnly, CodeTooLarge}
use Rattle.txs_check.specs.declared.place.Target.{Target}
use Rattle.txs_check.specs.declared.place.Target.TheVariants.{Nowhere, Across, Nearest}
use Rattle.txs_check.specs.declared.place.Zone.{Zone}
use Rattle.txs_check.specs.declared.place.Zone.TheVariants.{InFunction, InFuture, InDosync}
use Rattle.txs_check.specs.Refused.{Checked, ◌>>◌, only, inner, across, recurs, accepts, zoned, called, sent, sent_zoned, placed, formed, here, place_of, turned_in, in_turn, checked, checked_all, checked_do, Body, in_order, checked_body, Validator, validators_in, validates, of_body, of_validator as a_validator, earlier, together, checked_each, ◌>>=◌, room, few, refusal, CheckStops}
use Rattle.txs_check.proofs.Walking.{each_append}

-- this holds of the refusal, if there is one
abbrev Holds : (CheckError → Type 0) → Checked → Type 0
Holds P (Ok u) = Unit {0}
Holds P (Err e) = P e

holds_then : (P : CheckError → Type 0) (a b : Checked) → Holds P a → Holds P b → Holds P (a >> b)
holds_then P (Ok u) b p q = q
holds_then P (Err e) b p q = p

holds_turn : (P : CheckError → Type 0) (turn : Bool) (a b : Checked) → Holds P a → Holds P b → Holds P (in_turn turn a b)
holds_turn P false a b p q = holds_then P a b p q
holds_turn P true a b p q = holds_then P b a q p

holds_only : (P : CheckError → Type 0) (b : Bool) (kind : CheckErrorKind) (at : Span) → (b ≡ false → P (record { kind = kind; at = at })) → Holds P (only b kind at)
holds_only P true kind at f = tt
holds_only P false kind at f = f refl

holds_maps : (P Q : CheckError → Type 0) (a : Checked) → ((e : CheckError) → P e → Q e) → Holds P a → Holds Q a
holds_maps P Q (Ok u) f p = tt
holds_maps P Q (Err e) f p = f e p

held : (P : CheckError → Type 0) (a : Checked) (e : CheckError) → Holds P a → a ≡ Err e → P e
held P a e p is = subst (Holds P) is p

not_false : (b : Bool) → not b ≡ false → b ≡ true
not_false true h = refl
not_false false h = sym h

module _ (ks : List Known) where
  -- the form itself has the fault
  abbrev Own : Zone → Target → Tree → CheckError → Type 0
  Own z t e err = HasFault ks z t err.kind e × (err.at ≡ place_of e)

  own_recur : (z : Zone) (t : Target) (values : Trees) (m : Mark) → Holds (Own z t (Recur values m)) (recurs t (count values) m.span)
  own_recur z Nowhere values m = (recurs_nowhere values m refl, refl)
  own_recur z Across values m = (recurs_across values m refl, refl)
  own_recur z (Nearest k false) values m = (recurs_before_end values m k refl, refl)
  own_recur z (Nearest k true) values m = holds_only (Own z (Nearest k true) (Recur values m)) (nat_eq k (count values)) RecurCount m.span (λ h. (recurs_with_others values m k true refl h, refl))

  own_zoned : (z : Zone) (t : Target) (f : ℕ) (args : Trees) (m : Mark) (o : Option Known) → nth ks f ≡ o → Holds (Own z t (Call f args m)) (zoned z o m.span)
  own_zoned InFunction t f args m None is = tt
  own_zoned InFuture t f args m None is = tt
  own_zoned InDosync t f args m None is = tt
  own_zoned InFunction t f args m (Some k) is = tt
  own_zoned InFuture t f args m (Some k) is = holds_only (Own InFuture t (Call f args m)) (not k.inside) InsideOnly m.span (λ h. (calls_outside f args m k refl is (not_false k.inside h), refl))
  own_zoned InDosync t f args m (Some k) is = holds_only (Own InDosync t (Call f args m)) (not k.outside) OutsideOnly m.span (λ h. (calls_inside f args m k refl is (not_false k.outside h), refl))

  -- a form has a callee applied to the value of its cell that it may not have
  own_called : (z : Zone) (t : Target) (form : UpdateForm) (cell : Tree) (callee : Callee) (args : Trees) (m : Mark) → Holds (Own z t (Update form cell callee args m)) (called ks callee (suc (count args)) m.span)
  own_called z t form cell (CoreOp op) args m =
      let e = Update form cell (CoreOp op) args m in
      holds_only (Own z t e) (takes op (suc (count args))) Arity m.span (λ h. (applies_to_others (CoreOp op) (suc (count args)) e (in_update form cell (CoreOp op) args m) h, refl))
  own_called z t form cell (Function f) args m =
      let e = Update form cell (Function f) args m in
      let n = suc (count args) in
      let P = Own z t e in
      holds_then P (only (accepts (nth ks f) n) Arity m.span) (only (is_pure (nth ks f)) NotPure m.span)
      (holds_only P (accepts (nth ks f) n) Arity m.span (λ h. (applies_to_others (Function f) n e (in_update form cell (Function f) args m) h, refl)))
      (holds_only P (is_pure (nth ks f)) NotPure m.span (λ h. (applies_impurely form cell f args m h, refl)))

  own_sent_zoned : (z : Zone) (t : Target) (cell : Tree) (f : ℕ) (args : Trees) (m : Mark) (o : Option Known) → nth ks f ≡ o → Holds (Own z t (Send cell (Function f) args m)) (sent_zoned o m.span)
  own_sent_zoned z t cell f args m None is = tt
  own_sent_zoned z t cell f args m (Some k) is =
      holds_only (Own z t (Send cell (Function f) args m)) (not k.inside) InsideOnly m.span (λ h. (sends_inside cell f args m k is (not_false k.inside h), refl))

  -- a send is of a callee that may not be sent
  own_sent : (z : Zone) (t : Target) (cell : Tree) (callee : Callee) (args : Trees) (m : Mark) → Holds (Own z t (Send cell callee args m)) (sent ks callee (suc (count args)) m.span)
  own_sent z t cell (CoreOp op) args m =
      let e = Send cell (CoreOp op) args m in
      holds_only (Own z t e) (takes op (suc (count args))) Arity m.span (λ h. (applies_to_others (CoreOp op) (suc (count args)) e (in_action cell (CoreOp op) args m) h, refl))
  own_sent z t cell (Function f) args m =
      let e = Send cell (Function f) args m in
      let n = suc (count args) in
      let P = Own z t e in
      holds_then P (only (accepts (nth ks f) n) Arity m.span) (sent_zoned (nth ks f) m.span)
      (holds_only P (accepts (nth ks f) n) Arity m.span (λ h. (applies_to_others (Function f) n e (in_action cell (Function f) args m) h, refl)))
      (own_sent_zoned z t cell f args m (nth ks f) refl)

  own_placed : (z : Zone) (t : Target) (f : CellForm) (e : Tree) → IsForm f e → (s : Standing) → (rule f).stands ≡ s → (at : Span) → at ≡ place_of e → Holds (Own z t e) (placed z s at)
  own_placed InFunction t f e it s stands at is = tt
  own_placed InFuture t f e it Anywhere stands at is = tt
  own_placed InFuture t f e it Inside stands at is = (stands_outside f e refl it stands, is)
  own_placed InFuture t f e it Outside stands at is = tt
  own_placed InDosync t f e it Anywhere stands at is = tt
  own_placed InDosync t f e it Inside stands at is = tt
  own_placed InDosync t f e it Outside stands at is = (stands_inside f e refl it stands, is)

  -- a form on a cell stands elsewhere than the table says
  own_formed : (z : Zone) (t : Target) (f : CellForm) (e : Tree) → IsForm f e → (at : Span) → at ≡ place_of e → Holds (Own z t e) (formed z f at)
  own_formed z t f e it at is = own_placed z t f e it (rule f).stands refl at is

  own_prints : (z : Zone) (t : Target) (args : Trees) (m : Mark) → Holds (Own z t (Println args m)) (placed z Outside m.span)
  own_prints InFunction t args m = tt
  own_prints InFuture t args m = tt
  own_prints InDosync t args m = (prints_inside args m refl, refl)

  own : (z : Zone) (t : Target) (e : Tree) → Holds (Own z t e) (here ks z t e)
  own z t (Const v m) = tt
  own z t (Local i m) = tt
  own z t (If c a b m) = tt
  own z t (Do items m) = tt
  own z t (Let values body m) = tt
  own z t (Loop values body m) = tt
  own z t (Recur values m) = own_recur z t values m
  own z t (Core op args m) = holds_only (Own z t (Core op args m)) (takes op (count args)) Arity m.span (λ h. (operates_on_others op args m h, refl))
  own z t (Call f args m) =
      let P = Own z t (Call f args m) in
      holds_then P (only (accepts (nth ks f) (count args)) Arity m.span) (zoned z (nth ks f) m.span)
      (holds_only P (accepts (nth ks f) (count args)) Arity m.span (λ h. (calls_with_others f args m h, refl)))
      (own_zoned z t f args m (nth ks f) refl)
  own z t (VectorOf items m) = tt
  own z t (Println args m) = own_prints z t args m
  own z t (Dosync body m) = tt
  own z t (Look form cell m) = own_formed z t (form_of.Look form) (Look form cell m) (it_looks form cell m) m.span refl
  own z t (Put form cell value m) = own_formed z t (form_of.Put form) (Put form cell value m) (it_puts form cell value m) m.span refl
  own z t (Update form cell callee args m) =
      let e = Update form cell callee args m in
      let n = suc (count args) in
      holds_then (Own z t e) (called ks callee n m.span) (formed z (form_of.Update form) m.span)
      (own_called z t form cell callee args m) (own_formed z t (form_of.Update form) e (it_updates form cell callee args m) m.span refl)
  own z t (Send cell callee args m) =
      let e = Send cell callee args m in
      let n = suc (count args) in
      holds_then (Own z t e) (sent ks callee n m.span) (formed z form_of.Send m.span)
      (own_sent z t cell callee args m) (own_formed z t form_of.Send e (it_sends cell callee args m) m.span refl)

  -- a fault of the form is one in it
  as_own : (z : Zone) (t : Target) (e : Tree) (err : CheckError) → Own z t e err → FaultIn ks z t e err
  as_own z t e err h = record { form_zone = z; form_target = t; form = e; stands = as_whole; fault = h.0; place = h.1 }

  -- a fault in a part is one in the whole
  through : (z : Zone) (t : Target) (e : Tree) (z1 : Zone) (t1 : Target) (e1 : Tree) → ((fz : Zone) (ft : Target) (f : Tree) → Stands fz ft f z1 t1 e1 → Stands fz ft f z t e) → (err : CheckError) → FaultIn ks z1 t1 e1 err → FaultIn ks z t e err
  through z t e z1 t1 e1 into err h = record { form_zone = h.form_zone; form_target = h.form_target; form = h.form; stands = into h.form_zone h.form_target h.form h.stands; fault = h.fault; place = h.place }

  -- a fault in one of these
  abbrev Among : Zone → Target → Trees → CheckError → Type 0
  Among z t es err = (e : Tree) × IsAmong e es × FaultIn ks z t e err

  -- a fault in the last one, or in one before it
  abbrev InBlock : Zone → Target → Trees → CheckError → Type 0
  InBlock z t es err = ((e : Tree) × IsLast e es × FaultIn ks z t e err) ⊎ ((e : Tree) × IsBefore e es × FaultIn ks z (inner t) e err)

  later : (z : Zone) (t : Target) (e : Tree) (es : Trees) (err : CheckError) → Among z t es err → Among z t (more e es) err
  later z t e es err h = (h.0, is_later e es h.1, h.2)

  block_later : (z : Zone) (t : Target) (e : Tree) (es : Trees) (err : CheckError) → InBlock z t es err → InBlock z t (more e es) err
  block_later z t e es err (inl h) = inl (h.0, is_behind e es h.1, h.2)
  block_later z t e es err (inr h) = inr (h.0, is_then e es h.1, h.2)

  -- a fault in one of the parts of a whole in which they stand so
  in_parts : (z : Zone) (t : Target) (e : Tree) (es : Trees) (z1 : Zone) (t1 : Target) → ((part : Tree) → IsAmong part es → (fz : Zone) (ft : Target) (f : Tree) → Stands fz ft f z1 t1 part → Stands fz ft f z t e) → (err : CheckError) → Among z1 t1 es err → FaultIn ks z t e err
  in_parts z t e es z1 t1 into err h = through z t e z1 t1 h.0 (into h.0 h.1) err h.2

  block_parts : (z : Zone) (t : Target) (items : Trees) (m : Mark) (err : CheckError) → InBlock z t items err → FaultIn ks z t (Do items m) err
  block_parts z t items m err (inl h) = through z t (Do items m) z t h.0 (λ fz ft f s. in_last z t items m h.0 h.1 s) err h.2
  block_parts z t items m err (inr h) = through z t (Do items m) z (inner t) h.0 (λ fz ft f s. in_block z t items m h.0 h.1 s) err h.2

  mutual
    walked : (z : Zone) (t : Target) (e : Tree) → Holds (FaultIn ks z t e) (checked ks z t e)
    walked z t (Const v m) = tt
    walked z t (Local i m) = tt
    walked z t (If c a b m) =
        let e = If c a b m in
        let P = FaultIn ks z t e in
        holds_then P (checked ks z (inner t) c) (in_turn (turned_in m a b) (checked ks z t a) (checked ks z t b))
        (holds_maps (FaultIn ks z (inner t) c) P (checked ks z (inner t) c) (through z t e z (inner t) c (λ fz ft f s. in_test z t c a b m s)) (walked z (inner t) c))
        (holds_turn P (turned_in m a b) (checked ks z t a) (checked ks z t b)
        (holds_maps (FaultIn ks z t a) P (checked ks z t a) (through z t e z t a (λ fz ft f s. in_first z t c a b m s)) (walked z t a))
        (holds_maps (FaultIn ks z t b) P (checked ks z t b) (through z t e z t b (λ fz ft f s. in_second z t c a b m s)) (walked z t b)))
    walked z t (Do items m) = holds_maps (InBlock z t items) (FaultIn ks z t (Do items m)) (checked_do ks z t items) (block_parts z t items m) (walked_do z t items)
    walked z t (Let values body m) =
        let e = Let values body m in
        let P = FaultIn ks z t e in
        holds_then P (checked_all ks z (inner t) values) (checked ks z t body)
        (holds_maps (Among z (inner t) values) P (checked_all ks z (inner t) values) (in_parts z t e values z (inner t) (λ part among fz ft f s. in_bound z t values body m part among s)) (walked_all z (inner t) values))
        (holds_maps (FaultIn ks z t body) P (checked ks z t body) (through z t e z t body (λ fz ft f s. in_let z t values body m s)) (walked z t body))
    walked z t (Loop values body m) =
        let e = Loop values body m in
        let P = FaultIn ks z t e in
        let near = Nearest (count values) true in
        holds_then P (checked_all ks z (inner t) values) (checked ks z near body)
        (holds_maps (Among z (inner t) values) P (checked_all ks z (inner t) values) (in_parts z t e values z (inner t) (λ part among fz ft f s. in_start z t values body m part among s)) (walked_all z (inner t) values))
        (holds_maps (FaultIn ks z near body) P (checked ks z near body) (through z t e z near body (λ fz ft f s. in_loop z t values body m s)) (walked z near body))
    walked z t (Recur values m) =
        let e = Recur values m in
        let P = FaultIn ks z t e in
        holds_then P (here ks z t e) (checked_all ks z (inner t) values)
        (holds_maps (Own z t e) P (here ks z t e) (as_own z t e) (own z t e))
        (holds_maps (Among z (inner t) values) P (checked_all ks z (inner t) values) (in_parts z t e values z (inner t) (λ part among fz ft f s. in_recur z t values m part among s)) (walked_all z (inner t) values))
    walked z t (Core op args m) =
        let e = Core op args m in
        let P = FaultIn ks z t e in
        holds_then P (here ks z t e) (checked_all ks z (inner t) args)
        (holds_maps (Own z t e) P (here ks z t e) (as_own z t e) (own z t e))
        (holds_maps (Among z (inner t) args) P (checked_all ks z (inner t) args) (in_parts z t e args z (inner t) (λ part among fz ft f s. in_operation z t op args m part among s)) (walked_all z (inner t) args))
    walked z t (Call k args m) =
        let e = Call k args m in
        let P = FaultIn ks z t e in
        holds_then P (here ks z t e) (checked_all ks z (inner t) args)
        (holds_maps (Own z t e) P (here ks z t e) (as_own z t e) (own z t e))
        (holds_maps (Among z (inner t) args) P (checked_all ks z (inner t) args) (in_parts z t e args z (inner t) (λ part among fz ft f s. in_call z t k args m part among s)) (walked_all z (inner t) args))
    walked z t (VectorOf items m) =
        holds_maps (Among z (inner t) items) (FaultIn ks z t (VectorOf items m)) (checked_all ks z (inner t) items) (in_parts z t (VectorOf items m) items z (inner t) (λ part among fz ft f s. in_vector z t items m part among s)) (walked_all z (inner t) items)
    walked z t (Println args m) =
        let e = Println args m in
        let P = FaultIn ks z t e in
        holds_then P (here ks z t e) (checked_all ks z (inner t) args)
        (holds_maps (Own z t e) P (here ks z t e) (as_own z t e) (own z t e))
        (holds_maps (Among z (inner t) args) P (checked_all ks z (inner t) args) (in_parts z t e args z (inner t) (λ part among fz ft f s. in_line z t args m part among s)) (walked_all z (inner t) args))
    walked z t (Dosync body m) = holds_maps (FaultIn ks InDosync (across t) body) (FaultIn ks z t (Dosync body m)) (checked ks InDosync (across t) body) (through z t (Dosync body m) InDosync (across t) body (λ fz ft f s. in_transaction z t body m s)) (walked InDosync (across t) body)
    walked z t (Look form cell m) =
        let e = Look form cell m in
        let P = FaultIn ks z t e in
        holds_then P (here ks z t e) (checked ks z (inner t) cell)
        (holds_maps (Own z t e) P (here ks z t e) (as_own z t e) (own z t e))
        (holds_maps (FaultIn ks z (inner t) cell) P (checked ks z (inner t) cell) (through z t e z (inner t) cell (λ fz ft f s. in_looked z t form cell m s)) (walked z (inner t) cell))
    walked z t (Put form cell value m) =
        let e = Put form cell value m in
        let P = FaultIn ks z t e in
        holds_then P (here ks z t e) (checked ks z (inner t) cell >> checked ks z (inner t) value)
        (holds_maps (Own z t e) P (here ks z t e) (as_own z t e) (own z t e))
        (holds_then P (checked ks z (inner t) cell) (checked ks z (inner t) value)
        (holds_maps (FaultIn ks z (inner t) cell) P (checked ks z (inner t) cell) (through z t e z (inner t) cell (λ fz ft f s. in_filled z t form cell value m s)) (walked z (inner t) cell))
        (holds_maps (FaultIn ks z (inner t) value) P (checked ks z (inner t) value) (through z t e z (inner t) value (λ fz ft f s. in_value z t form cell value m s)) (walked z (inner t) value)))
    walked z t (Update form cell callee args m) =
        let e = Update form cell callee args m in
        let P = FaultIn ks z t e in
        holds_then P (here ks z t e) (checked ks z (inner t) cell >> checked_all ks z (inner t) args)
        (holds_maps (Own z t e) P (here ks z t e) (as_own z t e) (own z t e))
        (holds_then P (checked ks z (inner t) cell) (checked_all ks z (inner t) args)
        (holds_maps (FaultIn ks z (inner t) cell) P (checked ks z (inner t) cell) (through z t e z (inner t) cell (λ fz ft f s. in_updated z t form cell callee args m s)) (walked z (inner t) cell))
        (holds_maps (Among z (inner t) args) P (checked_all ks z (inner t) args) (in_parts z t e args z (inner t) (λ part among fz ft f s. in_further z t form cell callee args m part among s)) (walked_all z (inner t) args)))
    walked z t (Send cell callee args m) =
        let e = Send cell callee args m in
        let P = FaultIn ks z t e in
        holds_then P (here ks z t e) (checked ks z (inner t) cell >> checked_all ks z (inner t) args)
        (holds_maps (Own z t e) P (here ks z t e) (as_own z t e) (own z t e))
        (holds_then P (checked ks z (inner t) cell) (checked_all ks z (inner t) args)
        (holds_maps (FaultIn ks z (inner t) cell) P (checked ks z (inner t) cell) (through z t e z (inner t) cell (λ fz ft f s. in_agent z t cell callee args m s)) (walked z (inner t) cell))
        (holds_maps (Among z (inner t) args) P (checked_all ks z (inner t) args) (in_parts z t e args z (inner t) (λ part among fz ft f s. in_sent z t cell callee args m part among s)) (walked_all z (inner t) args)))

    walked_all : (z : Zone) (t : Target) (es : Trees) → Holds (Among z t es) (checked_all ks z t es)
    walked_all z t none = tt
    walked_all z t (more e rest) =
        holds_then (Among z t (more e rest)) (checked ks z t e) (checked_all ks z t rest)
        (holds_maps (FaultIn ks z t e) (Among z t (more e rest)) (checked ks z t e) (λ err h. (e, is_first rest, h)) (walked z t e))
        (holds_maps (Among z t rest) (Among z t (more e rest)) (checked_all ks z t rest) (later z t e rest) (walked_all z t rest))

    walked_do : (z : Zone) (t : Target) (es : Trees) → Holds (InBlock z t es) (checked_do ks z t es)
    walked_do z t none = tt
    walked_do z t (more e none) = holds_maps (FaultIn ks z t e) (InBlock z t (more e none)) (checked ks z t e) (λ err h. inl (e, is_only, h)) (walked z t e)
    walked_do z t (more e (more f rest)) =
        holds_then (InBlock z t (more e (more f rest))) (checked ks z (inner t) e) (checked_do ks z t (more f rest))
        (holds_maps (FaultIn ks z (inner t) e) (InBlock z t (more e (more f rest))) (checked ks z (inner t) e) (λ err h. inr (e, is_now f rest, h)) (walked z (inner t) e))
        (holds_maps (InBlock z t (more f rest)) (InBlock z t (more e (more f rest))) (checked_do ks z t (more f rest)) (block_later z t e (more f rest)) (walked_do z t (more f rest)))

  -- a fault in one of these bodies
  abbrev InBodies : List Body → CheckError → Type 0
  InBodies bs err = (b : Body) × IsBody b bs × FaultIn ks b.zone b.target b.tree err

  -- the first of these validators is refused
  own_validator : (vs : List Validator) (o : Option Callee) (at : Span) → Holds (FaultOfValidator ks (record { callee = o; span = at } ∷ vs)) (validates ks o at)
  own_validator vs None at = tt
  own_validator vs (Some (CoreOp op)) at =
      holds_only (FaultOfValidator ks (record { callee = Some (CoreOp op); span = at } ∷ vs)) (takes op 1) Arity at
      (λ h. record { callee = CoreOp op; span = at; stands = inl refl; fault = validates_others h; place = refl })
  own_validator vs (Some (Function f)) at =
      let P = FaultOfValidator ks (record { callee = Some (Function f); span = at } ∷ vs) in
      holds_then P (only (accepts (nth ks f) 1) Arity at) (only (is_pure (nth ks f)) NotPure at)
      (holds_only P (accepts (nth ks f) 1) Arity at (λ h. record { callee = Function f; span = at; stands = inl refl; fault = validates_others h; place = refl }))
      (holds_only P (is_pure (nth ks f)) NotPure at (λ h. record { callee = Function f; span = at; stands = inl refl; fault = validates_impurely f refl h; place = refl }))

  among_more : (vs ws : List Validator) → ((v : Validator) → IsValidator v vs → IsValidator v ws) → (err : CheckError) → FaultOfValidator ks vs err → FaultOfValidator ks ws err
  among_more vs ws into err h = record { callee = h.callee; span = h.span; stands = into (record { callee = Some h.callee; span = h.span }) h.stands; fault = h.fault; place = h.place }

  in_take : (n : ℕ) (vs : List Validator) (v : Validator) → IsValidator v (take n vs) → IsValidator v vs
  in_take zero vs v h = absurd h
  in_take (suc n) [] v h = absurd h
  in_take (suc n) (w ∷ ws) v (inl h) = inl h
  in_take (suc n) (w ∷ ws) v (inr h) = inr (in_take n ws v h)

  in_drop : (n : ℕ) (vs : List Validator) (v : Validator) → IsValidator v (drop n vs) → IsValidator v vs
  in_drop zero vs v h = h
  in_drop (suc n) [] v h = absurd h
  in_drop (suc n) (w ∷ ws) v h = inr (in_drop n ws v h)

  walked_validators : (vs : List Validator) → Holds (FaultOfValidator ks vs) (checked_each ks (map a_validator vs))
  walked_validators [] = tt
  walked_validators (v ∷ vs) =
      let x = validates ks v.callee v.span in
      let y = checked_each ks (map a_validator vs) in
      holds_then (FaultOfValidator ks (v ∷ vs)) x y (own_validator vs v.callee v.span)
      (holds_maps (FaultOfValidator ks vs) (FaultOfValidator ks (v ∷ vs)) y (among_more vs (v ∷ vs) (λ w h. inr h)) (walked_validators vs))

  -- a fault in one of these bodies, or of one of these validators
  abbrev InEach : List Body → List Validator → CheckError → Type 0
  InEach bs vs err = InBodies bs err ⊎ FaultOfValidator ks vs err

  each_later : (b : Body) (bs : List Body) (n : ℕ) (vs : List Validator) (err : CheckError) → InEach bs (drop n vs) err → InEach (b ∷ bs) vs err
  each_later b bs n vs err (inl h) = inl (h.0, body_later b bs h.1, h.2)
  each_later b bs n vs err (inr h) = inr (among_more (drop n vs) vs (in_drop n vs) err h)

  walked_each : (bs : List Body) (vs : List Validator) → Holds (InEach bs vs) (checked_each ks (together bs vs))
  walked_each [] vs = holds_maps (FaultOfValidator ks vs) (InEach [] vs) (checked_each ks (map a_validator vs)) (λ err h. inr h) (walked_validators vs)
  walked_each (b ∷ bs) vs =
      let n = earlier b.span.from vs in
      let P = InEach (b ∷ bs) vs in
      let x = checked_each ks (map a_validator (take n vs)) in
      let y = checked_body ks b in
      let z = checked_each ks (together bs (drop n vs)) in
      subst (λ w. Holds P w) (sym (each_append ks (map a_validator (take n vs)) (of_body b ∷ together bs (drop n vs))))
      (holds_then P x (y >> z)
      (holds_maps (FaultOfValidator ks (take n vs)) P x (λ err h. inr (among_more (take n vs) vs (in_take n vs) err h)) (walked_validators (take n vs)))
      (holds_then P y z
      (holds_maps (FaultIn ks b.zone b.target b.tree) P y (λ err h. inl (b, body_first bs, h)) (walked b.zone b.target b.tree))
      (holds_maps (InEach bs (drop n vs)) P z (each_later b bs n vs) (walked_each bs (drop n vs)))))

-- these bodies have more nodes than are left, up to the one that is refused
record TooMany (left : ℕ) (bs : List Body) (e : CheckError) : Type 0 where
  before : List Body
  body : Body
  behind : List Body
  split : bs ≡ before ++ body ∷ behind
  many : left < all_nodes before + nodes body.tree
  kind : e.kind ≡ CodeTooLarge
  place : e.at ≡ body.span

fits : (m n : ℕ) → nat_le m n ≡ true → m ≤ n
fits m n h = grind (arith, nat_tests)

exceeds : (m n : ℕ) → nat_le m n ≡ false → n < 0 + m
exceeds m n h = grind (arith, nat_tests)

too_many : (left : ℕ) (bs : List Body) → Holds (TooMany left bs) (few (room left bs))
too_many left [] = tt
too_many left (b ∷ bs) = go (nat_le (nodes b.tree) left) refl (too_many (left - nodes b.tree) bs)
  where
    rest : ℕ
    rest = left - nodes b.tree

    by : Bool → Checked
    by enough = few ((if enough then Ok rest else Err (record { kind = CodeTooLarge; at = b.span })) >>= λ k. room k bs)

    behind_it : nodes b.tree ≤ left → (err : CheckError) → TooMany rest bs err → TooMany left (b ∷ bs) err
    behind_it le err h = record {
      before = b ∷ h.before;
      body = h.body;
      behind = h.behind;
      split = ap (λ l. b ∷ l) h.split;
      many = omega (arith, le, h.many);
      kind = h.kind;
      place = h.place;
    }

    go : (enough : Bool) → nat_le (nodes b.tree) left ≡ enough → Holds (TooMany rest bs) (few (room rest bs)) → Holds (TooMany left (b ∷ bs)) (by (nat_le (nodes b.tree) left))
    go true is h = subst (λ x. Holds (TooMany left (b ∷ bs)) (by x)) (sym is) (holds_maps (TooMany rest bs) (TooMany left (b ∷ bs)) (few (room rest bs)) (behind_it (fits (nodes b.tree) left is)) h)
    go false is h = subst (λ x. Holds (TooMany left (b ∷ bs)) (by x)) (sym is) (record { before = []; body = b; behind = bs; split = refl; many = exceeds (nodes b.tree) left is; kind = refl; place = refl })

pub refusals_are_true : (p : PlainProgram) (e : CheckError) → CheckStops p e → IsTrueOf p e
refusals_are_true p e is =
    let ks = known p.functions in
    let bs = in_order p.functions p.threads in
    let vs = validators_in p.cells p.validator_spans in
    held (IsTrueOf p) (refusal p) e (holds_then (IsTrueOf p) (checked_each ks (together bs vs)) (few (room 200000 bs))
    (holds_maps (InEach ks bs vs) (IsTrueOf p) (checked_each ks (together bs vs)) (λ err h. truly err h) (walked_each ks bs vs))
    (holds_maps (TooMany 200000 bs) (IsTrueOf p) (few (room 200000 bs)) (λ err h. of_size h.before h.body h.behind h.split h.many h.kind h.place) (too_many 200000 bs))) is
  where
    truly : (err : CheckError) → InEach (known p.functions) (in_order p.functions p.threads) (validators_in p.cells p.validator_spans) err → IsTrueOf p err
    truly err (inl h) = of_form h.0 h.1 h.2
    truly err (inr h) = of_validator h
