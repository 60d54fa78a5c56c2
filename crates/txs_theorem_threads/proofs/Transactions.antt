-- A sound transaction's body on one world: no answer is invalid.
use Rattle.std.proofs.Common.{suc, Bool, true, false, List, ◌∷◌, ◌||◌, None, Result, Ok, Err, refl, sym, subst, length, ◌≡◌}
use Rattle.std.proofs.lemmas.Bool.{false≢true}
use Rattle.txs_frame.specs.Frame.{PlainTxFrame, set_ref, commute_ref, hold_send}
use Rattle.txs_value_cell.specs.Cells.{World}
use Rattle.txs_value_cell.specs.Forms.{rule, cell_of}
use Rattle.txs_value_data.specs.declared.fault.FaultKind.{FaultKind}
use Rattle.txs_value_data.specs.declared.fault.Span.{Span}
use Rattle.txs_value_cell.specs.declared.form.CellForm.TheVariants as form_of
use Rattle.txs_value_cell.specs.declared.form.LookForm.{LookForm}
use Rattle.txs_value_cell.specs.declared.form.LookForm.TheVariants.{Deref, Ensure}
use Rattle.txs_value_cell.specs.declared.form.PutForm.{PutForm}
use Rattle.txs_value_cell.specs.declared.form.PutForm.TheVariants.{RefSet, Reset}
use Rattle.txs_value_cell.specs.declared.form.Standing.TheVariants.{Outside}
use Rattle.txs_value_cell.specs.declared.form.UpdateForm.{UpdateForm}
use Rattle.txs_value_cell.specs.declared.form.UpdateForm.TheVariants as update_of
use Rattle.txs_value_data.specs.declared.op.Callee.{Callee}
use Rattle.txs_value_data.specs.declared.value.CellId.{CellId}
use Rattle.txs_value_data.specs.declared.value.Value.{Value}
use Rattle.txs_tree_meaning.specs.Meaning.{Completion, Completes, Recurs, Faults, Retries, Waits, OutOfTurns, Invalid, bind, result_of, Applies}
use Rattle.txs_tree_meaning.specs.Sound.{MayStand, in_dosync}
use Rattle.txs_tree_meaning.specs.Transaction.{TxState, own, current, noted, done_as, tx_look, tx_put, tx_update, in_transaction, tx_start, tx_meaning}
use Rattle.txs_tree_meaning.specs.Tree.{Mark, Tree}
use Rattle.txs_theorem_threads.proofs.Meant.{Suits, Valid, MeantAs, Any, Proper, none_some, zone_of, SoundForms, main_meant}
use Rattle.txs_theorem_threads.proofs.Quiet.{carried}
use Rattle.txs_theorem_threads.specs.Behaves.{IsMeant, IsProper}
use Rattle.txs_theorem_threads.specs.Follows.{TransactionIsMeant}

-- of a state nothing need be known, but that it is one in a transaction
abbrev Within : Suits → Bool → TxState → Type 0
Within P inside t = inside ≡ true

-- what a form answers in a transaction
abbrev FormMeant : Completion TxState Value → Type 0
FormMeant x = MeantAs (λ inside t. inside ≡ true) true None Any x

-- a form on a cell that it takes
on_cell_meant : (r : Result CellId FaultKind) (span : Span) (go : CellId → TxState → Completion TxState Value) (t : TxState) → ((c : CellId) → FormMeant (go c t)) → FormMeant (bind (result_of r span t) go)
on_cell_meant (Ok c) span go t h = h c
on_cell_meant (Err k) span go t h = refl

-- what was done, or a fault
done_meant : (r : Result PlainTxFrame FaultKind) (span : Span) (v : Value) (t : TxState) → FormMeant (done_as r span v t)
done_meant (Ok w) span v t = (tt, refl)
done_meant (Err k) span v t = refl

-- a callee with a proper answer, and what goes on with its value
callee_meant : (f : Applies TxState) (c : Callee) (vs : List Value) → Proper TxState f c vs → (t : TxState) (go : Value → TxState → Completion TxState Value) → ((v : Value) (t1 : TxState) → FormMeant (go v t1)) → FormMeant (bind (f c vs t) go)
callee_meant f c vs p t go h = subst (λ x. FormMeant (bind x go)) (sym (p.same t)) (after p.answer p.proper)
  where
    after : (q : Completion (Unit {0}) Value) → IsProper q → FormMeant (bind (carried t q) go)
    after (Completes v u) k = h v t
    after (Recurs ws u) k = absurd k
    after (Faults g u) k = refl
    after (Retries u) k = absurd k
    after (Waits u) k = absurd k
    after (OutOfTurns u) k = tt
    after Invalid k = absurd k

module _ (R : World) (V : Callee → Type 0) where
  look_meant : (form : LookForm) (c : CellId) (t : TxState) → FormMeant (tx_look R form c t)
  look_meant Deref c t = (tt, refl)
  look_meant Ensure c t = (tt, refl)

  put_meant : (form : PutForm) (span : Span) (c : CellId) (v : Value) (t : TxState) → MayStand in_dosync (rule (form_of.Put form)).stands → FormMeant (tx_put form span c v t)
  put_meant RefSet span c v t k = done_meant (set_ref c v t.done) span v t
  put_meant Reset span c v t k = absurd k

  update_meant : (form : UpdateForm) (m : Mark) (c : CellId) (callee : Callee) (vs : List Value) (f : Applies TxState) (t : TxState) → MayStand in_dosync (rule (form_of.Update form)).stands → ((v : Value) → Proper TxState f callee (v ∷ vs)) → FormMeant (tx_update R form m c callee vs f t)
  update_meant update_of.Alter m c callee vs f t k p =
      callee_meant f callee (current R t.done c ∷ vs) (p (current R t.done c)) (noted c (own t.done c.number) t) (λ w t2. done_as (set_ref c w t2.done) m.span w t2) (λ w t2. done_meant (set_ref c w t2.done) m.span w t2)
  update_meant update_of.Commute m c callee vs f t k p =
      callee_meant f callee (current R t.done c ∷ vs) (p (current R t.done c)) t (λ w t1. Completes w (record t1 { done = commute_ref c callee vs w t1.done; used = t1.used || m.wanted })) (λ w t1. (tt, refl))
  update_meant update_of.Swap m c callee vs f t k p = absurd k

  tx_print : (P : Suits) (inside : Bool) (vs : List Value) (t : TxState) → MayStand (zone_of inside) Outside → Within P inside t → MeantAs (Within P) inside None Any ((in_transaction R).print inside vs t)
  tx_print P true vs t k h = absurd k
  tx_print P false vs t k h = absurd (false≢true h)

  tx_looks : (P : Suits) (form : LookForm) (inside : Bool) (m : Mark) (c : Value) (t : TxState) → MayStand (zone_of inside) (rule (form_of.Look form)).stands → Within P inside t → MeantAs (Within P) inside None Any ((in_transaction R).look form inside m c t)
  tx_looks P form true m c t k h = on_cell_meant (cell_of (rule (form_of.Look form)) true c) m.span (tx_look R form) t (λ d. look_meant form d t)
  tx_looks P form false m c t k h = absurd (false≢true h)

  tx_puts : (P : Suits) (form : PutForm) (inside : Bool) (m : Mark) (c v : Value) (f : Applies TxState) (t : TxState) → MayStand (zone_of inside) (rule (form_of.Put form)).stands → Valid TxState V f →
      Within P inside t → MeantAs (Within P) inside None Any ((in_transaction R).put form inside m c v f t)
  tx_puts P form true m c v f t k p h = on_cell_meant (cell_of (rule (form_of.Put form)) true c) m.span (λ d t1. tx_put form m.span d v t1) t (λ d. put_meant form m.span d v t k)
  tx_puts P form false m c v f t k p h = absurd (false≢true h)

  tx_updates : (P : Suits) (form : UpdateForm) (inside : Bool) (m : Mark) (c : Value) (callee : Callee) (vs : List Value) (f : Applies TxState) (t : TxState) → MayStand (zone_of inside) (rule (form_of.Update form)).stands → P callee (suc (length vs)) → ((v : Value) → Proper TxState f callee (v ∷ vs)) →
      Valid TxState V f → Within P inside t → MeantAs (Within P) inside None Any ((in_transaction R).update form inside m c callee vs f t)
  tx_updates P form true m c callee vs f t k suits p valid h = on_cell_meant (cell_of (rule (form_of.Update form)) true c) m.span (λ d t1. tx_update R form m d callee vs f t1) t (λ d. update_meant form m d callee vs f t k p)
  tx_updates P form false m c callee vs f t k suits p valid h = absurd (false≢true h)

  tx_sends : (P : Suits) (inside : Bool) (m : Mark) (c : Value) (callee : Callee) (vs : List Value) (t : TxState) → Within P inside t → MeantAs (Within P) inside None Any ((in_transaction R).send inside m c callee vs t)
  tx_sends P true m c callee vs t h =
      on_cell_meant (cell_of (rule form_of.Send) true c) m.span (λ g t1. Completes c (record t1 { done = hold_send (record { agent = g; callee = callee; args = vs; span = m.span }) t1.done })) t (λ g. (tt, refl))
  tx_sends P false m c callee vs t h = absurd (false≢true h)

  tx_dosync : (P O : Suits) (inside : Bool) (m : Mark) (e : Tree) (env : List Value) (body : TxState → Completion TxState Value) (f : Applies TxState) (t : TxState) → ((t1 : TxState) → Within P true t1 → MeantAs (Within P) true None Any (body t1)) → ((t1 : TxState) → Within O true t1 → MeantAs (Within O) true None Any (body t1)) →
      ((c : Callee) (ws : List Value) → O c (length ws) → Proper TxState f c ws) → Valid TxState V f → Within P inside t → MeantAs (Within P) inside None Any ((in_transaction R).dosync inside m e env body f t)
  tx_dosync P O true m e env body f t joins alone callees valid h = joins t h
  tx_dosync P O false m e env body f t joins alone callees valid h = absurd (false≢true h)

  -- the forms in a transaction
  tx_forms : SoundForms TxState (in_transaction R) Within V
  tx_forms = record {
    print = tx_print;
    look = tx_looks;
    put = tx_puts;
    update = tx_updates;
    send = tx_sends;
    dosync = tx_dosync;
  }

answer_meant : (x : Completion TxState Value) → FormMeant x → IsMeant x
answer_meant (Completes v t) h = tt
answer_meant (Recurs vs t) h = absurd (none_some (length vs) h.0)
answer_meant (Faults f t) h = tt
answer_meant (Retries t) h = absurd (false≢true h.1)
answer_meant (Waits t) h = tt
answer_meant (OutOfTurns t) h = tt
answer_meant Invalid h = absurd h

-- no answer of a sound transaction's body is invalid, on any world
pub transaction_meant : TransactionIsMeant
transaction_meant functions n body locals R sound h =
    answer_meant (tx_meaning n functions (length functions) body locals R)
    (main_meant TxState (in_transaction R) Within (λ c. ⊥) (tx_forms R (λ c. ⊥)) true tx_start (λ P. refl) functions sound n (λ c v. absurd v) body locals h)
