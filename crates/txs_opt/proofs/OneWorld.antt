-- What pure code and a transaction on one world, which may lack a value, make of the forms on cells is alike, where callees are.
use Rattle.std.proofs.Common.{◌≡◌, ℕ, zero, suc, Bool, true, false, ◌||◌, ◌==◌, List, [], ◌∷◌, ◌++◌, Option, Some, None, Ok, Err, if◌then◌else◌, refl, subst}
use Rattle.txs_world_protocol.specs.Ask.{Writes, buffered, with_write}
use Rattle.txs_frame.specs.Frame.{PlainTxFrame, with_cell, is_commuted, set_ref, ensure_ref, commute_ref, hold_send, commuted, set_writes, commutes_of, by_ref, phase_work}
use Rattle.txs_frame.specs.declared.frame.Commute.{Commute}
use Rattle.txs_value_cell.specs.Cells.{World, Validators, validator_at}
use Rattle.txs_value_cell.specs.Forms.{rule, cell_of}
use Rattle.txs_value_data.specs.declared.fault.FaultKind.{FaultKind}
use Rattle.txs_value_data.specs.declared.fault.FaultKind.TheVariants.{SetAfterCommute, InvalidState}
use Rattle.txs_value_data.specs.Places.{fault_at}
use Rattle.txs_value_data.specs.declared.fault.Span.{Span}
use Rattle.txs_value_cell.specs.declared.form.CellForm.{CellForm}
use Rattle.txs_value_cell.specs.declared.form.CellForm.TheVariants as form_of
use Rattle.txs_value_cell.specs.declared.form.LookForm.{LookForm}
use Rattle.txs_value_cell.specs.declared.form.LookForm.TheVariants.{Deref, Ensure}
use Rattle.txs_value_cell.specs.declared.form.PutForm.{PutForm}
use Rattle.txs_value_cell.specs.declared.form.PutForm.TheVariants.{RefSet, Reset}
use Rattle.txs_value_cell.specs.declared.form.UpdateForm.{UpdateForm}
use Rattle.txs_value_cell.specs.declared.form.UpdateForm.TheVariants.{Alter, Commute as CommuteForm, Swap}
use Rattle.txs_value_data.specs.declared.op.Callee.{Callee}
use Rattle.txs_value_data.specs.declared.value.CellId.{CellId}
use Rattle.txs_value_data.specs.declared.value.Value.{Value}
use Rattle.txs_value_data.specs.declared.value.Value.TheVariants.{Nil}
use Rattle.txs_tree_meaning.specs.Meaning.{Completion, Completes, Recurs, Faults, Retries, Waits, OutOfTurns, Invalid, bind, result_of, Applies}
use Rattle.txs_tree_meaning.specs.Pure.{no_effects}
use Rattle.txs_tree_meaning.specs.Transaction.{TxState, own, noted, lacks, looked, taken_lacking, done_as, on_cell, tx_look_lacking, tx_put, tx_update_lacking, in_transaction_lacking, value_or, current, redone, commute_writes, judged, validated, accepted, if_accepted, final_writes, merged, valued}
use Rattle.txs_tree_meaning.specs.Tree.{Mark, Tree}
use Rattle.txs_opt.proofs.Below.{Kind, Fine, Each, all_fine, wider_fine}
use Rattle.txs_opt.proofs.Like.{Likeness, Like, PartsLike, AppliesLike, bind_like, choose_like, result_like}
use Rattle.txs_opt.proofs.Parts.{FormsLike}

-- equal states; where the first end is invalid, the second is it too, or may be any
abbrev pub equal_states : (S : Type 0) → Type 0 → Likeness S
equal_states S loose = record { rel = λ s t. s ≡ t; loose = loose }

-- any two bodies are linked
abbrev pub Any : Tree → List Value → Tree → List Value → Type 0
Any e env e1 env1 = Unit {0}

-- ---- pure code

pub pure_forms : (loose : Type 0) (May : Kind) → FormsLike (Unit {0}) (equal_states (Unit {0}) loose) May Any no_effects no_effects
pure_forms loose May = record {
  print = λ inside vs s t r. tt;
  look = λ form inside m c s t r. tt;
  put = λ form inside m c v f g here h s t r. tt;
  update = λ form inside m c callee vs f g fine here h s t r. tt;
  send = λ inside m c callee vs s t r. tt;
  dosync = λ inside m e e1 env env1 b b1 f g linked here parts h s t r. tt;
}

-- ---- commutes whose callees are of a kind

abbrev pub AllFine : Kind → List Commute → Type 0
AllFine May [] = Unit {0}
AllFine May (c ∷ cs) = Fine May c.callee × AllFine May cs

-- each callee is of the kind of all
pub any_callee : (callee : Callee) → Fine Each callee
any_callee callee = all_fine Each (λ f. tt) tt callee

pub any_fine : (cs : List Commute) → AllFine Each cs
any_fine [] = tt
any_fine (c ∷ cs) = (any_callee c.callee, any_fine cs)

module _ (May : Kind) where
  fine_append : (cs ds : List Commute) → AllFine May cs → AllFine May ds → AllFine May (cs ++ ds)
  fine_append [] ds h j = j
  fine_append (c ∷ cs) ds h j = (h.0, fine_append cs ds h.1 j)

  fine_of : (k : ℕ) (cs : List Commute) → AllFine May cs → AllFine May (commutes_of k cs)
  fine_of k [] h = tt
  fine_of k (c ∷ cs) h = test (c.cell.number == k) (fine_of k cs h.1)
    where
      test : (b : Bool) → AllFine May (commutes_of k cs) → AllFine May (if b then c ∷ commutes_of k cs else commutes_of k cs)
      test true rest = (h.0, rest)
      test false rest = rest

  fine_by_ref : (ds : List CellId) (cs : List Commute) → AllFine May cs → AllFine May (by_ref ds cs)
  fine_by_ref [] cs h = tt
  fine_by_ref (d ∷ ds) cs h = fine_append (commutes_of d.number cs) (by_ref ds cs) (fine_of d.number cs h) (fine_by_ref ds cs h)

  pub fine_phase : (w : PlainTxFrame) → AllFine May w.commutes → AllFine May (phase_work w)
  fine_phase w h = fine_by_ref (commuted w) w.commutes h

-- equal states of a transaction, whose commutes have callees of a kind
abbrev pub fine_states : Kind → Type 0 → Likeness TxState
fine_states May loose = record { rel = λ s t. (s ≡ t) × AllFine May s.done.commutes; loose = loose }

-- the state at the end has such commutes
abbrev EndsFine : {A : Type 0} → Kind → Completion TxState A → Type 0
EndsFine May (Completes a s) = AllFine May s.done.commutes
EndsFine May (Recurs vs s) = AllFine May s.done.commutes
EndsFine May (Faults f s) = AllFine May s.done.commutes
EndsFine May (Retries s) = AllFine May s.done.commutes
EndsFine May (Waits s) = AllFine May s.done.commutes
EndsFine May (OutOfTurns s) = AllFine May s.done.commutes
EndsFine May Invalid = Unit {0}

module _ (May : Kind) (loose : Type 0) where
  fine_itself : {A : Type 0} (x : Completion TxState A) → EndsFine May x → Like (fine_states May loose) x x
  fine_itself (Completes a s) h = (refl, (refl, h))
  fine_itself (Recurs vs s) h = (refl, (refl, h))
  fine_itself (Faults f s) h = (refl, (refl, h))
  fine_itself (Retries s) h = (refl, h)
  fine_itself (Waits s) h = (refl, h)
  fine_itself (OutOfTurns s) h = (refl, h)
  fine_itself Invalid h = tt

  -- one part from equal states
  part_fine : {A : Type 0} (f : TxState → Completion TxState A) → ((s : TxState) → AllFine May s.done.commutes → EndsFine May (f s)) → PartsLike TxState (fine_states May loose) f f
  part_fine f h s t r = subst (λ u. Like (fine_states May loose) (f s) (f u)) r.0 (fine_itself (f s) (h s r.1))

module _ (May : Kind) where
  noted_fine : (c : CellId) (o : Option Value) (s : TxState) → AllFine May s.done.commutes → AllFine May (noted c o s).done.commutes
  noted_fine c None s h = h
  noted_fine c (Some v) s h = h

  ends_bind : {A B : Type 0} (x : Completion TxState A) (f : A → TxState → Completion TxState B) → EndsFine May x → ((a : A) (s : TxState) → AllFine May s.done.commutes → EndsFine May (f a s)) → EndsFine May (bind x f)
  ends_bind (Completes a s) f h j = j a s h
  ends_bind (Recurs vs s) f h j = tt
  ends_bind (Faults g s) f h j = h
  ends_bind (Retries s) f h j = h
  ends_bind (Waits s) f h j = h
  ends_bind (OutOfTurns s) f h j = h
  ends_bind Invalid f h j = tt

  -- a look, where the value may not be there
  looked_fine : (lack : Option ℕ) (R : World) (c : CellId) (s : TxState) → AllFine May s.done.commutes → EndsFine May (looked lack R c s)
  looked_fine lack R c s h = test (lacks lack (own s.done c.number) c.number)
    where
      test : (b : Bool) → EndsFine May (if b then Waits s else Completes (current R s.done c) s)
      test true = h
      test false = h

  taken_fine : (lack : Option ℕ) (R : World) (c : CellId) (s : TxState) → AllFine May s.done.commutes → EndsFine May (taken_lacking lack R c s)
  taken_fine lack R c s h = ends_bind (looked lack R c s) (λ v t. Completes v (noted c (own t.done c.number) t)) (looked_fine lack R c s h) (λ v t j. noted_fine c (own t.done c.number) t j)

  done_fine : (b : Bool) (k : FaultKind) (w : PlainTxFrame) (span : Span) (v : Value) (s : TxState) → AllFine May s.done.commutes → AllFine May w.commutes → EndsFine May (done_as (if b then Err k else Ok w) span v s)
  done_fine true k w span v s h j = h
  done_fine false k w span v s h j = j

  set_fine : (c : CellId) (w : Value) (span : Span) (v : Value) (s : TxState) → AllFine May s.done.commutes → EndsFine May (done_as (set_ref c w s.done) span v s)
  set_fine c w span v s h = done_fine (is_commuted s.done c.number) SetAfterCommute (record s.done { values = with_write s.done.values c w; sets = with_cell s.done.sets c }) span v s h h

  look_fine : (lack : Option ℕ) (R : World) (form : LookForm) (c : CellId) (s : TxState) → AllFine May s.done.commutes → EndsFine May (tx_look_lacking lack R form c s)
  look_fine lack R Deref c s h = taken_fine lack R c s h
  look_fine lack R Ensure c s h = ends_bind (taken_lacking lack R c s) (λ v t. Completes v (record t { done = ensure_ref c t.done })) (taken_fine lack R c s h) (λ v t j. j)

  put_fine : (form : PutForm) (span : Span) (c : CellId) (v : Value) (s : TxState) → AllFine May s.done.commutes → EndsFine May (tx_put form span c v s)
  put_fine RefSet span c v s h = set_fine c v span v s h
  put_fine Reset span c v s h = tt

-- ---- a transaction on one world

pub on_cell_like : (S : Type 0) (k : Likeness S) (form : CellForm) (inside : Bool) (span : Span) (v : Value) (go go1 : CellId → S → Completion S Value) → ((c : CellId) → PartsLike S k (go c) (go1 c)) → PartsLike S k (on_cell form inside span v go) (on_cell form inside span v go1)
on_cell_like S k form inside span v go go1 h s t r =
    bind_like S k (result_of (cell_of (rule form) inside v) span s) (result_of (cell_of (rule form) inside v) span t) go go1 (result_like S k (cell_of (rule form) inside v) span s t r) h

-- the state with one more commute
abbrev tx_commuted : Mark → CellId → Callee → List Value → Value → TxState → Completion TxState Value
tx_commuted m c callee vs w t = Completes w (record t { done = commute_ref c callee vs w t.done; used = t.used || m.wanted })

module _ (loose : Type 0) (May Might : Kind) (among : (f : ℕ) → Might.calls f → May.calls f) (lack : Option ℕ) (R : World) where
  abbrev K : Likeness TxState
  K = fine_states May loose

  tx_update_like : (form : UpdateForm) (m : Mark) (c : CellId) (callee : Callee) (vs : List Value) (f g : Applies TxState) → Fine Might callee → AppliesLike TxState K Might f g → PartsLike TxState K (tx_update_lacking lack R form m c callee vs f) (tx_update_lacking lack R form m c callee vs g)
  tx_update_like Alter m c callee vs f g fine h s t r =
      bind_like TxState K (taken_lacking lack R c s) (taken_lacking lack R c t)
      (λ v t1. bind (f callee (v ∷ vs) t1) (λ w t2. done_as (set_ref c w t2.done) m.span w t2)) (λ v t1. bind (g callee (v ∷ vs) t1) (λ w t2. done_as (set_ref c w t2.done) m.span w t2))
      (part_fine May loose (taken_lacking lack R c) (taken_fine May lack R c) s t r)
      (λ v s1 t1 r1. bind_like TxState K (f callee (v ∷ vs) s1) (g callee (v ∷ vs) t1) (λ w t2. done_as (set_ref c w t2.done) m.span w t2) (λ w t2. done_as (set_ref c w t2.done) m.span w t2) (h callee (v ∷ vs) fine s1 t1 r1)
      (λ w s2 t2 r2. part_fine May loose (λ u. done_as (set_ref c w u.done) m.span w u) (λ u j. set_fine May c w m.span w u j) s2 t2 r2))
  tx_update_like CommuteForm m c callee vs f g fine h s t r =
      bind_like TxState K (looked lack R c s) (looked lack R c t) (λ v t1. bind (f callee (v ∷ vs) t1) (λ w u. tx_commuted m c callee vs w u)) (λ v t1. bind (g callee (v ∷ vs) t1) (λ w u. tx_commuted m c callee vs w u))
      (part_fine May loose (looked lack R c) (looked_fine May lack R c) s t r)
      (λ v s1 t1 r1. bind_like TxState K (f callee (v ∷ vs) s1) (g callee (v ∷ vs) t1) (λ w u. tx_commuted m c callee vs w u) (λ w u. tx_commuted m c callee vs w u) (h callee (v ∷ vs) fine s1 t1 r1)
      (λ w s2 t2 r2. part_fine May loose (λ u. tx_commuted m c callee vs w u) (λ u j. fine_append May u.done.commutes (record { cell = c; callee = callee; args = vs } ∷ []) j (wider_fine Might May among callee fine, tt)) s2 t2 r2))
  tx_update_like Swap m c callee vs f g fine h s t r = tt

  pub tx_forms : FormsLike TxState K Might Any (in_transaction_lacking lack R) (in_transaction_lacking lack R)
  tx_forms = record {
    print = λ inside vs s t r. tt;
    look = λ form inside m c. on_cell_like TxState K (form_of.Look form) true m.span c (tx_look_lacking lack R form) (tx_look_lacking lack R form) (λ d. part_fine May loose (tx_look_lacking lack R form d) (look_fine May lack R form d));
    put = λ form inside m c v f g here h. on_cell_like TxState K (form_of.Put form) true m.span c (λ d t1. tx_put form m.span d v t1) (λ d t1. tx_put form m.span d v t1) (λ d. part_fine May loose (λ t1. tx_put form m.span d v t1) (put_fine May form m.span d v));
    update = λ form inside m c callee vs f g fine here h. on_cell_like TxState K (form_of.Update form) true m.span c (λ d t1. tx_update_lacking lack R form m d callee vs f t1) (λ d t1. tx_update_lacking lack R form m d callee vs g t1) (λ d. tx_update_like form m d callee vs f g fine h);
    send = λ inside m c callee vs.
        on_cell_like TxState K form_of.Send true m.span c (λ d t1. Completes c (record t1 { done = hold_send (record { agent = d; callee = callee; args = vs; span = m.span }) t1.done })) (λ d t1. Completes c (record t1 { done = hold_send (record { agent = d; callee = callee; args = vs; span = m.span }) t1.done }))
        (λ d. part_fine May loose (λ t1. Completes c (record t1 { done = hold_send (record { agent = d; callee = callee; args = vs; span = m.span }) t1.done })) (λ u j. j));
    dosync = λ inside m e e1 env env1 b b1 f g linked here parts h s t r. parts s t r;
  }

-- ---- commutes that are redone, and validators

-- validators of a kind
abbrev pub ValidFine : Kind → Option Callee → Type 0
ValidFine May None = Unit {0}
ValidFine May (Some f) = Fine May f

abbrev pub AllValid : Kind → Validators → Type 0
AllValid May [] = Unit {0}
AllValid May (o ∷ va) = ValidFine May o × AllValid May va

pub valid_at : (May : Kind) (va : Validators) (k : ℕ) → AllValid May va → ValidFine May (validator_at va k)
valid_at May [] k h = tt
valid_at May (o ∷ va) zero h = h.0
valid_at May (o ∷ va) (suc k) h = valid_at May va k h.1

pub any_valid : (va : Validators) → AllValid Each va
any_valid [] = tt
any_valid (None ∷ va) = (tt, any_valid va)
any_valid (Some f ∷ va) = (any_callee f, any_valid va)

module _ (S : Type 0) (k : Likeness S) (May : Kind) (f g : Applies S) (h : AppliesLike S k May f g) where
  pub redone_like : (work : List Commute) (ws : Writes) → AllFine May work → PartsLike S k (redone f work ws) (redone g work ws)
  redone_like [] ws fine s t r = (refl, r)
  redone_like (c ∷ cs) ws fine s t r =
      let args : List Value = value_or (buffered ws c.cell.number) Nil ∷ c.args in
      bind_like S k (f c.callee args s) (g c.callee args t) (λ v s1. redone f cs (with_write ws c.cell v) s1) (λ v s1. redone g cs (with_write ws c.cell v) s1) (h c.callee args fine.0 s t r) (λ v s1 t1 r1. redone_like cs (with_write ws c.cell v) fine.1 s1 t1 r1)

  judged_like : (answer : Value) (span : Span) (v : Value) → PartsLike S k (judged answer span v) (judged answer span v)
  judged_like answer span v s t r = choose_like S k answer (Completes v s) (Faults (fault_at InvalidState span) s) (Completes v t) (Faults (fault_at InvalidState span) t) (refl, r) (refl, r)

  pub validated_like : (o : Option Callee) (span : Span) (v : Value) → ValidFine May o → PartsLike S k (validated f o span v) (validated g o span v)
  validated_like None span v fine s t r = (refl, r)
  validated_like (Some c) span v fine s t r =
      bind_like S k (f c (v ∷ []) s) (g c (v ∷ []) t) (λ answer s1. judged answer span v s1) (λ answer t1. judged answer span v t1) (h c (v ∷ []) fine s t r) (λ answer s1 t1 r1. judged_like answer span v s1 t1 r1)

  pub accepted_like : (va : Validators) → AllValid May va → (span : Span) (ws : Writes) → PartsLike S k (accepted f va span ws) (accepted g va span ws)
  accepted_like va valid span [] s t r = (refl, r)
  accepted_like va valid span (w ∷ ws) s t r =
      let o = validator_at va w.0.number in
      bind_like S k (validated f o span w.1 s) (validated g o span w.1 t) (λ v s1. accepted f va span ws s1) (λ v t1. accepted g va span ws t1) (validated_like o span w.1 (valid_at May va w.0.number valid) s t r) (λ v s1 t1 r1. accepted_like va valid span ws s1 t1 r1)

  if_accepted_like : (va : Validators) → AllValid May va → (span : Span) (ws : Writes) → PartsLike S k (if_accepted f va span ws) (if_accepted g va span ws)
  if_accepted_like va valid span ws s t r =
      bind_like S k (accepted f va span ws s) (accepted g va span ws t) (λ u s1. Completes ws s1) (λ u t1. Completes ws t1) (accepted_like va valid span ws s t r) (λ u s1 t1 r1. (refl, r1))

  pub final_like : (va : Validators) → AllValid May va → (span : Span) (w : PlainTxFrame) (C : World) → AllFine May w.commutes → PartsLike S k (final_writes f va span w C) (final_writes g va span w C)
  final_like va valid span w C fine s t r =
      bind_like S k (commute_writes f w C s) (commute_writes g w C t) (λ ws s1. if_accepted f va span (merged (set_writes w) ws) s1) (λ ws t1. if_accepted g va span (merged (set_writes w) ws) t1) (redone_like (phase_work w) (valued (commuted w) C) (fine_phase May w fine) s t r)
      (λ ws s1 t1 r1. if_accepted_like va valid span (merged (set_writes w) ws) s1 t1 r1)
