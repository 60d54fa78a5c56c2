-- What pure code, a transaction on one world and a thread on its events make of the forms on cells is no recur.
use Rattle.std.proofs.Common.{ℕ, zero, suc, Bool, true, false, ◌||◌, ◌&&◌, ◌==◌, List, [], ◌∷◌, Result, Option, Some, None, if◌then◌else◌}
use Rattle.txs_world_protocol.specs.Ask.{same_writes, same_cell, same_value, same_action, same_actions}
use Rattle.txs_world_protocol.specs.SeenEvent.{SeenEvent, home}
use Rattle.txs_world_protocol.specs.declared.event.Cause.TheVariants as cause
use Rattle.txs_world_protocol.specs.declared.event.EventKind.{EventKind}
use Rattle.txs_world_protocol.specs.declared.event.EventKind.TheVariants.{Read, Commit, Retry, Fail, Refused, Send as Sent, SendRefused, Act, Swap as Swapped, Broke}
use Rattle.txs_frame.specs.Frame.{PlainTxFrame, has_number, commuted, set_ref, ensure_ref, commute_ref, sends_of_commit}
use Rattle.txs_value_cell.specs.Cells.{World, validators_of}
use Rattle.txs_value_cell.specs.Forms.{rule, cell_of, may_stand}
use Rattle.txs_value_cell.specs.declared.action.Action.{Action}
use Rattle.txs_value_data.specs.Places.{fault_at}
use Rattle.txs_value_data.specs.declared.fault.Fault.{Fault}
use Rattle.txs_value_data.specs.declared.fault.FaultKind.{FaultKind}
use Rattle.txs_value_data.specs.declared.fault.FaultKind.TheVariants.{AgentFailed}
use Rattle.txs_value_data.specs.declared.fault.Span.{Span}
use Rattle.txs_value_cell.specs.declared.form.CellForm.{CellForm}
use Rattle.txs_value_cell.specs.declared.form.CellForm.TheVariants as form_of
use Rattle.txs_value_cell.specs.declared.form.LookForm.{LookForm}
use Rattle.txs_value_cell.specs.declared.form.LookForm.TheVariants.{Deref, Ensure}
use Rattle.txs_value_cell.specs.declared.form.PutForm.{PutForm}
use Rattle.txs_value_cell.specs.declared.form.PutForm.TheVariants.{RefSet, Reset}
use Rattle.txs_value_cell.specs.declared.form.UpdateForm.{UpdateForm}
use Rattle.txs_value_cell.specs.declared.form.UpdateForm.TheVariants.{Alter, Commute, Swap}
use Rattle.txs_value_data.specs.declared.op.Callee.{Callee}
use Rattle.txs_value_data.specs.declared.value.CellId.{CellId}
use Rattle.txs_value_data.specs.declared.value.Value.{Value}
use Rattle.txs_value_data.specs.declared.value.Value.TheVariants.{Cell}
use Rattle.txs_tree_meaning.specs.Meaning.{Completion, Completes, Recurs, Faults, Retries, Waits, OutOfTurns, Invalid, bind, result_of, allowed, Applies}
use Rattle.txs_tree_meaning.specs.Pure.{no_effects}
use Rattle.txs_tree_meaning.specs.Thread.{ThreadState, with_tx, holding, sends_or_holds, uneaten, eats, meant, reads, resets, faulted, faultless, swaps, sends, over, Transacting, run_of, ends_tx, is_retry, is_held, missing, again, eats_tx, Surroundings, accepts, thread_look, thread_put, thread_update, on_events}
use Rattle.txs_tree_meaning.specs.Transaction.{TxState, own, noted, looked, taken_lacking, done_as, on_cell, tx_look_lacking, tx_put, tx_update_lacking, in_transaction_lacking, tx_meaning, tx_meaning_lacking, final_writes}
use Rattle.txs_tree_meaning.specs.Tree.{Mark}
use Rattle.txs_opt.proofs.Recurring.{IsEnd, FormsEnd, CalleesEnd, bind_end}

pub pure_ends : FormsEnd (Unit {0}) no_effects
pure_ends = record {
  print = λ inside vs s. tt;
  look = λ form inside m c s. tt;
  put = λ form inside m c v f s h. tt;
  update = λ form inside m c callee vs f s h. tt;
  send = λ inside m c callee vs s. tt;
  dosync = λ inside m e env b f s h j. tt;
}

on_cell_end : {S : Type 0} (form : CellForm) (inside : Bool) (span : Span) (v : Value) (go : CellId → S → Completion S Value) (s : S) → ((c : CellId) (t : S) → IsEnd (go c t)) → IsEnd (on_cell form inside span v go s)
on_cell_end form inside span v go s h = bind_end (result_of (cell_of (rule form) inside v) span s) go h

-- ---- a transaction on one world

done_end : (r : Result PlainTxFrame FaultKind) (span : Span) (v : Value) (t : TxState) → IsEnd (done_as r span v t)
done_end r span v t = bind_end (result_of r span t) (λ w t1. Completes v (record t1 { done = w })) (λ w t1. tt)

taken_end : (lack : Option ℕ) (R : World) (c : CellId) (t : TxState) → IsEnd (taken_lacking lack R c t)
taken_end lack R c t = bind_end (looked lack R c t) (λ v t1. Completes v (noted c (own t1.done c.number) t1)) (λ v t1. tt)

look_end : (lack : Option ℕ) (R : World) (form : LookForm) (c : CellId) (t : TxState) → IsEnd (tx_look_lacking lack R form c t)
look_end lack R Deref c t = taken_end lack R c t
look_end lack R Ensure c t = bind_end (taken_lacking lack R c t) (λ v t1. Completes v (record t1 { done = ensure_ref c t1.done })) (λ v t1. tt)

put_end : (form : PutForm) (span : Span) (c : CellId) (v : Value) (t : TxState) → IsEnd (tx_put form span c v t)
put_end RefSet span c v t = done_end (set_ref c v t.done) span v t
put_end Reset span c v t = tt

update_end : (lack : Option ℕ) (R : World) (form : UpdateForm) (m : Mark) (c : CellId) (callee : Callee) (vs : List Value) (f : Applies TxState) (t : TxState) → CalleesEnd f → IsEnd (tx_update_lacking lack R form m c callee vs f t)
update_end lack R Alter m c callee vs f t h =
    bind_end (taken_lacking lack R c t) (λ v t1. bind (f callee (v ∷ vs) t1) (λ w t2. done_as (set_ref c w t2.done) m.span w t2))
    (λ v t1. bind_end (f callee (v ∷ vs) t1) (λ w t2. done_as (set_ref c w t2.done) m.span w t2) (λ w t2. done_end (set_ref c w t2.done) m.span w t2))
update_end lack R Commute m c callee vs f t h =
    bind_end (looked lack R c t) (λ v t1. bind (f callee (v ∷ vs) t1) (λ w t2. Completes w (record t2 { done = commute_ref c callee vs w t2.done; used = t2.used || m.wanted })))
    (λ v t1. bind_end (f callee (v ∷ vs) t1) (λ w t2. Completes w (record t2 { done = commute_ref c callee vs w t2.done; used = t2.used || m.wanted })) (λ w t2. tt))
update_end lack R Swap m c callee vs f t h = tt

pub tx_ends : (lack : Option ℕ) (R : World) → FormsEnd TxState (in_transaction_lacking lack R)
tx_ends lack R = record {
  print = λ inside vs s. tt;
  look = λ form inside m v s. on_cell_end (form_of.Look form) true m.span v (tx_look_lacking lack R form) s (look_end lack R form);
  put = λ form inside m v w f s h. on_cell_end (form_of.Put form) true m.span v (λ c t1. tx_put form m.span c w t1) s (λ c t1. put_end form m.span c w t1);
  update = λ form inside m v callee vs f s h. on_cell_end (form_of.Update form) true m.span v (λ c t1. tx_update_lacking lack R form m c callee vs f t1) s (λ c t1. update_end lack R form m c callee vs f t1 h);
  send = λ inside m v callee vs s. bind_end (result_of (cell_of (rule form_of.Send) true v) m.span s) _ (λ c t1. tt);
  dosync = λ inside m e env b f s h j. h s;
}

-- ---- a thread on its events

uneaten_end : (es : List SeenEvent) (x : Completion ThreadState Value) → IsEnd x → IsEnd (uneaten es x)
uneaten_end es (Completes v t) h = h
uneaten_end es (Recurs vs t) h = h
uneaten_end es (Faults f t) h = h
uneaten_end es (Retries t) h = h
uneaten_end es (Waits t) h = h
uneaten_end es (OutOfTurns t) h = h
uneaten_end es Invalid h = h

eats_end : (book : ℕ) (go : SeenEvent → ThreadState → Completion ThreadState Value) → ((e : SeenEvent) (t : ThreadState) → IsEnd (go e t)) → (es : List SeenEvent) (t : ThreadState) → IsEnd (eats book go es t)
eats_end book go h [] t = tt
eats_end book go h (e ∷ es) t = test (e.book == book)
  where
    test : (b : Bool) → IsEnd (if b then uneaten (e ∷ es) (go e (record t { todo = es })) else Invalid)
    test true = uneaten_end (e ∷ es) (go e (record t { todo = es })) (h e (record t { todo = es }))
    test false = tt

meant_end : (b : Bool) (v : Value) (t : ThreadState) → IsEnd (meant b v t)
meant_end true v t = tt
meant_end false v t = tt

reads_end : (c : CellId) (e : EventKind) (C : World) (t : ThreadState) → IsEnd (reads c e C t)
reads_end c (Read d) C t = meant_end (same_cell c d) (C c.number) t
reads_end c (Commit at view ws sent) C t = tt
reads_end c (Retry since d cause) C t = tt
reads_end c (Fail at view) C t = tt
reads_end c (Refused at view agent) C t = tt
reads_end c (Sent a) C t = tt
reads_end c (SendRefused g) C t = tt
reads_end c (Act number g new sends) C t = tt
reads_end c (Swapped new) C t = tt
reads_end c (Broke at) C t = tt

resets_end : (v : Value) (e : EventKind) (t : ThreadState) → IsEnd (resets v e t)
resets_end v (Read d) t = tt
resets_end v (Commit at view ws sent) t = tt
resets_end v (Retry since d cause) t = tt
resets_end v (Fail at view) t = tt
resets_end v (Refused at view agent) t = tt
resets_end v (Sent a) t = tt
resets_end v (SendRefused g) t = tt
resets_end v (Act number g new sends) t = tt
resets_end v (Swapped new) t = meant_end (same_value v new) v t
resets_end v (Broke at) t = tt

faulted_end : {A : Type 0} (x : Completion ThreadState A) (go : Fault → ThreadState → Completion ThreadState Value) → ((f : Fault) (t : ThreadState) → IsEnd (go f t)) → IsEnd (faulted x go)
faulted_end (Completes a s) go h = tt
faulted_end (Recurs vs s) go h = tt
faulted_end (Faults f s) go h = h f s
faulted_end (Retries s) go h = tt
faulted_end (Waits s) go h = tt
faulted_end (OutOfTurns s) go h = tt
faulted_end Invalid go h = tt

faultless_end : {A : Type 0} (x : Completion ThreadState A) (go : A → ThreadState → Completion ThreadState Value) → ((a : A) (t : ThreadState) → IsEnd (go a t)) → IsEnd (faultless x go)
faultless_end (Completes a s) go h = h a s
faultless_end (Recurs vs s) go h = tt
faultless_end (Faults f s) go h = tt
faultless_end (Retries s) go h = tt
faultless_end (Waits s) go h = tt
faultless_end (OutOfTurns s) go h = tt
faultless_end Invalid go h = tt

over_end : (t : ThreadState) (x : Completion TxState Value) (go : Value → TxState → Completion ThreadState Value) (broke : Fault → Completion ThreadState Value) → ((v : Value) (u : TxState) → IsEnd (go v u)) → ((f : Fault) → IsEnd (broke f)) → IsEnd (over t x go broke)
over_end t (Completes a x) go broke h j = h a x
over_end t (Recurs vs x) go broke h j = tt
over_end t (Faults f x) go broke h j = j f
over_end t (Retries x) go broke h j = tt
over_end t (Waits x) go broke h j = tt
over_end t (OutOfTurns x) go broke h j = tt
over_end t Invalid go broke h j = tt

swaps_end : (c : CellId) (f : Value → ThreadState → Completion ThreadState Value) (e : EventKind) (R C : World) (t : ThreadState) → IsEnd (swaps c f e R C t)
swaps_end c f (Read d) R C t = tt
swaps_end c f (Commit at view ws sent) R C t = tt
swaps_end c f (Retry since d cause) R C t = tt
swaps_end c f (Fail at view) R C t = tt
swaps_end c f (Refused at view agent) R C t = tt
swaps_end c f (Sent a) R C t = tt
swaps_end c f (SendRefused g) R C t = tt
swaps_end c f (Act number g new sends) R C t = tt
swaps_end c f (Swapped new) R C t = faultless_end (f (C c.number) t) (λ v t1. meant (same_value v new) v t1) (λ v t1. meant_end (same_value v new) v t1)
swaps_end c f (Broke at) R C t = faulted_end (f (R c.number) t) (λ g t1. Faults g t1) (λ g t1. tt)

sends_end : (a : Action) (span : Span) (e : EventKind) (t : ThreadState) → IsEnd (sends a span e t)
sends_end a span (Read d) t = tt
sends_end a span (Commit at view ws sent) t = tt
sends_end a span (Retry since d cause) t = tt
sends_end a span (Fail at view) t = tt
sends_end a span (Refused at view agent) t = tt
sends_end a span (Sent b) t = meant_end (same_action a b) (Cell a.agent) t
sends_end a span (SendRefused g) t = test (same_cell a.agent g)
  where
    test : (b : Bool) → IsEnd {S = ThreadState} {A = Value} (if b then Faults (fault_at AgentFailed span) t else Invalid)
    test true = tt
    test false = tt
sends_end a span (Act number g new sends) t = tt
sends_end a span (Swapped new) t = tt
sends_end a span (Broke at) t = tt

holds_end : (held : Option (List Action)) (a : Action) (span : Span) (t : ThreadState) → IsEnd (sends_or_holds held a span t)
holds_end None a span t = eats_end 0 (λ e t1. sends a span e.kind t1) (λ e t1. sends_end a span e.kind t1) t.todo t
holds_end (Some l) a span t = tt

ends_end : (d : Transacting) (f : Applies ThreadState) (e : EventKind) (R Q C : World) (t : ThreadState) → IsEnd (ends_tx d f e R Q C t)
ends_end d f (Read c) R Q C t = tt
ends_end d f (Commit at view writes sent) R Q C t =
    over_end t (d.on R) (λ v x. faultless (final_writes f d.validators d.mark.span x.done C t) (λ ws t1. meant (same_writes ws writes && same_actions (sends_of_commit t1.held x.done.sends) sent) v (holding x.done.sends (with_tx (run_of d v x) t1)))) (λ g. Invalid)
    (λ v x. faultless_end (final_writes f d.validators d.mark.span x.done C t) (λ ws t1. meant (same_writes ws writes && same_actions (sends_of_commit t1.held x.done.sends) sent) v (holding x.done.sends (with_tx (run_of d v x) t1))) (λ ws t1. meant_end (same_writes ws writes && same_actions (sends_of_commit t1.held x.done.sends) sent) v (holding x.done.sends (with_tx (run_of d v x) t1))))
    (λ g. tt)
ends_end d f (Retry since c cause) R Q C t = tt
ends_end d f (Fail at view) R Q C t =
    over_end t (d.on R) (λ v x. faulted (final_writes f d.validators d.mark.span x.done Q t) (λ g t1. Faults g t1)) (λ g. Faults g t) (λ v x. faulted_end (final_writes f d.validators d.mark.span x.done Q t) (λ g t1. Faults g t1) (λ g t1. tt)) (λ g. tt)
ends_end d f (Refused at view agent) R Q C t =
    over_end t (d.on R) (λ v x. faultless (final_writes f d.validators d.mark.span x.done Q t) (λ ws t1. Faults (fault_at AgentFailed d.mark.span) (with_tx (run_of d v x) t1))) (λ g. Invalid)
    (λ v x. faultless_end (final_writes f d.validators d.mark.span x.done Q t) (λ ws t1. Faults (fault_at AgentFailed d.mark.span) (with_tx (run_of d v x) t1)) (λ ws t1. tt)) (λ g. tt)
ends_end d f (Sent a) R Q C t = tt
ends_end d f (SendRefused g) R Q C t = tt
ends_end d f (Act number g new sends) R Q C t = tt
ends_end d f (Swapped new) R Q C t = tt
ends_end d f (Broke at) R Q C t = tt

allowed_end : (b : Bool) (x : Completion ThreadState Value) → IsEnd x → IsEnd (allowed b x)
allowed_end true x h = h
allowed_end false x h = tt

missing_end : (t : ThreadState) (x : Completion TxState Value) (next : Completion ThreadState Value) → IsEnd next → IsEnd (missing t x next)
missing_end t (Completes v y) next h = tt
missing_end t (Recurs vs y) next h = tt
missing_end t (Faults f y) next h = tt
missing_end t (Retries y) next h = tt
missing_end t (Waits y) next h = h
missing_end t (OutOfTurns y) next h = tt
missing_end t Invalid next h = tt

-- a try that had to run again, and what follows
again_end : (d : Transacting) (e : EventKind) (R : World) (t : ThreadState) (next : Completion ThreadState Value) → IsEnd next → IsEnd (again d e R t next)
again_end d (Retry since c cause.Outdated) R t next h = missing_end t (d.lacking c.number R) next h
again_end d (Retry since c cause.Held) R t next h = over_end t (d.on R) (λ v x. allowed (is_held x.done c.number) next) (λ g. Invalid) (λ v x. allowed_end (is_held x.done c.number) next h) (λ g. tt)
again_end d (Retry since c (cause.Commuted at)) R t next h = over_end t (d.on R) (λ v x. allowed (has_number (commuted x.done) c.number) next) (λ g. Invalid) (λ v x. allowed_end (has_number (commuted x.done) c.number) next h) (λ g. tt)
again_end d _ R t next h = tt

eats_tx_end : (n : ℕ) (d : Transacting) (f : Applies ThreadState) (es : List SeenEvent) (t : ThreadState) → IsEnd (eats_tx n d f es t)
eats_tx_end zero d f es t = tt
eats_tx_end (suc n) d f [] t = tt
eats_tx_end (suc n) d f (e ∷ es) t = test (e.book == 0) (is_retry e.kind) (eats_tx_end n d f es t)
  where
    test : (b c : Bool) → IsEnd (eats_tx n d f es t) → IsEnd (if b then (if c then again d e.kind e.R (record t { todo = e ∷ es }) (eats_tx n d f es t) else uneaten (e ∷ es) (ends_tx d f e.kind e.R e.Q e.C (record t { todo = es }))) else Invalid)
    test true true next = again_end d e.kind e.R (record t { todo = e ∷ es }) (eats_tx n d f es t) next
    test true false next = uneaten_end (e ∷ es) (ends_tx d f e.kind e.R e.Q e.C (record t { todo = es })) (ends_end d f e.kind e.R e.Q e.C (record t { todo = es }))
    test false c next = tt

look_on : (x : Surroundings) (form : LookForm) (c : CellId) (t : ThreadState) → IsEnd (thread_look x form c t)
look_on x Deref c t = eats_end (home x.cells c) (λ e t1. reads c e.kind e.C t1) (λ e t1. reads_end c e.kind e.C t1) t.todo t
look_on x Ensure c t = tt

put_on : (x : Surroundings) (form : PutForm) (span : Span) (c : CellId) (v : Value) (f : Applies ThreadState) (t : ThreadState) → IsEnd (thread_put x form span c v f t)
put_on x RefSet span c v f t = tt
put_on x Reset span c v f t =
    bind_end (accepts x f c span v t) (λ w t1. eats (home x.cells c) (λ e t2. resets w e.kind t2) t1.todo t1) (λ w t1. eats_end (home x.cells c) (λ e t2. resets w e.kind t2) (λ e t2. resets_end w e.kind t2) t1.todo t1)

update_on : (x : Surroundings) (form : UpdateForm) (span : Span) (c : CellId) (callee : Callee) (vs : List Value) (f : Applies ThreadState) (t : ThreadState) → IsEnd (thread_update x form span c callee vs f t)
update_on x Alter span c callee vs f t = tt
update_on x Commute span c callee vs f t = tt
update_on x Swap span c callee vs f t =
    let made : Value → ThreadState → Completion ThreadState Value = λ v t2. bind (f callee (v ∷ vs) t2) (accepts x f c span) in
    eats_end (home x.cells c) (λ e t1. swaps c made e.kind e.R e.C t1) (λ e t1. swaps_end c made e.kind e.R e.C t1) t.todo t

pub event_ends : (x : Surroundings) (d : ℕ) → FormsEnd ThreadState (on_events x d)
event_ends x d = record {
  print = λ inside vs s. tt;
  look = λ form inside m v s. allowed_end (may_stand (rule (form_of.Look form)).stands false) (on_cell (form_of.Look form) false m.span v (thread_look x form) s) (on_cell_end (form_of.Look form) false m.span v (thread_look x form) s (look_on x form));
  put = λ form inside m v w f s h. allowed_end (may_stand (rule (form_of.Put form)).stands false) (on_cell (form_of.Put form) false m.span v (λ c t1. thread_put x form m.span c w f t1) s)
      (on_cell_end (form_of.Put form) false m.span v (λ c t1. thread_put x form m.span c w f t1) s (λ c t1. put_on x form m.span c w f t1));
  update = λ form inside m v callee vs f s h. allowed_end (may_stand (rule (form_of.Update form)).stands false) (on_cell (form_of.Update form) false m.span v (λ c t1. thread_update x form m.span c callee vs f t1) s)
      (on_cell_end (form_of.Update form) false m.span v (λ c t1. thread_update x form m.span c callee vs f t1) s (λ c t1. update_on x form m.span c callee vs f t1));
  send = λ inside m v callee vs s. on_cell_end form_of.Send false m.span v (λ c t1. sends_or_holds t1.held (record { agent = c; callee = callee; args = vs; span = m.span }) m.span t1) s (λ c t1. holds_end t1.held (record { agent = c; callee = callee; args = vs; span = m.span }) m.span t1);
  dosync = λ inside m e env b f s h j. eats_tx_end x.tries (record { mark = m; body = e; locals = env; on = tx_meaning x.turns x.functions d e env; lacking = λ j. tx_meaning_lacking x.turns x.functions d e env (Some j); validators = validators_of x.cells }) f s.todo s;
}
