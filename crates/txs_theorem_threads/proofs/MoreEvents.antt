-- More turns change nothing of what a thread or an action means on events, but where it needs turns.
use Rattle.std.proofs.Common.{ℕ, zero, suc, Bool, true, false, List, [], ◌∷◌, Option, Some, None, refl, subst, length, inr, ◌≡◌, ◌≤◌, ◌==◌, ◌&&◌, ◌||◌, if◌then◌else◌}
use Rattle.txs_theorem_threads.proofs.Accepted.{validated_related, if_accepted_related}
use Rattle.std.proofs.lemmas.Bool.{false≢true}
use Rattle.txs_world_protocol.specs.Ask.{same_writes, same_value, same_actions}
use Rattle.txs_world_protocol.specs.SeenEvent.{SeenEvent, home}
use Rattle.txs_world_protocol.specs.declared.event.Cause.TheVariants as cause
use Rattle.txs_world_protocol.specs.declared.event.EventKind.{EventKind}
use Rattle.txs_world_protocol.specs.declared.event.EventKind.TheVariants as event
use Rattle.txs_frame.specs.Frame.{PlainTxFrame, has_number, set_ref, commuted, commute_ref, set_writes, phase_work, sends_of_commit}
use Rattle.txs_value_cell.specs.Cells.{World, Validators, validators_of, validator_at}
use Rattle.txs_value_cell.specs.Forms.{rule, cell_of}
use Rattle.txs_value_data.specs.Limits.{reruns}
use Rattle.txs_value_cell.specs.declared.action.Action.{Action}
use Rattle.txs_value_cell.specs.declared.cell.CellDefinition.{CellDefinition}
use Rattle.txs_value_data.specs.declared.fault.Fault.{Fault}
use Rattle.txs_value_cell.specs.declared.form.CellForm.TheVariants as form_of
use Rattle.txs_value_cell.specs.declared.form.LookForm.{LookForm}
use Rattle.txs_value_cell.specs.declared.form.LookForm.TheVariants.{Deref, Ensure}
use Rattle.txs_value_cell.specs.declared.form.PutForm.{PutForm}
use Rattle.txs_value_cell.specs.declared.form.PutForm.TheVariants.{RefSet, Reset}
use Rattle.txs_value_cell.specs.declared.form.UpdateForm.{UpdateForm}
use Rattle.txs_value_cell.specs.declared.form.UpdateForm.TheVariants.{Alter, Commute, Swap}
use Rattle.txs_value_data.specs.declared.fault.Span.{Span}
use Rattle.txs_value_data.specs.declared.op.Callee.{Callee}
use Rattle.txs_value_data.specs.declared.value.CellId.{CellId}
use Rattle.txs_value_data.specs.declared.value.Value.{Value}
use Rattle.txs_tree_meaning.specs.Known.{known}
use Rattle.txs_tree_meaning.specs.Meaning.{Completion, Completes, Recurs, Faults, Retries, Waits, OutOfTurns, Invalid, bind, closed, allowed, result_of, Applies, Effects, eval, call_at, apply}
use Rattle.txs_tree_meaning.specs.Sound.{SoundSource, SoundFunctions, in_thread}
use Rattle.txs_tree_meaning.specs.Thread.{ThreadState, with_tx, eats, meant, faulted, faultless, swaps, over, Transacting, run_of, ends_tx, is_retry, is_held, missing, again, eats_tx, on_events, around_action, from_events, thread_meaning, action_meaning, holding, uneaten, accepts, resets}
use Rattle.txs_tree_meaning.specs.Transaction.{TxState, looked, taken_lacking, done_as, tx_update_lacking, in_transaction_lacking, tx_start, tx_meaning, tx_meaning_lacking, valued, merged, commute_writes, final_writes, if_accepted, validated}
use Rattle.txs_tree_meaning.specs.Tree.{Mark, Tree, PlainFunction, ThreadSource}
use Rattle.txs_theorem_threads.proofs.Callees.{Keeps, pure_callees, callees_in, function_callees}
use Rattle.txs_theorem_threads.proofs.Related.{Related, Turns, bind_related, closed_related, Applied, Alike, CallsAlike, apply_related, eval_related, calls_related}
use Rattle.txs_theorem_threads.proofs.Same.{same_link, itself, from_same, from_alike, bind_same, redone_alike, IsLong, same_long}
use Rattle.txs_theorem_threads.specs.EndsSo.{NeedsTurns, HasSettled}

-- ---- in a transaction, on one world, which may lack a value

update_alike : (lack : Option ℕ) (R : World) (form : UpdateForm) (m : Mark) (c : CellId) (callee : Callee) (vs : List Value) (f g : Applies TxState) → Applied TxState TxState (same_link TxState) f g → (t : TxState) → Related (same_link TxState) (tx_update_lacking lack R form m c callee vs f t) (tx_update_lacking lack R form m c callee vs g t)
update_alike lack R Alter m c callee vs f g a t =
    bind_same TxState (taken_lacking lack R c t) (λ v t1. bind (f callee (v ∷ vs) t1) (λ w t2. done_as (set_ref c w t2.done) m.span w t2)) (λ v t1. bind (g callee (v ∷ vs) t1) (λ w t2. done_as (set_ref c w t2.done) m.span w t2))
    (λ v t1. bind_related TxState TxState (same_link TxState) (f callee (v ∷ vs) t1) (g callee (v ∷ vs) t1) (λ w t2. done_as (set_ref c w t2.done) m.span w t2) (λ w t2. done_as (set_ref c w t2.done) m.span w t2) (a callee (v ∷ vs) t1 t1 refl)
    (λ w s2 t2 r2. from_same TxState (λ u. done_as (set_ref c w u.done) m.span w u) s2 t2 r2))
update_alike lack R Commute m c callee vs f g a t =
    let now : Value → TxState → Completion TxState Value = λ w t1. Completes w (record t1 { done = commute_ref c callee vs w t1.done; used = t1.used || m.wanted }) in
    bind_same TxState (looked lack R c t) (λ v t1. bind (f callee (v ∷ vs) t1) now) (λ v t1. bind (g callee (v ∷ vs) t1) now)
    (λ v t1. bind_related TxState TxState (same_link TxState) (f callee (v ∷ vs) t1) (g callee (v ∷ vs) t1) now now (a callee (v ∷ vs) t1 t1 refl) (λ w s2 t2 r2. from_same TxState (now w) s2 t2 r2))
update_alike lack R Swap m c callee vs f g a t = refl

module _ (nl nr : ℕ) (le : nl ≤ nr) (functions : List PlainFunction) (sound : SoundFunctions [] functions) where
  more : (S : Type 0) → Turns S S (same_link S) nl nr
  more S = inr (le, λ s t r o. tt)

  tx_alike : (lack : Option ℕ) (R : World) (d : ℕ) → Alike TxState TxState (same_link TxState) (in_transaction_lacking lack R) (in_transaction_lacking lack R) (call_at (λ e. in_transaction_lacking lack R) nl functions d) (call_at (λ e. in_transaction_lacking lack R) nr functions d) nl nr (λ i. Unit {0}) (pure_callees (known functions))
  tx_alike lack R d = record {
    print = λ inside vs s t m r. refl;
    look = λ form inside m c s t may i r. from_same TxState (λ u. (in_transaction_lacking lack R).look form inside m c u) s t r;
    put = λ form inside m c w s t may i a r. from_same TxState (λ u. (in_transaction_lacking lack R).put form inside m c w (apply (call_at (λ e. in_transaction_lacking lack R) nr functions d inside) m.span) u) s t r;
    update = λ form inside m c callee vs s t may i p a r. from_alike TxState _ _
        (λ u. bind_same TxState (result_of (cell_of (rule (form_of.Update form)) true c) m.span u) _ _ (λ x t1. update_alike lack R form m x callee vs _ _ (a (λ f. tt)) t1)) s t r;
    send = λ inside m c callee vs s t i r. from_same TxState (λ u. (in_transaction_lacking lack R).send inside m c callee vs u) s t r;
    dosync = λ inside m e env s t i p b a r. b tt s t r;
  }

  -- a transaction's body with more turns
  tx_more : (d : ℕ) (e : Tree) (env : List Value) → Keeps (pure_callees (known functions)) true e → (lack : Option ℕ) (R : World) → Related (same_link TxState) (tx_meaning_lacking nl functions d e env lack R) (tx_meaning_lacking nr functions d e env lack R)
  tx_more d e env p lack R =
      let cf = call_at (λ x. in_transaction_lacking lack R) nl functions d in
      let cg = call_at (λ x. in_transaction_lacking lack R) nr functions d in
      closed_related TxState TxState (same_link TxState) (eval (in_transaction_lacking lack R) cf nl true e env tx_start) (eval (in_transaction_lacking lack R) cg nr true e env tx_start)
      (eval_related TxState TxState (same_link TxState) (in_transaction_lacking lack R) (in_transaction_lacking lack R) cf cg nl nr (λ i. Unit {0}) (pure_callees (known functions)) (more TxState) (tx_alike lack R d)
      (calls_related TxState TxState (same_link TxState) (λ x. in_transaction_lacking lack R) (λ x. in_transaction_lacking lack R) nl nr functions (λ i. Unit {0}) (pure_callees (known functions)) (more TxState) (tx_alike lack R) (function_callees functions sound) d)
      e true env tx_start tx_start p tt refl)

-- ---- what follows a part

faultless_alike : {A : Type 0} (x y : Completion ThreadState A) (f g : A → ThreadState → Completion ThreadState Value) → Related (same_link ThreadState) x y → ((a : A) (t : ThreadState) → Related (same_link ThreadState) (f a t) (g a t)) → Related (same_link ThreadState) (faultless x f) (faultless y g)
faultless_alike (Completes a s) (Completes b t) f g h k = subst (λ c. Related (same_link ThreadState) (f a s) (g c t)) h.0 (from_alike ThreadState (f a) (g a) (k a) s t h.1)
faultless_alike (Completes a s) _ f g h k = absurd h
faultless_alike (Recurs vs s) (Recurs us t) f g h k = refl
faultless_alike (Recurs vs s) _ f g h k = absurd h
faultless_alike (Faults e s) (Faults d t) f g h k = refl
faultless_alike (Faults e s) _ f g h k = absurd h
faultless_alike (Retries s) (Retries t) f g h k = refl
faultless_alike (Retries s) _ f g h k = absurd h
faultless_alike (Waits s) (Waits t) f g h k = h
faultless_alike (Waits s) _ f g h k = absurd h
faultless_alike (OutOfTurns s) y f g h k = tt
faultless_alike Invalid Invalid f g h k = refl
faultless_alike Invalid _ f g h k = absurd (false≢true h)

faulted_alike : {A : Type 0} (x y : Completion ThreadState A) (f : Fault → ThreadState → Completion ThreadState Value) → Related (same_link ThreadState) x y → Related (same_link ThreadState) (faulted x f) (faulted y f)
faulted_alike (Completes a s) (Completes b t) f h = refl
faulted_alike (Completes a s) _ f h = absurd h
faulted_alike (Recurs vs s) (Recurs us t) f h = refl
faulted_alike (Recurs vs s) _ f h = absurd h
faulted_alike (Faults e s) (Faults d t) f h = subst (λ c. Related (same_link ThreadState) (f e s) (f c t)) h.0 (from_same ThreadState (f e) s t h.1)
faulted_alike (Faults e s) _ f h = absurd h
faulted_alike (Retries s) (Retries t) f h = refl
faulted_alike (Retries s) _ f h = absurd h
faulted_alike (Waits s) (Waits t) f h = h
faulted_alike (Waits s) _ f h = absurd h
faulted_alike (OutOfTurns s) y f h = tt
faulted_alike Invalid Invalid f h = refl
faulted_alike Invalid _ f h = absurd (false≢true h)

over_alike : {A : Type 0} (t : ThreadState) (x y : Completion TxState A) (f g : A → TxState → Completion ThreadState Value) (broke : Fault → Completion ThreadState Value) → Related (same_link TxState) x y → ((a : A) (z : TxState) → Related (same_link ThreadState) (f a z) (g a z))
    → Related (same_link ThreadState) (over t x f broke) (over t y g broke)
over_alike t (Completes a x) (Completes b y) f g broke h k = subst (λ c. Related (same_link ThreadState) (f a x) (g c y)) h.0 (subst (λ z. Related (same_link ThreadState) (f a x) (g a z)) h.1 (k a x))
over_alike t (Completes a x) _ f g broke h k = absurd h
over_alike t (Recurs vs x) (Recurs us y) f g broke h k = refl
over_alike t (Recurs vs x) _ f g broke h k = absurd h
over_alike t (Faults e x) (Faults d y) f g broke h k = subst (λ c. Related (same_link ThreadState) (broke e) (broke c)) h.0 (itself ThreadState (broke e))
over_alike t (Faults e x) _ f g broke h k = absurd h
over_alike t (Retries x) (Retries y) f g broke h k = refl
over_alike t (Retries x) _ f g broke h k = absurd h
over_alike t (Waits x) (Waits y) f g broke h k = refl
over_alike t (Waits x) _ f g broke h k = absurd h
over_alike t (OutOfTurns x) y f g broke h k = tt
over_alike t Invalid Invalid f g broke h k = refl
over_alike t Invalid _ f g broke h k = absurd (false≢true h)

final_alike : (validators : Validators) (span : Span) (f g : Applies ThreadState) → Applied ThreadState ThreadState (same_link ThreadState) f g → (w : PlainTxFrame) (C : World) (t : ThreadState) → Related (same_link ThreadState) (final_writes f validators span w C t) (final_writes g validators span w C t)
final_alike validators span f g a w C t =
    bind_related ThreadState ThreadState (same_link ThreadState) (commute_writes f w C t) (commute_writes g w C t) (λ ws t1. if_accepted f validators span (merged (set_writes w) ws) t1) (λ ws t1. if_accepted g validators span (merged (set_writes w) ws) t1)
    (redone_alike ThreadState f g a (phase_work w) (valued (commuted w) C) t) (λ ws s1 t1 r1. if_accepted_related ThreadState ThreadState (same_link ThreadState) f g a validators span (merged (set_writes w) ws) s1 t1 r1)

-- what is allowed
allowed_alike : (b : Bool) (x y : Completion ThreadState Value) → Related (same_link ThreadState) x y → Related (same_link ThreadState) (allowed b x) (allowed b y)
allowed_alike true x y h = h
allowed_alike false x y h = refl

-- what stays to come where turns don't suffice
uneaten_alike : (l : List SeenEvent) (x y : Completion ThreadState Value) → Related (same_link ThreadState) x y → Related (same_link ThreadState) (uneaten l x) (uneaten l y)
uneaten_alike l (Completes v s) (Completes w t) h = h
uneaten_alike l (Completes v s) _ h = absurd h
uneaten_alike l (Recurs vs s) (Recurs us t) h = h
uneaten_alike l (Recurs vs s) _ h = absurd h
uneaten_alike l (Faults e s) (Faults d t) h = h
uneaten_alike l (Faults e s) _ h = absurd h
uneaten_alike l (Retries s) (Retries t) h = h
uneaten_alike l (Retries s) _ h = absurd h
uneaten_alike l (Waits s) (Waits t) h = h
uneaten_alike l (Waits s) _ h = absurd h
uneaten_alike l (OutOfTurns s) y h = tt
uneaten_alike l Invalid Invalid h = refl
uneaten_alike l Invalid _ h = absurd (false≢true h)

missing_alike : (t : ThreadState) (x y : Completion TxState Value) (p q : Completion ThreadState Value) → Related (same_link TxState) x y → Related (same_link ThreadState) p q → Related (same_link ThreadState) (missing t x p) (missing t y q)
missing_alike t (Completes v x) (Completes w y) p q h g = refl
missing_alike t (Completes v x) _ p q h g = absurd h
missing_alike t (Recurs vs x) (Recurs ws y) p q h g = refl
missing_alike t (Recurs vs x) _ p q h g = absurd h
missing_alike t (Faults e x) (Faults f y) p q h g = refl
missing_alike t (Faults e x) _ p q h g = absurd h
missing_alike t (Retries x) (Retries y) p q h g = refl
missing_alike t (Retries x) _ p q h g = absurd h
missing_alike t (Waits x) (Waits y) p q h g = g
missing_alike t (Waits x) _ p q h g = absurd h
missing_alike t (OutOfTurns x) y p q h g = tt
missing_alike t Invalid Invalid p q h g = refl
missing_alike t Invalid _ p q h g = absurd (false≢true h)

-- ---- transactions on events

module _ (validators : Validators) (m : Mark) (node : Tree) (env : List Value) (x y : World → Completion TxState Value) (xl yl : ℕ → World → Completion TxState Value) (f g : Applies ThreadState)
    (b : (R : World) → Related (same_link TxState) (x R) (y R)) (l : (j : ℕ) (R : World) → Related (same_link TxState) (xl j R) (yl j R)) (a : Applied ThreadState ThreadState (same_link ThreadState) f g) where
  -- the dosync, with this meaning of its body
  abbrev with_body : (World → Completion TxState Value) → (ℕ → World → Completion TxState Value) → Transacting
  with_body on lacking = record { mark = m; body = node; locals = env; on = on; lacking = lacking; validators = validators }

  ends_alike : (e : EventKind) (R Q C : World) (t : ThreadState) → Related (same_link ThreadState) (ends_tx (with_body x xl) f e R Q C t) (ends_tx (with_body y yl) g e R Q C t)
  ends_alike (event.Commit at view writes sent) R Q C t =
      over_alike t (x R) (y R) _ _ (λ e. Invalid) (b R)
      (λ v z. faultless_alike (final_writes f validators m.span z.done C t) (final_writes g validators m.span z.done C t) _ _ (final_alike validators m.span f g a z.done C t) (λ ws t1. itself ThreadState (meant (same_writes ws writes && same_actions (sends_of_commit t1.held z.done.sends) sent) v (holding z.done.sends (with_tx (run_of (with_body x xl) v z) t1)))))
  ends_alike (event.Fail at view) R Q C t =
      over_alike t (x R) (y R) _ _ (λ e. Faults e t) (b R) (λ v z. faulted_alike (final_writes f validators m.span z.done Q t) (final_writes g validators m.span z.done Q t) (λ e t1. Faults e t1) (final_alike validators m.span f g a z.done Q t))
  ends_alike (event.Refused at view agent) R Q C t =
      over_alike t (x R) (y R) _ _ (λ e. Invalid) (b R)
      (λ v z. faultless_alike (final_writes f validators m.span z.done Q t) (final_writes g validators m.span z.done Q t) _ _ (final_alike validators m.span f g a z.done Q t) (λ ws t1. (refl, refl)))
  ends_alike _ R Q C t = refl

  -- a try that had to run again, and what follows
  again_alike : (e : EventKind) (R : World) (t : ThreadState) (p q : Completion ThreadState Value) → Related (same_link ThreadState) p q → Related (same_link ThreadState) (again (with_body x xl) e R t p) (again (with_body y yl) e R t q)
  again_alike (event.Retry since c cause.Outdated) R t p q h = missing_alike t (xl c.number R) (yl c.number R) p q (l c.number R) h
  again_alike (event.Retry since c cause.Held) R t p q h = over_alike t (x R) (y R) _ _ (λ e. Invalid) (b R) (λ v z. allowed_alike (is_held z.done c.number) p q h)
  again_alike (event.Retry since c (cause.Commuted at)) R t p q h = over_alike t (x R) (y R) _ _ (λ e. Invalid) (b R) (λ v z. allowed_alike (has_number (commuted z.done) c.number) p q h)
  again_alike _ R t p q h = refl

  eats_tx_alike : (k : ℕ) (es : List SeenEvent) (t : ThreadState) → Related (same_link ThreadState) (eats_tx k (with_body x xl) f es t) (eats_tx k (with_body y yl) g es t)
  eats_tx_alike zero es t = (refl, refl)
  eats_tx_alike (suc k) [] t = refl
  eats_tx_alike (suc k) (e ∷ es) t = of_book (e.book == 0) (is_retry e.kind) (eats_tx_alike k es t)
    where
      of_book : (own retry : Bool) → Related (same_link ThreadState) (eats_tx k (with_body x xl) f es t) (eats_tx k (with_body y yl) g es t)
          → Related (same_link ThreadState) (if own then (if retry then again (with_body x xl) e.kind e.R (record t { todo = e ∷ es }) (eats_tx k (with_body x xl) f es t) else uneaten (e ∷ es) (ends_tx (with_body x xl) f e.kind e.R e.Q e.C (record t { todo = es }))) else Invalid)
          (if own then (if retry then again (with_body y yl) e.kind e.R (record t { todo = e ∷ es }) (eats_tx k (with_body y yl) g es t) else uneaten (e ∷ es) (ends_tx (with_body y yl) g e.kind e.R e.Q e.C (record t { todo = es }))) else Invalid)
      of_book true true rest = again_alike e.kind e.R (record t { todo = e ∷ es }) (eats_tx k (with_body x xl) f es t) (eats_tx k (with_body y yl) g es t) rest
      of_book true false rest =
          uneaten_alike (e ∷ es) (ends_tx (with_body x xl) f e.kind e.R e.Q e.C (record t { todo = es })) (ends_tx (with_body y yl) g e.kind e.R e.Q e.C (record t { todo = es })) (ends_alike e.kind e.R e.Q e.C (record t { todo = es }))
      of_book false retry rest = refl

-- ---- swaps on events

swaps_alike : (c : CellId) (f g : Value → ThreadState → Completion ThreadState Value) → ((v : Value) (t : ThreadState) → Related (same_link ThreadState) (f v t) (g v t)) → (e : EventKind) (R C : World) (t : ThreadState) → Related (same_link ThreadState) (swaps c f e R C t) (swaps c g e R C t)
swaps_alike c f g h (event.Swap new) R C t = faultless_alike (f (C c.number) t) (g (C c.number) t) _ _ (h (C c.number) t) (λ v t1. itself ThreadState (meant (same_value v new) v t1))
swaps_alike c f g h (event.Broke at) R C t = faulted_alike (f (R c.number) t) (g (R c.number) t) (λ e t1. Faults e t1) (h (R c.number) t)
swaps_alike c f g h _ R C t = refl

eats_alike : (book : ℕ) (f g : SeenEvent → ThreadState → Completion ThreadState Value) → ((e : SeenEvent) (t : ThreadState) → Related (same_link ThreadState) (f e t) (g e t)) → (es : List SeenEvent) (t : ThreadState) → Related (same_link ThreadState) (eats book f es t) (eats book g es t)
eats_alike book f g h [] t = refl
eats_alike book f g h (e ∷ es) t = of_book (e.book == book)
  where
    of_book : (own : Bool) → Related (same_link ThreadState) (if own then uneaten (e ∷ es) (f e (record t { todo = es })) else Invalid) (if own then uneaten (e ∷ es) (g e (record t { todo = es })) else Invalid)
    of_book true = uneaten_alike (e ∷ es) (f e (record t { todo = es })) (g e (record t { todo = es })) (h e (record t { todo = es }))
    of_book false = refl

-- ---- bodies

module _ (cells : List CellDefinition) (functions : List PlainFunction) (sound : SoundFunctions [] functions) (nl nr : ℕ) (le : nl ≤ nr) where
  look_alike : (form : LookForm) (d : ℕ) (inside : Bool) (m : Mark) (c : Value) (t : ThreadState) → Related (same_link ThreadState) ((on_events (around_action cells functions nl) d).look form inside m c t) ((on_events (around_action cells functions nr) d).look form inside m c t)
  look_alike Deref d inside m c t = itself ThreadState ((on_events (around_action cells functions nl) d).look Deref inside m c t)
  look_alike Ensure d inside m c t = refl

  accepts_alike : (x : CellId) (span : Span) (f g : Applies ThreadState) → Applied ThreadState ThreadState (same_link ThreadState) f g → (v : Value) (s t : ThreadState) → s ≡ t → Related (same_link ThreadState) (accepts (around_action cells functions nl) f x span v s) (accepts (around_action cells functions nr) g x span v t)
  accepts_alike x span f g a v s t r = validated_related ThreadState ThreadState (same_link ThreadState) f g a (validator_at (validators_of cells) x.number) span v s t r

  put_alike : (form : PutForm) (d : ℕ) (inside : Bool) (m : Mark) (c w : Value) (f g : Applies ThreadState) → Applied ThreadState ThreadState (same_link ThreadState) f g → (t : ThreadState) → Related (same_link ThreadState) ((on_events (around_action cells functions nl) d).put form inside m c w f t) ((on_events (around_action cells functions nr) d).put form inside m c w g t)
  put_alike RefSet d inside m c w f g a t = refl
  put_alike Reset d inside m c w f g a t =
      bind_same ThreadState (result_of (cell_of (rule (form_of.Put Reset)) false c) m.span t) _ _
      (λ x t1. bind_related ThreadState ThreadState (same_link ThreadState) (accepts (around_action cells functions nl) f x m.span w t1) (accepts (around_action cells functions nr) g x m.span w t1) (λ v t2. eats (home cells x) (λ e t3. resets v e.kind t3) t2.todo t2) (λ v t2. eats (home cells x) (λ e t3. resets v e.kind t3) t2.todo t2)
      (accepts_alike x m.span f g a w t1 t1 refl) (λ v s2 t2 r2. from_same ThreadState (λ u. eats (home cells x) (λ e t3. resets v e.kind t3) u.todo u) s2 t2 r2))

  updates_alike : (form : UpdateForm) (d : ℕ) (inside : Bool) (m : Mark) (c : Value) (callee : Callee) (vs : List Value) (f g : Applies ThreadState) → Applied ThreadState ThreadState (same_link ThreadState) f g → (t : ThreadState)
      → Related (same_link ThreadState) ((on_events (around_action cells functions nl) d).update form inside m c callee vs f t) ((on_events (around_action cells functions nr) d).update form inside m c callee vs g t)
  updates_alike Alter d inside m c callee vs f g a t = refl
  updates_alike Commute d inside m c callee vs f g a t = refl
  updates_alike Swap d inside m c callee vs f g a t =
      bind_same ThreadState (result_of (cell_of (rule (form_of.Update Swap)) false c) m.span t) _ _
      (λ x t1. eats_alike (home cells x) _ _
      (λ e t2. swaps_alike x (λ v t3. bind (f callee (v ∷ vs) t3) (accepts (around_action cells functions nl) f x m.span)) (λ v t3. bind (g callee (v ∷ vs) t3) (accepts (around_action cells functions nr) g x m.span))
      (λ v t3. bind_related ThreadState ThreadState (same_link ThreadState) (f callee (v ∷ vs) t3) (g callee (v ∷ vs) t3) (accepts (around_action cells functions nl) f x m.span) (accepts (around_action cells functions nr) g x m.span) (a callee (v ∷ vs) t3 t3 refl) (λ w s4 t4 r4. accepts_alike x m.span f g a w s4 t4 r4)) e.kind e.R e.C t2) t1.todo t1)

  dosync_alike : (d : ℕ) (m : Mark) (e : Tree) (env : List Value) → Keeps (pure_callees (known functions)) true e → (f g : Applies ThreadState) → Applied ThreadState ThreadState (same_link ThreadState) f g → (t : ThreadState)
      → Related (same_link ThreadState) (eats_tx (suc reruns) (record { mark = m; body = e; locals = env; on = tx_meaning nl functions d e env; lacking = λ j. tx_meaning_lacking nl functions d e env (Some j); validators = validators_of cells }) f t.todo t)
      (eats_tx (suc reruns) (record { mark = m; body = e; locals = env; on = tx_meaning nr functions d e env; lacking = λ j. tx_meaning_lacking nr functions d e env (Some j); validators = validators_of cells }) g t.todo t)
  dosync_alike d m e env pure f g a t =
      eats_tx_alike (validators_of cells) m e env (tx_meaning nl functions d e env) (tx_meaning nr functions d e env) (λ j. tx_meaning_lacking nl functions d e env (Some j)) (λ j. tx_meaning_lacking nr functions d e env (Some j)) f g
      (tx_more nl nr le functions sound d e env pure None) (λ j. tx_more nl nr le functions sound d e env pure (Some j)) a (suc reruns) t.todo t

  events_alike : (d : ℕ) → Alike ThreadState ThreadState (same_link ThreadState) (on_events (around_action cells functions nl) d) (on_events (around_action cells functions nr) d) (call_at (on_events (around_action cells functions nl)) nl functions d) (call_at (on_events (around_action cells functions nr)) nr functions d) nl nr (λ i. Unit {0}) (pure_callees (known functions))
  events_alike d = record {
    print = λ inside vs s t m r. from_same ThreadState (λ u. (on_events (around_action cells functions nl) d).print inside vs u) s t r;
    look = λ form inside m c s t may i r. from_alike ThreadState _ _ (look_alike form d inside m c) s t r;
    put = λ form inside m c w s t may i a r. from_alike ThreadState _ _ (put_alike form d inside m c w _ _ (a (λ f. tt))) s t r;
    update = λ form inside m c callee vs s t may i pure a r. from_alike ThreadState _ _ (updates_alike form d inside m c callee vs _ _ (a (λ f. tt))) s t r;
    send = λ inside m c callee vs s t i r. from_same ThreadState (λ u. (on_events (around_action cells functions nl) d).send inside m c callee vs u) s t r;
    dosync = λ inside m e env s t i pure b a r. from_alike ThreadState _ _ (dosync_alike d m e env pure _ _ (a (λ f. tt) tt)) s t r;
  }

  abbrev fewer : ℕ → Effects ThreadState
  fewer d = on_events (around_action cells functions nl) d

  abbrev further : ℕ → Effects ThreadState
  further d = on_events (around_action cells functions nr) d

  calls_more : (d : ℕ) → CallsAlike ThreadState ThreadState (same_link ThreadState) (call_at fewer nl functions d) (call_at further nr functions d) (λ i. Unit {0}) (λ i f. Unit {0})
  calls_more d =
      calls_related ThreadState ThreadState (same_link ThreadState) fewer further nl nr functions (λ i. Unit {0}) (pure_callees (known functions)) (inr (le, λ s t r o. tt)) events_alike (function_callees functions sound) d

  -- a body with more turns
  pub body_more : (body : Tree) (env : List Value) (t : ThreadState) → Keeps (pure_callees (known functions)) false body
      → Related (same_link ThreadState) (closed (eval (fewer (length functions)) (call_at fewer nl functions (length functions)) nl false body env t)) (closed (eval (further (length functions)) (call_at further nr functions (length functions)) nr false body env t))
  body_more body env t p =
      let d = length functions in
      let cf = call_at fewer nl functions d in
      let cg = call_at further nr functions d in
      let enough : Turns ThreadState ThreadState (same_link ThreadState) nl nr = inr (le, λ s t1 r o. tt) in
      closed_related ThreadState ThreadState (same_link ThreadState) (eval (fewer d) cf nl false body env t) (eval (further d) cg nr false body env t)
      (eval_related ThreadState ThreadState (same_link ThreadState) (fewer d) (further d) cf cg nl nr (λ i. Unit {0}) (pure_callees (known functions)) enough (events_alike d) (calls_more d) body false env t t p tt refl)

  -- a callee with more turns
  applied_more : (span : Span) → Applied ThreadState ThreadState (same_link ThreadState) (apply (call_at fewer nl functions (length functions) false) span) (apply (call_at further nr functions (length functions) false) span)
  applied_more span c vs s t r =
      apply_related ThreadState ThreadState (same_link ThreadState) (call_at fewer nl functions (length functions) false) (call_at further nr functions (length functions) false) (λ f ws s1 t1 r1. calls_more (length functions) false f ws s1 t1 tt tt r1) span c vs s t r

  -- an action with more turns
  pub action_more : (act : Action) (v : Value) (es : List SeenEvent) → Related (same_link ThreadState) (action_meaning cells functions nl act v es) (action_meaning cells functions nr act v es)
  action_more act v es =
      let t0 : ThreadState = from_events (Some []) es in
      let f = apply (call_at fewer nl functions (length functions) false) act.span in
      let g = apply (call_at further nr functions (length functions) false) act.span in
      let o = validator_at (validators_of cells) act.agent.number in
      bind_related ThreadState ThreadState (same_link ThreadState) (f act.callee (v ∷ act.args) t0) (g act.callee (v ∷ act.args) t0) (λ w t. validated f o act.span w t) (λ w t. validated g o act.span w t)
      (applied_more act.span act.callee (v ∷ act.args) t0 t0 refl)
      (λ w s t r. validated_related ThreadState ThreadState (same_link ThreadState) f g (applied_more act.span) o act.span w s t r)

-- a thread with more turns
more_events : (p : ThreadSource) → SoundSource p → (nl nr : ℕ) → nl ≤ nr → (es : List SeenEvent) → Related (same_link ThreadState) (thread_meaning p nl es) (thread_meaning p nr es)
more_events p sound nl nr le es =
    body_more p.cells p.functions sound.functions nl nr le p.main [] (from_events None es) (callees_in (known p.functions) p.main in_thread false 0 None sound.main)

long_settled : (x : Completion ThreadState Value) → HasSettled x → IsLong ThreadState x
long_settled (Completes v s) e = tt
long_settled (Recurs vs s) e = tt
long_settled (Faults f s) e = tt
long_settled (Retries s) e = tt
long_settled (Waits s) e = tt
long_settled (OutOfTurns s) e = e
long_settled Invalid e = tt

-- what is settled stays so
pub settled_same : (p : ThreadSource) → SoundSource p → (es : List SeenEvent) (nl nr : ℕ) → nl ≤ nr → HasSettled (thread_meaning p nl es) → thread_meaning p nr es ≡ thread_meaning p nl es
settled_same p sound es nl nr le e = same_long ThreadState (thread_meaning p nl es) (thread_meaning p nr es) (more_events p sound nl nr le es) (long_settled (thread_meaning p nl es) e)

needed : (x y : Completion ThreadState Value) → Related (same_link ThreadState) x y → NeedsTurns y → NeedsTurns x
needed (Completes v s) y h e = subst NeedsTurns (same_long ThreadState (Completes v s) y h tt) e
needed (Recurs vs s) y h e = subst NeedsTurns (same_long ThreadState (Recurs vs s) y h tt) e
needed (Faults f s) y h e = subst NeedsTurns (same_long ThreadState (Faults f s) y h tt) e
needed (Retries s) y h e = subst NeedsTurns (same_long ThreadState (Retries s) y h tt) e
needed (Waits s) y h e = subst NeedsTurns (same_long ThreadState (Waits s) y h tt) e
needed (OutOfTurns s) y h e = tt
needed Invalid y h e = subst NeedsTurns (same_long ThreadState Invalid y h tt) e

-- where more turns don't suffice, fewer don't
pub needs_before : (p : ThreadSource) → SoundSource p → (es : List SeenEvent) (nl nr : ℕ) → nl ≤ nr → NeedsTurns (thread_meaning p nr es) → NeedsTurns (thread_meaning p nl es)
needs_before p sound es nl nr le h = needed (thread_meaning p nl es) (thread_meaning p nr es) (more_events p sound nl nr le es) h

-- so it is of actions
pub settled_action : (cells : List CellDefinition) (functions : List PlainFunction) → SoundFunctions [] functions → (act : Action) (v : Value) (es : List SeenEvent) (nl nr : ℕ) → nl ≤ nr → HasSettled (action_meaning cells functions nl act v es)
    → action_meaning cells functions nr act v es ≡ action_meaning cells functions nl act v es
settled_action cells functions sound act v es nl nr le e =
    same_long ThreadState (action_meaning cells functions nl act v es) (action_meaning cells functions nr act v es) (action_more cells functions sound nl nr le act v es) (long_settled (action_meaning cells functions nl act v es) e)

pub action_needs : (cells : List CellDefinition) (functions : List PlainFunction) → SoundFunctions [] functions → (act : Action) (v : Value) (es : List SeenEvent) (nl nr : ℕ) → nl ≤ nr → NeedsTurns (action_meaning cells functions nr act v es)
    → NeedsTurns (action_meaning cells functions nl act v es)
action_needs cells functions sound act v es nl nr le h = needed (action_meaning cells functions nl act v es) (action_meaning cells functions nr act v es) (action_more cells functions sound nl nr le act v es) h
