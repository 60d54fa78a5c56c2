-- What a thread on its events makes of the forms on cells is alike, where callees are and the transactions' bodies mean the same.
use Rattle.std.proofs.Common.{◌≡◌, ℕ, zero, suc, Bool, true, false, ◌&&◌, ◌==◌, List, [], ◌∷◌, ◌++◌, map, if◌then◌else◌, Option, Some, None, refl, sym, ap, ◌∙◌, subst}
use Rattle.txs_frame.specs.Frame.{has_number, commuted, sends_of_commit}
use Rattle.txs_world_protocol.specs.Ask.{same_writes, same_cell, same_value, same_action, same_actions}
use Rattle.txs_world_protocol.specs.SeenEvent.{SeenEvent, home}
use Rattle.txs_world_protocol.specs.declared.event.Cause.TheVariants as cause
use Rattle.txs_world_protocol.specs.declared.event.EventKind.{EventKind}
use Rattle.txs_world_protocol.specs.declared.event.EventKind.TheVariants.{Read, Commit, Retry, Fail, Refused, Send as Sent, SendRefused, Act, Swap as Swapped, Broke}
use Rattle.txs_value_cell.specs.Cells.{World, Validators, validators_of, validator_at}
use Rattle.txs_value_cell.specs.Forms.{rule, may_stand}
use Rattle.txs_value_cell.specs.declared.action.Action.{Action}
use Rattle.txs_value_data.specs.Places.{fault_at}
use Rattle.txs_value_data.specs.declared.fault.Fault.{Fault}
use Rattle.txs_value_data.specs.declared.fault.FaultKind.TheVariants.{AgentFailed}
use Rattle.txs_value_data.specs.declared.fault.Span.{Span}
use Rattle.txs_value_cell.specs.declared.form.CellForm.{CellForm}
use Rattle.txs_value_cell.specs.declared.form.CellForm.TheVariants as form_of
use Rattle.txs_value_cell.specs.declared.form.LookForm.{LookForm}
use Rattle.txs_value_cell.specs.declared.form.LookForm.TheVariants.{Deref, Ensure}
use Rattle.txs_value_cell.specs.declared.form.PutForm.{PutForm}
use Rattle.txs_value_cell.specs.declared.form.PutForm.TheVariants.{RefSet, Reset}
use Rattle.txs_value_cell.specs.declared.form.UpdateForm.{UpdateForm}
use Rattle.txs_value_cell.specs.declared.form.UpdateForm.TheVariants.{Alter, Commute, Swap}
use Rattle.txs_value_data.specs.declared.op.Callee.{Callee}
use Rattle.txs_value_data.specs.Printed.{printed_line}
use Rattle.txs_value_data.specs.declared.value.CellId.{CellId}
use Rattle.txs_value_data.specs.declared.value.Value.{Value}
use Rattle.txs_value_data.specs.declared.value.Value.TheVariants.{Cell}
use Rattle.txs_tree_meaning.specs.Meaning.{Completion, Completes, Recurs, Faults, Retries, Waits, OutOfTurns, Invalid, bind, allowed, Applies}
use Rattle.txs_tree_meaning.specs.Thread.{TxRun, ThreadState, with_tx, holding, sends_or_holds, uneaten, eats, meant, reads, resets, faulted, faultless, swaps, sends, over, Transacting, run_of, ends_tx, is_retry, is_held, missing, again, eats_tx, Surroundings, accepts, thread_look, thread_put, thread_update, outside_form, on_events}
use Rattle.txs_tree_meaning.specs.Transaction.{TxState, on_cell, tx_meaning, tx_meaning_lacking, final_writes}
use Rattle.txs_tree_meaning.specs.Tree.{Mark, Tree, PlainFunction}
use Rattle.txs_opt.specs.Observed.{observed, observed_run, observed_end}
use Rattle.txs_opt.proofs.Below.{Kind, Fine}
use Rattle.txs_opt.proofs.Like.{Likeness, Like, PartsLike, AppliesLike, bind_like, loose_any}
use Rattle.txs_opt.proofs.OneWorld.{AllFine, fine_states, on_cell_like, AllValid, valid_at, validated_like, final_like}
use Rattle.txs_opt.proofs.Parts.{FormsLike}

-- states of a thread that tell the same
abbrev pub observing_same : Type 0 → Likeness ThreadState
observing_same loose = record { rel = λ s t. observed s ≡ observed t; loose = loose }

map_append : {A B : Type 0} (f : A → B) (xs ys : List A) → map f (xs ++ ys) ≡ map f xs ++ map f ys
map_append f [] ys = refl
map_append f (x ∷ xs) ys = ap (λ l. f x ∷ l) (map_append f xs ys)

-- one more transaction
observed_with : (x : TxRun) (t : ThreadState) → observed (with_tx x t) ≡ with_tx (observed_run x) (observed t)
observed_with x t = ap (λ l. record t { txs = l }) (map_append observed_run t.txs (x ∷ []))

with_same : (x y : TxRun) (s t : ThreadState) → observed_run x ≡ observed_run y → observed s ≡ observed t → observed (with_tx x s) ≡ observed (with_tx y t)
with_same x y s t e r = observed_with x s ∙ ap (λ z. with_tx z (observed s)) e ∙ ap (λ u. with_tx (observed_run y) u) r ∙ sym (observed_with y t)

-- what is observed of the states stays the same where the events to come are changed
todo_same : (es : List SeenEvent) (s t : ThreadState) → observed s ≡ observed t → observed (record s { todo = es }) ≡ observed (record t { todo = es })
todo_same es s t r = ap {A = ThreadState} (λ u. record u { todo = es }) r

module _ (loose : Type 0) where
  abbrev K : Likeness ThreadState
  K = observing_same loose

  allowed_like : (b : Bool) (x y : Completion ThreadState Value) → Like K x y → Like K (allowed b x) (allowed b y)
  allowed_like true x y h = h
  allowed_like false x y h = tt

  meant_like : (b : Bool) (v : Value) → PartsLike ThreadState K (meant b v) (meant b v)
  meant_like true v s t r = (refl, r)
  meant_like false v s t r = tt

  uneaten_like : {A : Type 0} (es : List SeenEvent) (x y : Completion ThreadState A) → Like K x y → Like K (uneaten es x) (uneaten es y)
  uneaten_like es (Completes a s) (Completes b t) h = h
  uneaten_like es (Completes a s) _ h = absurd h
  uneaten_like es (Recurs vs s) (Recurs ws t) h = h
  uneaten_like es (Recurs vs s) _ h = absurd h
  uneaten_like es (Faults f s) (Faults g t) h = h
  uneaten_like es (Faults f s) _ h = absurd h
  uneaten_like es (Retries s) (Retries t) h = h
  uneaten_like es (Retries s) _ h = absurd h
  uneaten_like es (Waits s) (Waits t) h = h
  uneaten_like es (Waits s) _ h = absurd h
  uneaten_like es (OutOfTurns s) (OutOfTurns t) h = todo_same es s t h
  uneaten_like es (OutOfTurns s) _ h = absurd h
  uneaten_like es Invalid Invalid h = tt
  uneaten_like es Invalid (Completes b t) h = h
  uneaten_like es Invalid (Recurs ws t) h = h
  uneaten_like es Invalid (Faults g t) h = h
  uneaten_like es Invalid (Retries t) h = h
  uneaten_like es Invalid (Waits t) h = h
  uneaten_like es Invalid (OutOfTurns t) h = h

  eats_from : (book : ℕ) (go go1 : SeenEvent → ThreadState → Completion ThreadState Value) → ((e : SeenEvent) → PartsLike ThreadState K (go e) (go1 e)) → (es : List SeenEvent) → PartsLike ThreadState K (eats book go es) (eats book go1 es)
  eats_from book go go1 h [] s t r = ap {A = ThreadState} (λ u. record u { asks = Some book }) r
  eats_from book go go1 h (e ∷ es) s t r = test (e.book == book)
    where
      test : (b : Bool) → Like K (if b then uneaten (e ∷ es) (go e (record s { todo = es })) else Invalid) (if b then uneaten (e ∷ es) (go1 e (record t { todo = es })) else Invalid)
      test true = uneaten_like (e ∷ es) (go e (record s { todo = es })) (go1 e (record t { todo = es })) (h e (record s { todo = es }) (record t { todo = es }) (todo_same es s t r))
      test false = tt

  eats_like : (book : ℕ) (go go1 : SeenEvent → ThreadState → Completion ThreadState Value) → ((e : SeenEvent) → PartsLike ThreadState K (go e) (go1 e)) → PartsLike ThreadState K (λ t. eats book go t.todo t) (λ t. eats book go1 t.todo t)
  eats_like book go go1 h s t r = subst (λ l. Like K (eats book go s.todo s) (eats book go1 l t)) (ap (λ u. u.todo) r) (eats_from book go go1 h s.todo s t r)

  reads_like : (c : CellId) (e : EventKind) (C : World) → PartsLike ThreadState K (reads c e C) (reads c e C)
  reads_like c (Read d) C s t r = meant_like (same_cell c d) (C c.number) s t r
  reads_like c (Commit at view ws sent) C s t r = tt
  reads_like c (Retry since d cause) C s t r = tt
  reads_like c (Fail at view) C s t r = tt
  reads_like c (Refused at view agent) C s t r = tt
  reads_like c (Sent a) C s t r = tt
  reads_like c (SendRefused g) C s t r = tt
  reads_like c (Act number g new sends) C s t r = tt
  reads_like c (Swapped new) C s t r = tt
  reads_like c (Broke at) C s t r = tt

  resets_like : (v : Value) (e : EventKind) → PartsLike ThreadState K (resets v e) (resets v e)
  resets_like v (Read d) s t r = tt
  resets_like v (Commit at view ws sent) s t r = tt
  resets_like v (Retry since d cause) s t r = tt
  resets_like v (Fail at view) s t r = tt
  resets_like v (Refused at view agent) s t r = tt
  resets_like v (Sent a) s t r = tt
  resets_like v (SendRefused g) s t r = tt
  resets_like v (Act number g new sends) s t r = tt
  resets_like v (Swapped new) s t r = meant_like (same_value v new) v s t r
  resets_like v (Broke at) s t r = tt

  faulted_like : {A : Type 0} (x y : Completion ThreadState A) (go go1 : Fault → ThreadState → Completion ThreadState Value) → Like K x y → ((f : Fault) → PartsLike ThreadState K (go f) (go1 f)) → Like K (faulted x go) (faulted y go1)
  faulted_like (Completes a s) (Completes b t) go go1 h hc = tt
  faulted_like (Completes a s) _ go go1 h hc = absurd h
  faulted_like (Recurs vs s) (Recurs ws t) go go1 h hc = tt
  faulted_like (Recurs vs s) _ go go1 h hc = absurd h
  faulted_like (Faults f s) (Faults g t) go go1 h hc = subst (λ x. Like K (go f s) (go1 x t)) h.0 (hc f s t h.1)
  faulted_like (Faults f s) _ go go1 h hc = absurd h
  faulted_like (Retries s) (Retries t) go go1 h hc = tt
  faulted_like (Retries s) _ go go1 h hc = absurd h
  faulted_like (Waits s) (Waits t) go go1 h hc = h
  faulted_like (Waits s) _ go go1 h hc = absurd h
  faulted_like (OutOfTurns s) (OutOfTurns t) go go1 h hc = h
  faulted_like (OutOfTurns s) _ go go1 h hc = absurd h
  faulted_like Invalid (Completes b t) go go1 h hc = tt
  faulted_like Invalid (Recurs ws t) go go1 h hc = tt
  faulted_like Invalid (Faults g t) go go1 h hc = loose_any ThreadState K (go1 g t) h
  faulted_like Invalid (Retries t) go go1 h hc = tt
  faulted_like Invalid (Waits t) go go1 h hc = h
  faulted_like Invalid (OutOfTurns t) go go1 h hc = h
  faulted_like Invalid Invalid go go1 h hc = tt

  faultless_like : {A : Type 0} (x y : Completion ThreadState A) (go go1 : A → ThreadState → Completion ThreadState Value) → Like K x y → ((a : A) → PartsLike ThreadState K (go a) (go1 a)) → Like K (faultless x go) (faultless y go1)
  faultless_like (Completes a s) (Completes b t) go go1 h hc = subst (λ x. Like K (go a s) (go1 x t)) h.0 (hc a s t h.1)
  faultless_like (Completes a s) _ go go1 h hc = absurd h
  faultless_like (Recurs vs s) (Recurs ws t) go go1 h hc = tt
  faultless_like (Recurs vs s) _ go go1 h hc = absurd h
  faultless_like (Faults f s) (Faults g t) go go1 h hc = tt
  faultless_like (Faults f s) _ go go1 h hc = absurd h
  faultless_like (Retries s) (Retries t) go go1 h hc = tt
  faultless_like (Retries s) _ go go1 h hc = absurd h
  faultless_like (Waits s) (Waits t) go go1 h hc = h
  faultless_like (Waits s) _ go go1 h hc = absurd h
  faultless_like (OutOfTurns s) (OutOfTurns t) go go1 h hc = h
  faultless_like (OutOfTurns s) _ go go1 h hc = absurd h
  faultless_like Invalid (Completes b t) go go1 h hc = loose_any ThreadState K (go1 b t) h
  faultless_like Invalid (Recurs ws t) go go1 h hc = tt
  faultless_like Invalid (Faults g t) go go1 h hc = tt
  faultless_like Invalid (Retries t) go go1 h hc = tt
  faultless_like Invalid (Waits t) go go1 h hc = h
  faultless_like Invalid (OutOfTurns t) go go1 h hc = h
  faultless_like Invalid Invalid go go1 h hc = tt

  swaps_like : (c : CellId) (f g : Value → ThreadState → Completion ThreadState Value) → ((v : Value) → PartsLike ThreadState K (f v) (g v)) → (e : EventKind) (R C : World) → PartsLike ThreadState K (swaps c f e R C) (swaps c g e R C)
  swaps_like c f g h (Read d) R C s t r = tt
  swaps_like c f g h (Commit at view ws sent) R C s t r = tt
  swaps_like c f g h (Retry since d cause) R C s t r = tt
  swaps_like c f g h (Fail at view) R C s t r = tt
  swaps_like c f g h (Refused at view agent) R C s t r = tt
  swaps_like c f g h (Sent a) R C s t r = tt
  swaps_like c f g h (SendRefused d) R C s t r = tt
  swaps_like c f g h (Act number d new sends) R C s t r = tt
  swaps_like c f g h (Swapped new) R C s t r = faultless_like (f (C c.number) s) (g (C c.number) t) (λ v t1. meant (same_value v new) v t1) (λ v t1. meant (same_value v new) v t1) (h (C c.number) s t r) (λ v. meant_like (same_value v new) v)
  swaps_like c f g h (Broke at) R C s t r = faulted_like (f (R c.number) s) (g (R c.number) t) (λ x t1. Faults x t1) (λ x t1. Faults x t1) (h (R c.number) s t r) (λ x s1 t1 r1. (refl, r1))

  sends_like : (a : Action) (span : Span) (e : EventKind) → PartsLike ThreadState K (sends a span e) (sends a span e)
  sends_like a span (Read d) s t r = tt
  sends_like a span (Commit at view ws sent) s t r = tt
  sends_like a span (Retry since d cause) s t r = tt
  sends_like a span (Fail at view) s t r = tt
  sends_like a span (Refused at view agent) s t r = tt
  sends_like a span (Sent b) s t r = meant_like (same_action a b) (Cell a.agent) s t r
  sends_like a span (SendRefused g) s t r = test (same_cell a.agent g)
    where
      test : (b : Bool) → Like {A = Value} K (if b then Faults (fault_at AgentFailed span) s else Invalid) (if b then Faults (fault_at AgentFailed span) t else Invalid)
      test true = (refl, r)
      test false = tt
  sends_like a span (Act number d new sends) s t r = tt
  sends_like a span (Swapped new) s t r = tt
  sends_like a span (Broke at) s t r = tt

  -- a send outside transactions: a thread's eats an event, an action's is held
  holds_like : (a : Action) (span : Span) (held : Option (List Action)) → PartsLike ThreadState K (sends_or_holds held a span) (sends_or_holds held a span)
  holds_like a span None s t r = eats_like 0 (λ e t1. sends a span e.kind t1) (λ e t1. sends a span e.kind t1) (λ e. sends_like a span e.kind) s t r
  holds_like a span (Some l) s t r = (refl, ap {A = ThreadState} (λ u. holding (a ∷ []) u) r)

  -- a run that is noted where its writes are such, and its sends are those that a commit makes
  landed_like : (w : Bool) (made sent : List Action) (v : Value) (x y : TxRun) → observed_run x ≡ observed_run y → (s t : ThreadState) → observed s ≡ observed t
      → Like K (meant (w && same_actions (sends_of_commit s.held made) sent) v (holding made (with_tx x s))) (meant (w && same_actions (sends_of_commit t.held made) sent) v (holding made (with_tx y t)))
  landed_like w made sent v x y e s t r =
      subst (λ o. Like K (meant (w && same_actions (sends_of_commit s.held made) sent) v (holding made (with_tx x s))) (meant (w && same_actions (sends_of_commit o made) sent) v (holding made (with_tx y t)))) (ap (λ (u : ThreadState). u.held) r)
      (meant_like (w && same_actions (sends_of_commit s.held made) sent) v (holding made (with_tx x s)) (holding made (with_tx y t)) (ap {A = ThreadState} (λ u. holding made u) (with_same x y s t e r)))

  over_like : (May : Kind) (x y : Completion TxState Value) (s t : ThreadState) → observed s ≡ observed t → Like (fine_states May loose) x y → (go go1 : Value → TxState → Completion ThreadState Value) (broke broke1 : Fault → Completion ThreadState Value)
      → ((v : Value) (u : TxState) → AllFine May u.done.commutes → Like K (go v u) (go1 v u)) → ((f : Fault) → Like K (broke f) (broke1 f)) → Like K (over s x go broke) (over t y go1 broke1)
  over_like May (Completes a x) (Completes b y) s t r h go go1 broke broke1 hg hb = subst (λ v. Like K (go a x) (go1 v y)) h.0 (subst (λ u. Like K (go a x) (go1 a u)) h.1.0 (hg a x h.1.1))
  over_like May (Completes a x) _ s t r h go go1 broke broke1 hg hb = absurd h
  over_like May (Recurs vs x) (Recurs ws y) s t r h go go1 broke broke1 hg hb = tt
  over_like May (Recurs vs x) _ s t r h go go1 broke broke1 hg hb = absurd h
  over_like May (Faults f x) (Faults g y) s t r h go go1 broke broke1 hg hb = subst (λ v. Like K (broke f) (broke1 v)) h.0 (hb f)
  over_like May (Faults f x) _ s t r h go go1 broke broke1 hg hb = absurd h
  over_like May (Retries x) (Retries y) s t r h go go1 broke broke1 hg hb = tt
  over_like May (Retries x) _ s t r h go go1 broke broke1 hg hb = absurd h
  over_like May (Waits x) (Waits y) s t r h go go1 broke broke1 hg hb = tt
  over_like May (Waits x) _ s t r h go go1 broke broke1 hg hb = absurd h
  over_like May (OutOfTurns x) (OutOfTurns y) s t r h go go1 broke broke1 hg hb = r
  over_like May (OutOfTurns x) _ s t r h go go1 broke broke1 hg hb = absurd h
  over_like May Invalid (Completes b y) s t r h go go1 broke broke1 hg hb = loose_any ThreadState K (go1 b y) h
  over_like May Invalid (Recurs ws y) s t r h go go1 broke broke1 hg hb = tt
  over_like May Invalid (Faults g y) s t r h go go1 broke broke1 hg hb = loose_any ThreadState K (broke1 g) h
  over_like May Invalid (Retries y) s t r h go go1 broke broke1 hg hb = tt
  over_like May Invalid (Waits y) s t r h go go1 broke broke1 hg hb = tt
  over_like May Invalid (OutOfTurns y) s t r h go go1 broke broke1 hg hb = h
  over_like May Invalid Invalid s t r h go go1 broke broke1 hg hb = tt

  missing_like : (May : Kind) (x y : Completion TxState Value) (s t : ThreadState) → observed s ≡ observed t → Like (fine_states May loose) x y → (p q : Completion ThreadState Value) → Like K p q → Like K (missing s x p) (missing t y q)
  missing_like May (Completes a x) (Completes b y) s t r h p q like = tt
  missing_like May (Completes a x) _ s t r h p q like = absurd h
  missing_like May (Recurs vs x) (Recurs ws y) s t r h p q like = tt
  missing_like May (Recurs vs x) _ s t r h p q like = absurd h
  missing_like May (Faults f x) (Faults g y) s t r h p q like = tt
  missing_like May (Faults f x) _ s t r h p q like = absurd h
  missing_like May (Retries x) (Retries y) s t r h p q like = tt
  missing_like May (Retries x) _ s t r h p q like = absurd h
  missing_like May (Waits x) (Waits y) s t r h p q like = like
  missing_like May (Waits x) _ s t r h p q like = absurd h
  missing_like May (OutOfTurns x) (OutOfTurns y) s t r h p q like = r
  missing_like May (OutOfTurns x) _ s t r h p q like = absurd h
  missing_like May Invalid (Completes b y) s t r h p q like = tt
  missing_like May Invalid (Recurs ws y) s t r h p q like = tt
  missing_like May Invalid (Faults g y) s t r h p q like = tt
  missing_like May Invalid (Retries y) s t r h p q like = tt
  missing_like May Invalid (Waits y) s t r h p q like = loose_any ThreadState K q h
  missing_like May Invalid (OutOfTurns y) s t r h p q like = h
  missing_like May Invalid Invalid s t r h p q like = tt

  module _ (May : Kind) (m : Mark) (va : Validators) (valid : AllValid May va) (body body1 : Tree) (env env1 : List Value) (on on1 : World → Completion TxState Value) (same : (R : World) → Like (fine_states May loose) (on R) (on1 R))
      (lack lack1 : ℕ → World → Completion TxState Value) (same_lack : (j : ℕ) (R : World) → Like (fine_states May loose) (lack j R) (lack1 j R))
      (f g : Applies ThreadState) (h : AppliesLike ThreadState K May f g) where
    abbrev First : Transacting
    First = record { mark = m; body = body; locals = env; on = on; lacking = lack; validators = va }

    abbrev Second : Transacting
    Second = record { mark = m; body = body1; locals = env1; on = on1; lacking = lack1; validators = va }

    ends_like : (e : EventKind) (R Q C : World) → PartsLike ThreadState K (ends_tx First f e R Q C) (ends_tx Second g e R Q C)
    ends_like (Read d) R Q C s t r = tt
    ends_like (Commit at view writes sent) R Q C s t r =
        over_like May (on R) (on1 R) s t r (same R)
        (λ v x. faultless (final_writes f va m.span x.done C s) (λ ws t1. meant (same_writes ws writes && same_actions (sends_of_commit t1.held x.done.sends) sent) v (holding x.done.sends (with_tx (run_of First v x) t1))))
        (λ v x. faultless (final_writes g va m.span x.done C t) (λ ws t1. meant (same_writes ws writes && same_actions (sends_of_commit t1.held x.done.sends) sent) v (holding x.done.sends (with_tx (run_of Second v x) t1)))) (λ x. Invalid) (λ x. Invalid)
        (λ v x fine. faultless_like (final_writes f va m.span x.done C s) (final_writes g va m.span x.done C t)
        (λ ws t1. meant (same_writes ws writes && same_actions (sends_of_commit t1.held x.done.sends) sent) v (holding x.done.sends (with_tx (run_of First v x) t1))) (λ ws t1. meant (same_writes ws writes && same_actions (sends_of_commit t1.held x.done.sends) sent) v (holding x.done.sends (with_tx (run_of Second v x) t1)))
        (final_like ThreadState K May f g h va valid m.span x.done C fine s t r)
        (λ ws s1 t1 r1. landed_like (same_writes ws writes) x.done.sends sent v (run_of First v x) (run_of Second v x) refl s1 t1 r1))
        (λ x. tt)
    ends_like (Retry since d cause) R Q C s t r = tt
    ends_like (Fail at view) R Q C s t r =
        over_like May (on R) (on1 R) s t r (same R) (λ v x. faulted (final_writes f va m.span x.done Q s) (λ e t1. Faults e t1)) (λ v x. faulted (final_writes g va m.span x.done Q t) (λ e t1. Faults e t1)) (λ x. Faults x s) (λ x. Faults x t)
        (λ v x fine. faulted_like (final_writes f va m.span x.done Q s) (final_writes g va m.span x.done Q t) (λ e t1. Faults e t1) (λ e t1. Faults e t1) (final_like ThreadState K May f g h va valid m.span x.done Q fine s t r) (λ e s1 t1 r1. (refl, r1)))
        (λ x. (refl, r))
    ends_like (Refused at view agent) R Q C s t r =
        over_like May (on R) (on1 R) s t r (same R)
        (λ v x. faultless (final_writes f va m.span x.done Q s) (λ ws t1. Faults (fault_at AgentFailed m.span) (with_tx (run_of First v x) t1))) (λ v x. faultless (final_writes g va m.span x.done Q t) (λ ws t1. Faults (fault_at AgentFailed m.span) (with_tx (run_of Second v x) t1))) (λ x. Invalid) (λ x. Invalid)
        (λ v x fine. faultless_like (final_writes f va m.span x.done Q s) (final_writes g va m.span x.done Q t) (λ ws t1. Faults (fault_at AgentFailed m.span) (with_tx (run_of First v x) t1)) (λ ws t1. Faults (fault_at AgentFailed m.span) (with_tx (run_of Second v x) t1))
        (final_like ThreadState K May f g h va valid m.span x.done Q fine s t r) (λ ws s1 t1 r1. (refl, with_same (run_of First v x) (run_of Second v x) s1 t1 refl r1)))
        (λ x. tt)
    ends_like (Sent a) R Q C s t r = tt
    ends_like (SendRefused d) R Q C s t r = tt
    ends_like (Act number d new sends) R Q C s t r = tt
    ends_like (Swapped new) R Q C s t r = tt
    ends_like (Broke at) R Q C s t r = tt

    -- a try that had to run again, and what follows
    again_like : (e : EventKind) (R : World) (s t : ThreadState) → observed s ≡ observed t → (p q : Completion ThreadState Value) → Like K p q → Like K (again First e R s p) (again Second e R t q)
    again_like (Retry since c cause.Outdated) R s t r p q like = missing_like May (lack c.number R) (lack1 c.number R) s t r (same_lack c.number R) p q like
    again_like (Retry since c cause.Held) R s t r p q like = over_like May (on R) (on1 R) s t r (same R) _ _ (λ x. Invalid) (λ x. Invalid) (λ v x fine. allowed_like (is_held x.done c.number) p q like) (λ x. tt)
    again_like (Retry since c (cause.Commuted at)) R s t r p q like = over_like May (on R) (on1 R) s t r (same R) _ _ (λ x. Invalid) (λ x. Invalid) (λ v x fine. allowed_like (has_number (commuted x.done) c.number) p q like) (λ x. tt)
    again_like _ R s t r p q like = tt

    eats_tx_from : (n : ℕ) (es : List SeenEvent) → PartsLike ThreadState K (eats_tx n First f es) (eats_tx n Second g es)
    eats_tx_from zero es s t r = (refl, todo_same es s t r)
    eats_tx_from (suc n) [] s t r = ap {A = ThreadState} (λ u. record u { todo = []; asks = Some 0 }) r
    eats_tx_from (suc n) (e ∷ es) s t r = test (e.book == 0) (is_retry e.kind) (eats_tx_from n es s t r)
      where
        test : (b c : Bool) → Like K (eats_tx n First f es s) (eats_tx n Second g es t) →
            Like K (if b then (if c then again First e.kind e.R (record s { todo = e ∷ es }) (eats_tx n First f es s) else uneaten (e ∷ es) (ends_tx First f e.kind e.R e.Q e.C (record s { todo = es }))) else Invalid)
            (if b then (if c then again Second e.kind e.R (record t { todo = e ∷ es }) (eats_tx n Second g es t) else uneaten (e ∷ es) (ends_tx Second g e.kind e.R e.Q e.C (record t { todo = es }))) else Invalid)
        test true true next = again_like e.kind e.R (record s { todo = e ∷ es }) (record t { todo = e ∷ es }) (todo_same (e ∷ es) s t r) (eats_tx n First f es s) (eats_tx n Second g es t) next
        test true false next =
            uneaten_like (e ∷ es) (ends_tx First f e.kind e.R e.Q e.C (record s { todo = es })) (ends_tx Second g e.kind e.R e.Q e.C (record t { todo = es }))
            (ends_like e.kind e.R e.Q e.C (record s { todo = es }) (record t { todo = es }) (todo_same es s t r))
        test false c next = tt

    eats_tx_like : (n : ℕ) → PartsLike ThreadState K (λ t. eats_tx n First f t.todo t) (λ t. eats_tx n Second g t.todo t)
    eats_tx_like n s t r = subst (λ l. Like K (eats_tx n First f s.todo s) (eats_tx n Second g l t)) (ap (λ u. u.todo) r) (eats_tx_from n s.todo s t r)

  module _ (May : ℕ → Kind) (x : Surroundings) (fs : List PlainFunction) (valid : (d : ℕ) → (May d).forms → AllValid (May d) (validators_of x.cells)) where
    abbrev X : Surroundings
    X = record x { functions = fs }

    look_on : (form : LookForm) (c : CellId) → PartsLike ThreadState K (thread_look x form c) (thread_look X form c)
    look_on Deref c s t r = eats_like (home x.cells c) (λ e t1. reads c e.kind e.C t1) (λ e t1. reads c e.kind e.C t1) (λ e. reads_like c e.kind e.C) s t r
    look_on Ensure c s t r = tt

    accepts_like : (d : ℕ) → (May d).forms → (c : CellId) (span : Span) (v : Value) (f g : Applies ThreadState) → AppliesLike ThreadState K (May d) f g → PartsLike ThreadState K (accepts x f c span v) (accepts X g c span v)
    accepts_like d here c span v f g h = validated_like ThreadState K (May d) f g h (validator_at (validators_of x.cells) c.number) span v (valid_at (May d) (validators_of x.cells) c.number (valid d here))

    put_on : (d : ℕ) → (May d).forms → (form : PutForm) (span : Span) (c : CellId) (v : Value) (f g : Applies ThreadState) → AppliesLike ThreadState K (May d) f g → PartsLike ThreadState K (thread_put x form span c v f) (thread_put X form span c v g)
    put_on d here RefSet span c v f g h s t r = tt
    put_on d here Reset span c v f g h s t r =
        bind_like ThreadState K (accepts x f c span v s) (accepts X g c span v t) (λ w t1. eats (home x.cells c) (λ e t2. resets w e.kind t2) t1.todo t1) (λ w t1. eats (home x.cells c) (λ e t2. resets w e.kind t2) t1.todo t1)
        (accepts_like d here c span v f g h s t r)
        (λ w s1 t1 r1. eats_like (home x.cells c) (λ e t2. resets w e.kind t2) (λ e t2. resets w e.kind t2) (λ e. resets_like w e.kind) s1 t1 r1)

    update_on : (d : ℕ) → (May d).forms → (form : UpdateForm) (span : Span) (c : CellId) (callee : Callee) (vs : List Value) (f g : Applies ThreadState) → Fine (May d) callee → AppliesLike ThreadState K (May d) f g → PartsLike ThreadState K (thread_update x form span c callee vs f) (thread_update X form span c callee vs g)
    update_on d here Alter span c callee vs f g fine h s t r = tt
    update_on d here Commute span c callee vs f g fine h s t r = tt
    update_on d here Swap span c callee vs f g fine h s t r =
        let made : Value → ThreadState → Completion ThreadState Value = λ v t2. bind (f callee (v ∷ vs) t2) (accepts x f c span) in
        let made1 : Value → ThreadState → Completion ThreadState Value = λ v t2. bind (g callee (v ∷ vs) t2) (accepts X g c span) in
        eats_like (home x.cells c) (λ e t1. swaps c made e.kind e.R e.C t1) (λ e t1. swaps c made1 e.kind e.R e.C t1)
        (λ e. swaps_like c made made1
        (λ v s1 t1 r1. bind_like ThreadState K (f callee (v ∷ vs) s1) (g callee (v ∷ vs) t1) (accepts x f c span) (accepts X g c span) (h callee (v ∷ vs) fine s1 t1 r1) (λ w. accepts_like d here c span w f g h)) e.kind e.R e.C) s t r

    outside_like : (form : CellForm) (a b : ThreadState → Completion ThreadState Value) → PartsLike ThreadState K a b → PartsLike ThreadState K (λ t. outside_form form (a t)) (λ t. outside_form form (b t))
    outside_like form a b h s t r = allowed_like (may_stand (rule form).stands false) (a s) (b t) (h s t r)

    -- bodies that mean the same on each world, also on one that lacks a value, where calls go so deep
    abbrev pub SameTx : ℕ → ℕ → Tree → List Value → Tree → List Value → Type 0
    SameTx d d1 e env e1 env1 = (lack : Option ℕ) (R : World) → Like (fine_states (May d) loose) (tx_meaning_lacking x.turns x.functions d e env lack R) (tx_meaning_lacking x.turns fs d1 e1 env1 lack R)

    pub event_forms : (d d1 : ℕ) → FormsLike ThreadState K (May d) (SameTx d d1) (on_events x d) (on_events X d1)
    event_forms d d1 = record {
      print = λ inside vs s t r. (refl, ap {A = ThreadState} (λ u. record u { printed = u.printed ++ printed_line vs }) r);
      look = λ form inside m v. outside_like (form_of.Look form) (on_cell (form_of.Look form) false m.span v (thread_look x form)) (on_cell (form_of.Look form) false m.span v (thread_look X form))
          (on_cell_like ThreadState K (form_of.Look form) false m.span v (thread_look x form) (thread_look X form) (look_on form));
      put = λ form inside m v w f g here h. outside_like (form_of.Put form) (on_cell (form_of.Put form) false m.span v (λ c t1. thread_put x form m.span c w f t1)) (on_cell (form_of.Put form) false m.span v (λ c t1. thread_put X form m.span c w g t1))
          (on_cell_like ThreadState K (form_of.Put form) false m.span v (λ c t1. thread_put x form m.span c w f t1) (λ c t1. thread_put X form m.span c w g t1) (λ c. put_on d here form m.span c w f g h));
      update = λ form inside m v callee vs f g fine here h.
          outside_like (form_of.Update form) (on_cell (form_of.Update form) false m.span v (λ c t1. thread_update x form m.span c callee vs f t1)) (on_cell (form_of.Update form) false m.span v (λ c t1. thread_update X form m.span c callee vs g t1))
          (on_cell_like ThreadState K (form_of.Update form) false m.span v (λ c t1. thread_update x form m.span c callee vs f t1) (λ c t1. thread_update X form m.span c callee vs g t1) (λ c. update_on d here form m.span c callee vs f g fine h));
      send = λ inside m v callee vs.
          on_cell_like ThreadState K form_of.Send false m.span v (λ c t1. sends_or_holds t1.held (record { agent = c; callee = callee; args = vs; span = m.span }) m.span t1) (λ c t1. sends_or_holds t1.held (record { agent = c; callee = callee; args = vs; span = m.span }) m.span t1)
          (λ c s1 t1 r1. subst (λ o. Like K (sends_or_holds s1.held (record { agent = c; callee = callee; args = vs; span = m.span }) m.span s1) (sends_or_holds o (record { agent = c; callee = callee; args = vs; span = m.span }) m.span t1)) (ap (λ (u : ThreadState). u.held) r1) (holds_like (record { agent = c; callee = callee; args = vs; span = m.span }) m.span s1.held s1 t1 r1));
      dosync = λ inside m e e1 env env1 b b1 f g linked here parts h.
          eats_tx_like (May d) m (validators_of x.cells) (valid d here) e e1 env env1 (tx_meaning x.turns x.functions d e env) (tx_meaning x.turns fs d1 e1 env1) (linked None)
          (λ j. tx_meaning_lacking x.turns x.functions d e env (Some j)) (λ j. tx_meaning_lacking x.turns fs d1 e1 env1 (Some j)) (λ j. linked (Some j)) f g h x.tries;
    }

-- ends that tell the same
pub observing_end : (x y : Completion ThreadState Value) → Like (observing_same ⊥) x y → observed_end y ≡ observed_end x
observing_end (Completes v s) (Completes w t) h = ap (λ u. Completes u (observed t)) (sym h.0) ∙ ap (λ u. Completes v u) (sym h.1)
observing_end (Completes v s) _ h = absurd h
observing_end (Recurs vs s) (Recurs ws t) h = ap (λ u. Recurs u (observed t)) (sym h.0) ∙ ap (λ u. Recurs vs u) (sym h.1)
observing_end (Recurs vs s) _ h = absurd h
observing_end (Faults f s) (Faults g t) h = ap (λ u. Faults u (observed t)) (sym h.0) ∙ ap (λ u. Faults f u) (sym h.1)
observing_end (Faults f s) _ h = absurd h
observing_end (Retries s) (Retries t) h = ap Retries (sym h)
observing_end (Retries s) _ h = absurd h
observing_end (Waits s) (Waits t) h = ap Waits (sym h)
observing_end (Waits s) _ h = absurd h
observing_end (OutOfTurns s) (OutOfTurns t) h = ap OutOfTurns (sym h)
observing_end (OutOfTurns s) _ h = absurd h
observing_end Invalid Invalid h = refl
observing_end Invalid _ h = absurd h
