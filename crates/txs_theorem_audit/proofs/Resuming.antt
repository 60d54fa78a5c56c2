-- What a sound thread comes to where more events follow those on which it waits: what is later than where it waited.
use Rattle.std.proofs.Common.{◌≡◌, ◌<◌, ◌≤◌, ℕ, zero, suc, ◌+◌, ◌==◌, ◌&&◌, Bool, true, false, List, [], ◌∷◌, ◌++◌, length, length-append, take, Option, Some, None, Result, Ok, Err, refl, sym, ap, ◌∙◌, subst, inl, inr, ◌⊎◌, ⊎_elim, arith, if◌then◌else◌}
use Rattle.std.proofs.lemmas.Bool.{eq-eqb}
use Rattle.txs_world_protocol.specs.Ask.{Writes, same_value, same_cell, same_writes, same_action, same_actions}
use Rattle.txs_world_protocol.specs.SeenEvent.{SeenEvent, home}
use Rattle.txs_world_protocol.specs.declared.event.Cause.TheVariants as cause
use Rattle.txs_world_protocol.specs.declared.event.EventKind.{EventKind}
use Rattle.txs_world_protocol.specs.declared.event.EventKind.TheVariants as event
use Rattle.txs_value_cell.specs.Cells.{World, validators_of, validator_at}
use Rattle.txs_value_cell.specs.Forms.{rule, cell_of}
use Rattle.txs_value_cell.specs.declared.action.Action.{Action}
use Rattle.txs_value_cell.specs.declared.form.CellForm.TheVariants as form_of
use Rattle.txs_value_cell.specs.declared.form.LookForm.{LookForm}
use Rattle.txs_value_cell.specs.declared.form.LookForm.TheVariants.{Deref, Ensure}
use Rattle.txs_value_cell.specs.declared.form.PutForm.{PutForm}
use Rattle.txs_value_cell.specs.declared.form.PutForm.TheVariants.{RefSet, Reset}
use Rattle.txs_value_cell.specs.declared.form.UpdateForm.{UpdateForm}
use Rattle.txs_value_cell.specs.declared.form.UpdateForm.TheVariants.{Alter, Commute, Swap}
use Rattle.txs_frame.specs.Frame.{PlainTxFrame, has_number, commuted, sends_of_commit}
use Rattle.txs_value_apply.specs.Core.{core, vector_of}
use Rattle.txs_value_apply.specs.Truth.{choose}
use Rattle.txs_value_data.specs.Places.{nth, fault_at}
use Rattle.txs_value_data.specs.declared.fault.Fault.{Fault}
use Rattle.txs_value_data.specs.declared.fault.FaultKind.{FaultKind}
use Rattle.txs_value_data.specs.declared.fault.FaultKind.TheVariants.{AgentFailed}
use Rattle.txs_value_data.specs.declared.fault.Span.{Span}
use Rattle.txs_value_data.specs.declared.op.Callee.{Callee}
use Rattle.txs_value_data.specs.declared.op.Callee.TheVariants.{Core as CoreOp, Function}
use Rattle.txs_value_data.specs.Limits.{reruns}
use Rattle.txs_value_data.specs.declared.value.CellId.{CellId}
use Rattle.txs_value_data.specs.declared.value.Value.{Value}
use Rattle.txs_value_data.specs.declared.value.Value.TheVariants.{Nil, Truth, Int, Key, Text, Vector, Cell}
use Rattle.txs_tree_meaning.specs.Known.{Known, is_pure, known_of, known}
use Rattle.txs_tree_meaning.specs.Meaning.{Completion, Completes, Recurs, Faults, Retries, Waits, OutOfTurns, Invalid, bind, again, closed, give, result_of, Applies, turns, apply, eval, eval_all, eval_let, eval_do, call_at, allowed}
use Rattle.txs_tree_meaning.specs.Pure.{nowhere}
use Rattle.txs_tree_meaning.specs.Sound.{MayStand, MayCall, in_thread, in_dosync, SoundTree, SoundAll, SoundLet, SoundDo, SoundCallee, SoundSource, SoundSent}
use Rattle.txs_tree_meaning.specs.Thread.{ThreadState, with_tx, holding, uneaten, eats, meant, reads, resets, faulted, faultless, swaps, sends, sends_or_holds, over, Transacting, run_of, ends_tx, is_retry, is_held, missing, again as tried, eats_tx, thread_look, thread_put, thread_update, on_events, around, thread_meaning, from_events, applies_in, action_meaning, accepts}
use Rattle.txs_tree_meaning.specs.Transaction.{TxState, tx_meaning, tx_meaning_lacking, validated, final_writes}
use Rattle.txs_tree_meaning.specs.Tree.{Mark, Tree, Const, Local, If, Do, Let, Loop, Recur, Core, Call, VectorOf, Println, Dosync, Look, Put, Update, Send, Trees, none, more, count, ThreadSource}
use Rattle.txs_tree_meaning.proofs.Callable.{nth-take, function_at}
use Rattle.txs_theorem_threads.proofs.Callees.{Keeps, IsPure, pure_callees, sound_pure}
use Rattle.txs_theorem_threads.proofs.Depth.{pures, others, both_kinds}
use Rattle.txs_theorem_threads.proofs.Functions.{there, nth_below, thread_sound}
use Rattle.txs_theorem_threads.proofs.Meant.{Any, shallow_proper}
use Rattle.txs_theorem_threads.proofs.Quiet.{carried, quietly, callee_carried}
use Rattle.txs_theorem_threads.proofs.Related.{Related}
use Rattle.txs_theorem_threads.proofs.Same.{same_link}
use Rattle.txs_theorem_threads.specs.Behaves.{IsProper}
use Rattle.txs_theorem_audit.proofs.Beginning.{longer}
use Rattle.txs_theorem_audit.proofs.Onward.{From, Leads, Many, same, stays, onward_from, bind_from, again_from, closed_from, loose_from, turns_from, choose_leads, eats_leads, at_itself, reads_inside, resets_inside, sends_inside, eats_tx_leads, tree_leads, all_lead, let_leads, do_leads, looks_lead, puts_lead, updates_lead, sent_leads, prints_lead, result_leads, calls_counted, validates_so, finals, suits_of, kept_in, calls_so, proper_so, accepts_so, accepts_lead, before_pure, made_so, made_alike, swaps_at, one_less, CallsBefore, applied_leads}

some_same : (n m : ℕ) → Some n ≡ Some m → n ≡ m
some_same n m e = cc

some_known : (k l : Known) → Some k ≡ Some l → k ≡ l
some_known k l e = cc

module _ (fs : List SeenEvent) where
  abbrev long : ThreadState → ThreadState
  long t = longer fs t

  -- where a part waits, with these events behind it goes on from there, or it waits for no event
  abbrev pub Rests : {A : Type 0} → Option ℕ → (A → Type 0) → ThreadState → Completion ThreadState A → Type 0
  Rests tail P t y = (y ≡ Waits (long t)) ⊎ ((t.todo ≡ []) × From tail P (long t) y)

  -- A part with these events behind: where it comes to a value, it is the same; where it waits, it goes on from there.
  abbrev pub Resumes : {A : Type 0} → Option ℕ → (A → Type 0) → Completion ThreadState A → Completion ThreadState A → Type 0
  Resumes tail P (Completes a t) y = y ≡ Completes a (long t)
  Resumes tail P (Recurs vs t) y = y ≡ Recurs vs (long t)
  Resumes tail P (Faults f t) y = Unit {0}
  Resumes tail P (Retries t) y = Unit {0}
  Resumes tail P (Waits t) y = Rests tail P t y
  Resumes tail P (OutOfTurns t) y = Unit {0}
  Resumes tail P Invalid y = Unit {0}

  -- ---- parts of a tree

  bind_resumes : {A B : Type 0} (tail : Option ℕ) (P : A → Type 0) (Q : B → Type 0) (x y : Completion ThreadState A) (g : A → ThreadState → Completion ThreadState B) (s : ThreadState) → From None P s y → Resumes None P x y → ((a : A) (u : ThreadState) → P a → From tail Q u (g a u))
      → ((a : A) (t : ThreadState) → P a → Resumes tail Q (g a t) (g a (long t))) → Resumes tail Q (bind x g) (bind y g)
  bind_resumes tail P Q (Completes a t) y g s f h on each = let here : From None P s (Completes a (long t)) = subst (λ z. From None P s z) h f in subst (λ z. Resumes tail Q (g a t) (bind z g)) (sym h) (each a t here.0)
  bind_resumes tail P Q (Recurs vs t) y g s f h on each = tt
  bind_resumes tail P Q (Faults e t) y g s f h on each = tt
  bind_resumes tail P Q (Retries t) y g s f h on each = tt
  bind_resumes tail P Q (Waits t) y g s f h on each = ⊎_elim (λ e. inl (ap (λ z. bind z g) e)) (λ e. inr (e.0, bind_from tail P Q y g (long t) e.1 on)) h
  bind_resumes tail P Q (OutOfTurns t) y g s f h on each = tt
  bind_resumes tail P Q Invalid y g s f h on each = tt

  again_resumes : (tail : Option ℕ) (d : ℕ) (x y : Completion ThreadState Value) (g : List Value → ThreadState → Completion ThreadState Value) (s : ThreadState) → From (Some d) Any s y → Resumes (Some d) Any x y → ((ws : List Value) (u : ThreadState) → length ws ≡ d → From tail Any u (g ws u))
      → ((ws : List Value) (t : ThreadState) → length ws ≡ d → Resumes tail Any (g ws t) (g ws (long t))) → Resumes tail Any (again x g) (again y g)
  again_resumes tail d (Completes a t) y g s f h on each = ap (λ z. again z g) h
  again_resumes tail d (Recurs ws t) y g s f h on each =
      let here : From (Some d) Any s (Recurs ws (long t)) = subst (λ z. From (Some d) Any s z) h f in
      subst (λ z. Resumes tail Any (g ws t) (again z g)) (sym h) (each ws t (sym (some_same d (length ws) here.0)))
  again_resumes tail d (Faults e t) y g s f h on each = tt
  again_resumes tail d (Retries t) y g s f h on each = tt
  again_resumes tail d (Waits t) y g s f h on each = ⊎_elim (λ e. inl (ap (λ z. again z g) e)) (λ e. inr (e.0, again_from tail d y g (long t) e.1 on)) h
  again_resumes tail d (OutOfTurns t) y g s f h on each = tt
  again_resumes tail d Invalid y g s f h on each = tt

  closed_resumes : (x y : Completion ThreadState Value) → Resumes None Any x y → Resumes None Any (closed x) (closed y)
  closed_resumes (Completes a t) y h = ap closed h
  closed_resumes (Recurs vs t) y h = tt
  closed_resumes (Faults f t) y h = tt
  closed_resumes (Retries t) y h = tt
  closed_resumes (Waits t) y h = ⊎_elim (λ e. inl (ap closed e)) (λ e. inr (e.0, closed_from y (long t) e.1)) h
  closed_resumes (OutOfTurns t) y h = tt
  closed_resumes Invalid y h = tt

  -- what is in no tail position may stand in one
  loose_resumes : (tail : Option ℕ) (x y : Completion ThreadState Value) → Resumes None Any x y → Resumes tail Any x y
  loose_resumes tail (Completes a t) y h = h
  loose_resumes tail (Recurs vs t) y h = h
  loose_resumes tail (Faults f t) y h = tt
  loose_resumes tail (Retries t) y h = tt
  loose_resumes tail (Waits t) y h = ⊎_elim (λ e. inl e) (λ e. inr (e.0, loose_from tail y (long t) e.1)) h
  loose_resumes tail (OutOfTurns t) y h = tt
  loose_resumes tail Invalid y h = tt

  turns_resume : (tail : Option ℕ) (n d : ℕ) (g : List Value → ThreadState → Completion ThreadState Value) → ((vs : List Value) (s : ThreadState) → length vs ≡ d → From (Some d) Any s (g vs s)) → ((vs : List Value) (s : ThreadState) → length vs ≡ d → Resumes (Some d) Any (g vs s) (g vs (long s)))
      → (vs : List Value) (s : ThreadState) → length vs ≡ d → Resumes tail Any (turns n d g vs s) (turns n d g vs (long s))
  turns_resume tail zero d g on each vs s e = tt
  turns_resume tail (suc n) d g on each vs s e =
      subst (λ b. Resumes tail Any (if b then again (g vs s) (turns n d g) else Invalid) (if b then again (g vs (long s)) (turns n d g) else Invalid)) (sym (eq-eqb (length vs) d e))
      (again_resumes tail d (g vs s) (g vs (long s)) (turns n d g) (long s) (on vs (long s) e) (each vs s e) (λ ws u l. turns_from tail n d g on ws u l) (λ ws t l. turns_resume tail n d g on each ws t l))

  give_resumes : (tail : Option ℕ) (o : Option Value) (s : ThreadState) → Resumes {A = Value} tail Any (give o s) (give o (long s))
  give_resumes tail None s = tt
  give_resumes tail (Some v) s = refl

  result_resumes : (tail : Option ℕ) (r : Result Value FaultKind) (span : Span) (s : ThreadState) → Resumes {A = Value} tail Any (result_of r span s) (result_of r span (long s))
  result_resumes tail (Ok v) span s = refl
  result_resumes tail (Err e) span s = tt

  choose_resumes : (tail : Option ℕ) (v : Value) (x y z w : Completion ThreadState Value) → Resumes tail Any x z → Resumes tail Any y w → Resumes tail Any (choose v x y) (choose v z w)
  choose_resumes tail Nil x y z w h k = k
  choose_resumes tail (Truth false) x y z w h k = k
  choose_resumes tail (Truth true) x y z w h k = h
  choose_resumes tail (Int i) x y z w h k = h
  choose_resumes tail (Key bs) x y z w h k = h
  choose_resumes tail (Text bs) x y z w h k = h
  choose_resumes tail (Vector vs) x y z w h k = h
  choose_resumes tail (Cell c) x y z w h k = h

  on_resumes : (r : Result CellId FaultKind) (span : Span) (g : CellId → ThreadState → Completion ThreadState Value) (s : ThreadState) → ((c : CellId) → Resumes None Any (g c s) (g c (long s))) → Resumes None Any (bind (result_of r span s) g) (bind (result_of r span (long s)) g)
  on_resumes (Ok c) span g s h = h c
  on_resumes (Err e) span g s h = tt

  -- a pure part, and what comes behind it
  carried_resumes : (q : Completion (Unit {0}) Value) (t : ThreadState) → Resumes None Any (carried t q) (carried (long t) q)
  carried_resumes (Completes v u) t = refl
  carried_resumes (Recurs vs u) t = refl
  carried_resumes (Faults f u) t = tt
  carried_resumes (Retries u) t = tt
  carried_resumes (Waits u) t = inl refl
  carried_resumes (OutOfTurns u) t = tt
  carried_resumes Invalid t = tt

  behind_resumes : (q : Completion (Unit {0}) Value) (g : Value → ThreadState → Completion ThreadState Value) (t : ThreadState) → ((v : Value) → Resumes None Any (g v t) (g v (long t))) → Resumes None Any (bind (carried t q) g) (bind (carried (long t) q) g)
  behind_resumes (Completes v u) g t each = each v
  behind_resumes (Recurs vs u) g t each = tt
  behind_resumes (Faults f u) g t each = tt
  behind_resumes (Retries u) g t each = tt
  behind_resumes (Waits u) g t each = inl refl
  behind_resumes (OutOfTurns u) g t each = tt
  behind_resumes Invalid g t each = tt

  -- ---- at an event

  -- at an event that is being eaten no other is waited for
  abbrev Both : Completion ThreadState Value → Completion ThreadState Value → Type 0
  Both (Completes a t) y = y ≡ Completes a (long t)
  Both (Recurs vs t) y = y ≡ Recurs vs (long t)
  Both (Faults f t) y = Unit {0}
  Both (Retries t) y = Unit {0}
  Both (Waits t) y = y ≡ Waits (long t)
  Both (OutOfTurns t) y = Unit {0}
  Both Invalid y = Unit {0}

  uneaten_resumes : (e : SeenEvent) (es : List SeenEvent) (x y : Completion ThreadState Value) → Both x y → Resumes None Any (uneaten (e ∷ es) x) (uneaten (e ∷ es ++ fs) y)
  uneaten_resumes e es (Completes a t) y h = ap (uneaten (e ∷ es ++ fs)) h
  uneaten_resumes e es (Recurs vs t) y h = ap (uneaten (e ∷ es ++ fs)) h
  uneaten_resumes e es (Faults f t) y h = tt
  uneaten_resumes e es (Retries t) y h = tt
  uneaten_resumes e es (Waits t) y h = inl (ap (uneaten (e ∷ es ++ fs)) h)
  uneaten_resumes e es (OutOfTurns t) y h = tt
  uneaten_resumes e es Invalid y h = tt

  eats_resumes : (book : ℕ) (g : SeenEvent → ThreadState → Completion ThreadState Value) → ((t : ThreadState) → From None Any t (eats book g t.todo t)) → ((e : SeenEvent) (t : ThreadState) → Both (g e t) (g e (long t))) → (l : List SeenEvent) (t : ThreadState) → t.todo ≡ l
      → Resumes None Any (eats book g l t) (eats book g (l ++ fs) (long t))
  eats_resumes book g on each [] t here =
      inr (here, onward_from None Any (long (record t { asks = Some book })) (long t) (eats book g fs (long t)) (stays (long (record t { asks = Some book })) (long t) refl refl refl) (subst (λ l. From None Any (long t) (eats book g (l ++ fs) (long t))) here (on (long t))))
  eats_resumes book g on each (e ∷ es) t here = of_book (e.book == book)
    where
      of_book : (b : Bool) → Resumes None Any (if b then uneaten (e ∷ es) (g e (record t { todo = es })) else Invalid) (if b then uneaten (e ∷ es ++ fs) (g e (record t { todo = es ++ fs })) else Invalid)
      of_book true = uneaten_resumes e es (g e (record t { todo = es })) (g e (record t { todo = es ++ fs })) (each e (record t { todo = es }))
      of_book false = tt

  meant_both : (b : Bool) (v : Value) (t : ThreadState) → Both (meant b v t) (meant b v (long t))
  meant_both true v t = refl
  meant_both false v t = tt

  reads_both : (c : CellId) (k : EventKind) (C : World) (t : ThreadState) → Both (reads c k C t) (reads c k C (long t))
  reads_both c (event.Read d) C t = meant_both (same_cell c d) (C c.number) t
  reads_both c _ C t = tt

  resets_both : (v : Value) (k : EventKind) (t : ThreadState) → Both (resets v k t) (resets v k (long t))
  resets_both v (event.Swap new) t = meant_both (same_value v new) v t
  resets_both v _ t = tt

  sends_both : (a : Action) (span : Span) (k : EventKind) (t : ThreadState) → Both (sends a span k t) (sends a span k (long t))
  sends_both a span (event.Send b) t = meant_both (same_action a b) (Cell a.agent) t
  sends_both a span (event.SendRefused g) t = test (same_cell a.agent g)
    where
      test : (b : Bool) → Both (if b then Faults (fault_at AgentFailed span) t else Invalid) (if b then Faults (fault_at AgentFailed span) (long t) else Invalid)
      test true = tt
      test false = tt
  sends_both a span _ t = tt

  faultless_both : {A : Type 0} (q : Completion (Unit {0}) A) (go : A → ThreadState → Completion ThreadState Value) (t : ThreadState) → ((a : A) → Both (go a t) (go a (long t))) → Both (faultless (carried t q) go) (faultless (carried (long t) q) go)
  faultless_both (Completes a u) go t each = each a
  faultless_both (Recurs vs u) go t each = tt
  faultless_both (Faults f u) go t each = tt
  faultless_both (Retries u) go t each = tt
  faultless_both (Waits u) go t each = refl
  faultless_both (OutOfTurns u) go t each = tt
  faultless_both Invalid go t each = tt

  faulted_both : {A : Type 0} (q : Completion (Unit {0}) A) (t : ThreadState) → Both (faulted (carried t q) (λ g t1. Faults g t1)) (faulted (carried (long t) q) (λ g t1. Faults g t1))
  faulted_both (Completes a u) t = tt
  faulted_both (Recurs vs u) t = tt
  faulted_both (Faults f u) t = tt
  faulted_both (Retries u) t = tt
  faulted_both (Waits u) t = refl
  faulted_both (OutOfTurns u) t = tt
  faulted_both Invalid t = tt

  -- a swap, whose callee is pure
  swaps_both : (c : CellId) (g : Value → ThreadState → Completion ThreadState Value) (q : Value → Completion (Unit {0}) Value) → ((v : Value) (t : ThreadState) → g v t ≡ carried t (q v)) → (k : EventKind) (R C : World) (t : ThreadState) → Both (swaps c g k R C t) (swaps c g k R C (long t))
  swaps_both c g q so (event.Swap new) R C t =
      let go : Value → ThreadState → Completion ThreadState Value = λ v t1. meant (same_value v new) v t1 in
      let v = C c.number in
      subst (λ z. Both (faultless z go) (faultless (g v (long t)) go)) (sym (so v t)) (subst (λ z. Both (faultless (carried t (q v)) go) (faultless z go)) (sym (so v (long t))) (faultless_both (q v) go t (λ w. meant_both (same_value w new) w t)))
  swaps_both c g q so (event.Broke at) R C t =
      let go : Fault → ThreadState → Completion ThreadState Value = λ e t1. Faults e t1 in
      let v = R c.number in
      subst (λ z. Both (faulted z go) (faulted (g v (long t)) go)) (sym (so v t)) (subst (λ z. Both (faulted (carried t (q v)) go) (faulted z go)) (sym (so v (long t))) (faulted_both (q v) t))
  swaps_both c g q so _ R C t = tt

  over_both : (t : ThreadState) (x : Completion TxState Value) (F G : Value → TxState → Completion ThreadState Value) (b d : Fault → Completion ThreadState Value) → ((v : Value) (z : TxState) → x ≡ Completes v z → Both (F v z) (G v z)) → ((g : Fault) → Both (b g) (d g)) → Both (over t x F b) (over (long t) x G d)
  over_both t (Completes v z) F G b d each broke = each v z refl
  over_both t (Recurs vs z) F G b d each broke = tt
  over_both t (Faults g z) F G b d each broke = broke g
  over_both t (Retries z) F G b d each broke = tt
  over_both t (Waits z) F G b d each broke = tt
  over_both t (OutOfTurns z) F G b d each broke = tt
  over_both t Invalid F G b d each broke = tt

  -- a try that had to run again, and what follows
  over_resumes : (t : ThreadState) (x : Completion TxState Value) (F G : Value → TxState → Completion ThreadState Value) → ((v : Value) (z : TxState) → Resumes None Any (F v z) (G v z)) → Resumes None Any (over t x F (λ g. Invalid)) (over (long t) x G (λ g. Invalid))
  over_resumes t (Completes v z) F G each = each v z
  over_resumes t (Recurs vs z) F G each = tt
  over_resumes t (Faults g z) F G each = tt
  over_resumes t (Retries z) F G each = tt
  over_resumes t (Waits z) F G each = tt
  over_resumes t (OutOfTurns z) F G each = tt
  over_resumes t Invalid F G each = tt

  allowed_resumes : (b : Bool) (x y : Completion ThreadState Value) → Resumes None Any x y → Resumes None Any (allowed b x) (allowed b y)
  allowed_resumes true x y h = h
  allowed_resumes false x y h = tt

  missing_resumes : (t : ThreadState) (z : Completion TxState Value) (x y : Completion ThreadState Value) → Resumes None Any x y → Resumes None Any (missing t z x) (missing (long t) z y)
  missing_resumes t (Completes v u) x y h = tt
  missing_resumes t (Recurs vs u) x y h = tt
  missing_resumes t (Faults g u) x y h = tt
  missing_resumes t (Retries u) x y h = tt
  missing_resumes t (Waits u) x y h = h
  missing_resumes t (OutOfTurns u) x y h = tt
  missing_resumes t Invalid x y h = tt

  tried_resumes : (d : Transacting) (k : EventKind) (R : World) (t : ThreadState) (x y : Completion ThreadState Value) → Resumes None Any x y → Resumes None Any (tried d k R t x) (tried d k R (long t) y)
  tried_resumes d (event.Retry since c cause.Outdated) R t x y h = missing_resumes t (d.lacking c.number R) x y h
  tried_resumes d (event.Retry since c cause.Held) R t x y h = over_resumes t (d.on R) _ _ (λ v z. allowed_resumes (is_held z.done c.number) x y h)
  tried_resumes d (event.Retry since c (cause.Commuted at)) R t x y h = over_resumes t (d.on R) _ _ (λ v z. allowed_resumes (has_number (commuted z.done) c.number) x y h)
  tried_resumes d _ R t x y h = tt

  -- ---- a thread

  module _ (p : ThreadSource) (sound : SoundSource p) (n : ℕ) where
    abbrev ks : List Known
    ks = known p.functions

    abbrev call : ℕ → Bool → ℕ → List Value → ThreadState → Completion ThreadState Value
    call b = call_at (on_events (around p n)) n p.functions b

    itself : n ≤ n
    itself = omega arith

    -- ---- a transaction at its events

    module _ (b : ℕ) (m : Mark) (e : Tree) (env : List Value) (kept : Keeps (pure_callees ks) true e) where
      abbrev tx : Transacting
      tx = record { mark = m; body = e; locals = env; on = tx_meaning n p.functions b e env; lacking = λ j. tx_meaning_lacking n p.functions b e env (Some j); validators = validators_of p.cells }

      abbrev f : Applies ThreadState
      f = apply (call b true) m.span

      abbrev q : Applies (Unit {0})
      q = quietly n p.functions b m.span

      abbrev writes_in : {S : Type 0} → Applies S → PlainTxFrame → World → S → Completion S Writes
      writes_in g w C s = final_writes g (validators_of p.cells) m.span w C s

      finals_both : (R : World) (v : Value) (z : TxState) → tx.on R ≡ Completes v z → (C : World) (t : ThreadState) (F : Completion ThreadState Writes → Completion ThreadState Value) → Both (F (carried t (writes_in q z.done C tt))) (F (carried (long t) (writes_in q z.done C tt)))
          → Both (F (writes_in f z.done C t)) (F (writes_in f z.done C (long t)))
      finals_both R v z h C t F each =
          let so : (u : ThreadState) → writes_in f z.done C u ≡ carried u (writes_in q z.done C tt) = λ u. finals p sound n n itself b m e env kept n z.done (suits_of p sound n n itself b m e env kept R v z h) C u in
          subst (λ y. Both (F y) (F (writes_in f z.done C (long t)))) (sym (so t)) (subst (λ y. Both (F (carried t (writes_in q z.done C tt))) (F y)) (sym (so (long t))) each)

      ends_both : (k : EventKind) (R Q C : World) (t : ThreadState) → Both (ends_tx tx f k R Q C t) (ends_tx tx f k R Q C (long t))
      ends_both (event.Commit at view writes sent) R Q C t =
          over_both t (tx.on R) _ _ (λ g. Invalid) (λ g. Invalid)
          (λ v z h.
          (let go : Writes → ThreadState → Completion ThreadState Value = λ ws t1. meant (same_writes ws writes && same_actions (sends_of_commit t1.held z.done.sends) sent) v (holding z.done.sends (with_tx (run_of tx v z) t1)) in
          finals_both R v z h C t (λ y. faultless y go)
          (faultless_both (writes_in q z.done C tt) go t (λ ws. meant_both (same_writes ws writes && same_actions (sends_of_commit t.held z.done.sends) sent) v (holding z.done.sends (with_tx (run_of tx v z) t)))))) (λ g. tt)
      ends_both (event.Fail at view) R Q C t =
          over_both t (tx.on R) _ _ (λ g. Faults g t) (λ g. Faults g (long t)) (λ v z h. finals_both R v z h Q t (λ y. faulted y (λ g t1. Faults g t1)) (faulted_both (writes_in q z.done Q tt) t)) (λ g. tt)
      ends_both (event.Refused at view agent) R Q C t =
          over_both t (tx.on R) _ _ (λ g. Invalid) (λ g. Invalid)
          (λ v z h.
          (let go : Writes → ThreadState → Completion ThreadState Value = λ ws t1. Faults (fault_at AgentFailed m.span) (with_tx (run_of tx v z) t1) in
          finals_both R v z h Q t (λ y. faultless y go) (faultless_both (writes_in q z.done Q tt) go t (λ ws. tt)))) (λ g. tt)
      ends_both _ R Q C t = tt

      eats_tx_resumes : (k : ℕ) (l : List SeenEvent) (t : ThreadState) → Resumes None Any (eats_tx k tx f l t) (eats_tx k tx f (l ++ fs) (long t))
      eats_tx_resumes zero l t = tt
      eats_tx_resumes (suc k) [] t =
          let waited : ThreadState = long (record t { todo = []; asks = Some 0 }) in
          let whole : ThreadState = record t { todo = fs } in
          inr (refl, onward_from None Any waited whole (eats_tx (suc k) tx f fs (long t)) (stays waited whole refl refl refl) (eats_tx_leads p sound n n itself b m e env kept (suc k) fs (long t)).0)
      eats_tx_resumes (suc k) (d ∷ ds) t = of_book (d.book == 0) (is_retry d.kind) (eats_tx_resumes k ds t)
        where
          of_book : (own retry : Bool) → Resumes None Any (eats_tx k tx f ds t) (eats_tx k tx f (ds ++ fs) (long t))
              → Resumes None Any (if own then (if retry then tried tx d.kind d.R (record t { todo = d ∷ ds }) (eats_tx k tx f ds t) else uneaten (d ∷ ds) (ends_tx tx f d.kind d.R d.Q d.C (record t { todo = ds }))) else Invalid)
              (if own then (if retry then tried tx d.kind d.R (record t { todo = d ∷ ds ++ fs }) (eats_tx k tx f (ds ++ fs) (long t)) else uneaten (d ∷ ds ++ fs) (ends_tx tx f d.kind d.R d.Q d.C (record t { todo = ds ++ fs }))) else Invalid)
          of_book true true rest = tried_resumes tx d.kind d.R (record t { todo = d ∷ ds }) (eats_tx k tx f ds t) (eats_tx k tx f (ds ++ fs) (long t)) rest
          of_book true false rest = uneaten_resumes d ds (ends_tx tx f d.kind d.R d.Q d.C (record t { todo = ds })) (ends_tx tx f d.kind d.R d.Q d.C (record t { todo = ds ++ fs })) (ends_both d.kind d.R d.Q d.C (record t { todo = ds }))
          of_book false retry rest = tt

    -- ---- trees, where these are the functions that may be called

    module _ (b : ℕ) (js : List Known) (pure : (c : Callee) (k : ℕ) → SoundCallee js c k → IsPure ks c)
        (calls : (i : ℕ) (k : Known) → nth js i ≡ Some k → MayCall in_thread k → (vs : List Value) → k.parameters ≡ length vs → (s : ThreadState) → Leads None Any s (call b false i vs s) (call b false i vs s))
        (proper : (k : ℕ) (span : Span) (c : Callee) (vs : List Value) → SoundCallee ks c (length vs) → IsProper (quietly k p.functions b span c vs tt))
        (resumed : (i : ℕ) (k : Known) → nth js i ≡ Some k → MayCall in_thread k → (vs : List Value) → k.parameters ≡ length vs → (s : ThreadState) → Resumes None Any (call b false i vs s) (call b false i vs (long s))) where
      abbrev quiet : Span → Applies (Unit {0})
      quiet span = quietly n p.functions b span

      abbrev applies : Span → Applies ThreadState
      applies span = apply (call b false) span

      looks_resume : (form : LookForm) (m : Mark) (v : Value) (t : ThreadState) → MayStand in_thread (rule (form_of.Look form)).stands → Resumes None Any ((on_events (around p n) b).look form false m v t) ((on_events (around p n) b).look form false m v (long t))
      looks_resume Deref m v t h =
          on_resumes (cell_of (rule (form_of.Look Deref)) false v) m.span (thread_look (around p n) Deref) t
          (λ c.
          (let go : SeenEvent → ThreadState → Completion ThreadState Value = λ e t1. reads c e.kind e.C t1 in
          eats_resumes (home p.cells c) go (λ u. (eats_leads (home p.cells c) go go (λ e t1. at_itself t1 (reads c e.kind e.C t1) (reads_inside c e.kind e.C t1)) u.todo u refl).0) (λ e t1. reads_both c e.kind e.C t1) t.todo t refl))
      looks_resume Ensure m v t h = absurd h

      puts_resume : (form : PutForm) (m : Mark) (v w : Value) (t : ThreadState) → MayStand in_thread (rule (form_of.Put form)).stands → Resumes None Any ((on_events (around p n) b).put form false m v w (applies m.span) t) ((on_events (around p n) b).put form false m v w (applies m.span) (long t))
      puts_resume RefSet m v w t h = absurd h
      puts_resume Reset m v w t h =
          on_resumes (cell_of (rule (form_of.Put Reset)) false v) m.span (λ c t1. thread_put (around p n) Reset m.span c w (applies m.span) t1) t each
        where
          each : (c : CellId) → Resumes None Any (thread_put (around p n) Reset m.span c w (applies m.span) t) (thread_put (around p n) Reset m.span c w (applies m.span) (long t))
          each c =
              let eat : Value → SeenEvent → ThreadState → Completion ThreadState Value = λ u e t2. resets u e.kind t2 in
              let go : Value → ThreadState → Completion ThreadState Value = λ u t1. eats (home p.cells c) (eat u) t1.todo t1 in
              let q : Completion (Unit {0}) Value = validated (quiet m.span) (validator_at (validators_of p.cells) c.number) m.span w tt in
              let so : (u : ThreadState) → validated (applies m.span) (validator_at (validators_of p.cells) c.number) m.span w u ≡ carried u q = λ u. validates_so p sound n n itself b js pure calls proper n m.span c w u in
              subst (λ z. Resumes None Any (bind z go) (bind (validated (applies m.span) (validator_at (validators_of p.cells) c.number) m.span w (long t)) go)) (sym (so t))
              (subst (λ z. Resumes None Any (bind (carried t q) go) (bind z go)) (sym (so (long t)))
              (behind_resumes q go t
              (λ u. eats_resumes (home p.cells c) (eat u) (λ t1. (eats_leads (home p.cells c) (eat u) (eat u) (λ e t2. at_itself t2 (resets u e.kind t2) (resets_inside u e.kind t2)) t1.todo t1 refl).0) (λ e t1. resets_both u e.kind t1) t.todo t refl)))

      -- what a swap's callee makes of a value, where the atom's validator accepts it
      abbrev made : Span → CellId → Callee → List Value → Value → ThreadState → Completion ThreadState Value
      made span c callee vs = λ u t2. bind (applies span callee (u ∷ vs) t2) (λ w s1. validated (applies span) (validator_at (validators_of p.cells) c.number) span w s1)

      updates_resume : (form : UpdateForm) (m : Mark) (v : Value) (callee : Callee) → IsPure ks callee → (vs : List Value) (t : ThreadState) → MayStand in_thread (rule (form_of.Update form)).stands
          → Resumes None Any ((on_events (around p n) b).update form false m v callee vs (applies m.span) t) ((on_events (around p n) b).update form false m v callee vs (applies m.span) (long t))
      updates_resume Alter m v callee free vs t h = absurd h
      updates_resume Commute m v callee free vs t h = absurd h
      updates_resume Swap m v callee free vs t h =
          on_resumes (cell_of (rule (form_of.Update Swap)) false v) m.span (λ c t1. thread_update (around p n) Swap m.span c callee vs (applies m.span) t1) t
          (λ c.
          (let f : Value → ThreadState → Completion ThreadState Value = made m.span c callee vs in
          let go : SeenEvent → ThreadState → Completion ThreadState Value = λ e t1. swaps c f e.kind e.R e.C t1 in
          let q : Value → Completion (Unit {0}) Value = λ u. bind (quiet m.span callee (u ∷ vs) tt) (λ w s1. validated (quiet m.span) (validator_at (validators_of p.cells) c.number) m.span w s1) in
          let so : (u : Value) (t2 : ThreadState) → f u t2 ≡ carried t2 (q u) = λ u t2. made_so p sound n n itself b js pure calls proper n m.span c callee free vs u t2 in
          let alike : (u : Value) → Related (same_link (Unit {0})) (q u) (q u) = λ u. made_alike p sound n n itself b js pure calls proper m.span c callee vs u in
          eats_resumes (home p.cells c) go (λ u. (eats_leads (home p.cells c) go go (λ e t1. swaps_at c f f q q so so alike e.kind e.R e.C t1) u.todo u refl).0) (λ e t1. swaps_both c f q so e.kind e.R e.C t1) t.todo t refl))

      sent_resumes : (m : Mark) (v : Value) (callee : Callee) (vs : List Value) (t : ThreadState) → Resumes None Any ((on_events (around p n) b).send false m v callee vs t) ((on_events (around p n) b).send false m v callee vs (long t))
      sent_resumes m v callee vs t =
          on_resumes (cell_of (rule form_of.Send) false v) m.span (λ c t1. sends_or_holds t1.held (record { agent = c; callee = callee; args = vs; span = m.span }) m.span t1) t (λ c. send_at c t.held)
        where
          send_at : (c : CellId) (o : Option (List Action)) → Resumes None Any (sends_or_holds o (record { agent = c; callee = callee; args = vs; span = m.span }) m.span t) (sends_or_holds o (record { agent = c; callee = callee; args = vs; span = m.span }) m.span (long t))
          send_at c None =
              let a : Action = record { agent = c; callee = callee; args = vs; span = m.span } in
              let go : SeenEvent → ThreadState → Completion ThreadState Value = λ e t2. sends a m.span e.kind t2 in
              eats_resumes 0 go (λ u. (eats_leads 0 go go (λ e t2. at_itself t2 (sends a m.span e.kind t2) (sends_inside a m.span e.kind t2)) u.todo u refl).0) (λ e t2. sends_both a m.span e.kind t2) t.todo t refl
          send_at c (Some held) = refl

      abbrev on : Tree → List Value → ThreadState → Completion ThreadState Value
      on e env t = eval (on_events (around p n) b) (call b) n false e env t

      abbrev all : Trees → List Value → ThreadState → Completion ThreadState (List Value)
      all es env t = eval_all (on_events (around p n) b) (call b) n false es env t

      abbrev lets : Trees → List Value → ThreadState → Completion ThreadState (List Value)
      lets es env t = eval_let (on_events (around p n) b) (call b) n false es env t

      abbrev dos : Trees → List Value → ThreadState → Completion ThreadState Value
      dos es env t = eval_do (on_events (around p n) b) (call b) n false es env t

      kept : (e : Tree) (d : ℕ) → SoundTree js in_dosync d None e → Keeps (pure_callees ks) true e
      kept e d h = kept_in p sound n n itself b js pure calls proper e d h

      -- where such a part comes to from any state
      tree : (e : Tree) (d : ℕ) (tail : Option ℕ) → SoundTree js in_thread d tail e → (env : List Value) → length env ≡ d → (s : ThreadState) → Leads tail Any s (on e env s) (on e env s)
      tree e d tail h env l s = tree_leads p sound n n itself b js pure calls proper e d tail h env l s

      tree_all : (es : Trees) (d : ℕ) → SoundAll js in_thread d es → (env : List Value) → length env ≡ d → (s : ThreadState) → From None (Many (count es)) s (all es env s)
      tree_all es d h env l s = (all_lead p sound n n itself b js pure calls proper es d h env l s).0

      tree_let : (es : Trees) (d : ℕ) → SoundLet js in_thread d es → (env : List Value) → length env ≡ d → (s : ThreadState) → From None (Many (count es)) s (lets es env s)
      tree_let es d h env l s = (let_leads p sound n n itself b js pure calls proper es d h env l s).0

      tree_do : (es : Trees) (d : ℕ) (tail : Option ℕ) → SoundDo js in_thread d tail es → (env : List Value) → length env ≡ d → (s : ThreadState) → From tail Any s (dos es env s)
      tree_do es d tail h env l s = (do_leads p sound n n itself b js pure calls proper es d tail h env l s).0

      mutual
        tree_resumes : (e : Tree) (d : ℕ) (tail : Option ℕ) → SoundTree js in_thread d tail e → (env : List Value) → length env ≡ d → (s : ThreadState) → Resumes tail Any (on e env s) (on e env (long s))
        tree_resumes (Const v m) d tail h env l s = refl
        tree_resumes (Local i m) d tail h env l s = give_resumes tail (nth env i) s
        tree_resumes (If c x y m) d tail h env l s =
            bind_resumes tail Any Any (on c env s) (on c env (long s)) (λ v t. choose v (on x env t) (on y env t)) (long s) (tree c d None h.0 env l (long s)).0 (tree_resumes c d None h.0 env l s)
            (λ v u a. (choose_leads tail v (on x env u) (on y env u) (on x env u) (on y env u) u (tree x d tail h.1 env l u) (tree y d tail h.2 env l u)).0)
            (λ v t a. choose_resumes tail v (on x env t) (on y env t) (on x env (long t)) (on y env (long t)) (tree_resumes x d tail h.1 env l t) (tree_resumes y d tail h.2 env l t))
        tree_resumes (Do items m) d tail h env l s = do_resumes items d tail h env l s
        tree_resumes (Let values body m) d tail h env l s =
            bind_resumes tail (Many (count values)) Any (lets values env s) (lets values env (long s)) (λ vs t. on body (env ++ vs) t) (long s) (tree_let values d h.0 env l (long s)) (let_resumes values d h.0 env l s)
            (λ vs u a. (tree body (d + count values) tail h.1 (env ++ vs) (omega (arith, length-append env vs, l, a)) u).0)
            (λ vs t a. tree_resumes body (d + count values) tail h.1 (env ++ vs) (omega (arith, length-append env vs, l, a)) t)
        tree_resumes (Loop values body m) d tail h env l s =
            let go : List Value → ThreadState → Completion ThreadState Value = λ ws u. on body (env ++ ws) u in
            let from : (ws : List Value) (u : ThreadState) → length ws ≡ count values → From (Some (count values)) Any u (go ws u) =
            λ ws u a. (tree body (d + count values) (Some (count values)) h.1 (env ++ ws) (omega (arith, length-append env ws, l, a)) u).0 in
            bind_resumes tail (Many (count values)) Any (lets values env s) (lets values env (long s)) (λ vs t. turns n (count values) go vs t) (long s) (tree_let values d h.0 env l (long s)) (let_resumes values d h.0 env l s)
            (λ vs u a. turns_from tail n (count values) go from vs u a)
            (λ vs t a. turns_resume tail n (count values) go from (λ ws u a1. tree_resumes body (d + count values) (Some (count values)) h.1 (env ++ ws) (omega (arith, length-append env ws, l, a1)) u) vs t a)
        tree_resumes (Recur values m) d tail h env l s =
            bind_resumes tail (Many (count values)) Any (all values env s) (all values env (long s)) (λ vs t. Recurs vs t) (long s) (tree_all values d h.1 env l (long s)) (all_resume values d h.1 env l s) (λ vs u a. (h.0 ∙ ap Some (sym a), same u)) (λ vs t a. refl)
        tree_resumes (Core op args m) d tail h env l s =
            bind_resumes tail (Many (count args)) Any (all args env s) (all args env (long s)) (λ vs t. result_of (core op vs) m.span t) (long s) (tree_all args d h.1 env l (long s)) (all_resume args d h.1 env l s)
            (λ vs u a. (result_leads tail (core op vs) m.span u).0) (λ vs t a. result_resumes tail (core op vs) m.span t)
        tree_resumes (Call i args m) d tail h env l s =
            bind_resumes tail (Many (count args)) Any (all args env s) (all args env (long s)) (λ vs t. call b false i vs t) (long s) (tree_all args d h.1 env l (long s)) (all_resume args d h.1 env l s)
            (λ vs u a. loose_from tail (call b false i vs u) u (calls i h.0.function h.0.found h.0.zoned vs (h.0.arity ∙ sym a) u).0)
            (λ vs t a. loose_resumes tail (call b false i vs t) (call b false i vs (long t)) (resumed i h.0.function h.0.found h.0.zoned vs (h.0.arity ∙ sym a) t))
        tree_resumes (VectorOf items m) d tail h env l s =
            bind_resumes tail (Many (count items)) Any (all items env s) (all items env (long s)) (λ vs t. result_of (vector_of vs) m.span t) (long s) (tree_all items d h.1 env l (long s)) (all_resume items d h.1 env l s)
            (λ vs u a. (result_leads tail (vector_of vs) m.span u).0) (λ vs t a. result_resumes tail (vector_of vs) m.span t)
        tree_resumes (Println args m) d tail h env l s =
            bind_resumes tail (Many (count args)) Any (all args env s) (all args env (long s)) (λ vs t. (on_events (around p n) b).print false vs t) (long s) (tree_all args d h.2 env l (long s)) (all_resume args d h.2 env l s)
            (λ vs u a. (prints_lead p sound n n itself b js pure calls proper tail vs u).0) (λ vs t a. refl)
        tree_resumes (Dosync body m) d tail h env l s =
            loose_resumes tail (eats_tx (suc reruns) (tx b m body env (kept body d h)) (f b m body env (kept body d h)) s.todo s) (eats_tx (suc reruns) (tx b m body env (kept body d h)) (f b m body env (kept body d h)) (s.todo ++ fs) (long s))
            (eats_tx_resumes b m body env (kept body d h) (suc reruns) s.todo s)
        tree_resumes (Look form cell m) d tail h env l s =
            bind_resumes tail Any Any (on cell env s) (on cell env (long s)) (λ v t. (on_events (around p n) b).look form false m v t) (long s) (tree cell d None h.1 env l (long s)).0 (tree_resumes cell d None h.1 env l s)
            (λ v u a. loose_from tail ((on_events (around p n) b).look form false m v u) u (looks_lead p sound n n itself b js pure calls proper form m v u h.0).0)
            (λ v t a. loose_resumes tail ((on_events (around p n) b).look form false m v t) ((on_events (around p n) b).look form false m v (long t)) (looks_resume form m v t h.0))
        tree_resumes (Put form cell value m) d tail h env l s =
            let put : Value → Value → ThreadState → Completion ThreadState Value = λ v w u. (on_events (around p n) b).put form false m v w (applies m.span) u in
            let go : Value → ThreadState → Completion ThreadState Value = λ v t. bind (on value env t) (put v) in
            let from : (v w : Value) (u : ThreadState) → From tail Any u (put v w u) = λ v w u. loose_from tail (put v w u) u (puts_lead p sound n n itself b js pure calls proper form m v w u h.0).0 in
            bind_resumes tail Any Any (on cell env s) (on cell env (long s)) go (long s) (tree cell d None h.1 env l (long s)).0 (tree_resumes cell d None h.1 env l s)
            (λ v u a. bind_from tail Any Any (on value env u) (put v) u (tree value d None h.2 env l u).0 (λ w u1 a1. from v w u1))
            (λ v t a. bind_resumes tail Any Any (on value env t) (on value env (long t)) (put v) (long t) (tree value d None h.2 env l (long t)).0 (tree_resumes value d None h.2 env l t) (λ w u1 a1. from v w u1)
            (λ w u a1. loose_resumes tail (put v w u) (put v w (long u)) (puts_resume form m v w u h.0)))
        tree_resumes (Update form cell callee args m) d tail h env l s =
            let free : IsPure ks callee = pure callee (suc (count args)) h.2 in
            let update : Value → List Value → ThreadState → Completion ThreadState Value = λ v vs u. (on_events (around p n) b).update form false m v callee vs (applies m.span) u in
            let go : Value → ThreadState → Completion ThreadState Value = λ v t. bind (all args env t) (update v) in
            let from : (v : Value) (vs : List Value) (u : ThreadState) → From tail Any u (update v vs u) = λ v vs u. loose_from tail (update v vs u) u (updates_lead p sound n n itself b js pure calls proper form m v callee free vs u h.0).0 in
            bind_resumes tail Any Any (on cell env s) (on cell env (long s)) go (long s) (tree cell d None h.1 env l (long s)).0 (tree_resumes cell d None h.1 env l s)
            (λ v u a. bind_from tail (Many (count args)) Any (all args env u) (update v) u (tree_all args d h.3 env l u) (λ vs u1 a1. from v vs u1))
            (λ v t a. bind_resumes tail (Many (count args)) Any (all args env t) (all args env (long t)) (update v) (long t) (tree_all args d h.3 env l (long t)) (all_resume args d h.3 env l t) (λ vs u1 a1. from v vs u1)
            (λ vs u a1. loose_resumes tail (update v vs u) (update v vs (long u)) (updates_resume form m v callee free vs u h.0)))
        tree_resumes (Send cell callee args m) d tail h env l s =
            let send : Value → List Value → ThreadState → Completion ThreadState Value = λ v vs u. (on_events (around p n) b).send false m v callee vs u in
            let go : Value → ThreadState → Completion ThreadState Value = λ v t. bind (all args env t) (send v) in
            let from : (v : Value) (vs : List Value) (u : ThreadState) → From tail Any u (send v vs u) = λ v vs u. loose_from tail (send v vs u) u (sent_leads p sound n n itself b js pure calls proper m v callee vs u).0 in
            bind_resumes tail Any Any (on cell env s) (on cell env (long s)) go (long s) (tree cell d None h.0 env l (long s)).0 (tree_resumes cell d None h.0 env l s)
            (λ v u a. bind_from tail (Many (count args)) Any (all args env u) (send v) u (tree_all args d h.2 env l u) (λ vs u1 a1. from v vs u1))
            (λ v t a. bind_resumes tail (Many (count args)) Any (all args env t) (all args env (long t)) (send v) (long t) (tree_all args d h.2 env l (long t)) (all_resume args d h.2 env l t) (λ vs u1 a1. from v vs u1)
            (λ vs u a1. loose_resumes tail (send v vs u) (send v vs (long u)) (sent_resumes m v callee vs u)))

        all_resume : (es : Trees) (d : ℕ) → SoundAll js in_thread d es → (env : List Value) → length env ≡ d → (s : ThreadState) → Resumes None (Many (count es)) (all es env s) (all es env (long s))
        all_resume none d h env l s = refl
        all_resume (more e rest) d h env l s =
            let go : Value → ThreadState → Completion ThreadState (List Value) = λ v t. bind (all rest env t) (λ vs u. Completes (v ∷ vs) u) in
            bind_resumes None Any (Many (suc (count rest))) (on e env s) (on e env (long s)) go (long s) (tree e d None h.0 env l (long s)).0 (tree_resumes e d None h.0 env l s)
            (λ v u a. bind_from None (Many (count rest)) (Many (suc (count rest))) (all rest env u) (λ vs u1. Completes (v ∷ vs) u1) u (tree_all rest d h.1 env l u) (λ vs u1 a1. (ap suc a1, same u1)))
            (λ v t a. bind_resumes None (Many (count rest)) (Many (suc (count rest))) (all rest env t) (all rest env (long t)) (λ vs u. Completes (v ∷ vs) u) (long t) (tree_all rest d h.1 env l (long t)) (all_resume rest d h.1 env l t)
            (λ vs u1 a1. (ap suc a1, same u1)) (λ vs u a1. refl))

        let_resumes : (es : Trees) (d : ℕ) → SoundLet js in_thread d es → (env : List Value) → length env ≡ d → (s : ThreadState) → Resumes None (Many (count es)) (lets es env s) (lets es env (long s))
        let_resumes none d h env l s = refl
        let_resumes (more e rest) d h env l s =
            let go : Value → ThreadState → Completion ThreadState (List Value) = λ v t. bind (lets rest (env ++ v ∷ []) t) (λ vs u. Completes (v ∷ vs) u) in
            let far : (v : Value) → length (env ++ v ∷ []) ≡ d + 1 = λ v. (let e = length-append env (v ∷ []) in omega (arith, e, l)) in
            bind_resumes None Any (Many (suc (count rest))) (on e env s) (on e env (long s)) go (long s) (tree e d None h.0 env l (long s)).0 (tree_resumes e d None h.0 env l s)
            (λ v u a. bind_from None (Many (count rest)) (Many (suc (count rest))) (lets rest (env ++ v ∷ []) u) (λ vs u1. Completes (v ∷ vs) u1) u (tree_let rest (d + 1) h.1 (env ++ v ∷ []) (far v) u) (λ vs u1 a1. (ap suc a1, same u1)))
            (λ v t a. bind_resumes None (Many (count rest)) (Many (suc (count rest))) (lets rest (env ++ v ∷ []) t) (lets rest (env ++ v ∷ []) (long t)) (λ vs u. Completes (v ∷ vs) u) (long t) (tree_let rest (d + 1) h.1 (env ++ v ∷ []) (far v) (long t)) (let_resumes rest (d + 1) h.1 (env ++ v ∷ []) (far v) t)
            (λ vs u1 a1. (ap suc a1, same u1)) (λ vs u a1. refl))

        do_resumes : (es : Trees) (d : ℕ) (tail : Option ℕ) → SoundDo js in_thread d tail es → (env : List Value) → length env ≡ d → (s : ThreadState) → Resumes tail Any (dos es env s) (dos es env (long s))
        do_resumes none d tail h env l s = absurd h
        do_resumes (more e none) d tail h env l s = tree_resumes e d tail h env l s
        do_resumes (more e (more x rest)) d tail h env l s =
            bind_resumes tail Any Any (on e env s) (on e env (long s)) (λ v t. dos (more x rest) env t) (long s) (tree e d None h.0 env l (long s)).0 (tree_resumes e d None h.0 env l s)
            (λ v u a. tree_do (more x rest) d tail h.1 env l u) (λ v t a. do_resumes (more x rest) d tail h.1 env l t)

    -- ---- functions

    -- calls of the first functions
    abbrev ResumesBefore : ℕ → ℕ → Type 0
    ResumesBefore b g = (i : ℕ) (k : Known) → i < g → nth ks i ≡ Some k → MayCall in_thread k → (vs : List Value) → k.parameters ≡ length vs → (s : ThreadState) → Resumes None Any (call b false i vs s) (call b false i vs (long s))

    pure_resumes : (b i : ℕ) → is_pure (nth ks i) ≡ true → (vs : List Value) (s : ThreadState) → Resumes None Any (call b false i vs s) (call b false i vs (long s))
    pure_resumes b i is vs s =
        let q : Completion (Unit {0}) Value = quietly n p.functions b nowhere (Function i) vs tt in
        let so : (u : ThreadState) → call b false i vs u ≡ carried u q = λ u. (callee_carried (on_events (around p n)) n false p.functions sound.functions b nowhere (Function i) vs u is).0 in
        subst (λ z. Resumes None Any z (call b false i vs (long s))) (sym (so s)) (subst (λ z. Resumes None Any (carried s q) z) (sym (so (long s))) (carried_resumes q s))

    -- a call one deeper
    call_resumes : (b : ℕ) → pures ks (length p.functions) ≤ b → b ≤ length p.functions → (i : ℕ) → CallsBefore p sound n n itself b i → ResumesBefore b i → (k : Known) → nth ks i ≡ Some k → MayCall in_thread k → (vs : List Value) → k.parameters ≡ length vs → (s : ThreadState)
        → Resumes None Any (call (suc b) false i vs s) (call (suc b) false i vs (long s))
    call_resumes b enough most i earlier resumed k e z vs a s =
        let found = there p.functions i k e in
        let fun = found.0 in
        let here = function_at p.functions i fun sound.functions found.1 in
        let before = take i ks in
        let known_so : known_of before fun ≡ k = some_known (known_of before fun) k (sym here.0 ∙ e) in
        let body = thread_sound before fun.body fun.parameters (Some fun.parameters) here.1.1 (subst (λ x. MayCall in_thread x) (sym known_so) z) in
        let go : List Value → ThreadState → Completion ThreadState Value = λ ws u. eval (on_events (around p n) b) (call b) n false fun.body ws u in
        let lower : (j : ℕ) (g : Known) → nth before j ≡ Some g → MayCall in_thread g → (us : List Value) → g.parameters ≡ length us → (t : ThreadState) → Leads None Any t (call b false j us t) (call b false j us t) =
        λ j g q y us r t. (let at = nth-take i ks j g q in earlier j g at.0 at.1 y us r t) in
        let proper : (x : ℕ) (span : Span) (c : Callee) (us : List Value) → SoundCallee ks c (length us) → IsProper (quietly x p.functions b span c us tt) = λ x span c us h. shallow_proper p.functions sound.functions x b enough most span c us h in
        subst (λ o. Resumes None Any (bind (give o s) (λ x t. turns (suc n) x.parameters (λ ws u. eval (on_events (around p n) b) (call b) n false x.body ws u) vs t)) (bind (give o (long s)) (λ x t. turns (suc n) x.parameters (λ ws u. eval (on_events (around p n) b) (call b) n false x.body ws u) vs t)))
        (sym found.1)
        (turns_resume None (suc n) fun.parameters go (λ ws u many. (tree_leads p sound n n itself b before (before_pure ks i) lower proper fun.body fun.parameters (Some fun.parameters) body ws many u).0)
        (λ ws u many. tree_resumes b before (before_pure ks i) lower proper (λ j g q y us r t. (let at = nth-take i ks j g q in resumed j g at.0 at.1 y us r t)) fun.body fun.parameters (Some fun.parameters) body ws many u)
        vs s (sym a ∙ ap (λ (x : Known). x.parameters) (sym known_so)))

    resumed_counted : (b g : ℕ) → pures ks (length p.functions) + others ks g ≤ b → b ≤ length p.functions → ResumesBefore b g
    resumed_counted zero g enough most i k l e z vs a s = tt
    resumed_counted (suc b) g enough most i k l e z vs a s = by k.pure refl (λ m. resumed_counted b i m (omega (arith, most)))
      where
        by : (x : Bool) → k.pure ≡ x → (pures ks (length p.functions) + others ks i ≤ b → ResumesBefore b i) → Resumes None Any (call (suc b) false i vs s) (call (suc b) false i vs (long s))
        by true pure below = pure_resumes (suc b) i (ap is_pure e ∙ pure) vs s
        by false pure below =
            let less = one_less p sound n n itself g i k l e pure in
            let left : pures ks (length p.functions) + others ks i ≤ b = omega (arith, enough, less) in
            let deep : b ≤ length p.functions = omega (arith, most) in
            call_resumes b (omega (arith, left)) deep i (calls_counted p sound n n itself b i left deep) (below left) k e z vs a s

    calls_resume : (i : ℕ) (k : Known) → nth ks i ≡ Some k → MayCall in_thread k → (vs : List Value) → k.parameters ≡ length vs → (s : ThreadState) → Resumes None Any (call (length p.functions) false i vs s) (call (length p.functions) false i vs (long s))
    calls_resume i k q z vs a s =
        let found = there p.functions i k q in
        let both = both_kinds ks (length p.functions) in
        resumed_counted (length p.functions) (length p.functions) (omega (arith, both)) (omega arith) i k (nth_below p.functions i found.0 found.1) q z vs a s

    -- ---- threads and actions

    pub thread_resumes : (es : List SeenEvent) → Resumes None Any (thread_meaning p n es) (thread_meaning p n (es ++ fs))
    thread_resumes es =
        let d = length p.functions in
        let main : ThreadState → Completion ThreadState Value = λ s. eval (on_events (around p n) d) (call d) n false p.main [] s in
        closed_resumes (main (from_events None es)) (main (from_events None (es ++ fs)))
        (tree_resumes d ks (sound_pure ks) (calls_so p sound n n itself) (proper_so p sound n n itself) calls_resume p.main 0 None sound.main [] refl (from_events None es))

    -- a callee that may be sent
    applied_resumes : (span : Span) (c : Callee) (vs : List Value) → SoundSent ks c (length vs) → (s : ThreadState) → Resumes None Any (applies_in (around p n) span c vs s) (applies_in (around p n) span c vs (long s))
    applied_resumes span (CoreOp op) vs h s = result_resumes None (core op vs) span s
    applied_resumes span (Function f) vs h s = calls_resume f h.function h.found h.zoned vs h.arity s

    -- a state, where the agent's validator accepts it
    accepts_resume : (span : Span) (g : CellId) (w : Value) (t : ThreadState) → Resumes None Any (accepts (around p n) (applies_in (around p n) span) g span w t) (accepts (around p n) (applies_in (around p n) span) g span w (long t))
    accepts_resume span g w t =
        let q : Completion (Unit {0}) Value = validated (quietly n p.functions (length p.functions) span) (validator_at (validators_of p.cells) g.number) span w tt in
        let so : (u : ThreadState) → accepts (around p n) (applies_in (around p n) span) g span w u ≡ carried u q = λ u. accepts_so p sound n n itself n span g w u in
        subst (λ z. Resumes None Any z (accepts (around p n) (applies_in (around p n) span) g span w (long t))) (sym (so t)) (subst (λ z. Resumes None Any (carried t q) z) (sym (so (long t))) (carried_resumes q t))

    -- an action that a program may send
    pub action_resumes : (a : Action) (v : Value) → SoundSent ks a.callee (suc (length a.args)) → (es : List SeenEvent) → Resumes None Any (action_meaning p.cells p.functions n a v es) (action_meaning p.cells p.functions n a v (es ++ fs))
    action_resumes a v fits es =
        let f : Applies ThreadState = applies_in (around p n) a.span in
        let s = from_events (Some []) es in
        let t = from_events (Some []) (es ++ fs) in
        bind_resumes None Any Any (f a.callee (v ∷ a.args) s) (f a.callee (v ∷ a.args) t) (λ w u. accepts (around p n) f a.agent a.span w u) t (applied_leads p sound n n itself a.span a.callee (v ∷ a.args) fits t).0 (applied_resumes a.span a.callee (v ∷ a.args) fits s)
        (λ w u g. (accepts_lead p sound n n itself a.span a.agent w u).0) (λ w u g. accepts_resume a.span a.agent w u)
