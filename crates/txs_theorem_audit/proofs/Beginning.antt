-- What a thread means on a beginning of its events, beside what it means on all of them.
use Rattle.std.proofs.Common.{◌≡◌, ℕ, zero, suc, Bool, true, false, ◌&&◌, ◌==◌, List, [], ◌∷◌, ◌++◌, length, Option, Some, None, Result, Ok, Err, refl, sym, ap, subst, inl, if◌then◌else◌}
use Rattle.std.proofs.lemmas.Bool.{false≢true}
use Rattle.txs_world_protocol.specs.Ask.{Writes, buffered, with_write, same_value, same_cell, same_writes, same_action, same_actions}
use Rattle.txs_world_protocol.specs.SeenEvent.{SeenEvent, home}
use Rattle.txs_world_protocol.specs.declared.event.Cause.TheVariants as cause
use Rattle.txs_world_protocol.specs.declared.event.EventKind.{EventKind}
use Rattle.txs_world_protocol.specs.declared.event.EventKind.TheVariants as event
use Rattle.txs_value_cell.specs.Cells.{World, Validators, validators_of, validator_at}
use Rattle.txs_value_cell.specs.Forms.{rule, may_stand, cell_of}
use Rattle.txs_value_cell.specs.declared.action.Action.{Action}
use Rattle.txs_value_cell.specs.declared.form.CellForm.TheVariants as form_of
use Rattle.txs_value_cell.specs.declared.form.LookForm.{LookForm}
use Rattle.txs_value_cell.specs.declared.form.LookForm.TheVariants.{Deref, Ensure}
use Rattle.txs_value_cell.specs.declared.form.PutForm.{PutForm}
use Rattle.txs_value_cell.specs.declared.form.PutForm.TheVariants.{RefSet, Reset}
use Rattle.txs_value_cell.specs.declared.form.UpdateForm.{UpdateForm}
use Rattle.txs_value_cell.specs.declared.form.UpdateForm.TheVariants.{Alter, Commute, Swap}
use Rattle.txs_frame.specs.Frame.{PlainTxFrame, has_number, commuted, phase_work, set_writes, sends_of_commit}
use Rattle.txs_frame.specs.declared.frame.Commute.{Commute as CommuteOf}
use Rattle.txs_value_data.specs.Places.{fault_at}
use Rattle.txs_value_data.specs.declared.fault.Fault.{Fault}
use Rattle.txs_value_data.specs.declared.fault.FaultKind.{FaultKind}
use Rattle.txs_value_data.specs.declared.fault.FaultKind.TheVariants.{AgentFailed}
use Rattle.txs_value_data.specs.declared.fault.Span.{Span}
use Rattle.txs_value_data.specs.declared.op.Callee.{Callee}
use Rattle.txs_value_data.specs.Limits.{reruns}
use Rattle.txs_value_data.specs.Printed.{printed_line}
use Rattle.txs_value_data.specs.declared.value.CellId.{CellId}
use Rattle.txs_value_data.specs.declared.value.Value.{Value}
use Rattle.txs_value_data.specs.declared.value.Value.TheVariants.{Nil, Cell}
use Rattle.txs_tree_meaning.specs.Known.{known}
use Rattle.txs_tree_meaning.specs.Meaning.{Completion, Completes, Recurs, Faults, Retries, Waits, OutOfTurns, Invalid, bind, allowed, result_of, Applies, apply, eval, call_at}
use Rattle.txs_tree_meaning.specs.Sound.{in_thread, SoundFunctions, SoundSource}
use Rattle.txs_tree_meaning.specs.Thread.{ThreadState, from_events, applies_in, action_meaning, holding, with_tx, uneaten, eats, meant, reads, resets, faulted, faultless, swaps, sends, sends_or_holds, over, Transacting, run_of, ends_tx, is_retry, is_held, missing, again, eats_tx, Surroundings, thread_look, thread_put, thread_update, on_events, around, thread_meaning, accepts}
use Rattle.txs_tree_meaning.specs.Transaction.{TxState, value_or, valued, merged, redone, if_accepted, commute_writes, final_writes, tx_meaning, tx_meaning_lacking}
use Rattle.txs_tree_meaning.specs.Tree.{Const, ThreadSource}
use Rattle.txs_theorem_threads.proofs.Accepted.{validated_related, if_accepted_related}
use Rattle.txs_theorem_threads.proofs.Callees.{pure_callees, callees_in, function_callees}
use Rattle.txs_theorem_threads.proofs.Related.{Link, Related, bind_related, closed_related, Applied, Alike, CallsAlike, apply_related, eval_related, calls_related}
use Rattle.txs_theorem_threads.specs.RepliesFit.{Halt, Going, Stopped, Short, Rerun}
use Rattle.txs_theorem_audit.specs.Laws.{WrongStays, WrongStaysInActions}
use Rattle.txs_tree_meaning.specs.Right.{is_wrong}

module _ (fs : List SeenEvent) where
  -- the state with these events behind those to come
  abbrev pub longer : ThreadState → ThreadState
  longer t = record t { todo = t.todo ++ fs }

  abbrev pub ShortSame : ThreadState → Halt ThreadState → Type 0
  ShortSame s Going = ⊥
  ShortSame s (Stopped t) = ⊥
  ShortSame s (Short t) = t ≡ longer s
  ShortSame s (Rerun t) = ⊥

  abbrev pub RerunSame : ThreadState → Halt ThreadState → Type 0
  RerunSame s Going = ⊥
  RerunSame s (Stopped t) = ⊥
  RerunSame s (Short t) = ⊥
  RerunSame s (Rerun t) = t ≡ longer s

  -- the same but for the events behind; where the first waits, nothing is said of the second
  abbrev pub k : Link ThreadState ThreadState
  k = record {
    rel = λ s t. t ≡ longer s;
    faults = λ s t. t ≡ longer s;
    waits = λ s o. Unit {0};
    out_of_turns = ShortSame;
    retries = RerunSame;
    invalid = λ b. b ≡ true;
    waits_loose = λ s h o. tt;
    out_of_turns_loose = λ s h o. absurd h;
    retries_loose = λ s h o. absurd h;
    faults_of = λ s t r. r;
    out_of_turns_of = λ s t r. r;
    invalid_both = refl;
    invalid_loose = λ h b. absurd (false≢true h);
    ahead = λ t. ⊥;
    ahead_stops = λ t h s. absurd h;
    ahead_invalid = λ t h. absurd h;
  }

  from : {A : Type 0} (x : Completion ThreadState A) (g : ThreadState → Completion ThreadState A) (s t : ThreadState) → t ≡ longer s → Related k x (g (longer s)) → Related k x (g t)
  from x g s t e h = subst (λ u. Related k x (g u)) (sym e) h

  meant_cut : (b : Bool) (v : Value) (s : ThreadState) → Related k (meant b v s) (meant b v (longer s))
  meant_cut true v s = (refl, refl)
  meant_cut false v s = refl

  faultless_cut : {A : Type 0} (x y : Completion ThreadState A) (f g : A → ThreadState → Completion ThreadState Value) → Related k x y → ((a : A) (s : ThreadState) → Related k (f a s) (g a (longer s))) → Related k (faultless x f) (faultless y g)
  faultless_cut (Completes a s) (Completes b t) f g h j = subst (λ c. Related k (f a s) (g c t)) h.0 (from (f a s) (g a) s t h.1 (j a s))
  faultless_cut (Completes a s) _ f g h j = absurd h
  faultless_cut (Recurs vs s) (Recurs us t) f g h j = refl
  faultless_cut (Recurs vs s) _ f g h j = absurd h
  faultless_cut (Faults e s) (Faults d t) f g h j = refl
  faultless_cut (Faults e s) _ f g h j = absurd h
  faultless_cut (Retries s) (Retries t) f g h j = refl
  faultless_cut (Retries s) _ f g h j = absurd h
  faultless_cut (Waits s) y f g h j = tt
  faultless_cut (OutOfTurns s) (OutOfTurns t) f g h j = h
  faultless_cut (OutOfTurns s) _ f g h j = absurd h
  faultless_cut Invalid Invalid f g h j = refl
  faultless_cut Invalid _ f g h j = absurd (false≢true h)

  faulted_cut : {A : Type 0} (x y : Completion ThreadState A) → Related k x y → Related k (faulted x (λ e s. Faults e s)) (faulted y (λ e s. Faults e s))
  faulted_cut (Completes a s) (Completes b t) h = refl
  faulted_cut (Completes a s) _ h = absurd h
  faulted_cut (Recurs vs s) (Recurs us t) h = refl
  faulted_cut (Recurs vs s) _ h = absurd h
  faulted_cut (Faults e s) (Faults d t) h = h
  faulted_cut (Faults e s) _ h = absurd h
  faulted_cut (Retries s) (Retries t) h = refl
  faulted_cut (Retries s) _ h = absurd h
  faulted_cut (Waits s) y h = tt
  faulted_cut (OutOfTurns s) (OutOfTurns t) h = h
  faulted_cut (OutOfTurns s) _ h = absurd h
  faulted_cut Invalid Invalid h = refl
  faulted_cut Invalid _ h = absurd (false≢true h)

  over_cut : (s : ThreadState) (x : Completion TxState Value) (f g : Value → TxState → Completion ThreadState Value) (a b : Fault → Completion ThreadState Value) → ((v : Value) (z : TxState) → Related k (f v z) (g v z)) → ((e : Fault) → Related k (a e) (b e)) → Related k (over s x f a) (over (longer s) x g b)
  over_cut s (Completes v z) f g a b h j = h v z
  over_cut s (Recurs vs z) f g a b h j = refl
  over_cut s (Faults e z) f g a b h j = j e
  over_cut s (Retries z) f g a b h j = refl
  over_cut s (Waits z) f g a b h j = refl
  over_cut s (OutOfTurns z) f g a b h j = refl
  over_cut s Invalid f g a b h j = refl

  allowed_cut : (b : Bool) (x y : Completion ThreadState Value) → Related k x y → Related k (allowed b x) (allowed b y)
  allowed_cut true x y h = h
  allowed_cut false x y h = refl

  missing_cut : (s : ThreadState) (x : Completion TxState Value) (p q : Completion ThreadState Value) → Related k p q → Related k (missing s x p) (missing (longer s) x q)
  missing_cut s (Completes v z) p q h = refl
  missing_cut s (Recurs vs z) p q h = refl
  missing_cut s (Faults g z) p q h = refl
  missing_cut s (Retries z) p q h = refl
  missing_cut s (Waits z) p q h = h
  missing_cut s (OutOfTurns z) p q h = refl
  missing_cut s Invalid p q h = refl

  -- a try that had to run again, and what follows
  again_cut : (d : Transacting) (e : EventKind) (R : World) (s : ThreadState) (p q : Completion ThreadState Value) → Related k p q → Related k (again d e R s p) (again d e R (longer s) q)
  again_cut d (event.Retry since c cause.Outdated) R s p q h = missing_cut s (d.lacking c.number R) p q h
  again_cut d (event.Retry since c cause.Held) R s p q h = over_cut s (d.on R) _ _ (λ e. Invalid) (λ e. Invalid) (λ v z. allowed_cut (is_held z.done c.number) p q h) (λ e. refl)
  again_cut d (event.Retry since c (cause.Commuted at)) R s p q h = over_cut s (d.on R) _ _ (λ e. Invalid) (λ e. Invalid) (λ v z. allowed_cut (has_number (commuted z.done) c.number) p q h) (λ e. refl)
  again_cut d _ R s p q h = refl

  uneaten_cut : (e : SeenEvent) (es : List SeenEvent) (x y : Completion ThreadState Value) → Related k x y → Related k (uneaten (e ∷ es) x) (uneaten (e ∷ es ++ fs) y)
  uneaten_cut e es (Completes a s) (Completes b t) h = h
  uneaten_cut e es (Completes a s) _ h = absurd h
  uneaten_cut e es (Recurs vs s) (Recurs us t) h = h
  uneaten_cut e es (Recurs vs s) _ h = absurd h
  uneaten_cut e es (Faults d s) (Faults c t) h = h
  uneaten_cut e es (Faults d s) _ h = absurd h
  uneaten_cut e es (Retries s) (Retries t) h = h
  uneaten_cut e es (Retries s) _ h = absurd h
  uneaten_cut e es (Waits s) y h = tt
  uneaten_cut e es (OutOfTurns s) (OutOfTurns t) h = ap (λ (u : ThreadState). record u { todo = e ∷ es ++ fs }) h
  uneaten_cut e es (OutOfTurns s) _ h = absurd h
  uneaten_cut e es Invalid Invalid h = refl
  uneaten_cut e es Invalid _ h = absurd (false≢true h)

  -- ---- transactions

  module _ (f g : Applies ThreadState) (a : Applied ThreadState ThreadState k f g) where
    redone_cut : (cs : List CommuteOf) (ws : Writes) (s : ThreadState) → Related k (redone f cs ws s) (redone g cs ws (longer s))
    redone_cut [] ws s = (refl, refl)
    redone_cut (c ∷ cs) ws s =
        let us : List Value = value_or (buffered ws c.cell.number) Nil ∷ c.args in
        bind_related ThreadState ThreadState k (f c.callee us s) (g c.callee us (longer s)) (λ v s1. redone f cs (with_write ws c.cell v) s1) (λ v s1. redone g cs (with_write ws c.cell v) s1) (a c.callee us s (longer s) refl)
        (λ v s1 t1 r1. from (redone f cs (with_write ws c.cell v) s1) (λ u. redone g cs (with_write ws c.cell v) u) s1 t1 r1 (redone_cut cs (with_write ws c.cell v) s1))

    final_cut : (vs : Validators) (span : Span) (w : PlainTxFrame) (C : World) (s : ThreadState) → Related k (final_writes f vs span w C s) (final_writes g vs span w C (longer s))
    final_cut vs span w C s =
        let now : Applies ThreadState → Writes → ThreadState → Completion ThreadState Writes = λ h ws t1. if_accepted h vs span (merged (set_writes w) ws) t1 in
        bind_related ThreadState ThreadState k (commute_writes f w C s) (commute_writes g w C (longer s)) (now f) (now g) (redone_cut (phase_work w) (valued (commuted w) C) s)
        (λ ws s1 t1 r1. if_accepted_related ThreadState ThreadState k f g a vs span (merged (set_writes w) ws) s1 t1 r1)

    module _ (d : Transacting) where
      ends_cut : (e : EventKind) (R Q C : World) (s : ThreadState) → Related k (ends_tx d f e R Q C s) (ends_tx d g e R Q C (longer s))
      ends_cut (event.Commit at view writes sent) R Q C s =
          over_cut s (d.on R) _ _ (λ e. Invalid) (λ e. Invalid)
          (λ v z. faultless_cut (final_writes f d.validators d.mark.span z.done C s) (final_writes g d.validators d.mark.span z.done C (longer s)) _ _ (final_cut d.validators d.mark.span z.done C s) (λ ws t1. meant_cut (same_writes ws writes && same_actions (sends_of_commit t1.held z.done.sends) sent) v (holding z.done.sends (with_tx (run_of d v z) t1)))) (λ e. refl)
      ends_cut (event.Fail at view) R Q C s =
          over_cut s (d.on R) _ _ (λ e. Faults e s) (λ e. Faults e (longer s)) (λ v z. faulted_cut (final_writes f d.validators d.mark.span z.done Q s) (final_writes g d.validators d.mark.span z.done Q (longer s)) (final_cut d.validators d.mark.span z.done Q s)) (λ e. (refl, refl))
      ends_cut (event.Refused at view agent) R Q C s =
          over_cut s (d.on R) _ _ (λ e. Invalid) (λ e. Invalid) (λ v z. faultless_cut (final_writes f d.validators d.mark.span z.done Q s) (final_writes g d.validators d.mark.span z.done Q (longer s)) _ _ (final_cut d.validators d.mark.span z.done Q s) (λ ws t1. (refl, refl))) (λ e. refl)
      ends_cut _ R Q C s = refl

      eats_tx_cut : (n : ℕ) (es : List SeenEvent) (s : ThreadState) → Related k (eats_tx n d f es s) (eats_tx n d g (es ++ fs) (longer s))
      eats_tx_cut zero es s = (refl, refl)
      eats_tx_cut (suc n) [] s = tt
      eats_tx_cut (suc n) (e ∷ es) s = of_book (e.book == 0) (is_retry e.kind) (eats_tx_cut n es s)
        where
          of_book : (own retry : Bool) → Related k (eats_tx n d f es s) (eats_tx n d g (es ++ fs) (longer s))
              → Related k (if own then (if retry then again d e.kind e.R (record s { todo = e ∷ es }) (eats_tx n d f es s) else uneaten (e ∷ es) (ends_tx d f e.kind e.R e.Q e.C (record s { todo = es }))) else Invalid)
              (if own then (if retry then again d e.kind e.R (record s { todo = e ∷ es ++ fs }) (eats_tx n d g (es ++ fs) (longer s)) else uneaten (e ∷ es ++ fs) (ends_tx d g e.kind e.R e.Q e.C (record s { todo = es ++ fs }))) else Invalid)
          of_book true true rest = again_cut d e.kind e.R (record s { todo = e ∷ es }) (eats_tx n d f es s) (eats_tx n d g (es ++ fs) (longer s)) rest
          of_book true false rest =
              uneaten_cut e es (ends_tx d f e.kind e.R e.Q e.C (record s { todo = es })) (ends_tx d g e.kind e.R e.Q e.C (record s { todo = es ++ fs })) (ends_cut e.kind e.R e.Q e.C (record s { todo = es }))
          of_book false retry rest = refl

  -- ---- forms outside

  eats_cut : (book : ℕ) (f g : SeenEvent → ThreadState → Completion ThreadState Value) → ((e : SeenEvent) (s : ThreadState) → Related k (f e s) (g e (longer s))) → (es : List SeenEvent) (s : ThreadState) → Related k (eats book f es s) (eats book g (es ++ fs) (longer s))
  eats_cut book f g h [] s = tt
  eats_cut book f g h (e ∷ es) s = of_book (e.book == book)
    where
      of_book : (own : Bool) → Related k (if own then uneaten (e ∷ es) (f e (record s { todo = es })) else Invalid) (if own then uneaten (e ∷ es ++ fs) (g e (record s { todo = es ++ fs })) else Invalid)
      of_book true = uneaten_cut e es (f e (record s { todo = es })) (g e (record s { todo = es ++ fs })) (h e (record s { todo = es }))
      of_book false = refl

  reads_cut : (c : CellId) (e : EventKind) (C : World) (s : ThreadState) → Related k (reads c e C s) (reads c e C (longer s))
  reads_cut c (event.Read d) C s = meant_cut (same_cell c d) (C c.number) s
  reads_cut c _ C s = refl

  resets_cut : (v : Value) (e : EventKind) (s : ThreadState) → Related k (resets v e s) (resets v e (longer s))
  resets_cut v (event.Swap new) s = meant_cut (same_value v new) v s
  resets_cut v _ s = refl

  swaps_cut : (c : CellId) (f g : Value → ThreadState → Completion ThreadState Value) → ((v : Value) (s : ThreadState) → Related k (f v s) (g v (longer s))) → (e : EventKind) (R C : World) (s : ThreadState) → Related k (swaps c f e R C s) (swaps c g e R C (longer s))
  swaps_cut c f g h (event.Swap new) R C s = faultless_cut (f (C c.number) s) (g (C c.number) (longer s)) _ _ (h (C c.number) s) (λ v t1. meant_cut (same_value v new) v t1)
  swaps_cut c f g h (event.Broke at) R C s = faulted_cut (f (R c.number) s) (g (R c.number) (longer s)) (h (R c.number) s)
  swaps_cut c f g h _ R C s = refl

  sends_cut : (a : Action) (span : Span) (e : EventKind) (s : ThreadState) → Related k (sends a span e s) (sends a span e (longer s))
  sends_cut a span (event.Send b) s = meant_cut (same_action a b) (Cell a.agent) s
  sends_cut a span (event.SendRefused g) s = test (same_cell a.agent g)
    where
      test : (b : Bool) → Related {A = Value} k (if b then Faults (fault_at AgentFailed span) s else Invalid) (if b then Faults (fault_at AgentFailed span) (longer s) else Invalid)
      test true = (refl, refl)
      test false = refl
  sends_cut a span _ s = refl

  sends_cut_or_held : (o : Option (List Action)) (a : Action) (span : Span) (s : ThreadState) → Related k (sends_or_holds o a span s) (sends_or_holds o a span (longer s))
  sends_cut_or_held None a span s = eats_cut 0 (λ e t1. sends a span e.kind t1) (λ e t1. sends a span e.kind t1) (λ e t1. sends_cut a span e.kind t1) s.todo s
  sends_cut_or_held (Some held) a span s = (refl, refl)

  on_cut : (r : Result CellId FaultKind) (span : Span) (f g : CellId → ThreadState → Completion ThreadState Value) (s : ThreadState) → ((c : CellId) → Related k (f c s) (g c (longer s))) → Related k (bind (result_of r span s) f) (bind (result_of r span (longer s)) g)
  on_cut (Ok c) span f g s h = h c
  on_cut (Err e) span f g s h = (refl, refl)

  module _ (p : ThreadSource) (n : ℕ) where
    abbrev x : Surroundings
    x = around p n

    look_cut : (form : LookForm) (c : CellId) (s : ThreadState) → Related k (thread_look x form c s) (thread_look x form c (longer s))
    look_cut Deref c s = eats_cut (home p.cells c) (λ e t1. reads c e.kind e.C t1) (λ e t1. reads c e.kind e.C t1) (λ e t1. reads_cut c e.kind e.C t1) s.todo s
    look_cut Ensure c s = refl

    put_cut : (form : PutForm) (span : Span) (c : CellId) (v : Value) (f g : Applies ThreadState) → Applied ThreadState ThreadState k f g → (s : ThreadState) → Related k (thread_put x form span c v f s) (thread_put x form span c v g (longer s))
    put_cut RefSet span c v f g a s = refl
    put_cut Reset span c v f g a s =
        let go : Value → ThreadState → Completion ThreadState Value = λ w u. eats (home p.cells c) (λ e t1. resets w e.kind t1) u.todo u in
        bind_related ThreadState ThreadState k (accepts x f c span v s) (accepts x g c span v (longer s)) go go (validated_related ThreadState ThreadState k f g a (validator_at (validators_of p.cells) c.number) span v s (longer s) refl)
        (λ w s1 t1 r1. from (go w s1) (go w) s1 t1 r1 (eats_cut (home p.cells c) (λ e t2. resets w e.kind t2) (λ e t2. resets w e.kind t2) (λ e t2. resets_cut w e.kind t2) s1.todo s1))

    update_cut : (form : UpdateForm) (span : Span) (c : CellId) (callee : Callee) (vs : List Value) (f g : Applies ThreadState) → Applied ThreadState ThreadState k f g → (s : ThreadState) → Related k (thread_update x form span c callee vs f s) (thread_update x form span c callee vs g (longer s))
    update_cut Alter span c callee vs f g a s = refl
    update_cut Commute span c callee vs f g a s = refl
    update_cut Swap span c callee vs f g a s =
        let made : Applies ThreadState → Value → ThreadState → Completion ThreadState Value = λ h v t2. bind (h callee (v ∷ vs) t2) (accepts x h c span) in
        eats_cut (home p.cells c) (λ e t1. swaps c (made f) e.kind e.R e.C t1) (λ e t1. swaps c (made g) e.kind e.R e.C t1)
        (λ e t1. swaps_cut c (made f) (made g)
        (λ v t2. bind_related ThreadState ThreadState k (f callee (v ∷ vs) t2) (g callee (v ∷ vs) (longer t2)) (accepts x f c span) (accepts x g c span) (a callee (v ∷ vs) t2 (longer t2) refl)
        (λ w s1 u1 r1. validated_related ThreadState ThreadState k f g a (validator_at (validators_of p.cells) c.number) span w s1 u1 r1)) e.kind e.R e.C t1) s.todo s

    events_cut : (d : ℕ) → Alike ThreadState ThreadState k (on_events x d) (on_events x d) (call_at (on_events x) n p.functions d) (call_at (on_events x) n p.functions d) n n (λ i. Unit {0}) (pure_callees (known p.functions))
    events_cut d = record {
      print = λ inside vs s t m r. (refl, ap (λ (u : ThreadState). record u { printed = u.printed ++ printed_line vs }) r);
      look = λ form inside m c s t may i r. from ((on_events x d).look form inside m c s) (λ u. (on_events x d).look form inside m c u) s t r
          (allowed_cut (may_stand (rule (form_of.Look form)).stands false) _ _ (on_cut (cell_of (rule (form_of.Look form)) false c) m.span (thread_look x form) (thread_look x form) s (λ z. look_cut form z s)));
      put = λ form inside m c w s t may i a r.
          let f : Applies ThreadState = apply (call_at (on_events x) n p.functions d inside) m.span in
          from ((on_events x d).put form inside m c w f s) (λ u. (on_events x d).put form inside m c w f u) s t r
          (allowed_cut (may_stand (rule (form_of.Put form)).stands false) _ _
          (on_cut (cell_of (rule (form_of.Put form)) false c) m.span (λ z u. thread_put x form m.span z w f u) (λ z u. thread_put x form m.span z w f u) s (λ z. put_cut form m.span z w f f (a (λ g. tt)) s)));
      update = λ form inside m c callee vs s t may i pure a r.
          let f : Applies ThreadState = apply (call_at (on_events x) n p.functions d inside) m.span in
          from ((on_events x d).update form inside m c callee vs f s) (λ u. (on_events x d).update form inside m c callee vs f u) s t r
          (allowed_cut (may_stand (rule (form_of.Update form)).stands false) _ _
          (on_cut (cell_of (rule (form_of.Update form)) false c) m.span (λ z u. thread_update x form m.span z callee vs f u) (λ z u. thread_update x form m.span z callee vs f u) s (λ z. update_cut form m.span z callee vs f f (a (λ g. tt)) s)));
      send = λ inside m c callee vs s t i r. from ((on_events x d).send inside m c callee vs s) (λ u. (on_events x d).send inside m c callee vs u) s t r
          (on_cut (cell_of (rule form_of.Send) false c) m.span _ _ s
          (λ z. sends_cut_or_held s.held (record { agent = z; callee = callee; args = vs; span = m.span }) m.span s));
      dosync = λ inside m e env s t i pure b a r.
          let f : Applies ThreadState = apply (call_at (on_events x) n p.functions d true) m.span in
          let tx : Transacting = record { mark = m; body = e; locals = env; on = tx_meaning n p.functions d e env; lacking = λ j. tx_meaning_lacking n p.functions d e env (Some j); validators = validators_of p.cells } in
          from (eats_tx (suc reruns) tx f s.todo s) (λ u. eats_tx (suc reruns) tx f u.todo u) s t r (eats_tx_cut f f (a (λ g. tt) tt) tx (suc reruns) s.todo s);
    }

    -- a callee, outside every transaction
    calls_cut : SoundFunctions [] p.functions → (d : ℕ) → CallsAlike ThreadState ThreadState k (call_at (on_events x) n p.functions d) (call_at (on_events x) n p.functions d) (λ i. Unit {0}) (λ i f. Unit {0})
    calls_cut sound d = calls_related ThreadState ThreadState k (on_events x) (on_events x) n n p.functions (λ i. Unit {0}) (pure_callees (known p.functions)) (inl refl) events_cut (function_callees p.functions sound) d

    applied_cut : SoundFunctions [] p.functions → (span : Span) → Applied ThreadState ThreadState k (applies_in x span) (applies_in x span)
    applied_cut sound span c vs s t r =
        let call = call_at (on_events x) n p.functions (length p.functions) false in
        apply_related ThreadState ThreadState k call call (λ f ws s1 t1 r1. calls_cut sound (length p.functions) false f ws s1 t1 tt tt r1) span c vs s t r

    -- an action
    pub action_cut : SoundFunctions [] p.functions → (a : Action) (v : Value) (es : List SeenEvent) → Related k (action_meaning p.cells p.functions n a v es) (action_meaning p.cells p.functions n a v (es ++ fs))
    action_cut sound a v es =
        let f : Applies ThreadState = applies_in x a.span in
        let s0 = from_events (Some []) es in
        let t0 = from_events (Some []) (es ++ fs) in
        bind_related ThreadState ThreadState k (f a.callee (v ∷ a.args) s0) (f a.callee (v ∷ a.args) t0) (λ w t. accepts x f a.agent a.span w t) (λ w t. accepts x f a.agent a.span w t) (applied_cut sound a.span a.callee (v ∷ a.args) s0 t0 refl)
        (λ w s1 t1 r1. validated_related ThreadState ThreadState k f f (applied_cut sound a.span) (validator_at (validators_of p.cells) a.agent.number) a.span w s1 t1 r1)

    pub cut : SoundSource p → (es : List SeenEvent) → Related k (thread_meaning p n es) (thread_meaning p n (es ++ fs))
    cut sound es =
        let d = length p.functions in
        let w = pure_callees (known p.functions) in
        let cf = call_at (on_events x) n p.functions d in
        let s0 : ThreadState = record { todo = es; printed = []; held = None; txs = []; asks = None } in
        let t0 : ThreadState = record { todo = es ++ fs; printed = []; held = None; txs = []; asks = None } in
        closed_related ThreadState ThreadState k (eval (on_events x d) cf n false p.main [] s0) (eval (on_events x d) cf n false p.main [] t0)
        (eval_related ThreadState ThreadState k (on_events x d) (on_events x d) cf cf n n (λ i. Unit {0}) w (inl refl) (events_cut d)
        (calls_related ThreadState ThreadState k (on_events x) (on_events x) n n p.functions (λ i. Unit {0}) w (inl refl) events_cut (function_callees p.functions sound.functions) d)
        p.main false [] s0 t0 (callees_in (known p.functions) p.main in_thread false 0 None sound.main) tt refl)

  wrong_too : (y z : Completion ThreadState Value) → Related k y z → is_wrong y ≡ true → is_wrong z ≡ true
  wrong_too (Completes a s) z h e = absurd (false≢true e)
  wrong_too (Recurs vs s) (Recurs us t) h e = refl
  wrong_too (Recurs vs s) _ h e = absurd h
  wrong_too (Faults f s) z h e = absurd (false≢true e)
  wrong_too (Retries s) (Retries t) h e = refl
  wrong_too (Retries s) _ h e = absurd h
  wrong_too (Waits s) z h e = absurd (false≢true e)
  wrong_too (OutOfTurns s) z h e = absurd (false≢true e)
  wrong_too Invalid Invalid h e = refl
  wrong_too Invalid _ h e = absurd (false≢true h)

pub wrong_stays : WrongStays
wrong_stays p sound n es fs h = wrong_too fs (thread_meaning p n es) (thread_meaning p n (es ++ fs)) (cut fs p n sound es) h

pub wrong_stays_in_actions : WrongStaysInActions
wrong_stays_in_actions p a v sound fits n es fs h =
    let q : ThreadSource = record { functions = p.functions; cells = p.cells; main = Const Nil (record { span = a.span; wanted = false }) } in
    wrong_too fs (action_meaning p.cells p.functions n a v es) (action_meaning p.cells p.functions n a v (es ++ fs)) (action_cut fs q n sound.functions a v es) h
