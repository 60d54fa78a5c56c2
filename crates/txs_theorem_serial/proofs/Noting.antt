-- A thread, or an action, notes a transaction for each commit and each refusal that it eats.
use Rattle.std.proofs.Common.{◌≡◌, ◌≤◌, ℕ, zero, suc, ◌+◌, ◌==◌, ◌&&◌, Bool, true, false, List, [], ◌∷◌, ◌++◌, length, length-append, take, Option, Some, None, Result, Ok, Err, nat_eq, refl, sym, ap, ◌∙◌, subst, arith, if◌then◌else◌}
use Rattle.std.proofs.lemmas.Bool.{eqb-true, false≢true}
use Rattle.std.proofs.lemmas.List.{append_assoc, append-nil}
use Rattle.txs_world_protocol.proofs.AskLemmas.{same_writes-sound, same_ask-sound}
use Rattle.txs_world_protocol.specs.Ask.{Writes, buffered, with_write, same_value, same_cell, same_writes, same_action, same_actions}
use Rattle.txs_world_protocol.specs.SeenEvent.{SeenEvent, home}
use Rattle.txs_world_protocol.specs.declared.ask.Ask.{Ask}
use Rattle.txs_world_protocol.specs.declared.ask.Ask.TheVariants as ask
use Rattle.txs_world_protocol.specs.declared.event.EventKind.{EventKind}
use Rattle.txs_world_protocol.specs.declared.event.Cause.TheVariants as cause
use Rattle.txs_world_protocol.specs.declared.event.EventKind.TheVariants as event
use Rattle.txs_value_cell.specs.Cells.{World, Validators, validators_of, validator_at}
use Rattle.txs_value_cell.specs.Forms.{rule, may_stand, cell_of}
use Rattle.txs_value_cell.specs.declared.action.Action.{Action}
use Rattle.txs_value_cell.specs.declared.cell.CellDefinition.{CellDefinition}
use Rattle.txs_value_cell.specs.declared.form.CellForm.TheVariants as form_of
use Rattle.txs_value_cell.specs.declared.form.LookForm.{LookForm}
use Rattle.txs_value_cell.specs.declared.form.LookForm.TheVariants.{Deref, Ensure}
use Rattle.txs_value_cell.specs.declared.form.PutForm.{PutForm}
use Rattle.txs_value_cell.specs.declared.form.PutForm.TheVariants.{RefSet, Reset}
use Rattle.txs_value_cell.specs.declared.form.UpdateForm.{UpdateForm}
use Rattle.txs_value_cell.specs.declared.form.UpdateForm.TheVariants.{Alter, Commute, Swap}
use Rattle.txs_frame.specs.declared.frame.Commute.{Commute as CommuteOf}
use Rattle.txs_frame.specs.Frame.{PlainTxFrame, has_number, set_writes, commuted, phase_work, sends_of_commit}
use Rattle.txs_value_apply.specs.Core.{core, vector_of}
use Rattle.txs_value_apply.specs.Truth.{choose}
use Rattle.txs_value_data.specs.Places.{nth, fault_at}
use Rattle.txs_value_data.specs.declared.fault.FaultKind.{FaultKind}
use Rattle.txs_value_data.specs.declared.fault.FaultKind.TheVariants.{AgentFailed}
use Rattle.txs_value_data.specs.declared.fault.Span.{Span}
use Rattle.txs_value_data.specs.declared.op.Callee.{Callee}
use Rattle.txs_value_data.specs.declared.op.Callee.TheVariants.{Core as CoreOp, Function}
use Rattle.txs_value_data.specs.Limits.{reruns}
use Rattle.txs_value_data.specs.declared.value.CellId.{CellId}
use Rattle.txs_value_data.specs.declared.value.Value.{Value}
use Rattle.txs_value_data.specs.declared.value.Value.TheVariants.{Nil, Truth, Int, Key, Text, Vector, Cell}
use Rattle.txs_tree_meaning.specs.Known.{known}
use Rattle.txs_tree_meaning.specs.Meaning.{Completion, Completes, Recurs, Faults, Retries, Waits, OutOfTurns, Invalid, bind, again, give, result_of, allowed, Applies, turns, apply, eval, eval_all, eval_let, eval_do, call_at}
use Rattle.txs_tree_meaning.specs.Pure.{nowhere}
use Rattle.txs_tree_meaning.specs.Sound.{Zone, in_function, in_thread, in_dosync, SoundTree, SoundAll, SoundLet, SoundDo, SoundFunctions, SoundCells}
use Rattle.txs_tree_meaning.specs.Thread.{TxRun, ThreadState, from_events, body_in, applies_in, action_meaning, with_tx, holding, eats, meant, reads, resets, faulted, faultless, swaps, sends, sends_or_holds, over, Transacting, run_of, ends_tx, is_retry, is_held, missing, again as tried_again, uneaten, eats_tx, Surroundings, thread_look, thread_put, thread_update, on_events, thread_meaning, accepts}
use Rattle.txs_tree_meaning.specs.Transaction.{TxState, value_or, valued, merged, redone, judged, validated, accepted, if_accepted, final_writes, tx_meaning, tx_meaning_lacking}
use Rattle.txs_tree_meaning.specs.Tree.{Mark, Tree, Const, Local, If, Do, Let, Loop, Recur, Core, Call, VectorOf, Println, Dosync, Look, Put, Update, Send, Trees, none, more, count, PlainFunction}
use Rattle.txs_tree_meaning.proofs.Callable.{both, function_at, nth-take, tree-widened}
use Rattle.txs_theorem_threads.specs.Noted.{IsNone}
use Rattle.txs_theorem_threads.proofs.Account.{begin_of, sends_begin, begin_with}
use Rattle.txs_theorem_threads.proofs.Accepted.{AllValidators, validator_such, validators_pure, validated_carried, made_carried, final_carried}
use Rattle.txs_theorem_threads.proofs.Callees.{IsPure, sound_pure}
use Rattle.txs_theorem_threads.proofs.Quiet.{carried, IsQuiet, quietly, callee_carried, AllCommutes}
use Rattle.txs_theorem_serial.specs.Laws.{ThreadsNote, ActionsNote}
use Rattle.txs_tree_meaning.specs.Marked.{Marked, MarkedAll, MarkedDo, MarkedFunctions}
use Rattle.txs_theorem_serial.specs.Serial.{purely, Met, Committed, RunOf, RunsOf, Noted, EndsNoted}
use Rattle.txs_theorem_serial.proofs.Alone.{met_suits}
use Rattle.txs_theorem_serial.proofs.Bodies.{marked_at}
use Rattle.txs_theorem_serial.proofs.Deeper.{tx_deeper, quiet_deeper}
use Rattle.txs_theorem_serial.proofs.Depth.{HasValue}
use Rattle.txs_theorem_serial.proofs.Remakes.{splits}

-- ---- sends that are found equal are equal

sends_of : Ask → List Action
sends_of (ask.Commit at sets ensured view commuted sends) = sends
sends_of _ = []

sends_equal : (xs ys : List Action) → same_actions xs ys ≡ true → xs ≡ ys
unfolding sends_of
sends_equal xs ys h = ap sends_of (same_ask-sound (ask.Commit 0 [] [] 0 [] xs) (ask.Commit 0 [] [] 0 [] ys) h)

-- any value
abbrev Any : {A : Type 0} → A → Type 0
Any a = Unit {0}

-- these writes, made with nothing around
abbrev given : Writes → Completion (Unit {0}) Writes
given ws = Completes ws tt

-- the sends that are held where it begins say whether it holds any
module _ (cells : List CellDefinition) (functions : List PlainFunction) (from : Option (List Action)) (n : ℕ) where
  abbrev validators : Validators
  validators = validators_of cells

  -- ---- transactions of more events

  run_on : (o : ℕ) (k : EventKind) (R Q C : World) (rest next : List TxRun → Type 0) (xs ys : List TxRun) → ((zs : List TxRun) → rest zs → next (zs ++ ys)) → RunOf functions validators from n o k R Q C rest xs → RunOf functions validators from n o k R Q C next (xs ++ ys)
  run_on o (event.Read c) R Q C rest next xs ys h r = h xs r
  run_on o (event.Commit at view ws sends) R Q C rest next [] ys h r = absurd r
  run_on o (event.Commit at view ws sends) R Q C rest next (x ∷ xs) ys h r = (r.0, h xs r.1)
  run_on o (event.Retry since c cause) R Q C rest next xs ys h r = h xs r
  run_on o (event.Fail at view) R Q C rest next xs ys h r = h xs r
  run_on o (event.Refused at view g) R Q C rest next [] ys h r = absurd r
  run_on o (event.Refused at view g) R Q C rest next (x ∷ xs) ys h r = (r.0, h xs r.1)
  run_on o (event.Send x) R Q C rest next xs ys h r = h xs r
  run_on o (event.SendRefused g) R Q C rest next xs ys h r = h xs r
  run_on o (event.Act g k new sends) R Q C rest next xs ys h r = h xs r
  run_on o (event.Swap new) R Q C rest next xs ys h r = h xs r
  run_on o (event.Broke at) R Q C rest next xs ys h r = h xs r

  runs_both : (es fs : List SeenEvent) (xs ys : List TxRun) → RunsOf functions validators from n es xs → RunsOf functions validators from n fs ys → RunsOf functions validators from n (es ++ fs) (xs ++ ys)
  runs_both [] fs [] ys h k = k
  runs_both [] fs (x ∷ xs) ys h k = absurd h
  runs_both (e ∷ es) fs xs ys h k = run_on e.book e.kind e.R e.Q e.C (λ zs. RunsOf functions validators from n es zs) (λ zs. RunsOf functions validators from n (es ++ fs) zs) xs ys (λ zs r. runs_both es fs zs ys r k) h

  module _ (es0 : List SeenEvent) where
    abbrev NotedIn : List SeenEvent → List TxRun → Type 0
    NotedIn todo txs = Noted functions validators from n es0 todo txs

    abbrev NotedAt : ThreadState → Type 0
    NotedAt t = (begin_of t.held ≡ from) × NotedIn t.todo t.txs

    -- the same with these events to come
    abbrev NotedWith : List SeenEvent → ThreadState → Type 0
    NotedWith es t = NotedAt (record t { todo = es })

    -- one more event is eaten, with its transaction, if it is such a one
    abbrev Next : ℕ → EventKind → World → World → World → ThreadState → Type 0
    Next o k R Q C t = (begin_of t.held ≡ from) × ((xs : List TxRun) → RunOf functions validators from n o k R Q C IsNone xs → NotedIn t.todo (t.txs ++ xs))

    next_event : (e : SeenEvent) (es : List SeenEvent) (t : ThreadState) → NotedWith (e ∷ es) t → Next e.book e.kind e.R e.Q e.C (record t { todo = es })
    next_event e es t h = (
      h.0,
      λ xs r. record {
        eaten = h.1.eaten ++ e ∷ [];
        split = h.1.split ∙ sym (append_assoc h.1.eaten (e ∷ []) es);
        runs = runs_both h.1.eaten (e ∷ []) t.txs xs h.1.runs r;
      },
    )

    -- an event without a transaction
    without : (o : ℕ) (k : EventKind) (R Q C : World) (t : ThreadState) → Next o k R Q C t → RunOf functions validators from n o k R Q C IsNone [] → NotedAt t
    without o k R Q C t next r = (next.0, subst (λ xs. NotedIn t.todo xs) (append-nil t.txs) (next.1 [] r))

    -- wherever it is, the events that were eaten have their transactions; where it waits, all were eaten
    abbrev Reaches : {A : Type 0} → (A → Type 0) → Completion ThreadState A → Type 0
    Reaches P (Completes a t) = P a × NotedAt t
    Reaches P (Recurs vs t) = NotedAt t
    Reaches P (Faults f t) = NotedAt t
    Reaches P (Retries t) = NotedAt t
    Reaches P (Waits t) = NotedAt t × (t.todo ≡ [])
    Reaches P (OutOfTurns t) = NotedAt t
    Reaches P Invalid = Unit {0}

    -- the same at an event that is being eaten: where turns don't suffice, the transactions are still these; there nothing waits
    abbrev Within : {A : Type 0} → List TxRun → Completion ThreadState A → Type 0
    Within txs (Completes a t) = NotedAt t
    Within txs (Recurs vs t) = NotedAt t
    Within txs (Faults f t) = NotedAt t
    Within txs (Retries t) = NotedAt t
    Within txs (Waits t) = ⊥
    Within txs (OutOfTurns t) = (begin_of t.held ≡ from) × (t.txs ≡ txs)
    Within txs Invalid = Unit {0}

    within_reaches : (l : List SeenEvent) (txs : List TxRun) (c : Completion ThreadState Value) → NotedIn l txs → Within txs c → Reaches Any (uneaten l c)
    within_reaches l txs (Completes a t) g h = (tt, h)
    within_reaches l txs (Recurs vs t) g h = h
    within_reaches l txs (Faults f t) g h = h
    within_reaches l txs (Retries t) g h = h
    within_reaches l txs (Waits t) g h = absurd h
    within_reaches l txs (OutOfTurns t) g h = (h.0, subst (NotedIn l) (sym h.1) g)
    within_reaches l txs Invalid g h = tt

    abbrev Many : ℕ → List Value → Type 0
    Many k vs = length vs ≡ k

    bind_reaches : {A B : Type 0} (P : A → Type 0) (Q : B → Type 0) (x : Completion ThreadState A) (f : A → ThreadState → Completion ThreadState B) → Reaches P x → ((a : A) (t : ThreadState) → P a → NotedAt t → Reaches Q (f a t)) → Reaches Q (bind x f)
    bind_reaches P Q (Completes a t) f h k = k a t h.0 h.1
    bind_reaches P Q (Recurs vs t) f h k = tt
    bind_reaches P Q (Faults e t) f h k = h
    bind_reaches P Q (Retries t) f h k = h
    bind_reaches P Q (Waits t) f h k = h
    bind_reaches P Q (OutOfTurns t) f h k = h
    bind_reaches P Q Invalid f h k = tt

    again_reaches : {A : Type 0} (P : A → Type 0) (x : Completion ThreadState A) (f : List Value → ThreadState → Completion ThreadState A) → Reaches P x → ((vs : List Value) (t : ThreadState) → NotedAt t → Reaches P (f vs t)) → Reaches P (again x f)
    again_reaches P (Completes a t) f h k = h
    again_reaches P (Recurs vs t) f h k = k vs t h
    again_reaches P (Faults e t) f h k = h
    again_reaches P (Retries t) f h k = h
    again_reaches P (Waits t) f h k = h
    again_reaches P (OutOfTurns t) f h k = h
    again_reaches P Invalid f h k = tt

    turns_reaches : (k d : ℕ) (body : List Value → ThreadState → Completion ThreadState Value) → ((vs : List Value) (t : ThreadState) → length vs ≡ d → NotedAt t → Reaches Any (body vs t)) → (vs : List Value) (t : ThreadState) → NotedAt t → Reaches Any (turns k d body vs t)
    turns_reaches zero d body h vs t g = g
    turns_reaches (suc k) d body h vs t g = turn (nat_eq (length vs) d) refl (λ ws t1 g1. turns_reaches k d body h ws t1 g1)
      where
        turn : (b : Bool) → nat_eq (length vs) d ≡ b → ((ws : List Value) (t1 : ThreadState) → NotedAt t1 → Reaches Any (turns k d body ws t1)) → Reaches Any (if b then again (body vs t) (turns k d body) else Invalid)
        turn true e next = again_reaches Any (body vs t) (turns k d body) (h vs t (eqb-true (length vs) d e) g) next
        turn false e next = tt

    choose_reaches : (v : Value) (x y : Completion ThreadState Value) → Reaches Any x → Reaches Any y → Reaches Any (choose v x y)
    choose_reaches Nil x y h k = k
    choose_reaches (Truth false) x y h k = k
    choose_reaches (Truth true) x y h k = h
    choose_reaches (Int z) x y h k = h
    choose_reaches (Key bs) x y h k = h
    choose_reaches (Text bs) x y h k = h
    choose_reaches (Vector vs) x y h k = h
    choose_reaches (Cell c) x y h k = h

    give_reaches : {A : Type 0} (o : Option A) (t : ThreadState) → NotedAt t → Reaches Any (give o t)
    give_reaches None t g = tt
    give_reaches (Some a) t g = (tt, g)

    result_reaches : {A : Type 0} (r : Result A FaultKind) (span : Span) (t : ThreadState) → NotedAt t → Reaches Any (result_of r span t)
    result_reaches (Ok a) span t g = (tt, g)
    result_reaches (Err k) span t g = g

    allowed_reaches : (b : Bool) (x : Completion ThreadState Value) → Reaches Any x → Reaches Any (allowed b x)
    allowed_reaches true x h = h
    allowed_reaches false x h = tt

    meant_within : (b : Bool) (v : Value) (txs : List TxRun) (t : ThreadState) → NotedAt t → Within txs (meant b v t)
    meant_within true v txs t g = g
    meant_within false v txs t g = tt

    -- ---- forms outside transactions

    eats_reaches : (book : ℕ) (go : SeenEvent → ThreadState → Completion ThreadState Value) → ((e : SeenEvent) (t : ThreadState) → Next e.book e.kind e.R e.Q e.C t → Within t.txs (go e t)) → (es : List SeenEvent) (t : ThreadState) → t.todo ≡ es → NotedWith es t → NotedAt t → Reaches Any (eats book go es t)
    eats_reaches book go h [] t to g here = (here, to)
    eats_reaches book go h (e ∷ es) t to g here = of_book (e.book == book)
      where
        of_book : (b : Bool) → Reaches Any (if b then uneaten (e ∷ es) (go e (record t { todo = es })) else Invalid)
        of_book true = within_reaches (e ∷ es) t.txs (go e (record t { todo = es })) g.1 (h e (record t { todo = es }) (next_event e es t g))
        of_book false = tt

    read_reaches : (c : CellId) (o : ℕ) (k : EventKind) (R Q C : World) (t : ThreadState) → Next o k R Q C t → Within t.txs (reads c k C t)
    read_reaches c o (event.Read d) R Q C t next = meant_within (same_cell c d) (C c.number) t.txs t (without o (event.Read d) R Q C t next tt)
    read_reaches c o _ R Q C t next = tt

    reset_reaches : (v : Value) (o : ℕ) (k : EventKind) (R Q C : World) (t : ThreadState) → Next o k R Q C t → Within t.txs (resets v k t)
    reset_reaches v o (event.Swap new) R Q C t next = meant_within (same_value v new) v t.txs t (without o (event.Swap new) R Q C t next tt)
    reset_reaches v o _ R Q C t next = tt

    -- a swap, whose callee is pure
    module _ (c : CellId) (f : Value → ThreadState → Completion ThreadState Value) (q : Value → Completion (Unit {0}) Value) (pure : (v : Value) (t : ThreadState) → (f v t ≡ carried t (q v)) × IsQuiet (q v)) where
      swap_to : (new : Value) (t : ThreadState) → NotedAt t → (z : Completion (Unit {0}) Value) → IsQuiet z → Within t.txs (faultless (carried t z) (λ v t1. meant (same_value v new) v t1))
      swap_to new t g (Completes v u) w = meant_within (same_value v new) v t.txs t g
      swap_to new t g (Recurs vs u) w = tt
      swap_to new t g (Faults e u) w = tt
      swap_to new t g (Retries u) w = tt
      swap_to new t g (Waits u) w = absurd w
      swap_to new t g (OutOfTurns u) w = (g.0, refl)
      swap_to new t g Invalid w = tt

      swap_breaks : (t : ThreadState) → NotedAt t → (z : Completion (Unit {0}) Value) → IsQuiet z → Within {A = Value} t.txs (faulted (carried t z) (λ y t1. Faults y t1))
      swap_breaks t g (Completes v u) w = tt
      swap_breaks t g (Recurs vs u) w = tt
      swap_breaks t g (Faults e u) w = g
      swap_breaks t g (Retries u) w = tt
      swap_breaks t g (Waits u) w = absurd w
      swap_breaks t g (OutOfTurns u) w = (g.0, refl)
      swap_breaks t g Invalid w = tt

      swap_reaches : (o : ℕ) (k : EventKind) (R Q C : World) (t : ThreadState) → Next o k R Q C t → Within t.txs (swaps c f k R C t)
      swap_reaches o (event.Swap new) R Q C t next =
          let p = pure (C c.number) t in
          subst (λ z. Within t.txs (faultless z (λ v t1. meant (same_value v new) v t1))) (sym p.0) (swap_to new t (without o (event.Swap new) R Q C t next tt) (q (C c.number)) p.1)
      swap_reaches o (event.Broke at) R Q C t next =
          let p = pure (R c.number) t in
          subst (λ z. Within t.txs (faulted z (λ y t1. Faults y t1))) (sym p.0) (swap_breaks t (without o (event.Broke at) R Q C t next tt) (q (R c.number)) p.1)
      swap_reaches o _ R Q C t next = tt

    send_reaches : (a : Action) (span : Span) (o : ℕ) (k : EventKind) (R Q C : World) (t : ThreadState) → Next o k R Q C t → Within t.txs (sends a span k t)
    send_reaches a span o (event.Send b) R Q C t next = meant_within (same_action a b) (Cell a.agent) t.txs t (without o (event.Send b) R Q C t next tt)
    send_reaches a span o (event.SendRefused g) R Q C t next = test (same_cell a.agent g)
      where
        test : (b : Bool) → Within {A = Value} t.txs (if b then Faults (fault_at AgentFailed span) t else Invalid)
        test true = without o (event.SendRefused g) R Q C t next tt
        test false = tt
    send_reaches a span o _ R Q C t next = tt

    module _ (sound : SoundFunctions [] functions) (marks : MarkedFunctions functions) (sound_cells : SoundCells (known functions) cells) where
      all_valid : AllValidators (IsPure (known functions)) validators
      all_valid = validators_pure (known functions) cells sound_cells

      abbrev x : Surroundings
      x = record { cells = cells; tries = suc reruns; turns = n; functions = functions }

      abbrev call : ℕ → Bool → ℕ → List Value → ThreadState → Completion ThreadState Value
      call b = call_at (on_events x) n functions b

      abbrev CallsReach : ℕ → Type 0
      CallsReach b = (inside : Bool) (f : ℕ) (vs : List Value) (t : ThreadState) → NotedAt t → Reaches Any (call b inside f vs t)

      -- ---- transactions

      module _ (b : ℕ) (le : b ≤ length functions) (m : Mark) (e : Tree) (env : List Value) (body_sound : SoundTree (known functions) in_dosync (length env) None e) (body_marked : Marked m.wanted e) where
        abbrev d : Transacting
        d = record { mark = m; body = e; locals = env; on = tx_meaning n functions b e env; lacking = λ j. tx_meaning_lacking n functions b e env (Some j); validators = validators }

        abbrev f : Applies ThreadState
        f = apply (call b true) m.span

        abbrev q : Applies (Unit {0})
        q = quietly n functions b m.span

        met : (R : World) (v : Value) (s : TxState) → d.on R ≡ Completes v s → Met functions n (run_of d v s) R
        met R v s h = record { body_sound = body_sound; body_marked = body_marked; means = tx_deeper n functions sound b (length functions) le e env (length env) body_sound R v s h }

        -- the final writes leave the state as it was
        carries : (w : PlainTxFrame) → AllCommutes (IsPure (known functions)) w.commutes → (C : World) (t : ThreadState)
            → (final_writes f validators m.span w C t ≡ carried t (final_writes q validators m.span w C tt)) × IsQuiet (final_writes q validators m.span w C tt)
        carries w suits C t = final_carried (IsPure (known functions)) t f q (λ c us p. callee_carried (on_events x) n true functions sound b m.span c us t p) validators all_valid m.span w suits C

        finals : (w : PlainTxFrame) → AllCommutes (IsPure (known functions)) w.commutes → (C : World) (t : ThreadState) → final_writes f validators m.span w C t ≡ carried t (final_writes q validators m.span w C tt)
        finals w suits C t = (carries w suits C t).0

        quiet_finals : (w : PlainTxFrame) → AllCommutes (IsPure (known functions)) w.commutes → (C : World) (t : ThreadState) → IsQuiet (final_writes q validators m.span w C tt)
        quiet_finals w suits C t = (carries w suits C t).1

        -- what has final writes there has them with nothing around
        redone_deeper : (cs : List CommuteOf) (ws xs : Writes) → redone q cs ws tt ≡ Completes xs tt → redone (purely n functions) cs ws tt ≡ Completes xs tt
        redone_deeper [] ws xs h = h
        redone_deeper (c ∷ cs) ws xs h =
            let us : List Value = value_or (buffered ws c.cell.number) Nil ∷ c.args in
            let r = splits (q c.callee us tt) (λ v s1. redone q cs (with_write ws c.cell v) s1) xs tt h in
            ap (λ z. bind z (λ v s1. redone (purely n functions) cs (with_write ws c.cell v) s1)) (quiet_deeper n functions sound b (length functions) le m.span nowhere c.callee us r.0 r.2)
            ∙ redone_deeper cs (with_write ws c.cell r.0) xs r.3

        judged_deeper : (answer v u : Value) → judged {S = Unit {0}} answer m.span v tt ≡ Completes u tt → judged {S = Unit {0}} answer nowhere v tt ≡ Completes u tt
        judged_deeper Nil v u h = absurd (subst HasValue (sym h) tt)
        judged_deeper (Truth false) v u h = absurd (subst HasValue (sym h) tt)
        judged_deeper (Truth true) v u h = h
        judged_deeper (Int z) v u h = h
        judged_deeper (Key bs) v u h = h
        judged_deeper (Text bs) v u h = h
        judged_deeper (Vector vs) v u h = h
        judged_deeper (Cell c) v u h = h

        validated_deeper : (o : Option Callee) (v u : Value) → validated q o m.span v tt ≡ Completes u tt → validated (purely n functions) o nowhere v tt ≡ Completes u tt
        validated_deeper None v u h = h
        validated_deeper (Some c) v u h =
            let r = splits (q c (v ∷ []) tt) (λ answer s1. judged answer m.span v s1) u tt h in
            ap (λ z. bind z (λ answer s1. judged answer nowhere v s1)) (quiet_deeper n functions sound b (length functions) le m.span nowhere c (v ∷ []) r.0 r.2) ∙ judged_deeper r.0 v u r.3

        accepted_deeper : (ws : Writes) → accepted q validators m.span ws tt ≡ Completes tt tt → accepted (purely n functions) validators nowhere ws tt ≡ Completes tt tt
        accepted_deeper [] h = h
        accepted_deeper (w ∷ ws) h =
            let o = validator_at validators w.0.number in
            let r = splits (validated q o m.span w.1 tt) (λ v s1. accepted q validators m.span ws s1) tt tt h in
            ap (λ z. bind z (λ v s1. accepted (purely n functions) validators nowhere ws s1)) (validated_deeper o w.1 r.0 r.2) ∙ accepted_deeper ws r.3

        finals_deeper : (w : PlainTxFrame) (C : World) (ws : Writes) → final_writes q validators m.span w C tt ≡ Completes ws tt → final_writes (purely n functions) validators nowhere w C tt ≡ Completes ws tt
        finals_deeper w C ws h =
            let r = splits (redone q (phase_work w) (valued (commuted w) C) tt) (λ vs s1. if_accepted q validators m.span (merged (set_writes w) vs) s1) ws tt h in
            let all = merged (set_writes w) r.0 in
            let k = splits (accepted q validators m.span all tt) (λ u s1. Completes all s1) ws tt r.3 in
            ap (λ z. bind z (λ vs s1. if_accepted (purely n functions) validators nowhere (merged (set_writes w) vs) s1)) (redone_deeper (phase_work w) (valued (commuted w) C) r.0 r.2)
            ∙ ap (λ z. bind z (λ u s1. Completes all s1)) (accepted_deeper all k.2) ∙ k.3

        commit_meant : (writes : Writes) (sent : List Action) (R C : World) (ws : Writes) (v : Value) (s : TxState) (o : Option (List Action)) → begin_of o ≡ from → d.on R ≡ Completes v s → final_writes q validators m.span s.done C tt ≡ Completes ws tt → (same_writes ws writes && same_actions (sends_of_commit o s.done.sends) sent) ≡ true
            → Committed functions validators from n (run_of d v s) R C writes sent
        commit_meant writes sent R C ws v s o begins h k same =
            let parts = both (same_writes ws writes) (same_actions (sends_of_commit o s.done.sends) sent) same in record {
              met = met R v s h;
              writes_same = finals_deeper s.done C ws k ∙ ap (λ (l : Writes). given l) (same_writes-sound ws writes parts.0);
              sends_same = sym (ap (λ p. sends_of_commit p s.done.sends) begins) ∙ sym (sends_begin o s.done.sends) ∙ sends_equal (sends_of_commit o s.done.sends) sent parts.1;
            }

        suits : (R : World) (v : Value) (s : TxState) → d.on R ≡ Completes v s → AllCommutes (IsPure (known functions)) s.done.commutes
        suits R v s h = met_suits functions n (run_of d v s) R sound marks (met R v s h)

        -- a commit
        module _ (at view : ℕ) (writes : Writes) (sent : List Action) (R Q C : World) (t : ThreadState) (next : Next 0 (event.Commit at view writes sent) R Q C t) where
          -- what the event says is that of the run
          abbrev told : Writes → TxState → ThreadState → Bool
          told ws s t1 = same_writes ws writes && same_actions (sends_of_commit t1.held s.done.sends) sent

          abbrev landed : Value → TxState → ThreadState → ThreadState
          landed v s t1 = holding s.done.sends (with_tx (run_of d v s) t1)

          commit_ends : (z : Completion TxState Value) → d.on R ≡ z
              → Within {A = Value} t.txs (over t z (λ v s. faultless (final_writes f validators m.span s.done C t) (λ ws t1. meant (told ws s t1) v (landed v s t1))) (λ g. Invalid))
          commit_ends (Completes v s) h =
              subst (λ y. Within {A = Value} t.txs (faultless y (λ ws t1. meant (told ws s t1) v (landed v s t1)))) (sym (finals s.done (suits R v s h) C t)) (after (final_writes q validators m.span s.done C tt) refl)
            where
              tested : (ws : Writes) → final_writes q validators m.span s.done C tt ≡ Completes ws tt → (c : Bool) → told ws s t ≡ c → Within {A = Value} t.txs (meant c v (landed v s t))
              tested ws k true e = (begin_with s.done.sends t.held ∙ next.0, next.1 (run_of d v s ∷ []) ((refl, commit_meant writes sent R C ws v s t.held next.0 h k e), tt))
              tested ws k false e = tt

              after : (y : Completion (Unit {0}) Writes) → final_writes q validators m.span s.done C tt ≡ y → Within {A = Value} t.txs (faultless (carried t y) (λ ws t1. meant (told ws s t1) v (landed v s t1)))
              after (Completes ws tt) k = tested ws k (told ws s t) refl
              after (Recurs vs u) k = tt
              after (Faults g u) k = tt
              after (Retries u) k = tt
              after (Waits u) k = absurd (subst IsQuiet k (quiet_finals s.done (suits R v s h) C t))
              after (OutOfTurns u) k = (next.0, refl)
              after Invalid k = tt
          commit_ends (Recurs vs s) h = tt
          commit_ends (Faults g s) h = tt
          commit_ends (Retries s) h = tt
          commit_ends (Waits s) h = tt
          commit_ends (OutOfTurns s) h = (next.0, refl)
          commit_ends Invalid h = tt

        -- a failure
        module _ (at view : ℕ) (R Q C : World) (t : ThreadState) (next : Next 0 (event.Fail at view) R Q C t) where
          here : NotedAt t
          here = without 0 (event.Fail at view) R Q C t next tt

          fail_ends : (z : Completion TxState Value) → d.on R ≡ z → Within {A = Value} t.txs (over t z (λ v s. faulted (final_writes f validators m.span s.done Q t) (λ g t1. Faults g t1)) (λ g. Faults g t))
          fail_ends (Completes v s) h = subst (λ y. Within {A = Value} t.txs (faulted y (λ g t1. Faults g t1))) (sym (finals s.done (suits R v s h) Q t)) (after (final_writes q validators m.span s.done Q tt) refl)
            where
              after : (y : Completion (Unit {0}) Writes) → final_writes q validators m.span s.done Q tt ≡ y → Within {A = Value} t.txs (faulted (carried t y) (λ g t1. Faults g t1))
              after (Completes ws u) k = tt
              after (Recurs vs u) k = tt
              after (Faults g u) k = here
              after (Retries u) k = tt
              after (Waits u) k = absurd (subst IsQuiet k (quiet_finals s.done (suits R v s h) Q t))
              after (OutOfTurns u) k = (next.0, refl)
              after Invalid k = tt
          fail_ends (Recurs vs s) h = tt
          fail_ends (Faults g s) h = here
          fail_ends (Retries s) h = tt
          fail_ends (Waits s) h = tt
          fail_ends (OutOfTurns s) h = (next.0, refl)
          fail_ends Invalid h = tt

        -- a refusal
        module _ (at view : ℕ) (agent : CellId) (R Q C : World) (t : ThreadState) (next : Next 0 (event.Refused at view agent) R Q C t) where
          refused_ends : (z : Completion TxState Value) → d.on R ≡ z → Within {A = Value} t.txs (over t z (λ v s. faultless (final_writes f validators m.span s.done Q t) (λ ws t1. Faults (fault_at AgentFailed d.mark.span) (with_tx (run_of d v s) t1))) (λ g. Invalid))
          refused_ends (Completes v s) h =
              subst (λ y. Within {A = Value} t.txs (faultless y (λ ws t1. Faults (fault_at AgentFailed d.mark.span) (with_tx (run_of d v s) t1)))) (sym (finals s.done (suits R v s h) Q t)) (after (final_writes q validators m.span s.done Q tt) refl)
            where
              after : (y : Completion (Unit {0}) Writes) → final_writes q validators m.span s.done Q tt ≡ y → Within {A = Value} t.txs (faultless (carried t y) (λ ws t1. Faults (fault_at AgentFailed d.mark.span) (with_tx (run_of d v s) t1)))
              after (Completes ws tt) k = (next.0, next.1 (run_of d v s ∷ []) ((refl, record { met = met R v s h; writes = ws; writes_there = finals_deeper s.done Q ws k }), tt))
              after (Recurs vs u) k = tt
              after (Faults g u) k = tt
              after (Retries u) k = tt
              after (Waits u) k = absurd (subst IsQuiet k (quiet_finals s.done (suits R v s h) Q t))
              after (OutOfTurns u) k = (next.0, refl)
              after Invalid k = tt
          refused_ends (Recurs vs s) h = tt
          refused_ends (Faults g s) h = tt
          refused_ends (Retries s) h = tt
          refused_ends (Waits s) h = tt
          refused_ends (OutOfTurns s) h = (next.0, refl)
          refused_ends Invalid h = tt

        ends_reaches : (k : EventKind) (R Q C : World) (t : ThreadState) → Next 0 k R Q C t → Within {A = Value} t.txs (ends_tx d f k R Q C t)
        ends_reaches (event.Commit at view writes sent) R Q C t next = commit_ends at view writes sent R Q C t next (d.on R) refl
        ends_reaches (event.Fail at view) R Q C t next = fail_ends at view R Q C t next (d.on R) refl
        ends_reaches (event.Refused at view agent) R Q C t next = refused_ends at view agent R Q C t next (d.on R) refl
        ends_reaches _ R Q C t next = tt

        -- a retry has no transaction
        retry_none : (k : EventKind) (R Q C : World) → is_retry k ≡ true → RunOf functions validators from n 0 k R Q C IsNone []
        retry_none (event.Retry since c cause) R Q C h = tt
        retry_none _ R Q C h = absurd (false≢true h)

        caused_reaches : (b : Bool) (x : Completion ThreadState Value) → Reaches Any x → Reaches Any (allowed b x)
        caused_reaches true x h = h
        caused_reaches false x h = tt

        -- where a try came to its end and had its cause, what follows goes on
        over_reaches : (z : Completion TxState Value) (b : TxState → Bool) (t : ThreadState) (next : Completion ThreadState Value) → NotedAt t → Reaches Any next → Reaches Any (over t z (λ v s. allowed (b s) next) (λ g. Invalid))
        over_reaches (Completes v s) b t next g h = caused_reaches (b s) next h
        over_reaches (Recurs vs s) b t next g h = tt
        over_reaches (Faults f1 s) b t next g h = tt
        over_reaches (Retries s) b t next g h = tt
        over_reaches (Waits s) b t next g h = tt
        over_reaches (OutOfTurns s) b t next g h = g
        over_reaches Invalid b t next g h = tt

        missing_reaches : (z : Completion TxState Value) (t : ThreadState) (next : Completion ThreadState Value) → NotedAt t → Reaches Any next → Reaches Any (missing t z next)
        missing_reaches (Completes v s) t next g h = tt
        missing_reaches (Recurs vs s) t next g h = tt
        missing_reaches (Faults f1 s) t next g h = tt
        missing_reaches (Retries s) t next g h = tt
        missing_reaches (Waits s) t next g h = h
        missing_reaches (OutOfTurns s) t next g h = g
        missing_reaches Invalid t next g h = tt

        tried_reaches : (k : EventKind) (R : World) (t : ThreadState) (next : Completion ThreadState Value) → NotedAt t → Reaches Any next → Reaches Any (tried_again d k R t next)
        tried_reaches (event.Retry since c cause.Outdated) R t next g h = missing_reaches (d.lacking c.number R) t next g h
        tried_reaches (event.Retry since c cause.Held) R t next g h = over_reaches (d.on R) (λ s. is_held s.done c.number) t next g h
        tried_reaches (event.Retry since c (cause.Commuted at)) R t next g h = over_reaches (d.on R) (λ s. has_number (commuted s.done) c.number) t next g h
        tried_reaches _ R t next g h = tt

        eats_tx_reaches : (k : ℕ) (es : List SeenEvent) (t : ThreadState) → NotedWith es t → Reaches Any (eats_tx k d f es t)
        eats_tx_reaches zero es t g = g
        eats_tx_reaches (suc k) [] t g = (g, refl)
        eats_tx_reaches (suc k) (e1 ∷ es) t g = of_book (e1.book == 0) refl (is_retry e1.kind) refl (λ g1. eats_tx_reaches k es t g1)
          where
            -- the event is one of the store's book
            next_own : (e1.book == 0) ≡ true → Next 0 e1.kind e1.R e1.Q e1.C (record t { todo = es })
            next_own own = subst (λ o. Next o e1.kind e1.R e1.Q e1.C (record t { todo = es })) (eqb-true e1.book 0 own) (next_event e1 es t g)

            of_book : (own : Bool) → (e1.book == 0) ≡ own → (retry : Bool) → is_retry e1.kind ≡ retry → (NotedWith es t → Reaches Any (eats_tx k d f es t))
                → Reaches Any (if own then (if retry then tried_again d e1.kind e1.R (record t { todo = e1 ∷ es }) (eats_tx k d f es t) else uneaten (e1 ∷ es) (ends_tx d f e1.kind e1.R e1.Q e1.C (record t { todo = es }))) else Invalid)
            of_book true own true h rest =
                tried_reaches e1.kind e1.R (record t { todo = e1 ∷ es }) (eats_tx k d f es t) g
                (rest (without 0 e1.kind e1.R e1.Q e1.C (record t { todo = es }) (next_own own) (retry_none e1.kind e1.R e1.Q e1.C h)))
            of_book true own false h rest =
                within_reaches (e1 ∷ es) t.txs (ends_tx d f e1.kind e1.R e1.Q e1.C (record t { todo = es })) g.1 (ends_reaches e1.kind e1.R e1.Q e1.C (record t { todo = es }) (next_own own))
            of_book false own retry h rest = tt

      -- ---- forms

      module _ (b : ℕ) (le : b ≤ length functions) (calls : CallsReach b) where
        on_reaches : (r : Result CellId FaultKind) (span : Span) (go : CellId → ThreadState → Completion ThreadState Value) (t : ThreadState) → NotedAt t → ((c : CellId) → Reaches Any (go c t)) → Reaches Any (bind (result_of r span t) go)
        on_reaches (Ok c) span go t g h = h c
        on_reaches (Err k) span go t g h = g

        looks : (form : LookForm) (inside : Bool) (m : Mark) (v : Value) (t : ThreadState) → NotedAt t → Reaches Any ((on_events x b).look form inside m v t)
        looks form inside m v t g =
            allowed_reaches (may_stand (rule (form_of.Look form)).stands false) _ (on_reaches (cell_of (rule (form_of.Look form)) false v) m.span (thread_look x form) t g (λ c. look_at form c))
          where
            look_at : (form1 : LookForm) (c : CellId) → Reaches Any (thread_look x form1 c t)
            look_at Deref c = eats_reaches (home cells c) (λ e t1. reads c e.kind e.C t1) (λ e t1 next. read_reaches c e.book e.kind e.R e.Q e.C t1 next) t.todo t refl g g
            look_at Ensure c = tt

        -- what a pure meaning leads to
        carried_reaches : (z : Completion (Unit {0}) Value) (go : Value → ThreadState → Completion ThreadState Value) (t : ThreadState) → IsQuiet z → NotedAt t → ((v : Value) → Reaches Any (go v t)) → Reaches Any (bind (carried t z) go)
        carried_reaches (Completes v u) go t w g h = h v
        carried_reaches (Recurs vs u) go t w g h = tt
        carried_reaches (Faults e u) go t w g h = g
        carried_reaches (Retries u) go t w g h = absurd w
        carried_reaches (Waits u) go t w g h = absurd w
        carried_reaches (OutOfTurns u) go t w g h = g
        carried_reaches Invalid go t w g h = tt

        puts : (form : PutForm) (inside : Bool) (m : Mark) (v w : Value) (t : ThreadState) → NotedAt t → Reaches Any ((on_events x b).put form inside m v w (apply (call b inside) m.span) t)
        puts form inside m v w t g =
            allowed_reaches (may_stand (rule (form_of.Put form)).stands false) _ (on_reaches (cell_of (rule (form_of.Put form)) false v) m.span (λ c t1. thread_put x form m.span c w (apply (call b inside) m.span) t1) t g (λ c. put_at form c))
          where
            put_at : (form1 : PutForm) (c : CellId) → Reaches Any (thread_put x form1 m.span c w (apply (call b inside) m.span) t)
            put_at RefSet c = tt
            put_at Reset c =
                let o = validator_at validators c.number in
                let one =
                validated_carried (IsPure (known functions)) t (apply (call b inside) m.span) (quietly n functions b m.span) (λ c1 us p. callee_carried (on_events x) n inside functions sound b m.span c1 us t p) o
                (validator_such (IsPure (known functions)) validators c.number all_valid) m.span w
                in
                let go : Value → ThreadState → Completion ThreadState Value = λ u t1. eats (home cells c) (λ e t2. resets u e.kind t2) t1.todo t1 in
                subst (λ z. Reaches Any (bind z go)) (sym one.0)
                (carried_reaches (validated (quietly n functions b m.span) o m.span w tt) go t one.1 g
                (λ u. eats_reaches (home cells c) (λ e t1. resets u e.kind t1) (λ e t1 next. reset_reaches u e.book e.kind e.R e.Q e.C t1 next) t.todo t refl g g))

        updates : (form : UpdateForm) (inside : Bool) (m : Mark) (v : Value) (callee : Callee) → IsPure (known functions) callee → (vs : List Value) (t : ThreadState) → NotedAt t → Reaches Any ((on_events x b).update form inside m v callee vs (apply (call b inside) m.span) t)
        updates form inside m v callee pure vs t g =
            allowed_reaches (may_stand (rule (form_of.Update form)).stands false) _ (on_reaches (cell_of (rule (form_of.Update form)) false v) m.span (λ c t1. thread_update x form m.span c callee vs (apply (call b inside) m.span) t1) t g (λ c. update_at form c))
          where
            update_at : (form1 : UpdateForm) (c : CellId) → Reaches Any (thread_update x form1 m.span c callee vs (apply (call b inside) m.span) t)
            update_at Alter c = tt
            update_at Commute c = tt
            update_at Swap c =
                let o = validator_at validators c.number in
                let q = quietly n functions b m.span in
                let go : Value → ThreadState → Completion ThreadState Value = λ u t2. bind (apply (call b inside) m.span callee (u ∷ vs) t2) (λ w s1. validated (apply (call b inside) m.span) o m.span w s1) in
                eats_reaches (home cells c) (λ e t1. swaps c go e.kind e.R e.C t1)
                (λ e t1 next. swap_reaches c go (λ u. bind (q callee (u ∷ vs) tt) (λ w s1. validated q o m.span w s1))
                (λ u t2. made_carried (IsPure (known functions)) t2 (apply (call b inside) m.span) q (λ c1 us p. callee_carried (on_events x) n inside functions sound b m.span c1 us t2 p) o
                (validator_such (IsPure (known functions)) validators c.number all_valid) m.span callee (u ∷ vs) pure) e.book e.kind e.R e.Q e.C t1 next) t.todo t refl g g

        sent : (inside : Bool) (m : Mark) (v : Value) (callee : Callee) (vs : List Value) (t : ThreadState) → NotedAt t → Reaches Any ((on_events x b).send inside m v callee vs t)
        sent inside m v callee vs t g =
            on_reaches (cell_of (rule form_of.Send) false v) m.span (λ c t1. sends_or_holds t1.held (record { agent = c; callee = callee; args = vs; span = m.span }) m.span t1) t g (λ c. send_at c t.held)
          where
            send_at : (c : CellId) (o : Option (List Action)) → Reaches Any (sends_or_holds o (record { agent = c; callee = callee; args = vs; span = m.span }) m.span t)
            send_at c None =
                eats_reaches 0 (λ e t2. sends (record { agent = c; callee = callee; args = vs; span = m.span }) m.span e.kind t2) (λ e t1 next. send_reaches (record { agent = c; callee = callee; args = vs; span = m.span }) m.span e.book e.kind e.R e.Q e.C t1 next) t.todo t refl g g
            send_at c (Some held) = (tt, (begin_with (record { agent = c; callee = callee; args = vs; span = m.span } ∷ []) t.held ∙ g.0, g.1))

        -- ---- trees

        abbrev on : Bool → Tree → List Value → ThreadState → Completion ThreadState Value
        on inside e env t = eval (on_events x b) (call b) n inside e env t

        mutual
          tree_reaches : (e : Tree) (inside w : Bool) (zone : Zone) (k : ℕ) (tail : Option ℕ) → SoundTree (known functions) zone k tail e → Marked w e → (env : List Value) → length env ≡ k → (t : ThreadState) → NotedAt t → Reaches Any (on inside e env t)
          tree_reaches (Const v m) inside w zone k tail h r env l t g = (tt, g)
          tree_reaches (Local i m) inside w zone k tail h r env l t g = give_reaches (nth env i) t g
          tree_reaches (If c y z m) inside w zone k tail h r env l t g =
              bind_reaches Any Any (on inside c env t) (λ v t1. choose v (on inside y env t1) (on inside z env t1)) (tree_reaches c inside true zone k None h.0 r.1 env l t g)
              (λ v t1 p g1. choose_reaches v (on inside y env t1) (on inside z env t1) (tree_reaches y inside w zone k tail h.1 r.2 env l t1 g1) (tree_reaches z inside w zone k tail h.2 r.3 env l t1 g1))
          tree_reaches (Do items m) inside w zone k tail h r env l t g = do_reaches items inside w zone k tail h r.1 env l t g
          tree_reaches (Let values body m) inside w zone k tail h r env l t g =
              bind_reaches (Many (count values)) Any (eval_let (on_events x b) (call b) n inside values env t) (λ vs t1. on inside body (env ++ vs) t1) (let_reaches values inside zone k h.0 r.1 env l t g)
              (λ vs t1 p g1. tree_reaches body inside w zone (k + count values) tail h.1 r.2 (env ++ vs) (omega (arith, length-append env vs, l, p)) t1 g1)
          tree_reaches (Loop values body m) inside w zone k tail h r env l t g =
              bind_reaches (Many (count values)) Any (eval_let (on_events x b) (call b) n inside values env t) (λ vs t1. turns n (count values) (λ us t2. on inside body (env ++ us) t2) vs t1) (let_reaches values inside zone k h.0 r.1 env l t g)
              (λ vs t1 p g1. turns_reaches n (count values) (λ us t2. on inside body (env ++ us) t2)
              (λ us t2 p2 g2. tree_reaches body inside w zone (k + count values) (Some (count values)) h.1 r.2 (env ++ us) (omega (arith, length-append env us, l, p2)) t2 g2) vs t1 g1)
          tree_reaches (Recur values m) inside w zone k tail h r env l t g =
              bind_reaches (Many (count values)) Any (eval_all (on_events x b) (call b) n inside values env t) (λ vs t1. Recurs vs t1) (all_reaches values inside zone k h.1 r.1 env l t g) (λ vs t1 p g1. g1)
          tree_reaches (Core op args m) inside w zone k tail h r env l t g =
              bind_reaches (Many (count args)) Any (eval_all (on_events x b) (call b) n inside args env t) (λ vs t1. result_of (core op vs) m.span t1) (all_reaches args inside zone k h.1 r.1 env l t g) (λ vs t1 p g1. result_reaches (core op vs) m.span t1 g1)
          tree_reaches (Call f args m) inside w zone k tail h r env l t g =
              bind_reaches (Many (count args)) Any (eval_all (on_events x b) (call b) n inside args env t) (λ vs t1. call b inside f vs t1) (all_reaches args inside zone k h.1 r.1 env l t g) (λ vs t1 p g1. calls inside f vs t1 g1)
          tree_reaches (VectorOf items m) inside w zone k tail h r env l t g =
              bind_reaches (Many (count items)) Any (eval_all (on_events x b) (call b) n inside items env t) (λ vs t1. result_of (vector_of vs) m.span t1) (all_reaches items inside zone k h.1 r.1 env l t g) (λ vs t1 p g1. result_reaches (vector_of vs) m.span t1 g1)
          tree_reaches (Println args m) inside w zone k tail h r env l t g =
              bind_reaches (Many (count args)) Any (eval_all (on_events x b) (call b) n inside args env t) (λ vs t1. (on_events x b).print inside vs t1) (all_reaches args inside zone k h.2 r.1 env l t g) (λ vs t1 p g1. (tt, g1))
          tree_reaches (Dosync body m) inside w zone k tail h r env l t g =
              eats_tx_reaches b le m body env (subst (λ j. SoundTree (known functions) in_dosync j None body) (sym l) h) r.1 (suc reruns) t.todo t g
          tree_reaches (Look form cell m) inside w zone k tail h r env l t g =
              bind_reaches Any Any (on inside cell env t) (λ c t1. (on_events x b).look form inside m c t1) (tree_reaches cell inside true zone k None h.1 r.1 env l t g) (λ c t1 p g1. looks form inside m c t1 g1)
          tree_reaches (Put form cell value m) inside w zone k tail h r env l t g =
              bind_reaches Any Any (on inside cell env t) (λ c t1. bind (on inside value env t1) (λ v t2. (on_events x b).put form inside m c v (apply (call b inside) m.span) t2)) (tree_reaches cell inside true zone k None h.1 r.1 env l t g)
              (λ c t1 p g1. bind_reaches Any Any (on inside value env t1) (λ v t2. (on_events x b).put form inside m c v (apply (call b inside) m.span) t2) (tree_reaches value inside true zone k None h.2 r.2 env l t1 g1) (λ v t2 p2 g2. puts form inside m c v t2 g2))
          tree_reaches (Update form cell callee args m) inside w zone k tail h r env l t g =
              bind_reaches Any Any (on inside cell env t) (λ c t1. bind (eval_all (on_events x b) (call b) n inside args env t1) (λ vs t2. (on_events x b).update form inside m c callee vs (apply (call b inside) m.span) t2)) (tree_reaches cell inside true zone k None h.1 r.1 env l t g)
              (λ c t1 p g1. bind_reaches (Many (count args)) Any (eval_all (on_events x b) (call b) n inside args env t1) (λ vs t2. (on_events x b).update form inside m c callee vs (apply (call b inside) m.span) t2) (all_reaches args inside zone k h.3 r.2 env l t1 g1) (λ vs t2 p2 g2. updates form inside m c callee (sound_pure (known functions) callee (suc (count args)) h.2) vs t2 g2))
          tree_reaches (Send cell callee args m) inside w zone k tail h r env l t g =
              bind_reaches Any Any (on inside cell env t) (λ c t1. bind (eval_all (on_events x b) (call b) n inside args env t1) (λ vs t2. (on_events x b).send inside m c callee vs t2)) (tree_reaches cell inside true zone k None h.0 r.1 env l t g)
              (λ c t1 p g1. bind_reaches (Many (count args)) Any (eval_all (on_events x b) (call b) n inside args env t1) (λ vs t2. (on_events x b).send inside m c callee vs t2) (all_reaches args inside zone k h.2 r.2 env l t1 g1) (λ vs t2 p2 g2. sent inside m c callee vs t2 g2))

          all_reaches : (es : Trees) (inside : Bool) (zone : Zone) (k : ℕ) → SoundAll (known functions) zone k es → MarkedAll es → (env : List Value) → length env ≡ k → (t : ThreadState) → NotedAt t → Reaches (Many (count es)) (eval_all (on_events x b) (call b) n inside es env t)
          all_reaches none inside zone k h r env l t g = (refl, g)
          all_reaches (more e rest) inside zone k h r env l t g =
              bind_reaches Any (Many (suc (count rest))) (on inside e env t) (λ v t1. bind (eval_all (on_events x b) (call b) n inside rest env t1) (λ vs t2. Completes (v ∷ vs) t2)) (tree_reaches e inside true zone k None h.0 r.0 env l t g)
              (λ v t1 p g1. bind_reaches (Many (count rest)) (Many (suc (count rest))) (eval_all (on_events x b) (call b) n inside rest env t1) (λ vs t2. Completes (v ∷ vs) t2) (all_reaches rest inside zone k h.1 r.1 env l t1 g1) (λ vs t2 p2 g2. (ap suc p2, g2)))

          let_reaches : (es : Trees) (inside : Bool) (zone : Zone) (k : ℕ) → SoundLet (known functions) zone k es → MarkedAll es → (env : List Value) → length env ≡ k → (t : ThreadState) → NotedAt t → Reaches (Many (count es)) (eval_let (on_events x b) (call b) n inside es env t)
          let_reaches none inside zone k h r env l t g = (refl, g)
          let_reaches (more e rest) inside zone k h r env l t g =
              bind_reaches Any (Many (suc (count rest))) (on inside e env t) (λ v t1. bind (eval_let (on_events x b) (call b) n inside rest (env ++ v ∷ []) t1) (λ vs t2. Completes (v ∷ vs) t2)) (tree_reaches e inside true zone k None h.0 r.0 env l t g)
              (λ v t1 p g1. bind_reaches (Many (count rest)) (Many (suc (count rest))) (eval_let (on_events x b) (call b) n inside rest (env ++ v ∷ []) t1) (λ vs t2. Completes (v ∷ vs) t2)
              (let_reaches rest inside zone (k + 1) h.1 r.1 (env ++ v ∷ []) (omega (arith, length-append env (v ∷ []), l)) t1 g1) (λ vs t2 p2 g2. (ap suc p2, g2)))

          do_reaches : (es : Trees) (inside w : Bool) (zone : Zone) (k : ℕ) (tail : Option ℕ) → SoundDo (known functions) zone k tail es → MarkedDo w es → (env : List Value) → length env ≡ k → (t : ThreadState) → NotedAt t → Reaches Any (eval_do (on_events x b) (call b) n inside es env t)
          do_reaches none inside w zone k tail h r env l t g = tt
          do_reaches (more e none) inside w zone k tail h r env l t g = tree_reaches e inside w zone k tail h r env l t g
          do_reaches (more e (more f rest)) inside w zone k tail h r env l t g =
              bind_reaches Any Any (on inside e env t) (λ v t1. eval_do (on_events x b) (call b) n inside (more f rest) env t1) (tree_reaches e inside false zone k None h.0 r.0 env l t g) (λ v t1 p g1. do_reaches (more f rest) inside w zone k tail h.1 r.1 env l t1 g1)

      -- one call deeper
      call_reaches : (b : ℕ) → b ≤ length functions → CallsReach b → CallsReach (suc b)
      call_reaches b le calls inside f vs t g = go (nth functions f) refl
        where
          go : (o : Option PlainFunction) → nth functions f ≡ o → Reaches Any (bind (give o t) (λ fun t1. turns (suc n) fun.parameters (λ ws t2. eval (on_events x b) (call b) n inside fun.body ws t2) vs t1))
          go None e = tt
          go (Some fun) e =
              let here = function_at functions f fun sound e in
              let widened = tree-widened (take f (known functions)) (known functions) (λ g1 k h. (nth-take f (known functions) g1 k h).1) fun.body in_function fun.parameters (Some fun.parameters) here.1.1 in
              turns_reaches (suc n) fun.parameters (λ ws t2. eval (on_events x b) (call b) n inside fun.body ws t2)
              (λ ws t2 l g2. tree_reaches b le calls fun.body inside true in_function fun.parameters (Some fun.parameters) widened (marked_at functions f fun marks e) ws l t2 g2) vs t g

      calls_reach : (b : ℕ) → b ≤ length functions → CallsReach b
      calls_reach zero le inside f vs t g = tt
      calls_reach (suc b) le inside f vs t g = call_reaches b (omega (arith, le)) (calls_reach b (omega (arith, le))) inside f vs t g

      -- where it begins
      abbrev start : ThreadState
      start = from_events from es0

      module _ (begins : begin_of from ≡ from) where
        noted_first : NotedAt start
        noted_first = (begins, record { eaten = []; split = refl; runs = tt })

        main_reaches : (main : Tree) → SoundTree (known functions) in_thread 0 None main → Marked false main → Reaches Any (body_in x from main [] es0)
        main_reaches main h r =
            again_reaches Any (eval (on_events x (length functions)) (call (length functions)) n false main [] start) (λ vs t. Invalid)
            (tree_reaches (length functions) (omega arith) (calls_reach (length functions) (omega arith)) main false false in_thread 0 None h r [] refl start noted_first) (λ vs t g. tt)

        -- a callee, outside every transaction
        applied_reaches : (span : Span) (c : Callee) (vs : List Value) (t : ThreadState) → NotedAt t → Reaches Any (applies_in x span c vs t)
        applied_reaches span (CoreOp op) vs t g = result_reaches (core op vs) span t g
        applied_reaches span (Function f) vs t g = calls_reach (length functions) (omega arith) false f vs t g

        judged_reaches : (answer : Value) (span : Span) (v : Value) (t : ThreadState) → NotedAt t → Reaches Any (judged answer span v t)
        judged_reaches Nil span v t g = g
        judged_reaches (Truth false) span v t g = g
        judged_reaches (Truth true) span v t g = (tt, g)
        judged_reaches (Int z) span v t g = (tt, g)
        judged_reaches (Key bs) span v t g = (tt, g)
        judged_reaches (Text bs) span v t g = (tt, g)
        judged_reaches (Vector vs) span v t g = (tt, g)
        judged_reaches (Cell c) span v t g = (tt, g)

        accepted_reaches : (span : Span) (o : Option Callee) (v : Value) (t : ThreadState) → NotedAt t → Reaches Any (validated (applies_in x span) o span v t)
        accepted_reaches span None v t g = (tt, g)
        accepted_reaches span (Some c) v t g =
            bind_reaches Any Any (applies_in x span c (v ∷ []) t) (λ answer t1. judged answer span v t1) (applied_reaches span c (v ∷ []) t g) (λ answer t1 p g1. judged_reaches answer span v t1 g1)

        action_reaches : (a : Action) (v : Value) → Reaches Any (bind (applies_in x a.span a.callee (v ∷ a.args) start) (λ w t. accepts x (applies_in x a.span) a.agent a.span w t))
        action_reaches a v =
            bind_reaches Any Any (applies_in x a.span a.callee (v ∷ a.args) start) (λ w t. accepts x (applies_in x a.span) a.agent a.span w t) (applied_reaches a.span a.callee (v ∷ a.args) start noted_first)
            (λ w t p g. accepted_reaches a.span (validator_at validators a.agent.number) w t g)

ended : (cells : List CellDefinition) (functions : List PlainFunction) (from : Option (List Action)) (n : ℕ) (es : List SeenEvent) (c : Completion ThreadState Value) → Reaches cells functions from n es Any c → EndsNoted functions (validators_of cells) from n es c
ended cells functions from n es (Completes v t) h = h.1.1
ended cells functions from n es (Recurs vs t) h = tt
ended cells functions from n es (Faults f t) h = h.1
ended cells functions from n es (Retries t) h = tt
ended cells functions from n es (Waits t) h = h.0.1
ended cells functions from n es (OutOfTurns t) h = h.1
ended cells functions from n es Invalid h = tt

pub threads_note : ThreadsNote
threads_note p n es sound marks marked = ended p.cells p.functions None n es (thread_meaning p n es) (main_reaches p.cells p.functions None n es sound.functions marks sound.cells refl p.main sound.main marked)

pub actions_note : ActionsNote
actions_note cells functions n a v es sound sound_cells marks fits = ended cells functions (Some []) n es (action_meaning cells functions n a v es) (action_reaches cells functions (Some []) n es sound marks sound_cells refl a v)

-- where an action's meaning is a value it holds sends
pub action_holds : (cells : List CellDefinition) (functions : List PlainFunction) (n : ℕ) (a : Action) (v : Value) (es : List SeenEvent) → SoundFunctions [] functions → SoundCells (known functions) cells → MarkedFunctions functions
    → (w : Value) (t : ThreadState) → action_meaning cells functions n a v es ≡ Completes w t → begin_of t.held ≡ Some []
action_holds cells functions n a v es sound sound_cells marks w t e = (subst (λ c. Reaches cells functions (Some []) n es Any c) e (action_reaches cells functions (Some []) n es sound marks sound_cells refl a v)).1.0

-- where it waits it has eaten all
pub action_waits : (cells : List CellDefinition) (functions : List PlainFunction) (n : ℕ) (a : Action) (v : Value) (es : List SeenEvent) → SoundFunctions [] functions → SoundCells (known functions) cells → MarkedFunctions functions
    → (t : ThreadState) → action_meaning cells functions n a v es ≡ Waits t → t.todo ≡ []
action_waits cells functions n a v es sound sound_cells marks t e = (subst (λ c. Reaches cells functions (Some []) n es Any c) e (action_reaches cells functions (Some []) n es sound marks sound_cells refl a v)).1
