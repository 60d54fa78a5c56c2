-- What is said of the action in hand stays in each step and each tree, if it stays where the action holds more sends.
use Rattle.std.proofs.Common.{ℕ, zero, suc, Bool, true, false, not, List, [], length, Option, Some, None, Result, Ok, Err, refl, ap, subst, inl, ◌≡◌, ◌∷◌, if◌then◌else◌}
use Rattle.txs_world_protocol.specs.Ask.{Writes, buffered, Exchange, same_ask}
use Rattle.txs_world_protocol.specs.declared.ask.Ask.{Ask}
use Rattle.txs_world_protocol.specs.declared.ask.Ask.TheVariants as ask
use Rattle.txs_world_protocol.specs.declared.ask.Reply.{Reply}
use Rattle.txs_frame.specs.Frame.{commuted, set_writes, set_ref, sends_of_commit}
use Rattle.txs_frame.specs.declared.frame.Commute.{Commute}
use Rattle.txs_value_cell.specs.Cells.{Validators, validators_of, validator_at}
use Rattle.txs_value_apply.specs.Core.{core}
use Rattle.txs_value_cell.specs.Forms.{rule, cell_of}
use Rattle.txs_value_cell.specs.declared.cell.CellDefinition.{CellDefinition}
use Rattle.txs_value_data.specs.Limits.{reruns}
use Rattle.txs_value_cell.specs.declared.action.Action.{Action}
use Rattle.txs_value_data.specs.declared.fault.FaultKind.{FaultKind}
use Rattle.txs_value_data.specs.declared.fault.Span.{Span}
use Rattle.txs_value_cell.specs.declared.form.CellForm.{CellForm}
use Rattle.txs_value_cell.specs.declared.form.CellForm.TheVariants as form
use Rattle.txs_value_cell.specs.declared.form.LookForm.{LookForm}
use Rattle.txs_value_cell.specs.declared.form.LookForm.TheVariants.{Deref, Ensure}
use Rattle.txs_value_cell.specs.declared.form.PutForm.{PutForm}
use Rattle.txs_value_cell.specs.declared.form.PutForm.TheVariants.{RefSet, Reset}
use Rattle.txs_value_cell.specs.declared.form.UpdateForm.{UpdateForm}
use Rattle.txs_value_cell.specs.declared.form.UpdateForm.TheVariants as update_of
use Rattle.txs_value_data.specs.declared.op.Callee.{Callee}
use Rattle.txs_value_data.specs.declared.op.Callee.TheVariants.{Core as CoreOp, Function}
use Rattle.txs_value_data.specs.declared.value.CellId.{CellId}
use Rattle.txs_value_data.specs.declared.value.Value.{Value}
use Rattle.txs_code_meaning.specs.ActorState.{ActorState, Reception, Replied, Unreplied, receives, asks, StepResult, Continue, Break, Redo, Await, Malformed, on_step, step_of, Reading, Says, SaysRetry, SaysNothing, read_as, heard, read_point, just_done, value_there, newest_value, views, Verdict, Landed, Outdated, Undone, Denied, commit_verdict, opened, swap_verdict, send_verdict, sent, begun, begin, fail, buffered_or, look, paired, viewed, view, commit, peek, SwapInHand, open_atom, close_swap, break_swap, reset_atom, send_now, cell_at, read_cell, read, set_own, assign_cell, assign, RefUpdate, Alters, Commutes, update_form, open_update, close_own, close_update, open_swap, send_action, send_to, print, InHand, held_in, now_holding, landed, send_or_hold}
use Rattle.txs_frame.specs.Frame.{phase_work}
use Rattle.txs_world_protocol.specs.Ask.{with_write}
use Rattle.txs_value_data.specs.declared.value.Value.TheVariants.{Nil}
use Rattle.txs_tree_meaning.specs.Known.{known}
use Rattle.txs_tree_meaning.specs.Meaning.{Completion, Completes, Recurs, Faults, Retries, Waits, OutOfTurns, Invalid, bind, closed, allowed, result_of, Applies, apply, eval, call_at}
use Rattle.txs_tree_meaning.specs.Sound.{SoundSource, SoundFunctions, in_thread}
use Rattle.txs_tree_meaning.specs.Transaction.{value_or, redone, merged, validated, accepted}
use Rattle.txs_tree_meaning.specs.Tree.{PlainFunction, ThreadSource}
use Rattle.txs_code_meaning.specs.Opening.{fresh}
use Rattle.txs_theorem_threads.proofs.Callees.{pure_callees, callees_in, function_callees}
use Rattle.txs_theorem_threads.proofs.Related.{Link, Related, closed_related, Applied, Alike, CallsAlike, eval_related, calls_related}
use Rattle.txs_theorem_threads.proofs.Accepted.{validated_related, accepted_related}
use Rattle.txs_theorem_threads.specs.ActionsBehave.{applies_on, action_source}
use Rattle.txs_theorem_threads.specs.Behaves.{source}
use Rattle.txs_theorem_threads.specs.FollowsAgent.{taken_at}
use Rattle.txs_theorem_threads.specs.OnReplies.{res, telling, Start, Anew, Behind, concludes, lands_on, closing, attempt, retrying, tries, joined, swap_concludes, swaps_on, updates_ref, updates, on_replies, if_all_accepted, accepts, puts}

module _ (P : Option InHand → Type 0) where
  -- what is said of the action in hand stays
  abbrev pub Rests : ActorState → ActorState → Type 0
  Rests s t = P s.acting → P t.acting

  then_rests : (s t u : ActorState) → Rests s t → Rests t u → Rests s u
  then_rests s t u g h e = h (g e)

  -- where a part of a tree ends, that is said of the action in hand
  abbrev pub EndsRested : {A : Type 0} → Completion ActorState A → Type 0
  EndsRested (Completes a s) = P s.acting
  EndsRested (Recurs vs s) = P s.acting
  EndsRested (Faults f s) = P s.acting
  EndsRested (Retries s) = P s.acting
  EndsRested (Waits s) = Unit {0}
  EndsRested (OutOfTurns s) = Unit {0}
  EndsRested Invalid = Unit {0}

  -- so does what goes on from a state of which that is said
  abbrev GoesRested : {A : Type 0} → (ActorState → Completion ActorState A) → Type 0
  GoesRested go = (s : ActorState) → P s.acting → EndsRested (go s)

  -- and what callees come to
  abbrev CalleesRest : Applies ActorState → Type 0
  CalleesRest f = (c : Callee) (vs : List Value) → GoesRested (f c vs)

  -- ---- steps

  abbrev ReceptionRests : ActorState → Reception → Type 0
  ReceptionRests s (Replied r t) = Rests s t
  ReceptionRests s (Unreplied t) = Rests s t

  asks_rest : (a : Ask) (s : ActorState) → ReceptionRests s (asks a s)
  unfolding asks
  asks_rest a s = go s.todo
    where
      go : (l : List Exchange) → ReceptionRests s (receives a s l)
      go [] = λ e. e
      go (x ∷ xs) = test (same_ask a x.ask)
        where
          test : (b : Bool) → ReceptionRests s (if b then Replied x.reply (record s { todo = xs }) else Unreplied (record s { wants = Some a }))
          test true = λ e. e
          test false = λ e. e

  abbrev StepRests : {A : Type 0} → ActorState → StepResult A → Type 0
  StepRests s (Continue v t) = Rests s t
  StepRests s (Break f t) = Rests s t
  StepRests s (Redo t) = Rests s t
  StepRests s (Await t) = Rests s t
  StepRests s Malformed = Unit {0}

  reading_rests : {A : Type 0} (r : Reading A) (s t : ActorState) → Rests s t → StepRests s (read_as r t)
  reading_rests (Says a) s t g = g
  reading_rests SaysRetry s t g = g
  reading_rests SaysNothing s t g = tt

  heard_rests : {A : Type 0} (reads : Reply → Reading A) (x : Reception) (s : ActorState) → ReceptionRests s x → StepRests s (heard reads x)
  heard_rests reads (Replied r t) s g = reading_rests (reads r) s t g
  heard_rests reads (Unreplied t) s g = g

  ask_rests : {A : Type 0} (reads : Reply → Reading A) (a : Ask) (s : ActorState) → StepRests s (heard reads (asks a s))
  ask_rests reads a s = heard_rests reads (asks a s) s (asks_rest a s)

  -- a step from where another came
  step_after : {A : Type 0} (s t : ActorState) (x : StepResult A) → Rests s t → StepRests t x → StepRests s x
  step_after s t (Continue a u) g h = then_rests s t u g h
  step_after s t (Break f u) g h = then_rests s t u g h
  step_after s t (Redo u) g h = then_rests s t u g h
  step_after s t (Await u) g h = then_rests s t u g h
  step_after s t Malformed g h = tt

  step_rests : {A B : Type 0} (x : StepResult A) (go : A → ActorState → StepResult B) (s : ActorState) → StepRests s x → ((a : A) (t : ActorState) → StepRests t (go a t)) → StepRests s (on_step x go)
  step_rests (Continue a t) go s g h = step_after s t (go a t) g (h a t)
  step_rests (Break f t) go s g h = g
  step_rests (Redo t) go s g h = g
  step_rests (Await t) go s g h = g
  step_rests Malformed go s g h = tt

  of_rests : {A : Type 0} (r : Result A FaultKind) (span : Span) (s : ActorState) → StepRests s (step_of r span s)
  of_rests (Ok a) span s = λ e. e
  of_rests (Err k) span s = λ e. e

  begin_rests : (s : ActorState) → StepRests s (begin s)
  unfolding begin
  begin_rests s = step_rests (heard read_point (asks ask.Begin s)) begun s (ask_rests read_point ask.Begin s) (λ p t e. e)

  fail_rests : (s : ActorState) → StepRests s (fail s)
  unfolding fail
  fail_rests s = ask_rests just_done (ask.Fail s.at s.view) s

  own_rests : (s : ActorState) (o : Option Value) (x : StepResult Value) → StepRests s x → StepRests s (buffered_or o s x)
  own_rests s (Some v) x h = λ e. e
  own_rests s None x h = h

  look_rests : (c : CellId) (s : ActorState) → StepRests s (look c s)
  unfolding look
  look_rests c s = own_rests s (buffered s.done.values c.number) (heard value_there (asks (ask.Look c s.at) s)) (ask_rests value_there (ask.Look c s.at) s)

  viewed_rests : (q : ℕ) (o : Option Writes) (s : ActorState) → StepRests s (viewed q o s)
  viewed_rests q None s = tt
  viewed_rests q (Some ws) s = λ e. e

  view_rests : (s : ActorState) → StepRests s (view s)
  unfolding view
  view_rests s =
      let q = ask.View (commuted s.done) in
      let go : ℕ × List Value → ActorState → StepResult Writes = λ x s1. viewed x.0 (paired (commuted s.done) x.1) s1 in
      step_rests (heard views (asks q s)) go s (ask_rests views q s) (λ x t. viewed_rests x.0 (paired (commuted s.done) x.1) t)

  module _ (holds : (xs : List Action) (o : Option InHand) → P o → P (now_holding xs o)) where
    landed_rests : (v : Verdict) (s : ActorState) → StepRests s (landed v s)
    landed_rests Landed s = λ e. holds s.done.sends s.acting e
    landed_rests Outdated s = λ e. e
    landed_rests Undone s = λ e. e
    landed_rests Denied s = λ e. e

    commit_rests : (ws : Writes) (s : ActorState) → StepRests s (commit ws s)
    unfolding commit
    commit_rests ws s =
        let q = ask.Commit s.at (set_writes s.done) s.done.ensures s.view ws (sends_of_commit (held_in s.acting) s.done.sends) in
        step_rests (heard commit_verdict (asks q s)) landed s (ask_rests commit_verdict q s) landed_rests

    peek_rests : (c : CellId) (s : ActorState) → StepRests s (peek c s)
    unfolding peek
    peek_rests c s = ask_rests newest_value (ask.Peek c) s

    open_atom_rests : (c : CellId) (s : ActorState) → StepRests s (open_atom c s)
    unfolding open_atom
    open_atom_rests c s = step_rests (heard opened (asks (ask.OpenAt c) s)) _ s (ask_rests opened (ask.OpenAt c) s) (λ x t e. e)

    close_swap_rests : (w : SwapInHand) (v : Value) (s : ActorState) → StepRests s (close_swap w v s)
    unfolding close_swap
    close_swap_rests w v s = ask_rests swap_verdict (ask.CloseAt w.cell (Some w.at) v) s

    break_swap_rests : (w : SwapInHand) (s : ActorState) → StepRests s (break_swap w s)
    unfolding break_swap
    break_swap_rests w s = ask_rests just_done (ask.Broke w.cell w.at) s

    reset_rests : (c : CellId) (v : Value) (s : ActorState) → StepRests s (reset_atom c v s)
    unfolding reset_atom
    reset_rests c v s = step_rests (heard just_done (asks (ask.CloseAt c None v) s)) _ s (ask_rests just_done (ask.CloseAt c None v) s) (λ u t e. e)

    sent_rests : (a : Action) (d : Verdict) (s : ActorState) → StepRests s (sent a d s)
    sent_rests a Landed s = λ e. e
    sent_rests a Outdated s = tt
    sent_rests a Undone s = tt
    sent_rests a Denied s = λ e. e

    send_now_rests : (a : Action) (s : ActorState) → StepRests s (send_now a s)
    unfolding send_now
    send_now_rests a s = step_rests (heard send_verdict (asks (ask.Send a) s)) (sent a) s (ask_rests send_verdict (ask.Send a) s) (λ d t. sent_rests a d t)

    print_rests : (b : Bool) (vs : List Value) (s : ActorState) → StepRests s (print b vs s)
    unfolding print
    print_rests true vs s = tt
    print_rests false vs s = λ e. e

    cell_rests : (f : CellForm) (b : Bool) (span : Span) (v : Value) (s : ActorState) → StepRests s (cell_at f b span v s)
    cell_rests f b span v s = of_rests (cell_of (rule f) b v) span s

    read_cell_rests : (f : LookForm) (b : Bool) (c : CellId) (s : ActorState) → StepRests s (read_cell f b c s)
    read_cell_rests Deref true c s = look_rests c s
    read_cell_rests Deref false c s = peek_rests c s
    read_cell_rests Ensure true c s = step_rests (look c s) _ s (look_rests c s) (λ v t e. e)
    read_cell_rests Ensure false c s = tt

    read_rests : (f : LookForm) (b : Bool) (span : Span) (v : Value) (s : ActorState) → StepRests s (read f b span v s)
    read_rests f b span v s = step_rests (cell_at (form.Look f) b span v s) (read_cell f b) s (cell_rests (form.Look f) b span v s) (read_cell_rests f b)

    set_own_rests : (span : Span) (v : Value) (c : CellId) (s : ActorState) → StepRests s (set_own span v c s)
    set_own_rests span v c s = step_rests (step_of (set_ref c v s.done) span s) _ s (of_rests (set_ref c v s.done) span s) (λ w t e. e)

    assign_cell_rests : (f : PutForm) (b : Bool) (span : Span) (v : Value) (c : CellId) (s : ActorState) → StepRests s (assign_cell f b span v c s)
    assign_cell_rests RefSet true span v c s = set_own_rests span v c s
    assign_cell_rests RefSet false span v c s = tt
    assign_cell_rests Reset false span v c s = reset_rests c v s
    assign_cell_rests Reset true span v c s = tt

    assign_rests : (f : PutForm) (b : Bool) (span : Span) (c v : Value) (s : ActorState) → StepRests s (assign f b span c v s)
    assign_rests f b span c v s = step_rests (cell_at (form.Put f) b span c s) (assign_cell f b span v) s (cell_rests (form.Put f) b span c s) (assign_cell_rests f b span v)

    open_update_rests : (u : RefUpdate) (b : Bool) (span : Span) (v : Value) (vs : List Value) (s : ActorState) → StepRests s (open_update u b span v vs s)
    open_update_rests u false span v vs s = tt
    open_update_rests u true span v vs s =
        step_rests (cell_at (form.Update (update_form u)) true span v s) _ s (cell_rests (form.Update (update_form u)) true span v s) (λ c t. step_rests (look c t) _ t (look_rests c t) (λ x t1 e. e))

    close_own_rests : (o : Option Commute) (span : Span) (w : Value) (c : CellId) (s : ActorState) → StepRests s (close_own o span w c s)
    close_own_rests None span w c s = set_own_rests span w c s
    close_own_rests (Some o) span w c s = λ e. e

    close_update_rests : (span : Span) (v w : Value) (s : ActorState) → StepRests s (close_update span v w s)
    close_update_rests span v w s = step_rests (cell_at (form.Update update_of.Alter) true span v s) (close_own s.commuting span w) s (cell_rests (form.Update update_of.Alter) true span v s) (close_own_rests s.commuting span w)

    open_swap_rests : (b : Bool) (span : Span) (v : Value) (s : ActorState) → StepRests s (open_swap b span v s)
    open_swap_rests true span v s = tt
    open_swap_rests false span v s = step_rests (cell_at (form.Update update_of.Swap) false span v s) open_atom s (cell_rests (form.Update update_of.Swap) false span v s) open_atom_rests

    send_action_rests : (b : Bool) (a : Action) (s : ActorState) → StepRests s (send_action b a s)
    send_action_rests true a s = λ e. e
    send_action_rests false a s = or_hold s.acting
      where
        or_hold : (o : Option InHand) → StepRests s (send_or_hold o a s)
        or_hold None = send_now_rests a s
        or_hold (Some h) = λ e. holds (a ∷ []) s.acting e

    send_rests : (b : Bool) (span : Span) (v : Value) (c : Callee) (vs : List Value) (s : ActorState) → StepRests s (send_to b span v c vs s)
    send_rests b span v c vs s = step_rests (cell_at form.Send b span v s) _ s (cell_rests form.Send b span v s) (λ g t. send_action_rests b (record { agent = g; callee = c; args = vs; span = span }) t)

    -- ---- trees on replies

    res_rests : {A : Type 0} (s : ActorState) (x : StepResult A) → P s.acting → StepRests s x → EndsRested (res x)
    res_rests s (Continue a t) e h = h e
    res_rests s (Break f t) e h = h e
    res_rests s (Redo t) e h = h e
    res_rests s (Await t) e h = tt
    res_rests s Malformed e h = tt

    bind_rests : {A B : Type 0} (x : Completion ActorState A) (go : A → ActorState → Completion ActorState B) → EndsRested x → ((a : A) → GoesRested (go a)) → EndsRested (bind x go)
    bind_rests (Completes a s) go h k = k a s h
    bind_rests (Recurs vs s) go h k = tt
    bind_rests (Faults f s) go h k = h
    bind_rests (Retries s) go h k = h
    bind_rests (Waits s) go h k = tt
    bind_rests (OutOfTurns s) go h k = tt
    bind_rests Invalid go h k = tt

    telling_rests : {A : Type 0} (ask : ActorState → StepResult (Unit {0})) (x : Completion ActorState A) (go : A → ActorState → Completion ActorState Value) → ((s : ActorState) → StepRests s (ask s)) → EndsRested x → ((a : A) → GoesRested (go a)) → EndsRested (telling ask x go)
    telling_rests ask (Completes a s) go w h k = k a s h
    telling_rests ask (Recurs vs s) go w h k = tt
    telling_rests ask (Faults f s) go w h k = bind_rests (res (ask s)) (λ u s1. Faults f s1) (res_rests s (ask s) h (w s)) (λ u s1 e. e)
    telling_rests ask (Retries s) go w h k = h
    telling_rests ask (Waits s) go w h k = tt
    telling_rests ask (OutOfTurns s) go w h k = tt
    telling_rests ask Invalid go w h k = tt

    redone_rests : (f : Applies ActorState) → CalleesRest f → (work : List Commute) (ws : Writes) → GoesRested (redone f work ws)
    redone_rests f h [] ws s e = e
    redone_rests f h (c ∷ cs) ws s e =
        bind_rests (f c.callee (value_or (buffered ws c.cell.number) Nil ∷ c.args) s) (λ v s1. redone f cs (with_write ws c.cell v) s1) (h c.callee (value_or (buffered ws c.cell.number) Nil ∷ c.args) s e)
        (λ v. redone_rests f h cs (with_write ws c.cell v))

    -- ---- two meanings that are one

    -- a state with itself, where that is said of the action in hand
    abbrev rested_link : Link ActorState ActorState
    rested_link = record {
      rel = λ s t. (s ≡ t) × (P s.acting);
      faults = λ s t. P s.acting;
      waits = λ s o. Unit {0};
      out_of_turns = λ s o. Unit {0};
      retries = λ s o. P s.acting;
      invalid = λ b. Unit {0};
      waits_loose = λ s h o. tt;
      out_of_turns_loose = λ s h o. tt;
      retries_loose = λ s h o. h;
      faults_of = λ s t r. r.1;
      out_of_turns_of = λ s t r. tt;
      invalid_both = tt;
      invalid_loose = λ h b. tt;
      ahead = λ t. ⊥;
      ahead_stops = λ t h s. absurd h;
      ahead_invalid = λ t h. absurd h;
    }

    with_itself : {A : Type 0} (x : Completion ActorState A) → EndsRested x → Related rested_link x x
    with_itself (Completes a s) h = (refl, (refl, h))
    with_itself (Recurs vs s) h = (refl, (refl, h))
    with_itself (Faults f s) h = (refl, h)
    with_itself (Retries s) h = h
    with_itself (Waits s) h = tt
    with_itself (OutOfTurns s) h = tt
    with_itself Invalid h = tt

    ends_rested : {A : Type 0} (x y : Completion ActorState A) → Related rested_link x y → EndsRested x
    ends_rested (Completes a s) (Completes b t) h = h.1.1
    ends_rested (Completes a s) _ h = absurd h
    ends_rested (Recurs vs s) (Recurs us t) h = h.1.1
    ends_rested (Recurs vs s) _ h = absurd h
    ends_rested (Faults f s) (Faults g t) h = h.1
    ends_rested (Faults f s) _ h = absurd h
    ends_rested (Retries s) y h = h
    ends_rested (Waits s) y h = tt
    ends_rested (OutOfTurns s) y h = tt
    ends_rested Invalid y h = tt

    along : (go : ActorState → Completion ActorState Value) (s t : ActorState) → rested_link.rel s t → GoesRested go → Related rested_link (go s) (go t)
    along go s t r h = subst (λ u. Related rested_link (go s) (go u)) r.0 (with_itself (go s) (h s r.1))

    -- what validators come to
    to_itself : (f : Applies ActorState) → CalleesRest f → Applied ActorState ActorState rested_link f f
    to_itself f h c vs s t r = along (f c vs) s t r (h c vs)

    validated_rests : (f : Applies ActorState) → CalleesRest f → (o : Option Callee) (span : Span) (v : Value) → GoesRested (validated f o span v)
    validated_rests f h o span v s e = ends_rested (validated f o span v s) (validated f o span v s) (validated_related ActorState ActorState rested_link f f (to_itself f h) o span v s s (refl, e))

    accepted_rests : (f : Applies ActorState) → CalleesRest f → (vs : Validators) (span : Span) (ws : Writes) → GoesRested (accepted f vs span ws)
    accepted_rests f h vs span ws s e = ends_rested (accepted f vs span ws s) (accepted f vs span ws s) (accepted_related ActorState ActorState rested_link f f (to_itself f h) vs span ws s s (refl, e))

    all_accepted_rests : (f : Applies ActorState) → CalleesRest f → (vs : Validators) (span : Span) (xs : Writes) → GoesRested (if_all_accepted vs span f xs)
    all_accepted_rests f h vs span xs s e =
        bind_rests (accepted f vs span (merged (set_writes s.done) xs) s) (λ u s1. Completes xs s1) (accepted_rests f h vs span (merged (set_writes s.done) xs) s e) (λ u s1 e1. e1)

    -- ---- tries

    module _ (validators : Validators) (span : Span) (body : ActorState → Completion ActorState Value) (f : Applies ActorState) (bodies : GoesRested body) (callees : CalleesRest f) where
      module _ (go : Start → ActorState → Completion ActorState Value) (again : (from : Start) → GoesRested (go from)) where
        concludes_rests : (d : Verdict) (v : Value) → GoesRested (concludes d span v go)
        concludes_rests Landed v s e = e
        concludes_rests Outdated v s e = again (Behind v) s e
        concludes_rests Undone v s e = e
        concludes_rests Denied v s e = e

        lands_rest : (v : Value) (ws : Writes) → GoesRested (lands_on span v go ws)
        lands_rest v ws s e = bind_rests (res (commit ws s)) (λ d s1. concludes d span v go s1) (res_rests s (commit ws s) e (commit_rests ws s)) (λ d. concludes_rests d v)

        closing_rests : (cs : List CellId) (v : Value) → GoesRested (closing validators cs span f v go)
        closing_rests [] v s e = telling_rests fail (if_all_accepted validators span f [] s) (λ xs s1. lands_on span v go xs s1) fail_rests (all_accepted_rests f callees validators span [] s e) (λ xs. lands_rest v xs)
        closing_rests (c ∷ cs) v s e =
            bind_rests (res (view s)) (λ ws s1. telling fail (bind (redone f (phase_work s1.done) ws s1) (λ xs s2. if_all_accepted validators span f xs s2)) (λ xs s2. lands_on span v go xs s2)) (res_rests s (view s) e (view_rests s))
            (λ ws s1 e1. telling_rests fail (bind (redone f (phase_work s1.done) ws s1) (λ xs s2. if_all_accepted validators span f xs s2)) (λ xs s2. lands_on span v go xs s2) fail_rests
            (bind_rests (redone f (phase_work s1.done) ws s1) (λ xs s2. if_all_accepted validators span f xs s2) (redone_rests f callees (phase_work s1.done) ws s1 e1) (λ xs. all_accepted_rests f callees validators span xs)) (λ xs. lands_rest v xs))

        attempt_rests : (from : Start) → GoesRested (attempt validators from span body f go)
        attempt_rests Anew s e =
            bind_rests (res (begin s)) (λ u s1. telling fail (body s1) (λ v s2. closing validators (commuted s2.done) span f v go s2)) (res_rests s (begin s) e (begin_rests s))
            (λ u s1 e1. telling_rests fail (body s1) (λ v s2. closing validators (commuted s2.done) span f v go s2) fail_rests (bodies s1 e1) (λ v s2 e2. closing_rests (commuted s2.done) v s2 e2))
        attempt_rests (Behind v) s e = closing_rests (commuted s.done) v s e

      retrying_rests : (x : Completion ActorState Value) (go : ActorState → Completion ActorState Value) → EndsRested x → GoesRested go → EndsRested (retrying x go)
      retrying_rests (Completes v s) go h k = h
      retrying_rests (Recurs vs s) go h k = tt
      retrying_rests (Faults x s) go h k = h
      retrying_rests (Retries s) go h k = k s h
      retrying_rests (Waits s) go h k = tt
      retrying_rests (OutOfTurns s) go h k = tt
      retrying_rests Invalid go h k = tt

      tries_rest : (k : ℕ) (from : Start) → GoesRested (tries validators k span body f from)
      tries_rest zero from s e = e
      tries_rest (suc k) from s e =
          retrying_rests (attempt validators from span body f (tries validators k span body f) s) (tries validators k span body f Anew) (attempt_rests (tries validators k span body f) (tries_rest k) from s e) (tries_rest k Anew)

      joined_rests : (inside : Bool) (k : ℕ) → GoesRested (joined validators inside k span body f)
      joined_rests true k s e = bodies s e
      joined_rests false k s e = tries_rest k Anew s e

    -- ---- updates

    swap_concludes_rests : (d : Verdict) (w : Value) (go : ActorState → Completion ActorState Value) → GoesRested go → GoesRested (swap_concludes d w go)
    swap_concludes_rests Landed w go h s e = e
    swap_concludes_rests Outdated w go h s e = h s e
    swap_concludes_rests Undone w go h s e = tt
    swap_concludes_rests Denied w go h s e = tt

    swaps_rest : (k : ℕ) (span : Span) (c : Value) (f : CellId → Value → ActorState → Completion ActorState Value) → ((x : CellId) (v : Value) → GoesRested (f x v)) → GoesRested (swaps_on k span c f)
    swaps_rest zero span c f h s e = tt
    swaps_rest (suc k) span c f h s e =
        bind_rests (res (open_swap false span c s)) (λ o s1. telling (break_swap o.0) (f o.0.cell o.1 s1) (λ w s2. bind (res (close_swap o.0 w s2)) (λ d s3. swap_concludes d w (swaps_on k span c f) s3)))
        (res_rests s (open_swap false span c s) e (open_swap_rests false span c s))
        (λ o s1 e1. telling_rests (break_swap o.0) (f o.0.cell o.1 s1) (λ w s2. bind (res (close_swap o.0 w s2)) (λ d s3. swap_concludes d w (swaps_on k span c f) s3)) (break_swap_rests o.0) (h o.0.cell o.1 s1 e1)
        (λ w s2 e2. bind_rests (res (close_swap o.0 w s2)) (λ d s3. swap_concludes d w (swaps_on k span c f) s3) (res_rests s2 (close_swap o.0 w s2) e2 (close_swap_rests o.0 w s2))
        (λ d. swap_concludes_rests d w (swaps_on k span c f) (swaps_rest k span c f h))))

    updates_ref_rests : (u : RefUpdate) (inside : Bool) (span : Span) (c : Value) (callee : Callee) (vs : List Value) (f : Applies ActorState) → CalleesRest f → GoesRested (updates_ref u inside span c callee vs f)
    updates_ref_rests u inside span c callee vs f h s e =
        bind_rests (res (open_update u inside span c vs s)) (λ v s1. bind (f callee (v ∷ vs) s1) (λ w s2. res (close_update span c w s2))) (res_rests s (open_update u inside span c vs s) e (open_update_rests u inside span c vs s))
        (λ v s1 e1. bind_rests (f callee (v ∷ vs) s1) (λ w s2. res (close_update span c w s2)) (h callee (v ∷ vs) s1 e1) (λ w s2 e2. res_rests s2 (close_update span c w s2) e2 (close_update_rests span c w s2)))

    allowed_rests : (b : Bool) (x : Completion ActorState Value) → EndsRested x → EndsRested (allowed b x)
    allowed_rests true x h = h
    allowed_rests false x h = tt

    updates_rest : (validators : Validators) (form : UpdateForm) (inside : Bool) (span : Span) (c : Value) (callee : Callee) (vs : List Value) (f : Applies ActorState) → CalleesRest f → GoesRested (updates validators form inside span c callee vs f)
    updates_rest validators update_of.Alter inside span c callee vs f h s e = updates_ref_rests Alters inside span c callee vs f h s e
    updates_rest validators update_of.Commute inside span c callee vs f h s e = updates_ref_rests (Commutes callee) inside span c callee vs f h s e
    updates_rest validators update_of.Swap inside span c callee vs f h s e =
        allowed_rests (not inside) (swaps_on (suc (length s.todo)) span c (λ x v s1. bind (f callee (v ∷ vs) s1) (accepts validators f x span)) s)
        (swaps_rest (suc (length s.todo)) span c (λ x v s1. bind (f callee (v ∷ vs) s1) (accepts validators f x span))
        (λ x v s1 e1. bind_rests (f callee (v ∷ vs) s1) (accepts validators f x span) (h callee (v ∷ vs) s1 e1) (λ w. validated_rests f h (validator_at validators x.number) span w)) s e)

    puts_rest : (validators : Validators) (form : PutForm) (inside : Bool) (span : Span) (c w : Value) (f : Applies ActorState) → CalleesRest f → GoesRested (puts validators form inside span c w f)
    puts_rest validators RefSet inside span c w f h s e = res_rests s (assign RefSet inside span c w s) e (assign_rests RefSet inside span c w s)
    puts_rest validators Reset inside span c w f h s e =
        bind_rests (res (cell_at (form.Put Reset) inside span c s)) (λ a s1. bind (accepts validators f a span w s1) (λ v s2. res (assign_cell Reset inside span v a s2))) (res_rests s (cell_at (form.Put Reset) inside span c s) e (cell_rests (form.Put Reset) inside span c s))
        (λ a s1 e1. bind_rests (accepts validators f a span w s1) (λ v s2. res (assign_cell Reset inside span v a s2)) (validated_rests f h (validator_at validators a.number) span w s1 e1)
        (λ v s2 e2. res_rests s2 (assign_cell Reset inside span v a s2) e2 (assign_cell_rests Reset inside span v a s2)))

    -- ---- calls

    module _ (validators : Validators) (n : ℕ) (functions : List PlainFunction) where
      abbrev calls : ℕ → Bool → ℕ → List Value → ActorState → Completion ActorState Value
      calls d = call_at (λ e. on_replies validators) n functions d

      callees_rest : (f : Applies ActorState) → Applied ActorState ActorState rested_link f f → CalleesRest f
      callees_rest f h c vs s e = ends_rested (f c vs s) (f c vs s) (h c vs s s (refl, e))

      replies_rest : (d : ℕ) → Alike ActorState ActorState rested_link (on_replies validators) (on_replies validators) (calls d) (calls d) n n (λ i. Unit {0}) (pure_callees (known functions))
      replies_rest d = record {
        print = λ inside vs s t m r. along (λ u. (on_replies validators).print inside vs u) s t r (λ u e. res_rests u (print inside vs u) e (print_rests inside vs u));
        look = λ form inside m c s t may i r. along (λ u. (on_replies validators).look form inside m c u) s t r (λ u e. res_rests u (read form inside m.span c u) e (read_rests form inside m.span c u));
        put = λ form inside m c w s t may i a r. along (λ u. (on_replies validators).put form inside m c w (apply (calls d inside) m.span) u) s t r (puts_rest validators form inside m.span c w (apply (calls d inside) m.span) (callees_rest (apply (calls d inside) m.span) (a (λ f. tt))));
        update = λ form inside m c callee vs s t may i p a r. along (λ u. (on_replies validators).update form inside m c callee vs (apply (calls d inside) m.span) u) s t r (updates_rest validators form inside m.span c callee vs (apply (calls d inside) m.span) (callees_rest (apply (calls d inside) m.span) (a (λ f. tt))));
        send = λ inside m c callee vs s t i r. along (λ u. (on_replies validators).send inside m c callee vs u) s t r (λ u e. res_rests u (send_to inside m.span c callee vs u) e (send_rests inside m.span c callee vs u));
        dosync = λ inside m e env s t i p b a r.
            let body : ActorState → Completion ActorState Value = λ u. closed (eval (on_replies validators) (calls d) n true e env u) in
            along (λ u. (on_replies validators).dosync inside m e env body (apply (calls d true) m.span) u) s t r
            (joined_rests validators m.span body (apply (calls d true) m.span) (λ u q. ends_rested (body u) (body u) (b tt u u (refl, q))) (callees_rest (apply (calls d true) m.span) (a (λ f. tt) tt)) inside (suc reruns));
      }

    -- the calls of sound functions
    calls_rest : (functions : List PlainFunction) → SoundFunctions [] functions → (validators : Validators) (n d : ℕ) → CallsAlike ActorState ActorState rested_link (calls validators n functions d) (calls validators n functions d) (λ i. Unit {0}) (λ i f. Unit {0})
    calls_rest functions sound validators n d =
        calls_related ActorState ActorState rested_link (λ x. on_replies validators) (λ x. on_replies validators) n n functions (λ i. Unit {0}) (pure_callees (known functions)) (inl refl) (replies_rest validators n functions) (function_callees functions sound) d

    -- and callees outside of transactions
    pub callee_rests : (functions : List PlainFunction) → SoundFunctions [] functions → (validators : Validators) (n d : ℕ) (span : Span) → CalleesRest (apply (calls validators n functions d false) span)
    callee_rests functions sound validators n d span (CoreOp op) vs s e = res_at (core op vs)
      where
        res_at : (r : Result Value FaultKind) → EndsRested (result_of r span s)
        res_at (Ok v) = e
        res_at (Err k) = e
    callee_rests functions sound validators n d span (Function f) vs s e =
        let r = calls validators n functions d false f vs s in
        ends_rested r r (calls_rest functions sound validators n d false f vs s s tt tt (refl, e))

-- no action is in hand
abbrev pub HasNone : Option InHand → Type 0
HasNone o = o ≡ None

holds_none : (xs : List Action) (o : Option InHand) → HasNone o → HasNone (now_holding xs o)
holds_none xs o e = ap (now_holding xs) e

-- a thread's tree ends with no action in hand
pub thread_rests : (p : ThreadSource) → SoundSource p → (n : ℕ) (todo : List Exchange) → EndsRested HasNone (source p n todo)
thread_rests p sound n todo =
    let d = length p.functions in
    let w = pure_callees (known p.functions) in
    let validators : Validators = validators_of p.cells in
    let k = rested_link HasNone holds_none in
    let c = calls HasNone holds_none validators n p.functions d in
    ends_rested HasNone holds_none (source p n todo) (source p n todo)
    (closed_related ActorState ActorState k (eval (on_replies validators) c n false p.main [] (fresh todo)) (eval (on_replies validators) c n false p.main [] (fresh todo))
    (eval_related ActorState ActorState k (on_replies validators) (on_replies validators) c c n n (λ i. Unit {0}) w (inl refl) (replies_rest HasNone holds_none validators n p.functions d)
    (calls_rest HasNone holds_none p.functions sound.functions validators n d)
    p.main false [] (fresh todo) (fresh todo) (callees_in (known p.functions) p.main in_thread false 0 None sound.main) tt (refl, refl)))

-- ---- actions

-- this action of this agent is in hand, without a fault
abbrev pub IsRun : CellId → Action → Option InHand → Type 0
IsRun g a None = ⊥
IsRun g a (Some h) = (h.agent ≡ g) × (h.action ≡ a) × (h.fault ≡ None)

holds_run : (g : CellId) (a : Action) (xs : List Action) (o : Option InHand) → IsRun g a o → IsRun g a (now_holding xs o)
holds_run g a xs None e = absurd e
holds_run g a xs (Some h) e = e

module _ (functions : List PlainFunction) (sound : SoundFunctions [] functions) (cells : List CellDefinition) (g : CellId) (a : Action) (v : Value) (s : ActorState) (n : ℕ) (todo : List Exchange) where
  callees : CalleesRest (IsRun g a) (applies_on cells functions n a)
  callees = callee_rests (IsRun g a) (holds_run g a) functions sound (validators_of cells) n (length functions) a.span

  -- what an action's callee comes to leaves the action in hand
  pub callee_of_action_stays : EndsRested (IsRun g a) (applies_on cells functions n a a.callee (v ∷ a.args) (taken_at g a v s todo).state)
  callee_of_action_stays = callees a.callee (v ∷ a.args) (taken_at g a v s todo).state (refl, refl, refl)

  -- and so does its agent's validator
  pub action_stays : EndsRested (IsRun g a) (action_source cells functions g a v s n todo)
  action_stays =
      let o = validator_at (validators_of cells) a.agent.number in
      bind_rests (IsRun g a) (holds_run g a) (applies_on cells functions n a a.callee (v ∷ a.args) (taken_at g a v s todo).state) (λ w s1. validated (applies_on cells functions n a) o a.span w s1) callee_of_action_stays
      (λ w. validated_rests (IsRun g a) (holds_run g a) (applies_on cells functions n a) callees o a.span w)
