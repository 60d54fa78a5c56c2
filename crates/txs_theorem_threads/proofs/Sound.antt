-- A sound tree on replies that fit: no answer is invalid.
use Rattle.std.proofs.Common.{ℕ, zero, suc, Bool, true, false, List, [], ◌∷◌, Option, Some, None, Result, Ok, Err, refl, sym, ap, subst, length, arith, ◌≡◌, ◌<◌, ◌∙◌, if◌then◌else◌}
use Rattle.std.proofs.lemmas.Bool.{false≢true}
use Rattle.txs_world_protocol.specs.Ask.{Writes, buffered, with_write, Exchange}
use Rattle.txs_world_protocol.specs.SeenEvent.{SeenEvent}
use Rattle.txs_world_protocol.specs.declared.ask.Ask.{Ask}
use Rattle.txs_world_protocol.specs.declared.ask.Ask.TheVariants as ask
use Rattle.txs_world_protocol.specs.declared.ask.Reply.{Reply}
use Rattle.txs_world_protocol.specs.declared.ask.Reply.TheVariants as reply
use Rattle.txs_frame.specs.Frame.{with_cell, is_commuted, commuted, phase_work, set_writes, sends_of_commit}
use Rattle.txs_frame.specs.declared.frame.Commute.{Commute}
use Rattle.txs_value_cell.specs.Cells.{World, Validators, validators_of, validator_at}
use Rattle.txs_value_cell.specs.Forms.{rule, cell_of}
use Rattle.txs_value_data.specs.Limits.{reruns}
use Rattle.txs_value_cell.specs.declared.action.Action.{Action}
use Rattle.txs_value_cell.specs.declared.cell.CellDefinition.{CellDefinition}
use Rattle.txs_value_data.specs.declared.fault.FaultKind.{FaultKind}
use Rattle.txs_value_data.specs.declared.fault.FaultKind.TheVariants.{SetAfterCommute}
use Rattle.txs_value_data.specs.declared.fault.Span.{Span}
use Rattle.txs_value_cell.specs.declared.form.CellForm.TheVariants as form_of
use Rattle.txs_value_cell.specs.declared.form.LookForm.{LookForm}
use Rattle.txs_value_cell.specs.declared.form.LookForm.TheVariants.{Deref, Ensure}
use Rattle.txs_value_cell.specs.declared.form.PutForm.{PutForm}
use Rattle.txs_value_cell.specs.declared.form.PutForm.TheVariants.{RefSet, Reset}
use Rattle.txs_value_cell.specs.declared.form.Standing.TheVariants.{Outside}
use Rattle.txs_value_cell.specs.declared.form.UpdateForm.{UpdateForm}
use Rattle.txs_value_cell.specs.declared.form.UpdateForm.TheVariants as update_of
use Rattle.txs_value_data.specs.declared.op.Callee.{Callee}
use Rattle.txs_value_data.specs.declared.value.CellId.{CellId}
use Rattle.txs_value_data.specs.declared.value.Value.{Value}
use Rattle.txs_value_data.specs.declared.value.Value.TheVariants.{Nil, Truth, Int, Key, Text, Vector, Cell}
use Rattle.txs_tree_meaning.specs.Known.{known}
use Rattle.txs_tree_meaning.specs.Meaning.{Completion, Completes, Recurs, Faults, Retries, Waits, OutOfTurns, Invalid, bind, Applies, apply, call_at}
use Rattle.txs_tree_meaning.specs.Sound.{MayStand, SoundCallee, SoundFunctions, SoundCells, SoundSource}
use Rattle.txs_tree_meaning.specs.Transaction.{value_or, valued, merged, redone, judged, validated, accepted}
use Rattle.txs_tree_meaning.specs.Tree.{Mark, Tree, PlainFunction, ThreadSource}
use Rattle.txs_code_meaning.specs.ActorState.{ActorState, held_in, landed, Replied, asks, StepResult, Continue, on_step, step_of, heard, value_there, newest_value, just_done, read_point, views, opened, commit_verdict, swap_verdict, send_verdict, begun, begin, fail, buffered_or, look, paired, viewed, view, commit, peek, SwapInHand, open_atom, close_swap, break_swap, reset_atom, sent, send_now, InHand, send_or_hold, set_own, close_own, read_cell, assign_cell, send_action, print}
use Rattle.txs_code_meaning.specs.Opening.{fresh}
use Rattle.txs_theorem_threads.proofs.Accepted.{OfValidator, AllValidators, validator_such, cells_such, judged_carried}
use Rattle.txs_theorem_threads.proofs.Meant.{Suits, Valid, MeantAs, where_inside, Any, Proper, none_some, zone_of, bind_meant, SoundForms, main_meant, sent_meant, valid_deep}
use Rattle.txs_theorem_threads.proofs.Quiet.{carried, Each, each_both, each_phase}
use Rattle.txs_theorem_threads.proofs.Tries.{paired_valued}
use Rattle.txs_theorem_threads.proofs.Worlds.{answered, answered_less, fit_splits, res_step, step_then}
use Rattle.txs_theorem_threads.specs.ActionsBehave.{action_source}
use Rattle.txs_theorem_threads.specs.Behaves.{source, IsMeant, IsProper}
use Rattle.txs_theorem_threads.specs.FollowsAgent.{SoundAction, taken_at}
use Rattle.txs_theorem_threads.specs.Follows.{IsEverMeant}
use Rattle.txs_theorem_threads.specs.OnReplies.{res, telling, Start, Anew, Behind, concludes, lands_on, if_all_accepted, accepts, closing, attempt, retrying, tries, swap_concludes, swaps_on, on_replies}
use Rattle.txs_theorem_threads.specs.RepliesFit.{Out, In, Viewed, WithSwap, ReplyFits, RepliesFit}

-- ---- commutes

-- the callee of a commute suits, with the ref's value and the arguments
abbrev Suited : Suits → Commute → Type 0
Suited P c = P c.callee (suc (length c.args))

-- commutes redone with pure callees that have proper answers
redone_proper : (P : Suits) (f : Applies ActorState) → ((c : Callee) (ws : List Value) → P c (length ws) → Proper ActorState f c ws) → (work : List Commute) → Each (Suited P) work → (ws : Writes)
    → (q : Completion (Unit {0}) Writes) × IsProper q × ((s : ActorState) → redone f work ws s ≡ carried s q)
redone_proper P f h [] all ws = (Completes ws tt, tt, λ s. refl)
redone_proper P f h (c ∷ cs) all ws =
    let args : List Value = value_or (buffered ws c.cell.number) Nil ∷ c.args in
    let one = h c.callee args all.0 in
    go one.answer one.proper one.same (λ v. redone_proper P f h cs all.1 (with_write ws c.cell v))
  where
    go : (q : Completion (Unit {0}) Value) → IsProper q → ((s : ActorState) → f c.callee (value_or (buffered ws c.cell.number) Nil ∷ c.args) s ≡ carried s q)
        → ((v : Value) → (r : Completion (Unit {0}) Writes) × IsProper r × ((s : ActorState) → redone f cs (with_write ws c.cell v) s ≡ carried s r))
        → (r : Completion (Unit {0}) Writes) × IsProper r × ((s : ActorState) → redone f (c ∷ cs) ws s ≡ carried s r)
    go (Completes v u) p same rest = ((rest v).0, (rest v).1, λ s. ap (λ x. bind x (λ w s1. redone f cs (with_write ws c.cell w) s1)) (same s) ∙ (rest v).2 s)
    go (Recurs vs u) p same rest = absurd p
    go (Faults e u) p same rest = (Faults e tt, tt, λ s. ap (λ x. bind x (λ w s1. redone f cs (with_write ws c.cell w) s1)) (same s))
    go (Retries u) p same rest = absurd p
    go (Waits u) p same rest = absurd p
    go (OutOfTurns u) p same rest = (OutOfTurns tt, tt, λ s. ap (λ x. bind x (λ w s1. redone f cs (with_write ws c.cell w) s1)) (same s))
    go Invalid p same rest = absurd p

-- ---- validators

judged_proper : (answer : Value) (span : Span) (v : Value) → IsProper (judged answer span v tt)
judged_proper Nil span v = tt
judged_proper (Truth false) span v = tt
judged_proper (Truth true) span v = tt
judged_proper (Int z) span v = tt
judged_proper (Key bs) span v = tt
judged_proper (Text bs) span v = tt
judged_proper (Vector vs) span v = tt
judged_proper (Cell c) span v = tt

-- what is proper goes on with what is proper
bind_proper : {A B : Type 0} (q : Completion (Unit {0}) A) → IsProper q → (x : ActorState → Completion ActorState A) → ((s : ActorState) → x s ≡ carried s q) → (go : A → ActorState → Completion ActorState B)
    → ((a : A) → (r : Completion (Unit {0}) B) × IsProper r × ((s : ActorState) → go a s ≡ carried s r)) → (r : Completion (Unit {0}) B) × IsProper r × ((s : ActorState) → bind (x s) go ≡ carried s r)
bind_proper (Completes a u) p x same go rest = ((rest a).0, (rest a).1, λ s. ap (λ y. bind y go) (same s) ∙ (rest a).2 s)
bind_proper (Recurs vs u) p x same go rest = absurd p
bind_proper (Faults e u) p x same go rest = (Faults e tt, tt, λ s. ap (λ y. bind y go) (same s))
bind_proper (Retries u) p x same go rest = absurd p
bind_proper (Waits u) p x same go rest = absurd p
bind_proper (OutOfTurns u) p x same go rest = (OutOfTurns tt, tt, λ s. ap (λ y. bind y go) (same s))
bind_proper Invalid p x same go rest = absurd p

-- what gives a proper answer from any state, and leaves the state as it was
abbrev IsMadeSo : (A : Type 0) → (ActorState → Completion ActorState A) → Type 0
IsMadeSo A x = (q : Completion (Unit {0}) A) × IsProper q × ((s : ActorState) → x s ≡ carried s q)

module _ (V : Callee → Type 0) (f : Applies ActorState) (valid : Valid ActorState V f) where
  -- a value that a validator looks at has a proper answer
  validated_proper : (o : Option Callee) → OfValidator V o → (span : Span) (v : Value) → IsMadeSo Value (validated f o span v)
  validated_proper None p span v = (Completes v tt, tt, λ s. refl)
  validated_proper (Some c) p span v =
      let one = valid c v p in
      bind_proper one.answer one.proper (λ s. f c (v ∷ []) s) one.same (λ answer s1. judged answer span v s1) (λ answer. (judged answer span v tt, judged_proper answer span v, λ s. (judged_carried s answer span v).0))

  -- so have all
  accepted_proper : (vs : Validators) → AllValidators V vs → (span : Span) (ws : Writes) → IsMadeSo (Unit {0}) (accepted f vs span ws)
  accepted_proper vs all span [] = (Completes tt tt, tt, λ s. refl)
  accepted_proper vs all span (w ∷ ws) =
      let o = validator_at vs w.0.number in
      let one = validated_proper o (validator_such V vs w.0.number all) span w.1 in
      bind_proper one.0 one.1 (λ s. validated f o span w.1 s) one.2 (λ v s1. accepted f vs span ws s1) (λ v. accepted_proper vs all span ws)

  -- what a callee gives, where the validator accepts it
  made_proper : (o : Option Callee) → OfValidator V o → (span : Span) (c : Callee) (args : List Value) → Proper ActorState f c args → IsMadeSo Value (λ s. bind (f c args s) (λ v s1. validated f o span v s1))
  made_proper o p span c args one = bind_proper one.answer one.proper (λ s. f c args s) one.same (λ v s1. validated f o span v s1) (λ v. validated_proper o p span v)

module _ (cells : List CellDefinition) (V : Callee → Type 0) (checks : AllValidators V (validators_of cells)) where
  abbrev validators : Validators
  validators = validators_of cells

  -- The exchanges to come fit some events: outside a transaction, or in a try on some world, and then the callees of its commutes suit.
  abbrev Holds : Suits → Bool → ActorState → Type 0
  Holds P true s = (R : World) × (es : List SeenEvent) × RepliesFit cells (In R) s.todo es × Each (Suited P) s.done.commutes
  Holds P false s = (es : List SeenEvent) × RepliesFit cells Out s.todo es

  module _ (P : Suits) where
    abbrev H : Bool → ActorState → Type 0
    H = Holds P

    -- a form on a cell that it takes
    on_cell_meant : (inside : Bool) (rc : Result CellId FaultKind) (span : Span) (go : CellId → ActorState → StepResult Value) (s : ActorState) → H inside s → ((c : CellId) → MeantAs H inside None Any (res (go c s))) → MeantAs H inside None Any (res (on_step (step_of rc span s) go))
    on_cell_meant inside (Ok c) span go s h k = k c
    on_cell_meant inside (Err e) span go s h k = where_inside inside (H inside s) h

    -- a proper answer, and what follows it
    answer_then : (inside : Bool) (q : Completion (Unit {0}) Value) → IsProper q → (go : Value → ActorState → Completion ActorState Value) (s : ActorState) → H inside s → ((w : Value) → MeantAs H inside None Any (go w s)) → MeantAs H inside None Any (bind (carried s q) go)
    answer_then inside (Completes w u) z go s h k = k w
    answer_then inside (Recurs us u) z go s h k = absurd z
    answer_then inside (Faults e u) z go s h k = where_inside inside (H inside s) h
    answer_then inside (Retries u) z go s h k = absurd z
    answer_then inside (Waits u) z go s h k = absurd z
    answer_then inside (OutOfTurns u) z go s h k = tt
    answer_then inside Invalid z go s h k = absurd z

    -- a pure callee, and what follows it
    proper_meant : (inside : Bool) (f : Applies ActorState) (c : Callee) (vs : List Value) → Proper ActorState f c vs → (go : Value → ActorState → Completion ActorState Value) (s : ActorState) → H inside s → ((w : Value) → MeantAs H inside None Any (go w s)) → MeantAs H inside None Any (bind (f c vs s) go)
    proper_meant inside f c vs p go s h k = subst (λ x. MeantAs H inside None Any (bind x go)) (sym (p.same s)) (answer_then inside p.answer p.proper go s h k)

    -- ---- in a transaction

    looked_meant : (R : World) (es : List SeenEvent) (c : CellId) (s : ActorState) → Each (Suited P) s.done.commutes → (r : Reply) (xs : List Exchange) → ReplyFits cells (In R) (ask.Look c s.at) r (λ ph1 es1. RepliesFit cells ph1 xs es1) es
        → MeantAs H true None Any (res (heard value_there (Replied r (record s { todo = xs }))))
    looked_meant R es c s all (reply.Is v) xs m = (tt, (R, es, m.1, all))
    looked_meant R [] c s all (reply.Retry d) xs m = absurd m
    looked_meant R (e ∷ es) c s all (reply.Retry d) xs m = (refl, (es, m.2))
    looked_meant R es c s all _ xs m = absurd m

    look_meant : (c : CellId) (s : ActorState) → H true s → MeantAs H true None Any (res (look c s))
    unfolding look
    look_meant c s h = go (buffered s.done.values c.number)
      where
        go : (o : Option Value) → MeantAs H true None Any (res (buffered_or o s (heard value_there (asks (ask.Look c s.at) s))))
        go (Some v) = (tt, h)
        go None = answered cells (RepliesFit cells) (fit_splits cells) (In h.0) h.1 (ask.Look c s.at) s (λ x. MeantAs H true None Any (res (heard value_there x))) h.2 tt (λ r xs m. looked_meant h.0 h.1 c s h.3 r xs m)

    ensure_meant : (c : CellId) (s : ActorState) → H true s → MeantAs H true None Any (res (read_cell Ensure true c s))
    ensure_meant c s h =
        subst (λ x. MeantAs H true None Any x) (sym (res_step (look c s) _))
        (bind_meant ActorState H true None Any Any (res (look c s)) _ (look_meant c s h) (λ v s1 p g. (tt, g)))

    set_meant : (span : Span) (v : Value) (c : CellId) (s : ActorState) → H true s → MeantAs H true None Any (res (set_own span v c s))
    set_meant span v c s h = test (is_commuted s.done c.number)
      where
        test : (b : Bool) → MeantAs H true None Any (res (on_step (step_of (if b then Err SetAfterCommute else Ok (record s.done { values = with_write s.done.values c v; sets = with_cell s.done.sets c })) span s) (λ w s1. Continue v (record s1 { done = w }))))
        test true = h
        test false = (tt, h)

    close_meant : (o : Option Commute) (span : Span) (w : Value) (c : CellId) (s : ActorState) → ((k : Commute) → o ≡ Some k → Suited P k) → H true s → MeantAs H true None Any (res (close_own o span w c s))
    close_meant None span w c s k h = set_meant span w c s h
    close_meant (Some o) span w c s k h = (tt, (h.0, h.1, h.2, each_both (Suited P) s.done.commutes (record { cell = c; callee = o.callee; args = o.args } ∷ []) h.3 (k o refl, tt)))

    -- `alter` and `commute`, with what is kept of the form while its callee is applied
    ref_meant : (rc : Result CellId FaultKind) (span : Span) (kept : CellId → Option Commute) → ((c : CellId) (k : Commute) → kept c ≡ Some k → Suited P k) → (callee : Callee) (vs : List Value) (f : Applies ActorState) → ((v : Value) → Proper ActorState f callee (v ∷ vs)) → (s : ActorState) → H true s →
        MeantAs H true None Any (bind (res (on_step (step_of rc span s) (λ c s1. on_step (look c s1) (λ x s2. Continue x (record s2 { commuting = kept c }))))) (λ v s1. bind (f callee (v ∷ vs) s1) (λ w s2. res (on_step (step_of rc span s2) (close_own s2.commuting span w)))))
    ref_meant (Err e) span kept suits callee vs f p s h = h
    ref_meant (Ok c) span kept suits callee vs f p s h =
        let go : Value → ActorState → Completion ActorState Value = λ v s1. bind (f callee (v ∷ vs) s1) (λ w s2. res (close_own s2.commuting span w c s2)) in
        subst (λ x. MeantAs H true None Any x) (sym (step_then (look c s) (λ x s2. record s2 { commuting = kept c }) go))
        (bind_meant ActorState H true None Any Any (res (look c s)) (λ v s1. go v (record s1 { commuting = kept c })) (look_meant c s h)
        (λ v s1 q g. proper_meant true f callee (v ∷ vs) (p v) (λ w s2. res (close_own s2.commuting span w c s2)) (record s1 { commuting = kept c }) g
        (λ w. close_meant (kept c) span w c (record s1 { commuting = kept c }) (suits c) g)))

    -- ---- outside transactions

    peeked_meant : (es : List SeenEvent) (c : CellId) (s : ActorState) (r : Reply) (xs : List Exchange) → ReplyFits cells Out (ask.Peek c) r (λ ph1 es1. RepliesFit cells ph1 xs es1) es → MeantAs H false None Any (res (heard newest_value (Replied r (record s { todo = xs }))))
    peeked_meant [] c s (reply.Is v) xs m = absurd m
    peeked_meant (e ∷ es) c s (reply.Is v) xs m = (tt, (es, m.2))
    peeked_meant es c s _ xs m = absurd m

    peek_meant : (c : CellId) (s : ActorState) → H false s → MeantAs H false None Any (res (peek c s))
    unfolding peek
    peek_meant c s h = answered cells (RepliesFit cells) (fit_splits cells) Out h.0 (ask.Peek c) s (λ x. MeantAs H false None Any (res (heard newest_value x))) h.1 tt (λ r xs m. peeked_meant h.0 c s r xs m)

    was_reset : (es : List SeenEvent) (c : CellId) (v : Value) (s : ActorState) (r : Reply) (xs : List Exchange) → ReplyFits cells Out (ask.CloseAt c None v) r (λ ph1 es1. RepliesFit cells ph1 xs es1) es
        → MeantAs H false None Any (res (on_step (heard just_done (Replied r (record s { todo = xs }))) (λ u s1. Continue v s1)))
    was_reset [] c v s reply.Done xs m = absurd m
    was_reset (e ∷ es) c v s reply.Done xs m = (tt, (es, m.2))
    was_reset es c v s _ xs m = absurd m

    reset_meant : (c : CellId) (v : Value) (s : ActorState) → H false s → MeantAs H false None Any (res (reset_atom c v s))
    unfolding reset_atom
    reset_meant c v s h =
        answered cells (RepliesFit cells) (fit_splits cells) Out h.0 (ask.CloseAt c None v) s (λ x. MeantAs H false None Any (res (on_step (heard just_done x) (λ u s1. Continue v s1)))) h.1 tt (λ r xs m. was_reset h.0 c v s r xs m)

    -- `reset!`, where the atom's validator looks at the value first
    valid_reset : (f : Applies ActorState) → Valid ActorState V f → (rc : Result CellId FaultKind) (span : Span) (v : Value) (s : ActorState) → H false s → MeantAs H false None Any (bind (res (step_of rc span s)) (λ a s1. bind (accepts validators f a span v s1) (λ w s2. res (assign_cell Reset false span w a s2))))
    valid_reset f valid (Err e) span v s h = tt
    valid_reset f valid (Ok a) span v s h =
        let go : Value → ActorState → Completion ActorState Value = λ w s2. res (assign_cell Reset false span w a s2) in
        let one = validated_proper V f valid (validator_at validators a.number) (validator_such V validators a.number checks) span v in
        subst (λ x. MeantAs H false None Any (bind x go)) (sym (one.2 s)) (answer_then false one.0 one.1 go s h (λ w. reset_meant a w s h))

    was_sent : (es : List SeenEvent) (a : Action) (s : ActorState) (r : Reply) (xs : List Exchange) → ReplyFits cells Out (ask.Send a) r (λ ph1 es1. RepliesFit cells ph1 xs es1) es
        → MeantAs H false None Any (res (on_step (heard send_verdict (Replied r (record s { todo = xs }))) (sent a)))
    was_sent [] a s reply.Done xs m = absurd m
    was_sent (e ∷ es) a s reply.Done xs m = (tt, (es, m.2))
    was_sent es a s (reply.AgentIsFailed g) xs m = tt
    was_sent es a s _ xs m = absurd m

    send_meant : (a : Action) (s : ActorState) → H false s → MeantAs H false None Any (res (send_now a s))
    unfolding send_now
    send_meant a s h =
        answered cells (RepliesFit cells) (fit_splits cells) Out h.0 (ask.Send a) s (λ x. MeantAs H false None Any (res (on_step (heard send_verdict x) (sent a)))) h.1 tt (λ r xs m. was_sent h.0 a s r xs m)

    -- ---- swaps

    module _ (span : Span) (v : Value) (made : CellId → Value → ActorState → Completion ActorState Value) (p : (a : CellId) (x : Value) → IsMadeSo Value (made a x)) where
      -- again from the open, with fewer exchanges than times left
      abbrev Swaps : ℕ → Type 0
      Swaps k = (s : ActorState) → length s.todo < k → H false s → MeantAs H false None Any (swaps_on k span v made s)

      closed_swap : (k : ℕ) → Swaps k → (c : CellId) (W : World) (es : List SeenEvent) (w : SwapInHand) (x : Value) (s : ActorState) → length s.todo < k → (r : Reply) (xs : List Exchange) → length xs < length s.todo →
          ReplyFits cells (WithSwap c W) (ask.CloseAt w.cell (Some w.at) x) r (λ ph1 es1. RepliesFit cells ph1 xs es1) es →
          MeantAs H false None Any (bind (res (heard swap_verdict (Replied r (record s { todo = xs })))) (λ d s3. swap_concludes d x (swaps_on k span v made) s3))
      closed_swap k next c W [] w x s l reply.Done xs m g = absurd g
      closed_swap k next c W (e ∷ es) w x s l reply.Done xs m g = (tt, (es, g.2))
      closed_swap k next c W es w x s l (reply.Changed d) xs m g = next (record s { todo = xs }) (omega (arith, l, m)) (es, g)
      closed_swap k next c W es w x s l _ xs m g = absurd g

      closes_swap : (k : ℕ) → Swaps k → (c : CellId) (W : World) (es : List SeenEvent) (w : SwapInHand) (x : Value) (s : ActorState) → length s.todo < k → RepliesFit cells (WithSwap c W) s.todo es →
          MeantAs H false None Any (bind (res (close_swap w x s)) (λ d s3. swap_concludes d x (swaps_on k span v made) s3))
      unfolding close_swap
      closes_swap k next c W es w x s l h =
          answered_less cells (RepliesFit cells) (fit_splits cells) (WithSwap c W) es (ask.CloseAt w.cell (Some w.at) x) s (λ y. MeantAs H false None Any (bind (res (heard swap_verdict y)) (λ d s3. swap_concludes d x (swaps_on k span v made) s3))) h tt
          (λ r xs m g. closed_swap k next c W es w x s l r xs m g)

      broken_swap : (c : CellId) (W : World) (es : List SeenEvent) (w : SwapInHand) (s : ActorState) → RepliesFit cells (WithSwap c W) s.todo es → (go : Unit {0} → ActorState → Completion ActorState Value) → ((s1 : ActorState) → MeantAs H false None Any (go tt s1)) → MeantAs H false None Any (bind (res (break_swap w s)) go)
      unfolding break_swap
      broken_swap c W es w s h go k =
          answered cells (RepliesFit cells) (fit_splits cells) (WithSwap c W) es (ask.Broke w.cell w.at) s (λ y. MeantAs H false None Any (bind (res (heard just_done y)) go)) h tt (λ r xs g. was_broken r xs g)
        where
          was_broken : (r : Reply) (xs : List Exchange) → ReplyFits cells (WithSwap c W) (ask.Broke w.cell w.at) r (λ ph1 es1. RepliesFit cells ph1 xs es1) es → MeantAs H false None Any (bind (res (heard just_done (Replied r (record s { todo = xs })))) go)
          was_broken reply.Done xs g = k (record s { todo = xs })
          was_broken _ xs g = absurd g

      -- the callee with the swap in hand
      in_swap : (k : ℕ) → Swaps k → (c : CellId) (W : World) (es : List SeenEvent) (w : SwapInHand) (x : Value) (s : ActorState) → length s.todo < k → RepliesFit cells (WithSwap c W) s.todo es →
          MeantAs H false None Any (telling (break_swap w) (made w.cell x s) (λ y s2. bind (res (close_swap w y s2)) (λ d s3. swap_concludes d y (swaps_on k span v made) s3)))
      in_swap k next c W es w x s l h = subst (λ z. MeantAs H false None Any (telling (break_swap w) z after)) (sym ((p w.cell x).2 s)) (applied (p w.cell x).0 (p w.cell x).1)
        where
          after : Value → ActorState → Completion ActorState Value
          after y s2 = bind (res (close_swap w y s2)) (λ d s3. swap_concludes d y (swaps_on k span v made) s3)

          applied : (q : Completion (Unit {0}) Value) → IsProper q → MeantAs H false None Any (telling (break_swap w) (carried s q) after)
          applied (Completes y u) z = closes_swap k next c W es w y s l h
          applied (Recurs us u) z = absurd z
          applied (Faults e u) z = broken_swap c W es w s h (λ u1 s1. Faults e s1) (λ s1. tt)
          applied (Retries u) z = absurd z
          applied (Waits u) z = absurd z
          applied (OutOfTurns u) z = tt
          applied Invalid z = absurd z

      abbrev opens_then : ℕ → (SwapInHand × Value) → ActorState → Completion ActorState Value
      opens_then k o s1 = telling (break_swap o.0) (made o.0.cell o.1 s1) (λ w s2. bind (res (close_swap o.0 w s2)) (λ d s3. swap_concludes d w (swaps_on k span v made) s3))

      opened_swap : (k : ℕ) → Swaps k → (c : CellId) (es : List SeenEvent) (s : ActorState) → length s.todo < suc k → (r : Reply) (xs : List Exchange) → length xs < length s.todo → ReplyFits cells Out (ask.OpenAt c) r (λ ph1 es1. RepliesFit cells ph1 xs es1) es →
          MeantAs H false None Any (bind (res (on_step (heard opened (Replied r (record s { todo = xs }))) (λ x s1. Continue (record { cell = c; at = x.0 }, x.1) s1))) (opens_then k))
      opened_swap k next c es s l (reply.Opened q x) xs m g = in_swap k next c g.0 es (record { cell = c; at = q }) x (record s { todo = xs }) (omega (arith, l, m)) g.2
      opened_swap k next c es s l _ xs m g = absurd g

      opens_swap : (k : ℕ) → Swaps k → (rc : Result CellId FaultKind) (s : ActorState) → length s.todo < suc k → H false s → MeantAs H false None Any (bind (res (on_step (step_of rc span s) open_atom)) (opens_then k))
      unfolding open_atom
      opens_swap k next (Err e) s l h = tt
      opens_swap k next (Ok c) s l h =
          answered_less cells (RepliesFit cells) (fit_splits cells) Out h.0 (ask.OpenAt c) s (λ y. MeantAs H false None Any (bind (res (on_step (heard opened y) (λ x s1. Continue (record { cell = c; at = x.0 }, x.1) s1))) (opens_then k))) h.1 tt
          (λ r xs m g. opened_swap k next c h.0 s l r xs m g)

      swaps_meant : (k : ℕ) → Swaps k
      swaps_meant zero s l h = absurd (omega (arith, l))
      swaps_meant (suc k) s l h = opens_swap k (swaps_meant k) (cell_of (rule (form_of.Update update_of.Swap)) false v) s l h

  -- ---- transactions

  module _ (P O : Suits) (span : Span) (body : ActorState → Completion ActorState Value) (f : Applies ActorState) (bodies : (s : ActorState) → Holds O true s → MeantAs (Holds O) true None Any (body s)) (callees : (c : Callee) (ws : List Value) → O c (length ws) → Proper ActorState f c ws) (valid : Valid ActorState V f) where
    -- what one try gives: as outside, but that it may have to run again
    abbrev TryMeant : Completion ActorState Value → Type 0
    TryMeant (Completes a s) = Holds P false s
    TryMeant (Recurs vs s) = ⊥
    TryMeant (Faults e s) = Unit {0}
    TryMeant (Retries s) = Holds P false s
    TryMeant (Waits s) = Unit {0}
    TryMeant (OutOfTurns s) = Unit {0}
    TryMeant Invalid = ⊥

    as_try : (x : Completion ActorState Value) → MeantAs (Holds P) false None Any x → TryMeant x
    as_try (Completes a s) h = h.1
    as_try (Recurs vs s) h = absurd (none_some (length vs) h.0)
    as_try (Faults e s) h = tt
    as_try (Retries s) h = absurd (false≢true h.0)
    as_try (Waits s) h = tt
    as_try (OutOfTurns s) h = tt
    as_try Invalid h = absurd h

    -- what holds where a try starts
    abbrev Ready : Start → ActorState → Type 0
    Ready Anew s = Holds P false s
    Ready (Behind v) s = Holds O true s

    -- the tries that follow
    abbrev GoMeant : (Start → ActorState → Completion ActorState Value) → Type 0
    GoMeant go = (from : Start) (s : ActorState) → Ready from s → MeantAs (Holds P) false None Any (go from s)

    -- the ask of the commit
    abbrev committing : ActorState → Writes → Ask
    committing s ws = ask.Commit s.at (set_writes s.done) s.done.ensures s.view ws (sends_of_commit (held_in s.acting) s.done.sends)

    module _ (go : Start → ActorState → Completion ActorState Value) (next : GoMeant go) where
      landed_in : (R : World) (es : List SeenEvent) (v : Value) (s : ActorState) (ws : Writes) (r : Reply) (xs : List Exchange) → ReplyFits cells (In R) (committing s ws) r (λ ph1 es1. RepliesFit cells ph1 xs es1) es
          → TryMeant (bind (res (on_step (heard commit_verdict (Replied r (record s { todo = xs }))) landed)) (λ d s1. concludes d span v go s1))
      landed_in R [] v s ws reply.Done xs m = absurd m
      landed_in R (e ∷ es) v s ws reply.Done xs m = (es, m.2)
      landed_in R [] v s ws (reply.Retry c) xs m = absurd m
      landed_in R (e ∷ es) v s ws (reply.Retry c) xs m = (es, m.2)
      landed_in R es v s ws (reply.AgentIsFailed g) xs m = tt
      landed_in R es v s ws _ xs m = absurd m

      -- the commit of a try without a commute phase
      lands_in : (R : World) (es : List SeenEvent) (v : Value) (s : ActorState) (ws : Writes) → RepliesFit cells (In R) s.todo es → TryMeant (lands_on span v go ws s)
      unfolding commit
      lands_in R es v s ws h =
          answered cells (RepliesFit cells) (fit_splits cells) (In R) es (committing s ws) s (λ x. TryMeant (bind (res (on_step (heard commit_verdict x) landed)) (λ d s1. concludes d span v go s1))) h tt (λ r xs m. landed_in R es v s ws r xs m)

      landed_viewed : (R Q : World) (es : List SeenEvent) (v : Value) (s : ActorState) → Each (Suited O) s.done.commutes → (ws : Writes) (r : Reply) (xs : List Exchange) → ReplyFits cells (Viewed R Q) (committing s ws) r (λ ph1 es1. RepliesFit cells ph1 xs es1) es
          → TryMeant (bind (res (on_step (heard commit_verdict (Replied r (record s { todo = xs }))) landed)) (λ d s1. concludes d span v go s1))
      landed_viewed R Q [] v s all ws reply.Done xs m = absurd m
      landed_viewed R Q (e ∷ es) v s all ws reply.Done xs m = (es, m.2)
      landed_viewed R Q [] v s all ws (reply.Retry c) xs m = absurd m
      landed_viewed R Q (e ∷ es) v s all ws (reply.Retry c) xs m = (es, m.2)
      landed_viewed R Q [] v s all ws (reply.Changed c) xs m = absurd m
      landed_viewed R Q (e ∷ es) v s all ws (reply.Changed c) xs m = as_try (go (Behind v) (record s { todo = xs })) (next (Behind v) (record s { todo = xs }) (R, es, m.2, all))
      landed_viewed R Q es v s all ws (reply.AgentIsFailed g) xs m = tt
      landed_viewed R Q es v s all ws _ xs m = absurd m

      -- the commit of a commute phase
      lands_viewed : (R Q : World) (es : List SeenEvent) (v : Value) (s : ActorState) → Each (Suited O) s.done.commutes → (ws : Writes) → RepliesFit cells (Viewed R Q) s.todo es → TryMeant (lands_on span v go ws s)
      unfolding commit
      lands_viewed R Q es v s all ws h =
          answered cells (RepliesFit cells) (fit_splits cells) (Viewed R Q) es (committing s ws) s (λ x. TryMeant (bind (res (on_step (heard commit_verdict x) landed)) (λ d s1. concludes d span v go s1))) h tt (λ r xs m. landed_viewed R Q es v s all ws r xs m)

      -- a fault is told, and goes on
      fails_in : (R : World) (es : List SeenEvent) (s : ActorState) → RepliesFit cells (In R) s.todo es → (k : Unit {0} → ActorState → Completion ActorState Value) → ((s1 : ActorState) → TryMeant (k tt s1)) → TryMeant (bind (res (fail s)) k)
      unfolding fail
      fails_in R es s h k z = answered cells (RepliesFit cells) (fit_splits cells) (In R) es (ask.Fail s.at s.view) s (λ x. TryMeant (bind (res (heard just_done x)) k)) h tt (λ r xs m. told r xs m)
        where
          told : (r : Reply) (xs : List Exchange) → ReplyFits cells (In R) (ask.Fail s.at s.view) r (λ ph1 es1. RepliesFit cells ph1 xs es1) es → TryMeant (bind (res (heard just_done (Replied r (record s { todo = xs })))) k)
          told reply.Done xs m = z (record s { todo = xs })
          told _ xs m = absurd m

      fails_viewed : (R Q : World) (es : List SeenEvent) (s : ActorState) → RepliesFit cells (Viewed R Q) s.todo es → (k : Unit {0} → ActorState → Completion ActorState Value) → ((s1 : ActorState) → TryMeant (k tt s1)) → TryMeant (bind (res (fail s)) k)
      unfolding fail
      fails_viewed R Q es s h k z = answered cells (RepliesFit cells) (fit_splits cells) (Viewed R Q) es (ask.Fail s.at s.view) s (λ x. TryMeant (bind (res (heard just_done x)) k)) h tt (λ r xs m. told r xs m)
        where
          told : (r : Reply) (xs : List Exchange) → ReplyFits cells (Viewed R Q) (ask.Fail s.at s.view) r (λ ph1 es1. RepliesFit cells ph1 xs es1) es → TryMeant (bind (res (heard just_done (Replied r (record s { todo = xs })))) k)
          told reply.Done xs m = z (record s { todo = xs })
          told _ xs m = absurd m

      -- what validators make of the writes
      all_accepted_made : (s : ActorState) (xs : Writes) → (q : Completion (Unit {0}) Writes) × IsProper q × (if_all_accepted validators span f xs s ≡ carried s q)
      all_accepted_made s xs =
          let one = accepted_proper V f valid validators checks span (merged (set_writes s.done) xs) in
          let both = bind_proper one.0 one.1 (accepted f validators span (merged (set_writes s.done) xs)) one.2 (λ u s1. Completes xs s1) (λ u. (Completes xs tt, tt, λ s1. refl)) in
          (both.0, both.1, both.2 s)

      -- and of what commutes made
      phase_made : (s : ActorState) (q : Completion (Unit {0}) Writes) → IsProper q → (r : Completion (Unit {0}) Writes) × IsProper r × (bind (carried s q) (λ xs s1. if_all_accepted validators span f xs s1) ≡ carried s r)
      phase_made s (Completes xs u) z = all_accepted_made s xs
      phase_made s (Recurs us u) z = absurd z
      phase_made s (Faults e u) z = (Faults e tt, tt, refl)
      phase_made s (Retries u) z = absurd z
      phase_made s (Waits u) z = absurd z
      phase_made s (OutOfTurns u) z = (OutOfTurns tt, tt, refl)
      phase_made s Invalid z = absurd z

      -- the commutes of the phase, the validators, and the commit
      applies_viewed : (R Q : World) (es : List SeenEvent) (v : Value) (ws : Writes) (s : ActorState) → Each (Suited O) s.done.commutes → RepliesFit cells (Viewed R Q) s.todo es → TryMeant (telling fail (bind (redone f (phase_work s.done) ws s) (λ xs s1. if_all_accepted validators span f xs s1)) (λ xs s2. lands_on span v go xs s2))
      applies_viewed R Q es v ws s all h =
          let work = redone_proper O f callees (phase_work s.done) (each_phase (Suited O) s.done all) ws in
          let all_made = phase_made s work.0 work.1 in
          subst (λ x. TryMeant (telling fail (bind x (λ xs s1. if_all_accepted validators span f xs s1)) (λ xs s2. lands_on span v go xs s2))) (sym (work.2 s))
          (subst (λ x. TryMeant (telling fail x (λ xs s2. lands_on span v go xs s2))) (sym all_made.2) (applied all_made.0 all_made.1))
        where
          applied : (q : Completion (Unit {0}) Writes) → IsProper q → TryMeant (telling fail (carried s q) (λ xs s2. lands_on span v go xs s2))
          applied (Completes xs u) z = lands_viewed R Q es v s all xs h
          applied (Recurs us u) z = absurd z
          applied (Faults e u) z = fails_viewed R Q es s h (λ u1 s1. Faults e s1) (λ s1. tt)
          applied (Retries u) z = absurd z
          applied (Waits u) z = absurd z
          applied (OutOfTurns u) z = tt
          applied Invalid z = absurd z

      abbrev phase_then : Value → Writes → ActorState → Completion ActorState Value
      phase_then v ws s1 = telling fail (bind (redone f (phase_work s1.done) ws s1) (λ xs s2. if_all_accepted validators span f xs s2)) (λ xs s2. lands_on span v go xs s2)

      viewed_meant : (R : World) (es : List SeenEvent) (v : Value) (cs : List CellId) (s : ActorState) → Each (Suited O) s.done.commutes → (r : Reply) (xs : List Exchange) → ReplyFits cells (In R) (ask.View cs) r (λ ph1 es1. RepliesFit cells ph1 xs es1) es
          → TryMeant (bind (res (on_step (heard views (Replied r (record s { todo = xs }))) (λ x s1. viewed x.0 (paired cs x.1) s1))) (phase_then v))
      viewed_meant R es v cs s all (reply.Views q vs) xs m =
          subst (λ o. TryMeant (bind (res (viewed q o (record s { todo = xs }))) (phase_then v))) (sym (paired_valued m.0 cs vs m.1))
          (applies_viewed R m.0 es v (valued cs m.0) (record s { todo = xs; view = q }) all m.2)
      viewed_meant R es v cs s all _ xs m = absurd m

      view_meant : (v : Value) (s : ActorState) → Holds O true s → TryMeant (bind (res (view s)) (phase_then v))
      unfolding view
      view_meant v s h =
          answered cells (RepliesFit cells) (fit_splits cells) (In h.0) h.1 (ask.View (commuted s.done)) s (λ x. TryMeant (bind (res (on_step (heard views x) (λ y s1. viewed y.0 (paired (commuted s.done) y.1) s1))) (phase_then v))) h.2 tt
          (λ r xs m. viewed_meant h.0 h.1 v (commuted s.done) s h.3 r xs m)

      -- the validators and the commit, where nothing was commuted
      plain_meant : (R : World) (es : List SeenEvent) (v : Value) (s : ActorState) → RepliesFit cells (In R) s.todo es → TryMeant (telling fail (if_all_accepted validators span f [] s) (λ xs s1. lands_on span v go xs s1))
      plain_meant R es v s h = let all_made = all_accepted_made s [] in subst (λ x. TryMeant (telling fail x (λ xs s1. lands_on span v go xs s1))) (sym all_made.2) (applied all_made.0 all_made.1)
        where
          applied : (q : Completion (Unit {0}) Writes) → IsProper q → TryMeant (telling fail (carried s q) (λ xs s2. lands_on span v go xs s2))
          applied (Completes xs u) z = lands_in R es v s xs h
          applied (Recurs us u) z = absurd z
          applied (Faults e u) z = fails_in R es s h (λ u1 s1. Faults e s1) (λ s1. tt)
          applied (Retries u) z = absurd z
          applied (Waits u) z = absurd z
          applied (OutOfTurns u) z = tt
          applied Invalid z = absurd z

      -- a body's end
      closing_meant : (cs : List CellId) (v : Value) (s : ActorState) → Holds O true s → TryMeant (closing validators cs span f v go s)
      closing_meant [] v s h = plain_meant h.0 h.1 v s h.2
      closing_meant (c ∷ cs) v s h = view_meant v s h

      body_meant : (x : Completion ActorState Value) → MeantAs (Holds O) true None Any x → TryMeant (telling fail x (λ v s2. closing validators (commuted s2.done) span f v go s2))
      body_meant (Completes v s) h = closing_meant (commuted s.done) v s h.1
      body_meant (Recurs vs s) h = absurd (none_some (length vs) h.0)
      body_meant (Faults e s) h = fails_in h.0 h.1 s h.2 (λ u s1. Faults e s1) (λ s1. tt)
      body_meant (Retries s) h = h.1
      body_meant (Waits s) h = tt
      body_meant (OutOfTurns s) h = tt
      body_meant Invalid h = absurd h

      abbrev try_then : Unit {0} → ActorState → Completion ActorState Value
      try_then u s1 = telling fail (body s1) (λ v s2. closing validators (commuted s2.done) span f v go s2)

      begun_meant : (es : List SeenEvent) (s : ActorState) (r : Reply) (xs : List Exchange) → ReplyFits cells Out ask.Begin r (λ ph1 es1. RepliesFit cells ph1 xs es1) es → TryMeant (bind (res (on_step (heard read_point (Replied r (record s { todo = xs }))) begun)) try_then)
      begun_meant es s (reply.At p) xs m =
          let s1 : ActorState = record { todo = xs; printed = s.printed; at = p; view = p; done = record { values = []; sets = []; ensures = []; commutes = []; sends = [] }; commuting = None; acting = s.acting; accepted = s.accepted; wants = s.wants } in
          body_meant (body s1) (bodies s1 (m.0, es, m.1, tt))
      begun_meant es s _ xs m = absurd m

      attempt_meant : (from : Start) (s : ActorState) → Ready from s → TryMeant (attempt validators from span body f go s)
      unfolding begin
      attempt_meant Anew s h = answered cells (RepliesFit cells) (fit_splits cells) Out h.0 ask.Begin s (λ x. TryMeant (bind (res (on_step (heard read_point x) begun)) try_then)) h.1 tt (λ r xs m. begun_meant h.0 s r xs m)
      attempt_meant (Behind v) s h = closing_meant (commuted s.done) v s h

    retrying_meant : (x : Completion ActorState Value) (go : ActorState → Completion ActorState Value) → TryMeant x → ((s : ActorState) → Holds P false s → MeantAs (Holds P) false None Any (go s)) → MeantAs (Holds P) false None Any (retrying x go)
    retrying_meant (Completes v s) go m next = (tt, m)
    retrying_meant (Recurs vs s) go m next = absurd m
    retrying_meant (Faults e s) go m next = tt
    retrying_meant (Retries s) go m next = next s m
    retrying_meant (Waits s) go m next = tt
    retrying_meant (OutOfTurns s) go m next = tt
    retrying_meant Invalid go m next = absurd m

    tries_meant : (k : ℕ) → GoMeant (tries validators k span body f)
    tries_meant zero from s h = tt
    tries_meant (suc k) from s h = retrying_meant (attempt validators from span body f (tries validators k span body f) s) (tries validators k span body f Anew) (attempt_meant (tries validators k span body f) (tries_meant k) from s h) (λ s1 g. tries_meant k Anew s1 g)

  -- ---- the forms

  sound_print : (P : Suits) (inside : Bool) (vs : List Value) (s : ActorState) → MayStand (zone_of inside) Outside → Holds P inside s → MeantAs (Holds P) inside None Any ((on_replies validators).print inside vs s)
  unfolding print
  sound_print P true vs s e h = absurd e
  sound_print P false vs s e h = (tt, h)

  sound_look : (P : Suits) (form : LookForm) (inside : Bool) (m : Mark) (c : Value) (s : ActorState) → MayStand (zone_of inside) (rule (form_of.Look form)).stands → Holds P inside s → MeantAs (Holds P) inside None Any ((on_replies validators).look form inside m c s)
  sound_look P Deref true m c s e h = on_cell_meant P true (cell_of (rule (form_of.Look Deref)) true c) m.span (read_cell Deref true) s h (λ x. look_meant P x s h)
  sound_look P Deref false m c s e h = on_cell_meant P false (cell_of (rule (form_of.Look Deref)) false c) m.span (read_cell Deref false) s h (λ x. peek_meant P x s h)
  sound_look P Ensure true m c s e h = on_cell_meant P true (cell_of (rule (form_of.Look Ensure)) true c) m.span (read_cell Ensure true) s h (λ x. ensure_meant P x s h)
  sound_look P Ensure false m c s e h = absurd e

  sound_put : (P : Suits) (form : PutForm) (inside : Bool) (m : Mark) (c v : Value) (f : Applies ActorState) (s : ActorState) → MayStand (zone_of inside) (rule (form_of.Put form)).stands → Valid ActorState V f →
      Holds P inside s → MeantAs (Holds P) inside None Any ((on_replies validators).put form inside m c v f s)
  sound_put P RefSet true m c v f s e p h = on_cell_meant P true (cell_of (rule (form_of.Put RefSet)) true c) m.span (assign_cell RefSet true m.span v) s h (λ x. set_meant P m.span v x s h)
  sound_put P RefSet false m c v f s e p h = absurd e
  sound_put P Reset true m c v f s e p h = absurd e
  sound_put P Reset false m c v f s e p h = valid_reset P f p (cell_of (rule (form_of.Put Reset)) false c) m.span v s h

  some_commute : (a b : Commute) → Some a ≡ Some b → a ≡ b
  some_commute a b e = cc

  abbrev IsThere : Option Commute → Type 0
  IsThere None = ⊥
  IsThere (Some k) = Unit {0}

  sound_update : (P : Suits) (form : UpdateForm) (inside : Bool) (m : Mark) (c : Value) (callee : Callee) (vs : List Value) (f : Applies ActorState) (s : ActorState) → MayStand (zone_of inside) (rule (form_of.Update form)).stands → P callee (suc (length vs)) → ((v : Value) → Proper ActorState f callee (v ∷ vs)) →
      Valid ActorState V f → Holds P inside s → MeantAs (Holds P) inside None Any ((on_replies validators).update form inside m c callee vs f s)
  sound_update P update_of.Alter true m c callee vs f s e suits p valid h =
      ref_meant P (cell_of (rule (form_of.Update update_of.Alter)) true c) m.span (λ x. None) (λ x k q. absurd (subst IsThere (sym q) tt)) callee vs f p s h
  sound_update P update_of.Commute true m c callee vs f s e suits p valid h =
      ref_meant P (cell_of (rule (form_of.Update update_of.Commute)) true c) m.span (λ x. Some (record { cell = x; callee = callee; args = vs }))
      (λ x k q. subst (Suited P) (some_commute (record { cell = x; callee = callee; args = vs }) k q) suits) callee vs f p s h
  sound_update P update_of.Swap false m c callee vs f s e suits p valid h = swaps_meant P m.span c (λ a x s1. bind (f callee (x ∷ vs) s1) (accepts validators f a m.span))
      (λ a x. made_proper V f valid (validator_at validators a.number) (validator_such V validators a.number checks) m.span callee (x ∷ vs) (p x)) (suc (length s.todo)) s (omega arith) h
  sound_update P update_of.Swap true m c callee vs f s e suits p valid h = absurd e
  sound_update P update_of.Alter false m c callee vs f s e suits p valid h = absurd e
  sound_update P update_of.Commute false m c callee vs f s e suits p valid h = absurd e

  sound_send : (P : Suits) (inside : Bool) (m : Mark) (c : Value) (callee : Callee) (vs : List Value) (s : ActorState) → Holds P inside s → MeantAs (Holds P) inside None Any ((on_replies validators).send inside m c callee vs s)
  sound_send P true m c callee vs s h =
      on_cell_meant P true (cell_of (rule form_of.Send) true c) m.span (λ g s1. send_action true (record { agent = g; callee = callee; args = vs; span = m.span }) s1) s h (λ g. (tt, h))
  sound_send P false m c callee vs s h =
      on_cell_meant P false (cell_of (rule form_of.Send) false c) m.span (λ g s1. send_action false (record { agent = g; callee = callee; args = vs; span = m.span }) s1) s h (λ g. or_hold (record { agent = g; callee = callee; args = vs; span = m.span }) s.acting)
    where
      or_hold : (a : Action) (o : Option InHand) → MeantAs (Holds P) false None Any (res (send_or_hold o a s))
      or_hold a None = send_meant P a s h
      or_hold a (Some x) = (tt, h)

  sound_dosync : (P O : Suits) (inside : Bool) (m : Mark) (e : Tree) (env : List Value) (body : ActorState → Completion ActorState Value) (f : Applies ActorState) (s : ActorState) → ((s1 : ActorState) → Holds P true s1 → MeantAs (Holds P) true None Any (body s1)) → ((s1 : ActorState) → Holds O true s1 → MeantAs (Holds O) true None Any (body s1)) →
      ((c : Callee) (ws : List Value) → O c (length ws) → Proper ActorState f c ws) → Valid ActorState V f → Holds P inside s → MeantAs (Holds P) inside None Any ((on_replies validators).dosync inside m e env body f s)
  sound_dosync P O true m e env body f s joins own callees valid h = joins s h
  sound_dosync P O false m e env body f s joins own callees valid h = tries_meant P O m.span body f own callees valid (suc reruns) Anew s h

  -- the forms on replies that fit
  sound_forms : SoundForms ActorState (on_replies validators) Holds V
  sound_forms = record {
    print = sound_print;
    look = sound_look;
    put = sound_put;
    update = sound_update;
    send = sound_send;
    dosync = sound_dosync;
  }

  outside_meant : (P : Suits) (x : Completion ActorState Value) → MeantAs (Holds P) false None Any x → IsMeant x
  outside_meant P (Completes v s) h = tt
  outside_meant P (Recurs vs s) h = absurd (none_some (length vs) h.0)
  outside_meant P (Faults e s) h = tt
  outside_meant P (Retries s) h = absurd (false≢true h.0)
  outside_meant P (Waits s) h = tt
  outside_meant P (OutOfTurns s) h = tt
  outside_meant P Invalid h = absurd h

  carried_meant : (P : Suits) (q : Completion (Unit {0}) Value) → IsProper q → (s : ActorState) → Holds P false s → MeantAs (Holds P) false None Any (carried s q)
  carried_meant P (Completes v u) z s h = (tt, h)
  carried_meant P (Recurs vs u) z s h = absurd z
  carried_meant P (Faults e u) z s h = tt
  carried_meant P (Retries u) z s h = absurd z
  carried_meant P (Waits u) z s h = absurd z
  carried_meant P (OutOfTurns u) z s h = tt
  carried_meant P Invalid z s h = absurd z

  -- what a cell's validator makes of a value
  pub looked_meant_at : (P : Suits) (f : Applies ActorState) → Valid ActorState V f → (k : ℕ) (span : Span) (w : Value) (s : ActorState) → Holds P false s → MeantAs (Holds P) false None Any (validated f (validator_at validators k) span w s)
  looked_meant_at P f valid k span w s h =
      let one = validated_proper V f valid (validator_at validators k) (validator_such V validators k checks) span w in
      subst (λ x. MeantAs (Holds P) false None Any x) (sym (one.2 s)) (carried_meant P one.0 one.1 s h)

-- no answer of a sound thread's tree on replies that fit is invalid
pub ever_meant : (p : ThreadSource) → SoundSource p → IsEverMeant p
ever_meant p sound n todo es f =
    let suits : Suits = λ c k. SoundCallee (known p.functions) c k in
    let one : Callee → Type 0 = λ c. SoundCallee (known p.functions) c 1 in
    let checks = cells_such (known p.functions) p.cells sound.cells in
    outside_meant p.cells one checks suits (source p n todo)
    (main_meant ActorState (on_replies (validators_of p.cells)) (Holds p.cells one checks) one (sound_forms p.cells one checks) false (fresh todo) (λ P. (es, f)) p.functions sound.functions n (λ c h. h) p.main [] sound.main)

-- nor is one of an action that a program may send
pub action_meant : (cells : List CellDefinition) (functions : List PlainFunction) → SoundFunctions [] functions → SoundCells (known functions) cells → (g : CellId) (a : Action) → SoundAction functions a
    → (v : Value) (s : ActorState) (n : ℕ) (todo : List Exchange) (es : List SeenEvent) → RepliesFit cells Out todo es → IsMeant (action_source cells functions g a v s n todo)
action_meant cells functions sound valid g a sent v s n todo es f =
    let suits : Suits = λ c k. SoundCallee (known functions) c k in
    let one : Callee → Type 0 = λ c. SoundCallee (known functions) c 1 in
    let checks = cells_such (known functions) cells valid in
    let held : Suits → Bool → ActorState → Type 0 = Holds cells one checks in
    let start : ActorState = (taken_at g a v s todo).state in
    let apply_at : Applies ActorState = apply (call_at (λ d. on_replies (validators_of cells)) n functions (length functions) false) a.span in
    let given = valid_deep ActorState (on_replies (validators_of cells)) held one (sound_forms cells one checks) false start (λ P. (es, f)) functions sound n (λ c h. h) in
    let begun_at = sent_meant ActorState (on_replies (validators_of cells)) held one (sound_forms cells one checks) false start (λ P. (es, f)) functions sound n (λ c h. h) a.span a.callee (v ∷ a.args) sent (es, f) in
    outside_meant cells one checks suits (action_source cells functions g a v s n todo)
    (bind_meant ActorState (held suits) false None Any Any (apply_at a.callee (v ∷ a.args) start) (λ w s1. validated apply_at (validator_at (validators_of cells) a.agent.number) a.span w s1) begun_at
    (λ w s1 p h. looked_meant_at cells one checks suits apply_at (given false a.span) a.agent.number a.span w s1 h))
