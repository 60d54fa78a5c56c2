-- What the body of a transaction keeps: the callee of each commute is pure, and no validator's answer is left; and which steps only ask.
use Rattle.std.proofs.Common.{◌≡◌, ℕ, Bool, true, false, List, [], ◌∷◌, Option, Some, None, Result, Ok, Err, refl, sym, ap, ◌∙◌, subst, if◌then◌else◌, inl}
use Rattle.txs_world_protocol.specs.Ask.{Writes, buffered, Exchange, same_ask}
use Rattle.txs_world_protocol.specs.declared.ask.Ask.{Ask}
use Rattle.txs_world_protocol.specs.declared.ask.Ask.TheVariants as ask
use Rattle.txs_world_protocol.specs.declared.ask.Reply.{Reply}
use Rattle.txs_world_protocol.specs.declared.ask.Reply.TheVariants as reply
use Rattle.txs_frame.specs.Frame.{commuted, set_writes, is_commuted, with_cell, sends_of_commit}
use Rattle.txs_frame.specs.declared.frame.Commute.{Commute}
use Rattle.txs_world_protocol.specs.Ask.{with_write}
use Rattle.txs_value_cell.specs.Cells.{Validators, validator_at}
use Rattle.txs_value_cell.specs.Forms.{rule, cell_of}
use Rattle.txs_value_data.specs.declared.fault.FaultKind.{FaultKind}
use Rattle.txs_value_data.specs.declared.fault.FaultKind.TheVariants.{SetAfterCommute}
use Rattle.txs_value_data.specs.declared.fault.Span.{Span}
use Rattle.txs_value_cell.specs.declared.form.CellForm.TheVariants as form
use Rattle.txs_value_cell.specs.declared.form.LookForm.{LookForm}
use Rattle.txs_value_cell.specs.declared.form.LookForm.TheVariants.{Deref, Ensure}
use Rattle.txs_value_cell.specs.declared.form.PutForm.{PutForm}
use Rattle.txs_value_cell.specs.declared.form.PutForm.TheVariants.{RefSet, Reset}
use Rattle.txs_value_cell.specs.declared.form.UpdateForm.{UpdateForm}
use Rattle.txs_value_cell.specs.declared.form.UpdateForm.TheVariants as update
use Rattle.txs_value_data.specs.declared.op.Callee.{Callee}
use Rattle.txs_value_data.specs.declared.value.CellId.{CellId}
use Rattle.txs_value_data.specs.declared.value.Value.{Value}
use Rattle.txs_tree_meaning.specs.Known.{known}
use Rattle.txs_tree_meaning.specs.Meaning.{Completion, Completes, Recurs, Faults, Retries, Waits, OutOfTurns, Invalid, bind, closed, Applies, apply, eval, call_at}
use Rattle.txs_tree_meaning.specs.Sound.{SoundFunctions}
use Rattle.txs_tree_meaning.specs.Tree.{Tree, PlainFunction}
use Rattle.txs_code_meaning.specs.ActorState.{ActorState, Reception, Replied, Unreplied, receives, asks, StepResult, Continue, Break, Redo, Await, Malformed, on_step, step_of, Reading, Says, SaysRetry, SaysNothing, read_as, heard, read_point, just_done, value_there, views, Verdict, Landed, Outdated, Undone, Denied, held_in, landed, commit_verdict, swap_verdict, begun, begin, fail, buffered_or, look, with_first, paired, viewed, view, commit, SwapInHand, close_swap, break_swap, cell_at, read_cell, read, set_own, assign_cell, assign, RefUpdate, Alters, Commutes, update_form, kept_open, open_update, close_own, close_update, send_to, print}
use Rattle.txs_theorem_threads.specs.OnReplies.{res, updates, updates_ref, accepts, puts, on_replies}
use Rattle.txs_theorem_threads.proofs.Accepted.{validated_related}
use Rattle.txs_theorem_threads.proofs.Callees.{Rules, Keeps, IsPure, pure_callees, function_callees}
use Rattle.txs_theorem_threads.proofs.Quiet.{AllCommutes, commutes_both}
use Rattle.txs_theorem_threads.proofs.Related.{Link, Related, Applied, Alike, CallsAlike, eval_related, calls_related}
use Rattle.txs_gen.proofs.Checks.{Rise, numbers, numbers_in, rise_written}
use Rattle.txs_gen.proofs.Steps.{Asked}

-- ---- asks

-- a reading that doesn't say that the transaction has to run again
abbrev Speaks : {A : Type 0} → Reading A → Type 0
Speaks (Says a) = Unit {0}
Speaks SaysRetry = ⊥
Speaks SaysNothing = Unit {0}

read_asked : {A : Type 0} (r : Reading A) (s : ActorState) → Speaks r → Asked (read_as r s)
read_asked (Says a) s h = tt
read_asked SaysRetry s h = absurd h
read_asked SaysNothing s h = tt

heard_asked : {A : Type 0} (reads : Reply → Reading A) (x : Reception) → ((r : Reply) → Speaks (reads r)) → Asked (heard reads x)
heard_asked reads (Replied r s) h = read_asked (reads r) s (h r)
heard_asked reads (Unreplied s) h = tt

then_asked : {A B : Type 0} (x : StepResult A) (go : A → ActorState → StepResult B) → Asked x → ((a : A) (s : ActorState) → Asked (go a s)) → Asked (on_step x go)
then_asked (Continue a s) go h k = k a s
then_asked (Break f s) go h k = absurd h
then_asked (Redo s) go h k = absurd h
then_asked (Await s) go h k = tt
then_asked Malformed go h k = tt

point_speaks : (r : Reply) → Speaks (read_point r)
point_speaks (reply.At p) = tt
point_speaks (reply.Is v) = tt
point_speaks (reply.Views q vs) = tt
point_speaks reply.Done = tt
point_speaks (reply.Retry c) = tt
point_speaks (reply.Changed c) = tt
point_speaks (reply.AgentIsFailed g) = tt
point_speaks (reply.Action n a v) = tt
point_speaks reply.Idle = tt
point_speaks (reply.Opened p v) = tt
point_speaks reply.Full = tt
point_speaks reply.Memory = tt

done_speaks : (r : Reply) → Speaks (just_done r)
done_speaks (reply.At p) = tt
done_speaks (reply.Is v) = tt
done_speaks (reply.Views q vs) = tt
done_speaks reply.Done = tt
done_speaks (reply.Retry c) = tt
done_speaks (reply.Changed c) = tt
done_speaks (reply.AgentIsFailed g) = tt
done_speaks (reply.Action n a v) = tt
done_speaks reply.Idle = tt
done_speaks (reply.Opened p v) = tt
done_speaks reply.Full = tt
done_speaks reply.Memory = tt

views_speak : (r : Reply) → Speaks (views r)
views_speak (reply.At p) = tt
views_speak (reply.Is v) = tt
views_speak (reply.Views q vs) = tt
views_speak reply.Done = tt
views_speak (reply.Retry c) = tt
views_speak (reply.Changed c) = tt
views_speak (reply.AgentIsFailed g) = tt
views_speak (reply.Action n a v) = tt
views_speak reply.Idle = tt
views_speak (reply.Opened p v) = tt
views_speak reply.Full = tt
views_speak reply.Memory = tt

commit_speaks : (r : Reply) → Speaks (commit_verdict r)
commit_speaks (reply.At p) = tt
commit_speaks (reply.Is v) = tt
commit_speaks (reply.Views q vs) = tt
commit_speaks reply.Done = tt
commit_speaks (reply.Retry c) = tt
commit_speaks (reply.Changed c) = tt
commit_speaks (reply.AgentIsFailed g) = tt
commit_speaks (reply.Action n a v) = tt
commit_speaks reply.Idle = tt
commit_speaks (reply.Opened p v) = tt
commit_speaks reply.Full = tt
commit_speaks reply.Memory = tt

swap_speaks : (r : Reply) → Speaks (swap_verdict r)
swap_speaks (reply.At p) = tt
swap_speaks (reply.Is v) = tt
swap_speaks (reply.Views q vs) = tt
swap_speaks reply.Done = tt
swap_speaks (reply.Retry c) = tt
swap_speaks (reply.Changed c) = tt
swap_speaks (reply.AgentIsFailed g) = tt
swap_speaks (reply.Action n a v) = tt
swap_speaks reply.Idle = tt
swap_speaks (reply.Opened p v) = tt
swap_speaks reply.Full = tt
swap_speaks reply.Memory = tt

pub begin_asked : (s : ActorState) → Asked (begin s)
unfolding begin
begin_asked s = then_asked (heard read_point (asks ask.Begin s)) begun (heard_asked read_point (asks ask.Begin s) point_speaks) (λ p s1. tt)

pub fail_asked : (s : ActorState) → Asked (fail s)
unfolding fail
fail_asked s = heard_asked just_done (asks (ask.Fail s.at s.view) s) done_speaks

viewed_asked : (q : ℕ) (o : Option Writes) (s : ActorState) → Asked (viewed q o s)
viewed_asked q None s = tt
viewed_asked q (Some ws) s = tt

pub view_asked : (s : ActorState) → Asked (view s)
unfolding view
view_asked s =
    let q = ask.View (commuted s.done) in
    then_asked (heard views (asks q s)) (λ x s1. viewed x.0 (paired (commuted s.done) x.1) s1) (heard_asked views (asks q s) views_speak) (λ x s1. viewed_asked x.0 (paired (commuted s.done) x.1) s1)

landed_asked : (d : Verdict) (s : ActorState) → Asked (landed d s)
landed_asked Landed s = tt
landed_asked Outdated s = tt
landed_asked Undone s = tt
landed_asked Denied s = tt

pub commit_asked : (ws : Writes) (s : ActorState) → Asked (commit ws s)
unfolding commit
commit_asked ws s =
    let q = ask.Commit s.at (set_writes s.done) s.done.ensures s.view ws (sends_of_commit (held_in s.acting) s.done.sends) in
    then_asked (heard commit_verdict (asks q s)) landed (heard_asked commit_verdict (asks q s) commit_speaks) landed_asked

pub close_asked : (w : SwapInHand) (v : Value) (s : ActorState) → Asked (close_swap w v s)
unfolding close_swap
close_asked w v s = heard_asked swap_verdict (asks (ask.CloseAt w.cell (Some w.at) v) s) swap_speaks

pub break_asked : (w : SwapInHand) (s : ActorState) → Asked (break_swap w s)
unfolding break_swap
break_asked w s = heard_asked just_done (asks (ask.Broke w.cell w.at) s) done_speaks

-- ---- commutes

-- the commute that is open has such a callee
abbrev IfOpen : (Callee → Type 0) → Option Commute → Type 0
IfOpen P None = Unit {0}
IfOpen P (Some o) = P o.callee

-- Each commute of the transaction has such a callee, and so has the one that is open; no validator's answer is left; and the values of
-- its own ascend.
abbrev pub Kept : (Callee → Type 0) → ActorState → Type 0
Kept P s = AllCommutes P s.done.commutes × IfOpen P s.commuting × (s.accepted ≡ None) × Rise 0 (numbers_in s.done.values)

-- so it is where a step goes on; where the transaction has to run again, no validator's answer is left
abbrev pub KeptStep : {A : Type 0} → (Callee → Type 0) → StepResult A → Type 0
KeptStep P (Continue a s) = Kept P s
KeptStep P (Break f s) = Unit {0}
KeptStep P (Redo s) = s.accepted ≡ None
KeptStep P (Await s) = Unit {0}
KeptStep P Malformed = Unit {0}

-- and where a part ends with values
abbrev pub KeptAfter : {A : Type 0} → (Callee → Type 0) → Completion ActorState A → Type 0
KeptAfter P (Completes a s) = Kept P s
KeptAfter P (Recurs vs s) = Kept P s
KeptAfter P (Faults f s) = Unit {0}
KeptAfter P (Retries s) = s.accepted ≡ None
KeptAfter P (Waits s) = Unit {0}
KeptAfter P (OutOfTurns s) = Unit {0}
KeptAfter P Invalid = Unit {0}

-- ---- no validator's answer is left

abbrev ReceivedClear : Reception → Type 0
ReceivedClear (Replied r s) = s.accepted ≡ None
ReceivedClear (Unreplied s) = Unit {0}

abbrev StepCleared : {A : Type 0} → StepResult A → Type 0
StepCleared (Continue a s) = s.accepted ≡ None
StepCleared (Break f s) = Unit {0}
StepCleared (Redo s) = s.accepted ≡ None
StepCleared (Await s) = Unit {0}
StepCleared Malformed = Unit {0}

asks_clear : (q : Ask) (s : ActorState) → s.accepted ≡ None → ReceivedClear (asks q s)
unfolding asks
asks_clear q s h = go s.todo
  where
    go : (l : List Exchange) → ReceivedClear (receives q s l)
    go [] = tt
    go (x ∷ l) = test (same_ask q x.ask)
      where
        test : (b : Bool) → ReceivedClear (if b then Replied x.reply (record s { todo = l }) else Unreplied (record s { wants = Some q }))
        test true = h
        test false = tt

reading_clear : {A : Type 0} (r : Reading A) (s : ActorState) → s.accepted ≡ None → StepCleared (read_as r s)
reading_clear (Says a) s h = h
reading_clear SaysRetry s h = h
reading_clear SaysNothing s h = tt

-- ---- views

-- the refs of a view are those that were commuted and not set
abbrev pub ViewsAll : StepResult Writes → Type 0
ViewsAll (Continue ws s) = numbers_in ws ≡ numbers (commuted s.done)
ViewsAll (Break f s) = Unit {0}
ViewsAll (Redo s) = Unit {0}
ViewsAll (Await s) = Unit {0}
ViewsAll Malformed = Unit {0}

abbrev PairedAre : List ℕ → Option Writes → Type 0
PairedAre ns None = Unit {0}
PairedAre ns (Some ws) = numbers_in ws ≡ ns

paired_are : (cs : List CellId) (vs : List Value) → PairedAre (numbers cs) (paired cs vs)
paired_are [] [] = refl
paired_are [] (v ∷ vs) = tt
paired_are (c ∷ cs) [] = tt
paired_are (c ∷ cs) (v ∷ vs) = go (paired cs vs) (paired_are cs vs)
  where
    go : (o : Option Writes) → PairedAre (numbers cs) o → PairedAre (c.number ∷ numbers cs) (with_first c v o)
    go None h = tt
    go (Some ws) h = ap (λ l. c.number ∷ l) h

-- these are the refs that were commuted and not set
abbrev HasCommuted : {A : Type 0} → List CellId → StepResult A → Type 0
HasCommuted cs (Continue a s) = commuted s.done ≡ cs
HasCommuted cs (Break f s) = Unit {0}
HasCommuted cs (Redo s) = Unit {0}
HasCommuted cs (Await s) = Unit {0}
HasCommuted cs Malformed = Unit {0}

abbrev ReceivedCommuted : List CellId → Reception → Type 0
ReceivedCommuted cs (Replied r s) = commuted s.done ≡ cs
ReceivedCommuted cs (Unreplied s) = Unit {0}

asks_commuted : (q : Ask) (s : ActorState) → ReceivedCommuted (commuted s.done) (asks q s)
unfolding asks
asks_commuted q s = go s.todo
  where
    go : (l : List Exchange) → ReceivedCommuted (commuted s.done) (receives q s l)
    go [] = tt
    go (x ∷ l) = test (same_ask q x.ask)
      where
        test : (b : Bool) → ReceivedCommuted (commuted s.done) (if b then Replied x.reply (record s { todo = l }) else Unreplied (record s { wants = Some q }))
        test true = refl
        test false = tt

reading_commuted : {A : Type 0} (cs : List CellId) (r : Reading A) (s : ActorState) → commuted s.done ≡ cs → HasCommuted cs (read_as r s)
reading_commuted cs (Says a) s e = e
reading_commuted cs SaysRetry s e = tt
reading_commuted cs SaysNothing s e = tt

viewed_all : (q : ℕ) (cs : List CellId) (o : Option Writes) (s : ActorState) → commuted s.done ≡ cs → PairedAre (numbers cs) o → ViewsAll (viewed q o s)
viewed_all q cs None s e h = tt
viewed_all q cs (Some ws) s e h = h ∙ ap numbers (sym e)

pub view_all : (s : ActorState) → ViewsAll (view s)
unfolding view
view_all s = received (asks (ask.View (commuted s.done)) s) (asks_commuted (ask.View (commuted s.done)) s)
  where
    go : (x : StepResult (ℕ × List Value)) → HasCommuted (commuted s.done) x → ViewsAll (on_step x (λ y t. viewed y.0 (paired (commuted s.done) y.1) t))
    go (Continue y t) e = viewed_all y.0 (commuted s.done) (paired (commuted s.done) y.1) t e (paired_are (commuted s.done) y.1)
    go (Break f t) e = tt
    go (Redo t) e = tt
    go (Await t) e = tt
    go Malformed e = tt

    received : (x : Reception) → ReceivedCommuted (commuted s.done) x → ViewsAll (on_step (heard views x) (λ y t. viewed y.0 (paired (commuted s.done) y.1) t))
    received (Replied r t) e = go (read_as (views r) t) (reading_commuted (commuted s.done) (views r) t e)
    received (Unreplied t) e = tt

module _ (P : Callee → Type 0) where
  abbrev KeptReception : Reception → Type 0
  KeptReception (Replied r s) = Kept P s
  KeptReception (Unreplied s) = Unit {0}

  asks_kept : (q : Ask) (s : ActorState) → Kept P s → KeptReception (asks q s)
  unfolding asks
  asks_kept q s h = go s.todo
    where
      go : (l : List Exchange) → KeptReception (receives q s l)
      go [] = tt
      go (x ∷ l) = test (same_ask q x.ask)
        where
          test : (b : Bool) → KeptReception (if b then Replied x.reply (record s { todo = l }) else Unreplied (record s { wants = Some q }))
          test true = h
          test false = tt

  reading_kept : {A : Type 0} (r : Reading A) (s : ActorState) → Kept P s → KeptStep P (read_as r s)
  reading_kept (Says a) s h = h
  reading_kept SaysRetry s h = h.2
  reading_kept SaysNothing s h = tt

  heard_kept : {A : Type 0} (reads : Reply → Reading A) (x : Reception) → KeptReception x → KeptStep P (heard reads x)
  heard_kept reads (Replied r s) h = reading_kept (reads r) s h
  heard_kept reads (Unreplied s) h = tt

  ask_kept : {A : Type 0} (reads : Reply → Reading A) (q : Ask) (s : ActorState) → Kept P s → KeptStep P (heard reads (asks q s))
  ask_kept reads q s h = heard_kept reads (asks q s) (asks_kept q s h)

  then_kept : {A B : Type 0} (x : StepResult A) (go : A → ActorState → StepResult B) → KeptStep P x → ((a : A) (s : ActorState) → Kept P s → KeptStep P (go a s)) → KeptStep P (on_step x go)
  then_kept (Continue a s) go h k = k a s h
  then_kept (Break f s) go h k = tt
  then_kept (Redo s) go h k = h
  then_kept (Await s) go h k = tt
  then_kept Malformed go h k = tt

  step_kept : {A : Type 0} (r : Result A FaultKind) (span : Span) (s : ActorState) → Kept P s → KeptStep P (step_of r span s)
  step_kept (Ok a) span s h = h
  step_kept (Err k) span s h = tt

  -- a transaction that begins has no commutes and no values
  pub begin_kept : (s : ActorState) → s.accepted ≡ None → KeptStep P (begin s)
  unfolding begin
  begin_kept s clear = received (asks ask.Begin s) (asks_clear ask.Begin s clear)
    where
      go : (x : StepResult ℕ) → StepCleared x → KeptStep P (on_step x begun)
      go (Continue p s1) e = (tt, tt, e, tt)
      go (Break f s1) e = tt
      go (Redo s1) e = e
      go (Await s1) e = tt
      go Malformed e = tt

      received : (x : Reception) → ReceivedClear x → KeptStep P (on_step (heard read_point x) begun)
      received (Replied r s1) e = go (read_as (read_point r) s1) (reading_clear (read_point r) s1 e)
      received (Unreplied s1) e = tt

  viewed_kept : (q : ℕ) (o : Option Writes) (s : ActorState) → Kept P s → KeptStep P (viewed q o s)
  viewed_kept q None s h = tt
  viewed_kept q (Some ws) s h = h

  pub view_kept : (s : ActorState) → Kept P s → KeptStep P (view s)
  unfolding view
  view_kept s h =
      let q = ask.View (commuted s.done) in
      then_kept (heard views (asks q s)) (λ x s1. viewed x.0 (paired (commuted s.done) x.1) s1) (ask_kept views q s h) (λ x s1 k. viewed_kept x.0 (paired (commuted s.done) x.1) s1 k)

  landed_kept : (d : Verdict) (s : ActorState) → Kept P s → KeptStep P (landed d s)
  landed_kept Landed s h = h
  landed_kept Outdated s h = h
  landed_kept Undone s h = h
  landed_kept Denied s h = h

  pub commit_kept : (ws : Writes) (s : ActorState) → Kept P s → KeptStep P (commit ws s)
  unfolding commit
  commit_kept ws s h =
      let q = ask.Commit s.at (set_writes s.done) s.done.ensures s.view ws (sends_of_commit (held_in s.acting) s.done.sends) in
      then_kept (heard commit_verdict (asks q s)) landed (ask_kept commit_verdict q s h) landed_kept

  own_kept : (o : Option Value) (s : ActorState) (r : StepResult Value) → Kept P s → KeptStep P r → KeptStep P (buffered_or o s r)
  own_kept (Some v) s r h k = h
  own_kept None s r h k = k

  look_kept : (c : CellId) (s : ActorState) → Kept P s → KeptStep P (look c s)
  unfolding look
  look_kept c s h = own_kept (buffered s.done.values c.number) s (heard value_there (asks (ask.Look c s.at) s)) h (ask_kept value_there (ask.Look c s.at) s h)

  read_cell_kept : (f : LookForm) (c : CellId) (s : ActorState) → Kept P s → KeptStep P (read_cell f true c s)
  read_cell_kept Deref c s h = look_kept c s h
  read_cell_kept Ensure c s h = then_kept (look c s) _ (look_kept c s h) (λ v s1 k. k)

  read_kept : (f : LookForm) (span : Span) (v : Value) (s : ActorState) → Kept P s → KeptStep P (read f true span v s)
  read_kept f span v s h = then_kept (step_of (cell_of (rule (form.Look f)) true v) span s) (read_cell f true) (step_kept (cell_of (rule (form.Look f)) true v) span s h) (λ c s1 k. read_cell_kept f c s1 k)

  set_kept : (span : Span) (v : Value) (c : CellId) (s : ActorState) → Kept P s → KeptStep P (set_own span v c s)
  set_kept span v c s h = test (is_commuted s.done c.number)
    where
      test : (b : Bool) → KeptStep P (on_step (step_of (if b then Err SetAfterCommute else Ok (record s.done { values = with_write s.done.values c v; sets = with_cell s.done.sets c })) span s) (λ w s1. Continue v (record s1 { done = w })))
      test true = tt
      test false = (h.0, h.1, h.2, rise_written s.done.values c v h.3)

  assign_cell_kept : (f : PutForm) (span : Span) (v : Value) (c : CellId) (s : ActorState) → Kept P s → KeptStep P (assign_cell f true span v c s)
  assign_cell_kept RefSet span v c s h = set_kept span v c s h
  assign_cell_kept Reset span v c s h = tt

  assign_kept : (f : PutForm) (span : Span) (c v : Value) (s : ActorState) → Kept P s → KeptStep P (assign f true span c v s)
  assign_kept f span c v s h =
      then_kept (step_of (cell_of (rule (form.Put f)) true c) span s) (assign_cell f true span v) (step_kept (cell_of (rule (form.Put f)) true c) span s h) (λ d s1 k. assign_cell_kept f span v d s1 k)

  -- the callee that an update keeps
  abbrev Names : RefUpdate → Type 0
  Names Alters = Unit {0}
  Names (Commutes callee) = P callee

  open_kept : (u : RefUpdate) (c : CellId) (vs : List Value) → Names u → IfOpen P (kept_open u c vs)
  open_kept Alters c vs h = tt
  open_kept (Commutes callee) c vs h = h

  open_update_kept : (u : RefUpdate) (span : Span) (v : Value) (vs : List Value) (s : ActorState) → Names u → Kept P s → KeptStep P (open_update u true span v vs s)
  open_update_kept u span v vs s w h =
      then_kept (step_of (cell_of (rule (form.Update (update_form u))) true v) span s) _ (step_kept (cell_of (rule (form.Update (update_form u))) true v) span s h)
      (λ c s1 k. then_kept (look c s1) _ (look_kept c s1 k) (λ x s2 l. (l.0, open_kept u c vs w, l.2, l.3)))

  close_own_kept : (o : Option Commute) (span : Span) (w : Value) (c : CellId) (s : ActorState) → IfOpen P o → Kept P s → KeptStep P (close_own o span w c s)
  close_own_kept None span w c s q h = set_kept span w c s h
  close_own_kept (Some o) span w c s q h = (commutes_both P s.done.commutes (record { cell = c; callee = o.callee; args = o.args } ∷ []) h.0 (q, tt), tt, h.2, rise_written s.done.values c w h.3)

  close_update_kept : (span : Span) (v w : Value) (s : ActorState) → Kept P s → KeptStep P (close_update span v w s)
  close_update_kept span v w s h =
      then_kept (step_of (cell_of (rule (form.Update update.Alter)) true v) span s) (close_own s.commuting span w) (step_kept (cell_of (rule (form.Update update.Alter)) true v) span s h) (λ c s1 k. close_own_kept s.commuting span w c s1 h.1 k)

  print_kept : (vs : List Value) (s : ActorState) → KeptStep P (print true vs s)
  unfolding print
  print_kept vs s = tt

  send_kept : (span : Span) (v : Value) (callee : Callee) (vs : List Value) (s : ActorState) → Kept P s → KeptStep P (send_to true span v callee vs s)
  send_kept span v callee vs s h = then_kept (step_of (cell_of (rule form.Send) true v) span s) _ (step_kept (cell_of (rule form.Send) true v) span s h) (λ g s1 k. k)

  -- ---- trees

  res_kept : {A : Type 0} (x : StepResult A) → KeptStep P x → KeptAfter P (res x)
  res_kept (Continue a s) h = h
  res_kept (Break f s) h = tt
  res_kept (Redo s) h = h
  res_kept (Await s) h = tt
  res_kept Malformed h = tt

  bind_kept : {A B : Type 0} (x : Completion ActorState A) (go : A → ActorState → Completion ActorState B) → KeptAfter P x → ((a : A) (s : ActorState) → Kept P s → KeptAfter P (go a s)) → KeptAfter P (bind x go)
  bind_kept (Completes a s) go h k = k a s h
  bind_kept (Recurs vs s) go h k = tt
  bind_kept (Faults f s) go h k = tt
  bind_kept (Retries s) go h k = h
  bind_kept (Waits s) go h k = tt
  bind_kept (OutOfTurns s) go h k = tt
  bind_kept Invalid go h k = tt

  -- a state goes with itself, where commutes have such callees
  link : Link ActorState ActorState
  link = record {
    rel = λ s t. (s ≡ t) × Kept P s;
    faults = λ s t. Unit {0};
    waits = λ s o. Unit {0};
    out_of_turns = λ s o. Unit {0};
    retries = λ s o. s.accepted ≡ None;
    invalid = λ b. Unit {0};
    waits_loose = λ s h o. tt;
    out_of_turns_loose = λ s h o. tt;
    retries_loose = λ s h o. h;
    faults_of = λ s t h. tt;
    out_of_turns_of = λ s t h. tt;
    invalid_both = tt;
    invalid_loose = λ h b. tt;
    ahead = λ t. ⊥;
    ahead_stops = λ t h s. absurd h;
    ahead_invalid = λ t h. absurd h;
  }

  self_related : {A : Type 0} (x : Completion ActorState A) → KeptAfter P x → Related link x x
  unfolding link
  self_related (Completes a s) h = (refl, (refl, h))
  self_related (Recurs vs s) h = (refl, (refl, h))
  self_related (Faults f s) h = (refl, tt)
  self_related (Retries s) h = h
  self_related (Waits s) h = tt
  self_related (OutOfTurns s) h = tt
  self_related Invalid h = tt

  related_kept : {A : Type 0} (x : Completion ActorState A) → Related link x x → KeptAfter P x
  unfolding link
  related_kept (Completes a s) h = h.1.1
  related_kept (Recurs vs s) h = h.1.1
  related_kept (Faults f s) h = tt
  related_kept (Retries s) h = h
  related_kept (Waits s) h = tt
  related_kept (OutOfTurns s) h = tt
  related_kept Invalid h = tt

  -- from one state to the one that goes with it
  along : {A : Type 0} (f : ActorState → Completion ActorState A) (s t : ActorState) → link.rel s t → (Kept P s → KeptAfter P (f s)) → Related link (f s) (f t)
  unfolding link
  along f s t r h = subst (λ x. Related link (f s) (f x)) r.0 (self_related (f s) (h r.1))

  -- such callees, and any form and call
  abbrev rules : Rules
  rules = record {
    callee = P;
    form = λ inside form. Unit {0};
    call = λ inside f. Unit {0};
  }

  -- inside a transaction
  abbrev Inside : Bool → Type 0
  Inside inside = inside ≡ true

  update_kept : (u : RefUpdate) (span : Span) (c : Value) (callee : Callee) (vs : List Value) (f : Applies ActorState) (s : ActorState) → Names u → ((d : Callee) (ws : List Value) (s1 : ActorState) → Kept P s1 → KeptAfter P (f d ws s1)) → Kept P s → KeptAfter P (updates_ref u true span c callee vs f s)
  update_kept u span c callee vs f s w hf h =
      bind_kept (res (open_update u true span c vs s)) _ (res_kept (open_update u true span c vs s) (open_update_kept u span c vs s w h))
      (λ v s1 k. bind_kept (f callee (v ∷ vs) s1) _ (hf callee (v ∷ vs) s1 k) (λ x s2 l. res_kept (close_update span c x s2) (close_update_kept span c x s2 l)))

  updates_kept : (validators : Validators) (form : UpdateForm) (span : Span) (c : Value) (callee : Callee) (vs : List Value) (f : Applies ActorState) (s : ActorState) → P callee → ((d : Callee) (ws : List Value) (s1 : ActorState) → Kept P s1 → KeptAfter P (f d ws s1)) → Kept P s → KeptAfter P (updates validators form true span c callee vs f s)
  updates_kept validators update.Alter span c callee vs f s w hf h = update_kept Alters span c callee vs f s tt hf h
  updates_kept validators update.Commute span c callee vs f s w hf h = update_kept (Commutes callee) span c callee vs f s w hf h
  updates_kept validators update.Swap span c callee vs f s w hf h = tt

  -- no atom is reset in a transaction
  puts_kept : (validators : Validators) (form : PutForm) (span : Span) (c v : Value) (f : Applies ActorState) (s : ActorState) → Applied ActorState ActorState link f f → Kept P s → KeptAfter P (puts validators form true span c v f s)
  unfolding link
  puts_kept validators RefSet span c v f s a h = res_kept (assign RefSet true span c v s) (assign_kept RefSet span c v s h)
  puts_kept validators Reset span c v f s a h =
      bind_kept (res (cell_at (form.Put Reset) true span c s)) (λ d s1. bind (accepts validators f d span v s1) (λ w s2. res (assign_cell Reset true span w d s2))) (res_kept (cell_at (form.Put Reset) true span c s) (step_kept (cell_of (rule (form.Put Reset)) true c) span s h))
      (λ d s1 k. bind_kept (accepts validators f d span v s1) (λ w s2. res (assign_cell Reset true span w d s2))
      (related_kept (accepts validators f d span v s1) (validated_related ActorState ActorState link f f a (validator_at validators d.number) span v s1 s1 (refl, k))) (λ w s2 l. tt))

  alike : (validators : Validators) (call : Bool → ℕ → List Value → ActorState → Completion ActorState Value) (n : ℕ) → Alike ActorState ActorState link (on_replies validators) (on_replies validators) call call n n Inside rules
  unfolding link
  alike validators call n = record {
    print = λ inside vs s t m r. along (λ x. (on_replies validators).print inside vs x) s t r (λ k. subst (λ b. KeptAfter P (res (print b vs s))) (sym m) (res_kept (print true vs s) (print_kept vs s)));
    look = λ form inside m c s t may i r. along (λ x. (on_replies validators).look form inside m c x) s t r (λ k. subst (λ b. KeptAfter P (res (read form b m.span c s))) (sym i) (res_kept (read form true m.span c s) (read_kept form m.span c s k)));
    put = λ form inside m c w s t may i applied r.
        along (λ x. (on_replies validators).put form inside m c w (apply (call inside) m.span) x) s t r
        (λ k. subst (λ b. KeptAfter P (puts validators form b m.span c w (apply (call inside) m.span) s)) (sym i) (puts_kept validators form m.span c w (apply (call inside) m.span) s (applied (λ f. tt)) k));
    update = λ form inside m c callee vs s t may i p applied r.
        along (λ x. (on_replies validators).update form inside m c callee vs (apply (call inside) m.span) x) s t r
        (λ k. subst (λ b. KeptAfter P (updates validators form b m.span c callee vs (apply (call inside) m.span) s)) (sym i)
        (updates_kept validators form m.span c callee vs (apply (call inside) m.span) s p (λ d ws s1 l. related_kept (apply (call inside) m.span d ws s1) (applied (λ f. tt) d ws s1 s1 (refl, l))) k));
    send = λ inside m c callee vs s t i r. along (λ x. (on_replies validators).send inside m c callee vs x) s t r (λ k. subst (λ b. KeptAfter P (res (send_to b m.span c callee vs s))) (sym i) (res_kept (send_to true m.span c callee vs s) (send_kept m.span c callee vs s k)));
    dosync = λ inside m e env s t i p body applied r.
        subst (λ b. Related link ((on_replies validators).dosync b m e env (λ s1. closed (eval (on_replies validators) call n true e env s1)) (apply (call true) m.span) s) ((on_replies validators).dosync b m e env (λ s1. closed (eval (on_replies validators) call n true e env s1)) (apply (call true) m.span) t)) (sym i)
        (body refl s t r);
  }

-- the body of a transaction keeps that the callees of commutes are pure
module _ (functions : List PlainFunction) (sound : SoundFunctions [] functions) where
  calls_kept : (validators : Validators) (n d : ℕ) → CallsAlike ActorState ActorState (link (IsPure (known functions))) (call_at (λ b. on_replies validators) n functions d) (call_at (λ b. on_replies validators) n functions d) (Inside (IsPure (known functions))) (λ inside f. Unit {0})
  calls_kept validators n d =
      calls_related ActorState ActorState (link (IsPure (known functions))) (λ b. on_replies validators) (λ b. on_replies validators) n n functions (Inside (IsPure (known functions))) (pure_callees (known functions)) (inl refl) (λ b. alike (IsPure (known functions)) validators (call_at (λ b. on_replies validators) n functions b) n) (function_callees functions sound) d

  pub body_kept : (validators : Validators) (n d : ℕ) (e : Tree) (env : List Value) (s : ActorState) → Keeps (pure_callees (known functions)) true e → Kept (IsPure (known functions)) s → KeptAfter (IsPure (known functions)) (eval (on_replies validators) (call_at (λ b. on_replies validators) n functions d) n true e env s)
  unfolding link
  body_kept validators n d e env s p h =
      let call = call_at (λ b. on_replies validators) n functions d in
      related_kept (IsPure (known functions)) (eval (on_replies validators) call n true e env s)
      (eval_related ActorState ActorState (link (IsPure (known functions))) (on_replies validators) (on_replies validators) call call n n (Inside (IsPure (known functions))) (pure_callees (known functions)) (inl refl) (alike (IsPure (known functions)) validators call n) (calls_kept validators n d) e true env s s p refl (refl, h))
