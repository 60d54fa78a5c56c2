-- A recur of a sound node has as many values as the loop in whose tail position the node stands, and the commutes that a sound
-- node keeps have pure callees of as many values.
use Rattle.std.proofs.Common.{ℕ, zero, suc, ◌==◌, ◌&&◌, ◌||◌, ◌-◌, ◌≤◌, Bool, true, false, List, [], ◌∷◌, ◌++◌, Option, Some, None, Result, Ok, Err, sym, ap, ◌∙◌, subst, refl, length, nat_eq, if◌then◌else◌, ◌≡◌, ◌+◌, arith}
use Rattle.std.proofs.lemmas.Bool.{false≢true}
use Rattle.txs_world_protocol.specs.Ask.{same_writes, same_cell, same_value, same_action, same_actions}
use Rattle.txs_world_protocol.specs.SeenEvent.{SeenEvent, home}
use Rattle.txs_world_protocol.specs.declared.event.Cause.TheVariants as cause
use Rattle.txs_world_protocol.specs.declared.event.EventKind.{EventKind}
use Rattle.txs_world_protocol.specs.declared.event.EventKind.TheVariants.{Read, Commit, Retry, Fail, Refused, Send as Sent, SendRefused, Act, Swap as Swapped, Broke}
use Rattle.txs_frame.specs.Frame.{PlainTxFrame, is_commuted, has_number, commuted, set_ref, ensure_ref, commute_ref, sends_of_commit}
use Rattle.txs_frame.specs.declared.frame.Commute as frame
use Rattle.txs_value_cell.specs.Cells.{World}
use Rattle.txs_value_cell.specs.Forms.{rule, may_stand, cell_of}
use Rattle.txs_value_apply.specs.Core.{core, vector_of}
use Rattle.txs_value_data.specs.Places.{nth, fault_at}
use Rattle.txs_value_apply.specs.Truth.{choose}
use Rattle.txs_value_cell.specs.declared.action.Action.{Action}
use Rattle.txs_value_cell.specs.declared.cell.CellDefinition.{CellDefinition}
use Rattle.txs_value_data.specs.declared.fault.Fault.{Fault}
use Rattle.txs_value_data.specs.declared.fault.FaultKind.{FaultKind}
use Rattle.txs_value_data.specs.declared.fault.FaultKind.TheVariants.{AgentFailed}
use Rattle.txs_value_data.specs.declared.fault.Span.{Span}
use Rattle.txs_value_cell.specs.declared.form.CellForm.{CellForm}
use Rattle.txs_value_cell.specs.declared.form.CellForm.TheVariants as form_of
use Rattle.txs_value_cell.specs.declared.form.LookForm.{LookForm}
use Rattle.txs_value_cell.specs.declared.form.LookForm.TheVariants.{Deref, Ensure}
use Rattle.txs_value_cell.specs.declared.form.PutForm.{PutForm}
use Rattle.txs_value_cell.specs.declared.form.PutForm.TheVariants.{RefSet, Reset}
use Rattle.txs_value_cell.specs.declared.form.UpdateForm.{UpdateForm}
use Rattle.txs_value_cell.specs.declared.form.UpdateForm.TheVariants.{Alter, Commute, Swap}
use Rattle.txs_value_data.specs.declared.op.Callee.{Callee}
use Rattle.txs_value_data.specs.declared.op.Callee.TheVariants.{Core as CoreOp, Function}
use Rattle.txs_value_data.specs.declared.value.CellId.{CellId}
use Rattle.txs_value_data.specs.declared.value.Value.{Value}
use Rattle.txs_value_data.specs.declared.value.Value.TheVariants.{Nil, Truth, Int, Key, Text, Vector, Cell}
use Rattle.txs_tree_eval_node.specs.Evaluated.{Part, part, is_on, deeply, wholly, forms_on, calls_on, around_it, means, SoundCommutes}
use Rattle.txs_tree_meaning.specs.Known.{Known, known}
use Rattle.txs_tree_meaning.specs.Meaning.{Completion, Completes, Recurs, Faults, Retries, Waits, OutOfTurns, Invalid, bind, again, closed, allowed, give, result_of, Applies, apply, turns, Effects, eval, eval_all, eval_let, eval_do, call_at}
use Rattle.txs_tree_eval_node.specs.Setting.{Setting, callable, zone_on, on_view}
use Rattle.txs_tree_meaning.specs.Sound.{SoundCall, SoundCallee, SoundTree, SoundAll, SoundLet, SoundDo, SoundFunctions, in_dosync}
use Rattle.txs_tree_meaning.specs.Right.{up_to, behind_retries, on_right}
use Rattle.txs_tree_meaning.specs.Thread.{ThreadState, Surroundings, Transacting, on_events, with_tx, holding, uneaten, eats, meant, reads, resets, swaps, faulted, faultless, sends, sends_or_holds, over, run_of, ends_tx, is_retry, is_held, missing, again as rerun, eats_tx, accepts, thread_look, thread_put, thread_update, outside_form}
use Rattle.txs_tree_meaning.specs.Transaction.{TxState, in_transaction, in_transaction_lacking, on_cell, own, current, noted, lacks, looked, taken_lacking, tx_look_lacking, tx_put, tx_update_lacking, done_as, final_writes}
use Rattle.txs_tree_meaning.specs.Tree.{Mark, Tree, Const, Local, If, Do, Let, Loop, Recur, Core, Call, VectorOf, Println, Dosync, Look, Put, Update, Send, Trees, none, more, count, PlainFunction}
use Rattle.txs_tree_meaning.specs.View.{functions_of}
use Rattle.txs_tree_eval_transaction.specs.Views.{PlainView, PlainTxView, whole_view, world_of}
use Rattle.txs_tree_meaning.specs.declared.node.Function as function
use Rattle.txs_tree_eval_node.specs.declared.state.State.{State}
use Rattle.txs_tree_eval_node.proofs.Called.{called_body, pure_here, as_many}
use Rattle.txs_tree_meaning.proofs.Callable.{callee-widened, nth-take, nth-before}

-- a recur has as many values as are given
abbrev RecursAs : {S A : Type 0} → Option ℕ → Completion S A → Type 0
RecursAs tail (Completes a s) = Unit {0}
RecursAs tail (Recurs vs s) = tail ≡ Some (length vs)
RecursAs tail (Faults f s) = Unit {0}
RecursAs tail (Retries s) = Unit {0}
RecursAs tail (Waits s) = Unit {0}
RecursAs tail (OutOfTurns s) = Unit {0}
RecursAs tail Invalid = Unit {0}

abbrev many_in : Option ℕ → ℕ
many_in None = 0
many_in (Some k) = k

abbrev IsSome : Option ℕ → Type 0
IsSome None = ⊥
IsSome (Some a) = Unit {0}

module _ {S : Type 0} where
  module _ (tail : Option ℕ) where
    bind_as : {A B : Type 0} (c : Completion S A) (go : A → S → Completion S B) → ((a : A) (s : S) → RecursAs tail (go a s)) → RecursAs tail (bind c go)
    bind_as (Completes a s) go h = h a s
    bind_as (Recurs vs s) go h = tt
    bind_as (Faults f s) go h = tt
    bind_as (Retries s) go h = tt
    bind_as (Waits s) go h = tt
    bind_as (OutOfTurns s) go h = tt
    bind_as Invalid go h = tt

    on_cell_as : (form : CellForm) (inside : Bool) (span : Span) (v : Value) (go : CellId → S → Completion S Value) (s : S) → ((c : CellId) (t : S) → RecursAs tail (go c t)) → RecursAs tail (on_cell form inside span v go s)
    on_cell_as form inside span v go s h = bind_as (result_of (cell_of (rule form) inside v) span s) go h

    allowed_as : (b : Bool) (c : Completion S Value) → RecursAs tail c → RecursAs tail (allowed b c)
    allowed_as true c h = h
    allowed_as false c h = tt

-- ---- outside every transaction

module _ (tail : Option ℕ) where
  meant_as : (b : Bool) (v : Value) (t : ThreadState) → RecursAs tail (meant b v t)
  meant_as true v t = tt
  meant_as false v t = tt

  faulted_as : {A : Type 0} (c : Completion ThreadState A) (go : Fault → ThreadState → Completion ThreadState Value) → ((f : Fault) (t : ThreadState) → RecursAs tail (go f t)) → RecursAs tail (faulted c go)
  faulted_as (Completes a t) go h = tt
  faulted_as (Recurs vs t) go h = tt
  faulted_as (Faults f t) go h = h f t
  faulted_as (Retries t) go h = tt
  faulted_as (Waits t) go h = tt
  faulted_as (OutOfTurns t) go h = tt
  faulted_as Invalid go h = tt

  faultless_as : {A : Type 0} (c : Completion ThreadState A) (go : A → ThreadState → Completion ThreadState Value) → ((a : A) (t : ThreadState) → RecursAs tail (go a t)) → RecursAs tail (faultless c go)
  faultless_as (Completes a t) go h = h a t
  faultless_as (Recurs vs t) go h = tt
  faultless_as (Faults f t) go h = tt
  faultless_as (Retries t) go h = tt
  faultless_as (Waits t) go h = tt
  faultless_as (OutOfTurns t) go h = tt
  faultless_as Invalid go h = tt

  over_as : (t : ThreadState) (c : Completion TxState Value) (go : Value → TxState → Completion ThreadState Value) (broke : Fault → Completion ThreadState Value)
      → ((v : Value) (x : TxState) → RecursAs tail (go v x)) → ((f : Fault) → RecursAs tail (broke f)) → RecursAs tail (over t c go broke)
  over_as t (Completes v x) go broke g b = g v x
  over_as t (Recurs vs x) go broke g b = tt
  over_as t (Faults f x) go broke g b = b f
  over_as t (Retries x) go broke g b = tt
  over_as t (Waits x) go broke g b = tt
  over_as t (OutOfTurns x) go broke g b = tt
  over_as t Invalid go broke g b = tt

  -- one of two
  if_as : (b : Bool) (c d : Completion ThreadState Value) → RecursAs tail c → RecursAs tail d → RecursAs tail (if b then c else d)
  if_as true c d f g = f
  if_as false c d f g = g

  uneaten_as : (es : List SeenEvent) (c : Completion ThreadState Value) → RecursAs tail c → RecursAs tail (uneaten es c)
  uneaten_as es (Completes v t) h = tt
  uneaten_as es (Recurs vs t) h = h
  uneaten_as es (Faults f t) h = tt
  uneaten_as es (Retries t) h = tt
  uneaten_as es (Waits t) h = tt
  uneaten_as es (OutOfTurns t) h = tt
  uneaten_as es Invalid h = tt

  eats_as : (book : ℕ) (go : SeenEvent → ThreadState → Completion ThreadState Value) (es : List SeenEvent) (t : ThreadState) → ((e : SeenEvent) (t1 : ThreadState) → RecursAs tail (go e t1)) → RecursAs tail (eats book go es t)
  eats_as book go [] t h = tt
  eats_as book go (e ∷ es) t h =
      if_as (e.book == book) (uneaten (e ∷ es) (go e (record t { todo = es }))) Invalid (uneaten_as (e ∷ es) (go e (record t { todo = es })) (h e (record t { todo = es }))) tt

  reads_as : (c : CellId) (k : EventKind) (C : World) (t : ThreadState) → RecursAs tail (reads c k C t)
  reads_as c (Read d) C t = meant_as (same_cell c d) (C c.number) t
  reads_as c (Commit at view writes sent) C t = tt
  reads_as c (Retry since d b) C t = tt
  reads_as c (Fail at view) C t = tt
  reads_as c (Refused at view g) C t = tt
  reads_as c (Sent a) C t = tt
  reads_as c (SendRefused g) C t = tt
  reads_as c (Act g n new sends) C t = tt
  reads_as c (Swapped new) C t = tt
  reads_as c (Broke at) C t = tt

  resets_as : (v : Value) (k : EventKind) (t : ThreadState) → RecursAs tail (resets v k t)
  resets_as v (Swapped new) t = meant_as (same_value v new) v t
  resets_as v (Read d) t = tt
  resets_as v (Commit at view writes sent) t = tt
  resets_as v (Retry since d b) t = tt
  resets_as v (Fail at view) t = tt
  resets_as v (Refused at view g) t = tt
  resets_as v (Sent a) t = tt
  resets_as v (SendRefused g) t = tt
  resets_as v (Act g n new sends) t = tt
  resets_as v (Broke at) t = tt

  swaps_as : (c : CellId) (f : Value → ThreadState → Completion ThreadState Value) (k : EventKind) (R C : World) (t : ThreadState) → RecursAs tail (swaps c f k R C t)
  swaps_as c f (Swapped new) R C t = faultless_as (f (C c.number) t) (λ v t1. meant (same_value v new) v t1) (λ v t1. meant_as (same_value v new) v t1)
  swaps_as c f (Broke at) R C t = faulted_as (f (R c.number) t) (λ g t1. Faults g t1) (λ g t1. tt)
  swaps_as c f (Read d) R C t = tt
  swaps_as c f (Commit at view writes sent) R C t = tt
  swaps_as c f (Retry since d b) R C t = tt
  swaps_as c f (Fail at view) R C t = tt
  swaps_as c f (Refused at view g) R C t = tt
  swaps_as c f (Sent a) R C t = tt
  swaps_as c f (SendRefused g) R C t = tt
  swaps_as c f (Act g n new sends) R C t = tt

  sends_as : (a : Action) (span : Span) (k : EventKind) (t : ThreadState) → RecursAs tail (sends a span k t)
  sends_as a span (Sent b) t = meant_as (same_action a b) (Cell a.agent) t
  sends_as a span (SendRefused g) t = if_as (same_cell a.agent g) (Faults (fault_at AgentFailed span) t) Invalid tt tt
  sends_as a span (Read d) t = tt
  sends_as a span (Commit at view writes sent) t = tt
  sends_as a span (Retry since d b) t = tt
  sends_as a span (Fail at view) t = tt
  sends_as a span (Refused at view g) t = tt
  sends_as a span (Act g n new sends) t = tt
  sends_as a span (Swapped new) t = tt
  sends_as a span (Broke at) t = tt

  sends_or_holds_as : (o : Option (List Action)) (a : Action) (span : Span) (t : ThreadState) → RecursAs tail (sends_or_holds o a span t)
  sends_or_holds_as None a span t = eats_as 0 (λ e t1. sends a span e.kind t1) t.todo t (λ e t1. sends_as a span e.kind t1)
  sends_or_holds_as (Some held) a span t = tt

  ends_tx_as : (d : Transacting) (f : Applies ThreadState) (k : EventKind) (R Q C : World) (t : ThreadState) → RecursAs tail (ends_tx d f k R Q C t)
  ends_tx_as d f (Commit at view writes sent) R Q C t =
      over_as t (d.on R) (λ v x. faultless (final_writes f d.validators d.mark.span x.done C t) (λ ws t1. meant (same_writes ws writes && same_actions (sends_of_commit t1.held x.done.sends) sent) v (holding x.done.sends (with_tx (run_of d v x) t1)))) (λ g. Invalid)
      (λ v x. faultless_as (final_writes f d.validators d.mark.span x.done C t) (λ ws t1. meant (same_writes ws writes && same_actions (sends_of_commit t1.held x.done.sends) sent) v (holding x.done.sends (with_tx (run_of d v x) t1))) (λ ws t1. meant_as (same_writes ws writes && same_actions (sends_of_commit t1.held x.done.sends) sent) v (holding x.done.sends (with_tx (run_of d v x) t1)))) (λ g. tt)
  ends_tx_as d f (Fail at view) R Q C t =
      over_as t (d.on R) (λ v x. faulted (final_writes f d.validators d.mark.span x.done Q t) (λ g t1. Faults g t1)) (λ g. Faults g t)
      (λ v x. faulted_as (final_writes f d.validators d.mark.span x.done Q t) (λ g t1. Faults g t1) (λ g t1. tt)) (λ g. tt)
  ends_tx_as d f (Refused at view agent) R Q C t =
      over_as t (d.on R) (λ v x. faultless (final_writes f d.validators d.mark.span x.done Q t) (λ ws t1. Faults (fault_at AgentFailed d.mark.span) (with_tx (run_of d v x) t1))) (λ g. Invalid)
      (λ v x. faultless_as (final_writes f d.validators d.mark.span x.done Q t) (λ ws t1. Faults (fault_at AgentFailed d.mark.span) (with_tx (run_of d v x) t1)) (λ ws t1. tt)) (λ g. tt)
  ends_tx_as d f (Read c) R Q C t = tt
  ends_tx_as d f (Retry since c b) R Q C t = tt
  ends_tx_as d f (Sent a) R Q C t = tt
  ends_tx_as d f (SendRefused g) R Q C t = tt
  ends_tx_as d f (Act g n new sends) R Q C t = tt
  ends_tx_as d f (Swapped new) R Q C t = tt
  ends_tx_as d f (Broke at) R Q C t = tt

  if_allowed : (b : Bool) (c : Completion ThreadState Value) → RecursAs tail c → RecursAs tail (allowed b c)
  if_allowed true c h = h
  if_allowed false c h = tt

  missing_as : (t : ThreadState) (c : Completion TxState Value) (next : Completion ThreadState Value) → RecursAs tail next → RecursAs tail (missing t c next)
  missing_as t (Completes v x) next h = tt
  missing_as t (Recurs vs x) next h = tt
  missing_as t (Faults f x) next h = tt
  missing_as t (Retries x) next h = tt
  missing_as t (Waits x) next h = h
  missing_as t (OutOfTurns x) next h = tt
  missing_as t Invalid next h = tt

  rerun_as : (d : Transacting) (k : EventKind) (R : World) (t : ThreadState) (next : Completion ThreadState Value) → RecursAs tail next → RecursAs tail (rerun d k R t next)
  rerun_as d (Retry since c cause.Outdated) R t next h = missing_as t (d.lacking c.number R) next h
  rerun_as d (Retry since c cause.Held) R t next h =
      over_as t (d.on R) (λ v x. allowed (is_held x.done c.number) next) (λ g. Invalid) (λ v x. if_allowed (is_held x.done c.number) next h) (λ g. tt)
  rerun_as d (Retry since c (cause.Commuted at)) R t next h =
      over_as t (d.on R) (λ v x. allowed (has_number (commuted x.done) c.number) next) (λ g. Invalid) (λ v x. if_allowed (has_number (commuted x.done) c.number) next h) (λ g. tt)
  rerun_as d (Read c) R t next h = tt
  rerun_as d (Commit at view writes sent) R t next h = tt
  rerun_as d (Fail at view) R t next h = tt
  rerun_as d (Refused at view g) R t next h = tt
  rerun_as d (Sent a) R t next h = tt
  rerun_as d (SendRefused g) R t next h = tt
  rerun_as d (Act g n new sends) R t next h = tt
  rerun_as d (Swapped new) R t next h = tt
  rerun_as d (Broke at) R t next h = tt

  eats_tx_as : (k : ℕ) (d : Transacting) (f : Applies ThreadState) (es : List SeenEvent) (t : ThreadState) → RecursAs tail (eats_tx k d f es t)
  eats_tx_as zero d f es t = tt
  eats_tx_as (suc k) d f [] t = tt
  eats_tx_as (suc k) d f (e ∷ es) t =
      let end = ends_tx d f e.kind e.R e.Q e.C (record t { todo = es }) in
      let more = rerun d e.kind e.R (record t { todo = e ∷ es }) (eats_tx k d f es t) in
      if_as (e.book == 0) (if is_retry e.kind then more else uneaten (e ∷ es) end) Invalid
      (if_as (is_retry e.kind) more (uneaten (e ∷ es) end) (rerun_as d e.kind e.R (record t { todo = e ∷ es }) (eats_tx k d f es t) (eats_tx_as k d f es t)) (uneaten_as (e ∷ es) end (ends_tx_as d f e.kind e.R e.Q e.C (record t { todo = es })))) tt

  thread_look_as : (x : Surroundings) (form : LookForm) (c : CellId) (t : ThreadState) → RecursAs tail (thread_look x form c t)
  thread_look_as x Deref c t = eats_as (home x.cells c) (λ e t1. reads c e.kind e.C t1) t.todo t (λ e t1. reads_as c e.kind e.C t1)
  thread_look_as x Ensure c t = tt

  thread_put_as : (x : Surroundings) (form : PutForm) (span : Span) (c : CellId) (v : Value) (f : Applies ThreadState) (t : ThreadState) → RecursAs tail (thread_put x form span c v f t)
  thread_put_as x RefSet span c v f t = tt
  thread_put_as x Reset span c v f t =
      bind_as tail (accepts x f c span v t) (λ w t1. eats (home x.cells c) (λ e t2. resets w e.kind t2) t1.todo t1) (λ w t1. eats_as (home x.cells c) (λ e t2. resets w e.kind t2) t1.todo t1 (λ e t2. resets_as w e.kind t2))

  thread_update_as : (x : Surroundings) (form : UpdateForm) (span : Span) (c : CellId) (callee : Callee) (vs : List Value) (f : Applies ThreadState) (t : ThreadState) → RecursAs tail (thread_update x form span c callee vs f t)
  thread_update_as x Alter span c callee vs f t = tt
  thread_update_as x Commute span c callee vs f t = tt
  thread_update_as x Swap span c callee vs f t =
      let made : Value → ThreadState → Completion ThreadState Value = λ v t2. bind (f callee (v ∷ vs) t2) (accepts x f c span) in
      eats_as (home x.cells c) (λ e t1. swaps c made e.kind e.R e.C t1) t.todo t (λ e t1. swaps_as c made e.kind e.R e.C t1)

  -- the forms on cells of a thread, one family after the other
  module _ (x : Surroundings) (d : ℕ) (m : Mark) (v : Value) (t : ThreadState) where
    outside_as : (form : CellForm) (go : CellId → ThreadState → Completion ThreadState Value) → ((c : CellId) (t1 : ThreadState) → RecursAs tail (go c t1)) → RecursAs tail (outside_form form (on_cell form false m.span v go t))
    outside_as form go h = allowed_as tail (may_stand (rule form).stands false) (on_cell form false m.span v go t) (on_cell_as tail form false m.span v go t h)

    look_as : (form : LookForm) → RecursAs tail ((on_events x d).look form false m v t)
    look_as form = outside_as (form_of.Look form) (thread_look x form) (λ c t1. thread_look_as x form c t1)

    put_as : (form : PutForm) (w : Value) (f : Applies ThreadState) → RecursAs tail ((on_events x d).put form false m v w f t)
    put_as form w f = outside_as (form_of.Put form) (λ c t1. thread_put x form m.span c w f t1) (λ c t1. thread_put_as x form m.span c w f t1)

    update_as : (form : UpdateForm) (callee : Callee) (vs : List Value) (f : Applies ThreadState) → RecursAs tail ((on_events x d).update form false m v callee vs f t)
    update_as form callee vs f = outside_as (form_of.Update form) (λ c t1. thread_update x form m.span c callee vs f t1) (λ c t1. thread_update_as x form m.span c callee vs f t1)

    send_as : (callee : Callee) (vs : List Value) → RecursAs tail ((on_events x d).send false m v callee vs t)
    send_as callee vs =
        let action : CellId → Action = λ c. record { agent = c; callee = callee; args = vs; span = m.span } in
        on_cell_as tail form_of.Send false m.span v (λ c t1. sends_or_holds t1.held (action c) m.span t1) t
        (λ c t1. sends_or_holds_as t1.held (action c) m.span t1)

-- ---- what a sound node leaves

-- a state is kept where it completes or recurs, and a recur has as many values as are given
abbrev Fine : {S A : Type 0} → (S → Type 0) → Option ℕ → Completion S A → Type 0
Fine P tail (Completes a s) = P s
Fine P tail (Recurs vs s) = (tail ≡ Some (length vs)) × P s
Fine P tail (Faults f s) = Unit {0}
Fine P tail (Retries s) = Unit {0}
Fine P tail (Waits s) = Unit {0}
Fine P tail (OutOfTurns s) = Unit {0}
Fine P tail Invalid = Unit {0}

-- the same of so many values
abbrev FineAll : {S : Type 0} → (S → Type 0) → ℕ → Completion S (List Value) → Type 0
FineAll P k (Completes vs s) = (length vs ≡ k) × P s
FineAll P k (Recurs vs s) = Unit {0}
FineAll P k (Faults f s) = Unit {0}
FineAll P k (Retries s) = Unit {0}
FineAll P k (Waits s) = Unit {0}
FineAll P k (OutOfTurns s) = Unit {0}
FineAll P k Invalid = Unit {0}

module _ {S : Type 0} (P : S → Type 0) where
  bind_fine : {A B : Type 0} (t tail : Option ℕ) (c : Completion S A) (go : A → S → Completion S B) → Fine P t c → ((a : A) (s : S) → P s → Fine P tail (go a s)) → Fine P tail (bind c go)
  bind_fine t tail (Completes a s) go h each = each a s h
  bind_fine t tail (Recurs vs s) go h each = tt
  bind_fine t tail (Faults f s) go h each = tt
  bind_fine t tail (Retries s) go h each = tt
  bind_fine t tail (Waits s) go h each = tt
  bind_fine t tail (OutOfTurns s) go h each = tt
  bind_fine t tail Invalid go h each = tt

  all_fine : {B : Type 0} (k : ℕ) (tail : Option ℕ) (c : Completion S (List Value)) (go : List Value → S → Completion S B) → FineAll P k c → ((vs : List Value) (s : S) → length vs ≡ k → P s → Fine P tail (go vs s)) → Fine P tail (bind c go)
  all_fine k tail (Completes vs s) go h each = each vs s h.0 h.1
  all_fine k tail (Recurs vs s) go h each = tt
  all_fine k tail (Faults f s) go h each = tt
  all_fine k tail (Retries s) go h each = tt
  all_fine k tail (Waits s) go h each = tt
  all_fine k tail (OutOfTurns s) go h each = tt
  all_fine k tail Invalid go h each = tt

  bind_all : {A : Type 0} (t : Option ℕ) (k : ℕ) (c : Completion S A) (go : A → S → Completion S (List Value)) → Fine P t c → ((a : A) (s : S) → P s → FineAll P k (go a s)) → FineAll P k (bind c go)
  bind_all t k (Completes a s) go h each = each a s h
  bind_all t k (Recurs vs s) go h each = tt
  bind_all t k (Faults f s) go h each = tt
  bind_all t k (Retries s) go h each = tt
  bind_all t k (Waits s) go h each = tt
  bind_all t k (OutOfTurns s) go h each = tt
  bind_all t k Invalid go h each = tt

  one_more : (k : ℕ) (v : Value) (c : Completion S (List Value)) → FineAll P k c → FineAll P (suc k) (bind c (λ vs s. Completes (v ∷ vs) s))
  one_more k v (Completes vs s) h = (ap suc h.0, h.1)
  one_more k v (Recurs vs s) h = tt
  one_more k v (Faults f s) h = tt
  one_more k v (Retries s) h = tt
  one_more k v (Waits s) h = tt
  one_more k v (OutOfTurns s) h = tt
  one_more k v Invalid h = tt

  recur_fine : (k : ℕ) (tail : Option ℕ) (c : Completion S (List Value)) → FineAll P k c → tail ≡ Some k → Fine {A = Value} P tail (bind c (λ vs s. Recurs vs s))
  recur_fine k tail (Completes vs s) h e = (e ∙ ap Some (sym h.0), h.1)
  recur_fine k tail (Recurs vs s) h e = tt
  recur_fine k tail (Faults f s) h e = tt
  recur_fine k tail (Retries s) h e = tt
  recur_fine k tail (Waits s) h e = tt
  recur_fine k tail (OutOfTurns s) h e = tt
  recur_fine k tail Invalid h e = tt

  again_fine : (t tail : Option ℕ) (c : Completion S Value) (go : List Value → S → Completion S Value) → Fine P t c → ((vs : List Value) (s : S) → P s → Fine P tail (go vs s)) → Fine P tail (again c go)
  again_fine t tail (Completes a s) go h each = h
  again_fine t tail (Recurs vs s) go h each = each vs s h.1
  again_fine t tail (Faults f s) go h each = tt
  again_fine t tail (Retries s) go h each = tt
  again_fine t tail (Waits s) go h each = tt
  again_fine t tail (OutOfTurns s) go h each = tt
  again_fine t tail Invalid go h each = tt

  closed_fine : (t tail : Option ℕ) (c : Completion S Value) → Fine P t c → Fine P tail (closed c)
  closed_fine t tail c h = again_fine t tail c (λ vs s. Invalid) h (λ vs s p. tt)

  either_fine : (b : Bool) (tail : Option ℕ) (c : Completion S Value) → Fine P tail c → Fine P tail (if b then c else Invalid)
  either_fine true tail c h = h
  either_fine false tail c h = tt

  turns_fine : (k d : ℕ) (tail : Option ℕ) (body : List Value → S → Completion S Value) → ((ws : List Value) (s : S) → P s → Fine P (Some d) (body ws s)) → (vs : List Value) (s : S) → P s → Fine P tail (turns k d body vs s)
  turns_fine zero d tail body each vs s p = tt
  turns_fine (suc k) d tail body each vs s p =
      either_fine (nat_eq (length vs) d) tail (again (body vs s) (turns k d body)) (again_fine (Some d) tail (body vs s) (turns k d body) (each vs s p) (λ ws s1 p1. turns_fine k d tail body each ws s1 p1))

  give_fine : (tail : Option ℕ) (o : Option Value) (s : S) → P s → Fine P tail (give o s)
  give_fine tail None s p = tt
  give_fine tail (Some v) s p = p

  result_fine : {A : Type 0} (tail : Option ℕ) (r : Result A FaultKind) (span : Span) (s : S) → P s → Fine P tail (result_of r span s)
  result_fine tail (Ok v) span s p = p
  result_fine tail (Err k) span s p = tt

  choose_fine : (tail : Option ℕ) (v : Value) (c d : Completion S Value) → Fine P tail c → Fine P tail d → Fine P tail (choose v c d)
  choose_fine tail Nil c d f g = g
  choose_fine tail (Truth true) c d f g = f
  choose_fine tail (Truth false) c d f g = g
  choose_fine tail (Int z) c d f g = f
  choose_fine tail (Key bs) c d f g = f
  choose_fine tail (Text bs) c d f g = f
  choose_fine tail (Vector vs) c d f g = f
  choose_fine tail (Cell x) c d f g = f

  on_cell_fine : (tail : Option ℕ) (form : CellForm) (inside : Bool) (span : Span) (v : Value) (go : CellId → S → Completion S Value) (s : S) → P s → ((c : CellId) (t : S) → P t → Fine P tail (go c t)) → Fine P tail (on_cell form inside span v go s)
  on_cell_fine tail form inside span v go s p each = bind_fine None tail (result_of (cell_of (rule form) inside v) span s) go (result_fine None (cell_of (rule form) inside v) span s p) each

-- ---- in a transaction

-- commutes have pure callees among these functions, or nothing is asked of them
abbrev KeptBy : Option (List Known) → List frame.Commute → Type 0
KeptBy None cs = Unit {0}
KeptBy (Some ks) cs = SoundCommutes ks cs

-- a pure callee among these functions, or nothing is asked of it
abbrev CalleeBy : Option (List Known) → Callee → ℕ → Type 0
CalleeBy None callee k = Unit {0}
CalleeBy (Some ks) callee k = SoundCallee ks callee k

pushed : (top : Option (List Known)) (cs : List frame.Commute) (c : frame.Commute) → KeptBy top cs → CalleeBy top c.callee (suc (length c.args)) → KeptBy top (cs ++ c ∷ [])
pushed None cs c h one = tt
pushed (Some ks) [] c h one = (one, tt)
pushed (Some ks) (d ∷ ds) c h one = (h.0, pushed (Some ks) ds c h.1 one)

module _ (top : Option (List Known)) where
  abbrev Keeps : TxState → Type 0
  Keeps t = KeptBy top t.done.commutes

  noted_keeps : (c : CellId) (o : Option Value) (t : TxState) → Keeps t → Keeps (noted c o t)
  noted_keeps c None t h = h
  noted_keeps c (Some v) t h = h

  set_keeps : (b : Bool) (tail : Option ℕ) (w w2 : PlainTxFrame) (k : FaultKind) (span : Span) (v : Value) (t : TxState) → KeptBy top w2.commutes → Fine Keeps tail (done_as (if b then Err k else Ok w2) span v t)
  set_keeps true tail w w2 k span v t h = tt
  set_keeps false tail w w2 k span v t h = h

  done_keeps : (tail : Option ℕ) (c : CellId) (v : Value) (span : Span) (t : TxState) → Keeps t → Fine Keeps tail (done_as (set_ref c v t.done) span v t)
  done_keeps tail c v span t h = set_keeps (is_commuted t.done c.number) tail t.done _ _ span v t h

  module _ (lack : Option ℕ) (R : World) where
    looked_fine : (c : CellId) (t : TxState) → Keeps t → Fine Keeps None (looked lack R c t)
    looked_fine c t h = test (lacks lack (own t.done c.number) c.number)
      where
        test : (b : Bool) → Fine Keeps None (if b then Waits t else Completes (current R t.done c) t)
        test true = tt
        test false = h

    taken_fine : (tail : Option ℕ) (c : CellId) (t : TxState) → Keeps t → Fine Keeps tail (taken_lacking lack R c t)
    taken_fine tail c t h = bind_fine Keeps None tail (looked lack R c t) (λ v t1. Completes v (noted c (own t1.done c.number) t1)) (looked_fine c t h) (λ v t1 h1. noted_keeps c (own t1.done c.number) t1 h1)

  module _ (lack : Option ℕ) (R : World) (tail : Option ℕ) where
    tx_look_fine : (form : LookForm) (c : CellId) (t : TxState) → Keeps t → Fine Keeps tail (tx_look_lacking lack R form c t)
    tx_look_fine Deref c t h = taken_fine lack R tail c t h
    tx_look_fine Ensure c t h = bind_fine Keeps None tail (taken_lacking lack R c t) (λ v t1. Completes v (record t1 { done = ensure_ref c t1.done })) (taken_fine lack R None c t h) (λ v t1 h1. h1)

    tx_put_fine : (form : PutForm) (span : Span) (c : CellId) (v : Value) (t : TxState) → Keeps t → Fine Keeps tail (tx_put form span c v t)
    tx_put_fine RefSet span c v t h = done_keeps tail c v span t h
    tx_put_fine Reset span c v t h = tt

    tx_update_fine : (form : UpdateForm) (m : Mark) (c : CellId) (callee : Callee) (vs : List Value) (f : Applies TxState) (t : TxState) → CalleeBy top callee (suc (length vs))
        → ((us : List Value) (s : TxState) → length us ≡ suc (length vs) → Keeps s → Fine Keeps None (f callee us s)) → Keeps t → Fine Keeps tail (tx_update_lacking lack R form m c callee vs f t)
    tx_update_fine Alter m c callee vs f t sound each h =
        let ending : Value → TxState → Completion TxState Value = λ w t2. done_as (set_ref c w t2.done) m.span w t2 in
        bind_fine Keeps None tail (taken_lacking lack R c t) (λ v t1. bind (f callee (v ∷ vs) t1) ending) (taken_fine lack R None c t h)
        (λ v t1 h1. bind_fine Keeps None tail (f callee (v ∷ vs) t1) ending (each (v ∷ vs) t1 refl h1) (λ w t2 h2. done_keeps tail c w m.span t2 h2))
    tx_update_fine Commute m c callee vs f t sound each h =
        let ending : Value → TxState → Completion TxState Value = λ w t2. Completes w (record t2 { done = commute_ref c callee vs w t2.done; used = t2.used || m.wanted }) in
        bind_fine Keeps None tail (looked lack R c t) (λ v t1. bind (f callee (v ∷ vs) t1) ending) (looked_fine lack R c t h)
        (λ v t1 h1. bind_fine Keeps None tail (f callee (v ∷ vs) t1) ending (each (v ∷ vs) t1 refl h1) (λ w t2 h2. pushed top t2.done.commutes (record { cell = c; callee = callee; args = vs }) h2 sound))
    tx_update_fine Swap m c callee vs f t sound each h = tt

-- ---- what each family leaves, while this transaction runs or none

-- a world, which may lack the value of a ref
abbrev Sight : Type 0
Sight = Option ℕ × World

-- a transaction runs on some world, or none
abbrev shape : Option Sight → Option PlainTxView
shape None = None
shape (Some R) = Some (whole_view (record { cells = []; swaps = None; place = 0 }))

-- the forms on cells there
abbrev forms_at : (o : Option Sight) → Surroundings → ℕ → Effects (Part (shape o))
forms_at None x d = deeply x (on_right x d)
forms_at (Some R) x d = in_transaction_lacking R.0 R.1

-- what functions mean there
abbrev calls_at : (o : Option Sight) → Setting → Bool → ℕ → List Value → Part (shape o) → Completion (Part (shape o)) Value
calls_at o x = call_at (forms_at o (around_it x)) x.turns (functions_of x.functions) x.depth

abbrev KeepsOn : (o : Option Sight) → Option (List Known) → Part (shape o) → Type 0
KeepsOn None top t = Unit {0}
KeepsOn (Some R) top t = KeptBy top t.done.commutes

-- nothing is kept of a thread
right : (tail : Option ℕ) (s : ThreadState) (c : Completion ThreadState Value) → RecursAs tail c → Fine (λ t. Unit {0}) tail (up_to s c)
right tail s (Completes a t) h = tt
right tail s (Recurs vs t) h = (h, tt)
right tail s (Faults f t) h = tt
right tail s (Retries t) h = tt
right tail s (Waits t) h = tt
right tail s (OutOfTurns t) h = tt
right tail s Invalid h = tt

module _ (top : Option (List Known)) (x : Surroundings) (d : ℕ) (tail : Option ℕ) where
  print_fine : (o : Option Sight) (vs : List Value) (s : Part (shape o)) → KeepsOn o top s → Fine (KeepsOn o top) tail ((forms_at o x d).print (is_on (shape o)) vs s)
  print_fine None vs s h = tt
  print_fine (Some R) vs s h = tt

  look_fine : (o : Option Sight) (form : LookForm) (m : Mark) (v : Value) (s : Part (shape o)) → KeepsOn o top s → Fine (KeepsOn o top) tail ((forms_at o x d).look form (is_on (shape o)) m v s)
  look_fine None form m v s h = right tail s ((on_events x d).look form false m v s) (look_as tail x d m v s form)
  look_fine (Some R) form m v s h = on_cell_fine (Keeps top) tail (form_of.Look form) true m.span v (tx_look_lacking R.0 R.1 form) s h (λ c t p. tx_look_fine top R.0 R.1 tail form c t p)

  put_fine : (o : Option Sight) (form : PutForm) (m : Mark) (v w : Value) (f : Applies (Part (shape o))) (s : Part (shape o)) → KeepsOn o top s → Fine (KeepsOn o top) tail ((forms_at o x d).put form (is_on (shape o)) m v w f s)
  put_fine None form m v w f s h = right tail s ((on_events x d).put form false m v w (wholly x m.span) s) (put_as tail x d m v s form w (wholly x m.span))
  put_fine (Some R) form m v w f s h = on_cell_fine (Keeps top) tail (form_of.Put form) true m.span v (λ c t. tx_put form m.span c w t) s h (λ c t p. tx_put_fine top R.0 R.1 tail form m.span c w t p)

  update_fine : (o : Option Sight) (form : UpdateForm) (m : Mark) (v : Value) (callee : Callee) (vs : List Value) (f : Applies (Part (shape o))) (s : Part (shape o)) → CalleeBy top callee (suc (length vs))
      → ((us : List Value) (t : Part (shape o)) → length us ≡ suc (length vs) → KeepsOn o top t → Fine (KeepsOn o top) None (f callee us t)) → KeepsOn o top s → Fine (KeepsOn o top) tail ((forms_at o x d).update form (is_on (shape o)) m v callee vs f s)
  update_fine None form m v callee vs f s sound each h = right tail s ((on_events x d).update form false m v callee vs (wholly x m.span) s) (update_as tail x d m v s form callee vs (wholly x m.span))
  update_fine (Some R) form m v callee vs f s sound each h =
      on_cell_fine (Keeps top) tail (form_of.Update form) true m.span v (λ c t. tx_update_lacking R.0 R.1 form m c callee vs f t) s h (λ c t p. tx_update_fine top R.0 R.1 tail form m c callee vs f t sound each p)

  send_fine : (o : Option Sight) (m : Mark) (v : Value) (callee : Callee) (vs : List Value) (s : Part (shape o)) → KeepsOn o top s → Fine (KeepsOn o top) tail ((forms_at o x d).send (is_on (shape o)) m v callee vs s)
  send_fine None m v callee vs s h = right tail s ((on_events x d).send false m v callee vs s) (send_as tail x d m v s callee vs)
  send_fine (Some R) m v callee vs s h = on_cell_fine (Keeps top) tail form_of.Send true m.span v _ s h (λ c t p. p)

  dosync_fine : (o : Option Sight) (m : Mark) (body : Tree) (env : List Value) (run : Part (shape o) → Completion (Part (shape o)) Value) (f : Applies (Part (shape o))) (s : Part (shape o))
      → (is_on (shape o) ≡ true → Fine (KeepsOn o top) tail (run s)) → Fine (KeepsOn o top) tail ((forms_at o x d).dosync (is_on (shape o)) m body env run f s)
  dosync_fine None m body env run f s each = right tail (record s { todo = behind_retries x.tries _ s.todo }) ((on_events x d).dosync false m body env run (wholly x m.span) s) (eats_tx_as tail x.tries _ (wholly x m.span) s.todo s)
  dosync_fine (Some R) m body env run f s each = each refl

-- in a transaction
zone_is : (o : Option Sight) → is_on (shape o) ≡ true → zone_on (shape o) ≡ in_dosync
zone_is None h = absurd (false≢true h)
zone_is (Some R) h = refl

module _ (top : Option (List Known)) (ks : List Known) (wide : (callee : Callee) (k : ℕ) → SoundCallee ks callee k → CalleeBy top callee k) (o : Option Sight) (x : Surroundings) (b n : ℕ) (call : Bool → ℕ → List Value → Part (shape o) → Completion (Part (shape o)) Value)
    (calls : (f : ℕ) (vs : List Value) (s : Part (shape o)) → SoundCall ks (zone_on (shape o)) f (length vs) → KeepsOn o top s → Fine (KeepsOn o top) None (call (is_on (shape o)) f vs s))
    (pures : (f k : ℕ) → SoundCallee ks (Function f) k → SoundCall ks (zone_on (shape o)) f k) where
  abbrev fx : Effects (Part (shape o))
  fx = forms_at o x b

  abbrev on : Bool
  on = is_on (shape o)

  abbrev P : Part (shape o) → Type 0
  P = KeepsOn o top

  -- a call gives no recur
  unrecurred : (tail : Option ℕ) (c : Completion (Part (shape o)) Value) → Fine P None c → Fine P tail c
  unrecurred tail (Completes a s) h = h
  unrecurred tail (Recurs vs s) h = absurd (subst IsSome (sym h.0) tt)
  unrecurred tail (Faults f s) h = tt
  unrecurred tail (Retries s) h = tt
  unrecurred tail (Waits s) h = tt
  unrecurred tail (OutOfTurns s) h = tt
  unrecurred tail Invalid h = tt

  applies : (span : Span) (callee : Callee) (k : ℕ) → SoundCallee ks callee k → (us : List Value) (s : Part (shape o)) → length us ≡ k → P s → Fine P None (apply (call on) span callee us s)
  applies span (CoreOp op) k sound us s many p = result_fine P None (core op us) span s p
  applies span (Function f) k sound us s many p = calls f us s (subst (λ j. SoundCall ks (zone_on (shape o)) f j) (sym many) (pures f k sound)) p

  mutual
    tree_fine : (e : Tree) (d : ℕ) (tail : Option ℕ) (env : List Value) (s : Part (shape o)) → SoundTree ks (zone_on (shape o)) d tail e → P s → Fine P tail (eval fx call n on e env s)
    tree_fine (Const v m) d tail env s h p = p
    tree_fine (Local i m) d tail env s h p = give_fine P tail (nth env i) s p
    tree_fine (If c a e m) d tail env s h p =
        bind_fine P None tail (eval fx call n on c env s) (λ v s1. choose v (eval fx call n on a env s1) (eval fx call n on e env s1)) (tree_fine c d None env s h.0 p)
        (λ v s1 p1. choose_fine P tail v (eval fx call n on a env s1) (eval fx call n on e env s1) (tree_fine a d tail env s1 h.1 p1) (tree_fine e d tail env s1 h.2 p1))
    tree_fine (Do items m) d tail env s h p = do_fine items d tail env s h p
    tree_fine (Let values body m) d tail env s h p =
        bind_fine P None tail (eval_let fx call n on values env s) (λ vs s1. eval fx call n on body (env ++ vs) s1) (let_fine values d env s h.0 p) (λ vs s1 p1. tree_fine body (d + count values) tail (env ++ vs) s1 h.1 p1)
    tree_fine (Loop values body m) d tail env s h p =
        bind_fine P None tail (eval_let fx call n on values env s) (λ vs s1. turns n (count values) (λ ws s2. eval fx call n on body (env ++ ws) s2) vs s1) (let_fine values d env s h.0 p)
        (λ vs s1 p1. turns_fine P n (count values) tail (λ ws s2. eval fx call n on body (env ++ ws) s2) (λ ws s2 p2. tree_fine body (d + count values) (Some (count values)) (env ++ ws) s2 h.1 p2) vs s1 p1)
    tree_fine (Recur values m) d tail env s h p = recur_fine P (count values) tail (eval_all fx call n on values env s) (row_fine values d env s h.1 p) h.0
    tree_fine (Core op args m) d tail env s h p =
        all_fine P (count args) tail (eval_all fx call n on args env s) (λ vs s1. result_of (core op vs) m.span s1) (row_fine args d env s h.1 p) (λ vs s1 many p1. result_fine P tail (core op vs) m.span s1 p1)
    tree_fine (Call f args m) d tail env s h p =
        all_fine P (count args) tail (eval_all fx call n on args env s) (λ vs s1. call on f vs s1) (row_fine args d env s h.1 p)
        (λ vs s1 many p1. unrecurred tail (call on f vs s1) (calls f vs s1 (subst (λ k. SoundCall ks (zone_on (shape o)) f k) (sym many) h.0) p1))
    tree_fine (VectorOf items m) d tail env s h p =
        all_fine P (count items) tail (eval_all fx call n on items env s) (λ vs s1. result_of (vector_of vs) m.span s1) (row_fine items d env s h.1 p) (λ vs s1 many p1. result_fine P tail (vector_of vs) m.span s1 p1)
    tree_fine (Println args m) d tail env s h p =
        all_fine P (count args) tail (eval_all fx call n on args env s) (λ vs s1. fx.print on vs s1) (row_fine args d env s h.2 p) (λ vs s1 many p1. print_fine top x b tail o vs s1 p1)
    tree_fine (Dosync body m) d tail env s h p =
        dosync_fine top x b tail o m body env (λ t. closed (eval fx call n true body env t)) (apply (call true) m.span) s
        (λ is. subst (λ i. Fine P tail (closed (eval fx call n i body env s))) is (closed_fine P None tail (eval fx call n on body env s) (tree_fine body d None env s (subst (λ z. SoundTree ks z d None body) (sym (zone_is o is)) h) p)))
    tree_fine (Look form cell m) d tail env s h p =
        bind_fine P None tail (eval fx call n on cell env s) (λ v s1. fx.look form on m v s1) (tree_fine cell d None env s h.1 p) (λ v s1 p1. look_fine top x b tail o form m v s1 p1)
    tree_fine (Put form cell value m) d tail env s h p =
        let f = apply (call on) m.span in
        bind_fine P None tail (eval fx call n on cell env s) (λ v s1. bind (eval fx call n on value env s1) (λ w s2. fx.put form on m v w f s2)) (tree_fine cell d None env s h.1 p)
        (λ v s1 p1. bind_fine P None tail (eval fx call n on value env s1) (λ w s2. fx.put form on m v w f s2) (tree_fine value d None env s1 h.2 p1) (λ w s2 p2. put_fine top x b tail o form m v w f s2 p2))
    tree_fine (Update form cell callee args m) d tail env s h p =
        let f = apply (call on) m.span in
        bind_fine P None tail (eval fx call n on cell env s) (λ v s1. bind (eval_all fx call n on args env s1) (λ vs s2. fx.update form on m v callee vs f s2)) (tree_fine cell d None env s h.1 p)
        (λ v s1 p1. all_fine P (count args) tail (eval_all fx call n on args env s1) (λ vs s2. fx.update form on m v callee vs f s2) (row_fine args d env s1 h.3 p1)
        (λ vs s2 many p2.
        let sound : SoundCallee ks callee (suc (length vs)) = subst (λ k. SoundCallee ks callee (suc k)) (sym many) h.2 in
        update_fine top x b tail o form m v callee vs f s2 (wide callee (suc (length vs)) sound) (λ us t as_many q. applies m.span callee (suc (length vs)) sound us t as_many q) p2))
    tree_fine (Send cell callee args m) d tail env s h p =
        bind_fine P None tail (eval fx call n on cell env s) (λ v s1. bind (eval_all fx call n on args env s1) (λ vs s2. fx.send on m v callee vs s2)) (tree_fine cell d None env s h.0 p)
        (λ v s1 p1. all_fine P (count args) tail (eval_all fx call n on args env s1) (λ vs s2. fx.send on m v callee vs s2) (row_fine args d env s1 h.2 p1) (λ vs s2 many p2. send_fine top x b tail o m v callee vs s2 p2))

    row_fine : (es : Trees) (d : ℕ) (env : List Value) (s : Part (shape o)) → SoundAll ks (zone_on (shape o)) d es → P s → FineAll P (count es) (eval_all fx call n on es env s)
    row_fine none d env s h p = (refl, p)
    row_fine (more e rest) d env s h p =
        bind_all P None (suc (count rest)) (eval fx call n on e env s) (λ v s1. bind (eval_all fx call n on rest env s1) (λ vs s2. Completes (v ∷ vs) s2)) (tree_fine e d None env s h.0 p)
        (λ v s1 p1. one_more P (count rest) v (eval_all fx call n on rest env s1) (row_fine rest d env s1 h.1 p1))

    let_fine : (es : Trees) (d : ℕ) (env : List Value) (s : Part (shape o)) → SoundLet ks (zone_on (shape o)) d es → P s → Fine P None (eval_let fx call n on es env s)
    let_fine none d env s h p = p
    let_fine (more e rest) d env s h p =
        bind_fine P None None (eval fx call n on e env s) (λ v s1. bind (eval_let fx call n on rest (env ++ v ∷ []) s1) (λ vs s2. Completes (v ∷ vs) s2)) (tree_fine e d None env s h.0 p)
        (λ v s1 p1. bind_fine P None None (eval_let fx call n on rest (env ++ v ∷ []) s1) (λ vs s2. Completes (v ∷ vs) s2) (let_fine rest (d + 1) (env ++ v ∷ []) s1 h.1 p1) (λ vs s2 p2. p2))

    do_fine : (es : Trees) (d : ℕ) (tail : Option ℕ) (env : List Value) (s : Part (shape o)) → SoundDo ks (zone_on (shape o)) d tail es → P s → Fine P tail (eval_do fx call n on es env s)
    do_fine none d tail env s h p = absurd h
    do_fine (more e none) d tail env s h p = tree_fine e d tail env s h p
    do_fine (more e (more f rest)) d tail env s h p =
        bind_fine P None tail (eval fx call n on e env s) (λ v s1. eval_do fx call n on (more f rest) env s1) (tree_fine e d None env s h.0 p) (λ v s1 p1. do_fine (more f rest) d tail env s1 h.1 p1)

-- ---- functions

-- what is asked of commutes, where so many functions may be called
abbrev asked : Bool → List Known → Option (List Known)
asked true ks = Some ks
asked false ks = None

module _ (cells : List CellDefinition) (fs : List function.Function) (n : ℕ) (o : Option Sight) (d : ℕ) (ask : Bool) (sound : SoundFunctions [] (functions_of fs)) where
  abbrev at : ℕ → Setting
  at b = record { cells = cells; functions = fs; depth = b; turns = n; world = shape o }

  abbrev most : Option (List Known)
  most = asked ask (callable (at d))

  narrow : (b : ℕ) → b ≤ d → (callee : Callee) (k : ℕ) → SoundCallee (callable (at b)) callee k → SoundCallee (callable (at d)) callee k
  narrow b le callee k h =
      callee-widened (callable (at b)) (callable (at d)) (λ f l found. let there = nth-take b (known (functions_of fs)) f l found in nth-before d (known (functions_of fs)) f l (omega (arith, there.0, le)) there.1) callee k h

  widened : (a : Bool) (b : ℕ) → b ≤ d → (callee : Callee) (k : ℕ) → SoundCallee (callable (at b)) callee k → CalleeBy (asked a (callable (at d))) callee k
  widened true b le callee k h = narrow b le callee k h
  widened false b le callee k h = tt

  abbrev Q : Part (shape o) → Type 0
  Q = KeepsOn o most

  body_fine : (b f : ℕ) (vs : List Value) (s : Part (shape o)) → suc b ≤ d → SoundCall (callable (at (suc b))) (zone_on (shape o)) f (length vs)
      → ((g : ℕ) (us : List Value) (t : Part (shape o)) → SoundCall (callable (at b)) (zone_on (shape o)) g (length us) → Q t → Fine Q None (calls_at o (at b) (is_on (shape o)) g us t))
      → Q s → (found : Option PlainFunction) → nth (functions_of fs) f ≡ found
      → Fine Q None (bind (give found s) (λ fun s1. turns (suc n) fun.parameters (λ ws s2. eval (forms_at o (around_it (at b)) b) (calls_at o (at b)) n (is_on (shape o)) fun.body ws s2) vs s1))
  body_fine b f vs s le h below p None there = tt
  body_fine b f vs s le h below p (Some fun) there =
      let low : suc b - 1 ≡ b = omega arith in
      let k = length vs in
      let many : fun.parameters ≡ k = as_many (at (suc b)) f k h fun sound there in
      let body : SoundTree (callable (at b)) (zone_on (shape o)) fun.parameters (Some fun.parameters) fun.body =
      subst (λ j. SoundTree (callable (at b)) (zone_on (shape o)) j (Some j) fun.body) (sym many) (subst (λ j. SoundTree (callable (at j)) (zone_on (shape o)) k (Some k) fun.body) low (called_body (at (suc b)) f k h fun sound there)) in
      turns_fine Q (suc n) fun.parameters None (λ ws s2. eval (forms_at o (around_it (at b)) b) (calls_at o (at b)) n (is_on (shape o)) fun.body ws s2)
      (λ ws s2 p2. tree_fine most (callable (at b)) (widened ask b (omega (arith, le))) o (around_it (at b)) b n (calls_at o (at b)) below (λ g j pure. pure_here (at b) g j pure) fun.body fun.parameters (Some fun.parameters) ws s2 body p2)
      vs s p

  calls_fine : (b f : ℕ) (vs : List Value) (s : Part (shape o)) → b ≤ d → SoundCall (callable (at b)) (zone_on (shape o)) f (length vs) → Q s → Fine Q None (calls_at o (at b) (is_on (shape o)) f vs s)
  calls_fine zero f vs s le h p = tt
  calls_fine (suc b) f vs s le h p = body_fine b f vs s le h (λ g us t sc q. calls_fine b g us t (omega (arith, le)) sc q) p (nth (functions_of fs) f) refl

  whole_fine : (e : Tree) (l : ℕ) (tail : Option ℕ) (env : List Value) (s : Part (shape o)) → SoundTree (callable (at d)) (zone_on (shape o)) l tail e → Q s → Fine Q tail (eval (forms_at o (around_it (at d)) d) (calls_at o (at d)) n (is_on (shape o)) e env s)
  whole_fine e l tail env s h p =
      tree_fine most (callable (at d)) (widened ask d (omega arith)) o (around_it (at d)) d n (calls_at o (at d)) (λ f vs t c q. calls_fine d f vs t (omega arith) c q) (λ f k pure. pure_here (at d) f k pure) e l tail env s h p

-- ---- what the evaluator needs of it

recurs_of : {S : Type 0} (P : S → Type 0) (tail : Option ℕ) (c : Completion S Value) → Fine P tail c → RecursAs tail c
recurs_of P tail (Completes a s) h = tt
recurs_of P tail (Recurs vs s) h = h.0
recurs_of P tail (Faults f s) h = tt
recurs_of P tail (Retries s) h = tt
recurs_of P tail (Waits s) h = tt
recurs_of P tail (OutOfTurns s) h = tt
recurs_of P tail Invalid h = tt

module _ (x : Setting) (sound : SoundFunctions [] (functions_of x.functions)) (e : Tree) (d : ℕ) (env : List Value) where
  recurs_on : (o : Option PlainTxView) (tail : Option ℕ) (s : Part o) → SoundTree (callable x) (zone_on o) d tail e → RecursAs tail (eval (forms_on o (around_it x) x.depth) (calls_on o x) x.turns (is_on o) e env s)
  recurs_on None tail s h = recurs_of (KeepsOn None None) tail (eval (forms_on None (around_it x) x.depth) (calls_on None x) x.turns false e env s) (whole_fine x.cells x.functions x.turns None x.depth false sound e d tail env s h tt)
  recurs_on (Some r) tail s h = recurs_of (KeepsOn (Some (r.gone, world_of r.refs)) None) tail (eval (forms_on (Some r) (around_it x) x.depth) (calls_on (Some r) x) x.turns true e env s) (whole_fine x.cells x.functions x.turns (Some (r.gone, world_of r.refs)) x.depth false sound e d tail env s h tt)

  module _ (out out1 : State) (vs : List Value) where
    recurs_as : (tail : Option ℕ) → SoundTree (callable x) (zone_on x.world) d tail e → means x e env out ≡ Recurs vs (part x.world out1) → tail ≡ Some (length vs)
    recurs_as tail h is = subst (λ c. RecursAs tail c) is (recurs_on x.world tail (part x.world out) h)

    -- a recur in tail position of a loop has as many values
    pub recurs_many : (k : ℕ) → SoundTree (callable x) (zone_on x.world) d (Some k) e → means x e env out ≡ Recurs vs (part x.world out1) → length vs ≡ k
    recurs_many k h is = sym (ap many_in (recurs_as (Some k) h is))

    -- in no tail position there is no recur
    pub never_recurs : SoundTree (callable x) (zone_on x.world) d None e → means x e env out ≡ Recurs vs (part x.world out1) → ⊥
    never_recurs h is = subst IsSome (sym (recurs_as None h is)) tt

-- the commutes that a transaction's body keeps have pure callees
pub keeps_sound_on : (x : Setting) (R : World) (sound : SoundFunctions [] (functions_of x.functions)) (e : Tree) (d : ℕ) (env : List Value) (t u : TxState) (v : Value) → SoundTree (callable x) in_dosync d None e
    → SoundCommutes (callable x) t.done.commutes → eval (in_transaction R) (call_at (λ b. in_transaction R) x.turns (functions_of x.functions) x.depth) x.turns true e env t ≡ Completes v u → SoundCommutes (callable x) u.done.commutes
keeps_sound_on x R sound e d env t u v h before is =
    subst (λ c. Fine (Keeps (Some (callable x))) None c) is (whole_fine x.cells x.functions x.turns (Some (None, R)) x.depth true sound e d None env t h before)

pub keeps_sound : (x : Setting) (r : PlainView) (sound : SoundFunctions [] (functions_of x.functions)) (e : Tree) (d : ℕ) (env : List Value) (t u : TxState) (v : Value) → SoundTree (callable x) in_dosync d None e
    → SoundCommutes (callable x) t.done.commutes → eval (forms_on (Some (whole_view r)) (around_it (on_view x (whole_view r))) x.depth) (calls_on (Some (whole_view r)) (on_view x (whole_view r))) x.turns true e env t ≡ Completes v u → SoundCommutes (callable x) u.done.commutes
keeps_sound x r sound e d env t u v h before is = keeps_sound_on x (world_of r) sound e d env t u v h before is
