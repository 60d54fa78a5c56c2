-- How a transaction of a thread ends: what the parts give is what its dosync means.
use Rattle.std.proofs.Common.{◌≡◌, ℕ, zero, suc, ◌==◌, ◌&&◌, Bool, true, false, if◌then◌else◌, List, [], ◌∷◌, ◌++◌, map, Option, Some, None, Result, Ok, Err, MatchResult, is_some, refl, sym, ap, ◌∙◌, subst}
use Rattle.std.proofs.lemmas.Bool.{false≢true}
use Rattle.std.proofs.lemmas.List.{map-append}
use Rattle.txs_frame.specs.Frame.{sends_of_commit}
use Rattle.txs_world_protocol.specs.Ask.{Writes, same_writes, same_actions}
use Rattle.txs_world_protocol.specs.SeenEvent.{SeenEvent}
use Rattle.txs_world_protocol.specs.declared.event.Cause.TheVariants as cause
use Rattle.txs_world_protocol.specs.declared.event.EventKind.{EventKind}
use Rattle.txs_world_protocol.specs.declared.event.EventKind.TheVariants.{Read, Commit, Retry, Fail, Refused, Send as Sent, SendRefused, Act as Acted, Swap as Swapped, Broke}
use Rattle.txs_tree_eval_node.specs.Evaluated.{HaltsAt, AnswersAt, has_all, Misses, miss_of, seen_means, Yields, Comes, ComesNone, with_todo, retried, Reruns, Allows, rerun_as, touched, BodyStops, Runs, SoundCommutes, forms_on, calls_on, around_it, means, final_means, transacting, at_end, eat_means, carried_on, ended, end_view, Closes, closes, closing, commit_closes, refuse_closes, end_stop, ends_as, body_means, dosync_means, part, is_on, thread_state, tx_run}
use Rattle.txs_tree_eval_transaction.specs.Worked.{Stops, Gives, Told, ToldOf, stop_without_fault, tx_state}
use Rattle.txs_tree_eval_node.specs.Events.{seen_event}
use Rattle.txs_tree_meaning.specs.Meaning.{Completion, Completes, Recurs, Faults, Retries, Waits, OutOfTurns, Invalid, allowed, bind, closed, Applies, apply, eval}
use Rattle.txs_tree_eval_node.specs.Setting.{Setting, callable, deepest, on_view, zone_on}
use Rattle.txs_tree_meaning.specs.Sound.{SoundCells, SoundFunctions, SoundTree, in_dosync}
use Rattle.txs_tree_meaning.specs.Right.{up_to, ended_with, has_missed, passes, behind_retries}
use Rattle.txs_tree_meaning.specs.Thread.{TxRun, ThreadState, Transacting, over, faultless, faulted, meant, with_tx, holding, run_of, ends_tx, is_retry, missing, again, uneaten, eats_tx}
use Rattle.txs_tree_meaning.specs.Transaction.{TxState, tx_start, final_writes}
use Rattle.txs_tree_meaning.specs.Tree.{Mark, Tree}
use Rattle.txs_tree_meaning.specs.View.{functions_of}
use Rattle.txs_tree_eval_transaction.specs.Views.{PlainView, PlainTxView, plain_view, plain_tx_world, is_whole, whole_view, world_of}
use Rattle.txs_tree_eval_node.specs.declared.closing.Closing.{Closing}
use Rattle.txs_tree_eval_node.specs.declared.closing.Closing.TheVariants.{Refused as ARefused, Committed, Stopped}
use Rattle.txs_tree_eval_node.specs.declared.thread.Rerun.{Rerun}
use Rattle.txs_tree_eval_node.specs.declared.thread.Rerun.TheVariants.{Outdated, Touched, Other}
use Rattle.txs_tree_eval_node.specs.declared.thread.Touch.{Touch}
use Rattle.txs_tree_eval_node.specs.declared.seen.Seen.{Seen}
use Rattle.txs_tree_eval_node.specs.declared.state.Progress.{Progress}
use Rattle.txs_tree_eval_node.specs.declared.state.State.{State}
use Rattle.txs_tree_eval_node.specs.declared.state.Transacted.{Transacted}
use Rattle.txs_tree_eval_transaction.specs.declared.stop.ThreadStop.{ThreadStop}
use Rattle.txs_tree_eval_transaction.specs.declared.stop.ThreadStop.TheVariants.{Fault, Event, Wrong, Turns, Memory}
use Rattle.txs_tree_eval_transaction.specs.declared.view.TxView.{TxView}
use Rattle.txs_value_cell.specs.Cells.{World, validators_of}
use Rattle.txs_value_data.specs.Limits.{reruns}
use Rattle.txs_value_data.specs.Places.{fault_at}
use Rattle.txs_value_data.specs.declared.fault.FaultKind.TheVariants.{AgentFailed}
use Rattle.txs_value_data.specs.declared.fault.Span.{Span}
use Rattle.txs_value_data.specs.declared.value.Value.{Value}
use Rattle.txs_tree_eval_node.proofs.Acting.{finals_agree}
use Rattle.txs_tree_eval_node.proofs.Applying.{answers_from}
use Rattle.txs_tree_eval_node.proofs.Evaluation.{stops_again, halts_bind}
use Rattle.txs_tree_eval_node.proofs.Forms.{IsOther, faultless_stop, faulted_stop}
use Rattle.txs_tree_eval_node.proofs.Recurs.{keeps_sound}

-- ---- the body

-- what an evaluation of the body gives, as what it means that runs alone
pub body_stops : (y : ThreadStop) (s : TxState) (c : Completion TxState Value) → Stops true y s c → BodyStops y (closed c)
body_stops (Fault f) s c h = (s, ap closed h)
body_stops Event s c h = absurd (false≢true (sym h.0))
body_stops Wrong s c h = absurd (false≢true (sym h.0))
body_stops Turns s c h = (s, ap closed h)
body_stops Memory s c h = tt

-- no place that a recur leaves, where a value comes
pub closed_gives : {S : Type 0} (all : Bool) (r : Result Value ThreadStop) (s : S) (c : Completion S Value) → Gives all r s c → Gives all r s (closed c)
closed_gives all (Ok v) s c h = ap closed h
closed_gives all (Err y) s c h = stops_again all y s c (λ vs t. Invalid) h

-- a body evaluated in a transaction of its own that sees this
module _ (x inner : Setting) (r : PlainTxView) (same : inner ≡ on_view x r) (body : Tree) (env : List Value) (start : State) (fresh : tx_state start.tx ≡ tx_start) where
  -- what the body does there from a state on
  abbrev from_state : TxState → Completion TxState Value
  from_state t = eval (forms_on (Some r) (around_it (on_view x r)) x.depth) (calls_on (Some r) (on_view x r)) x.turns true body env t

  body_told : (res : Result Value ThreadStop) (out : State) → Yields inner res out (means inner body env start) → Gives (is_whole r.gone) res (tx_state out.tx) (from_state tx_start)
  body_told res out h = subst (λ t. Gives (is_whole r.gone) res (tx_state out.tx) (from_state t)) fresh (subst (λ y. Yields y res out (means y body env start)) same h)

  pub body_seen : (res : Result Value ThreadStop) (out : State) → Yields inner res out (means inner body env start) → Gives (is_whole r.gone) res (tx_state out.tx) (seen_means x body env r)
  body_seen res out h = closed_gives (is_whole r.gone) res (tx_state out.tx) (from_state tx_start) (body_told res out h)

-- whether it came to look at what its world lacks
pub misses : (r : Result Value ThreadStop) (s : TxState) (c : Completion TxState Value) → Gives false r s c → Misses (miss_of r) c
misses (Ok v) s c h = (ap has_missed h, λ t next. ap (λ d. missing t d next) h)
misses (Err (Fault f)) s c h = (ap has_missed h, λ t next. ap (λ d. missing t d next) h)
misses (Err Event) s c h = (s, h.1)
misses (Err Wrong) s c h = (s, h.1)
misses (Err Turns) s c h = (s, h)
misses (Err Memory) s c h = tt

-- the same that sees all values of a world
module _ (x inner : Setting) (w : PlainView) (same : inner ≡ on_view x (whole_view w)) (body : Tree) (env : List Value) (start : State) (fresh : tx_state start.tx ≡ tx_start) where
  pub body_stop : (y : ThreadStop) (out : State) → Yields inner {A = Value} (Err y) out (means inner body env start) → BodyStops y (body_means x body env w)
  body_stop y out h = body_stops y (tx_state out.tx) (from_state x inner (whole_view w) same body env start fresh tx_start) (body_told x inner (whole_view w) same body env start fresh (Err y) out h)

  pub body_done : (v : Value) (out : State) → Yields inner (Ok v) out (means inner body env start) → body_means x body env w ≡ Completes v (tx_state out.tx)
  body_done v out h = body_seen x inner (whole_view w) same body env start fresh (Ok v) out h

  -- its commutes have pure callees
  pub body_keeps : (sound : SoundFunctions [] (functions_of x.functions)) (d : ℕ) (v : Value) (out : State) → SoundTree (callable x) in_dosync d None body → Yields inner (Ok v) out (means inner body env start)
      → SoundCommutes (callable x) (tx_state out.tx).done.commutes
  body_keeps sound d v out h is = keeps_sound x w sound body d env tx_start (tx_state out.tx) v h tt (body_told x inner (whole_view w) same body env start fresh (Ok v) out is)

-- ---- its end

pub carried_stop : {A : Type 0} (t : ThreadState) (c : Completion TxState Value) (go : Value → TxState → Completion ThreadState A) (y : ThreadStop) → BodyStops y c → HaltsAt y t (carried_on t c go)
carried_stop t c go (Fault f) h = ap (λ r. carried_on t r go) h.1
carried_stop t c go Event h = absurd h
carried_stop t c go Wrong h = absurd h
carried_stop t c go Turns h = ap (λ r. carried_on t r go) h.1
carried_stop t c go Memory h = tt

abbrev IsNothing : Option PlainView → Type 0
IsNothing None = Unit {0}
IsNothing (Some w) = ⊥

abbrev view_or : PlainView → Option PlainView → PlainView
view_or v None = v
view_or v (Some w) = w

-- the body on a world, and then the commutes on another one
module _ (x : Setting) (m : Mark) (body : Tree) (env : List Value) (r w : PlainView) (t : ThreadState) where
  abbrev outcome : Completion TxState Value
  outcome = body_means x body env r

  abbrev finals_of : TxState → Completion ThreadState Writes
  finals_of y = final_writes (at_end x m.span) (validators_of x.cells) m.span y.done (world_of w) t

  abbrev with_finals : Value → TxState → Completion ThreadState (TxRun × Writes)
  with_finals v y = bind (finals_of y) (λ ws t1. Completes (run_of (transacting x m body env) v y, ws) t1)

  -- where the body gives no value
  pub ended_unrun : (y : ThreadStop) → BodyStops y outcome → HaltsAt y t (ended x m body env r w t)
  ended_unrun y h = carried_stop t outcome with_finals y h

  -- where it gives one
  module _ (sound : SoundFunctions [] (functions_of x.functions)) (cells : SoundCells (callable (deepest x)) x.cells) (q : Transacted) (run : Runs (Ok q) m body env outcome) (calm : SoundCommutes (callable (deepest x)) q.work.done.commutes) where
    finals : (res : Result Writes ThreadStop) → Told res (final_means (deepest x) q.work.done w m.span) → AnswersAt res t (finals_of (tx_state q.work))
    finals res h = answers_from t res (final_means (deepest x) q.work.done w m.span) (finals_of (tx_state q.work)) (finals_agree t x sound cells m.span q.work.done w calm) h

    ended_run : ended x m body env r w t ≡ with_finals q.result (tx_state q.work)
    ended_run = ap (λ c. carried_on t c with_finals) run.0

    pub ended_stop : (y : ThreadStop) → Told {A = Writes} (Err y) (final_means (deepest x) q.work.done w m.span) → HaltsAt y t (ended x m body env r w t)
    ended_stop y h =
        subst (λ c. HaltsAt y t c) (sym ended_run) (halts_bind y t (finals_of (tx_state q.work)) (λ ws t1. Completes (run_of (transacting x m body env) q.result (tx_state q.work), ws) t1) (finals (Err y) h))

    pub ended_done : (last : Writes) → Told (Ok last) (final_means (deepest x) q.work.done w m.span) → ended x m body env r w t ≡ Completes (tx_run q, last) t
    ended_done last h =
        ended_run ∙ ap (λ c. bind c (λ ws t1. Completes (run_of (transacting x m body env) q.result (tx_state q.work), ws) t1)) (finals (Ok last) h) ∙ ap (λ k. Completes (k, last) t) (sym run.1)

-- ---- what the event makes of it

faultless_pair : (c : Completion ThreadState Writes) (k : TxRun) (go : (TxRun × Writes) → ThreadState → Completion ThreadState Value) → faultless c (λ ws s. go (k, ws) s) ≡ faultless (bind c (λ ws s. Completes (k, ws) s)) go
faultless_pair (Completes ws s) k go = refl
faultless_pair (Recurs vs s) k go = refl
faultless_pair (Faults f s) k go = refl
faultless_pair (Retries s) k go = refl
faultless_pair (Waits s) k go = refl
faultless_pair (OutOfTurns s) k go = refl
faultless_pair Invalid k go = refl

faulted_pair : (c : Completion ThreadState Writes) (k : TxRun) → faulted c (λ g s. Faults g s) ≡ faulted {A = TxRun × Writes} (bind c (λ ws s. Completes (k, ws) s)) (λ g s. Faults g s)
faulted_pair (Completes ws s) k = refl
faulted_pair (Recurs vs s) k = refl
faulted_pair (Faults f s) k = refl
faulted_pair (Retries s) k = refl
faulted_pair (Waits s) k = refl
faulted_pair (OutOfTurns s) k = refl
faulted_pair Invalid k = refl

module _ (t : ThreadState) (run : Value → TxState → TxRun) (last : TxState → Completion ThreadState Writes) where
  abbrev both : Value → TxState → Completion ThreadState (TxRun × Writes)
  both v y = bind (last y) (λ ws s. Completes (run v y, ws) s)

  over_faultless : (c : Completion TxState Value) (go : (TxRun × Writes) → ThreadState → Completion ThreadState Value) → over t c (λ v y. faultless (last y) (λ ws s. go (run v y, ws) s)) (λ g. Invalid) ≡ faultless (carried_on t c both) go
  over_faultless (Completes v y) go = faultless_pair (last y) (run v y) go
  over_faultless (Recurs vs y) go = refl
  over_faultless (Faults f y) go = refl
  over_faultless (Retries y) go = refl
  over_faultless (Waits y) go = refl
  over_faultless (OutOfTurns y) go = refl
  over_faultless Invalid go = refl

  over_faulted : (c : Completion TxState Value) → over t c (λ v y. faulted (last y) (λ g s. Faults g s)) (λ g. Faults g t) ≡ faulted (carried_on t c both) (λ g s. Faults g s)
  over_faulted (Completes v y) = faulted_pair (last y) (run v y)
  over_faulted (Recurs vs y) = refl
  over_faulted (Faults f y) = refl
  over_faulted (Retries y) = refl
  over_faulted (Waits y) = refl
  over_faulted (OutOfTurns y) = refl
  over_faulted Invalid = refl

no_view : {w : PlainView} → None ≡ Some w → ⊥
no_view h = subst IsNothing h tt

module _ (x : Setting) (m : Mark) (body : Tree) (env : List Value) (t : ThreadState) (r q c w : PlainView) where
  abbrev run : Value → TxState → TxRun
  run v y = run_of (transacting x m body env) v y

  -- an event of the end
  pub ends_viewed : (k : EventKind) → end_view k q c ≡ Some w → ends_tx (transacting x m body env) (at_end x m.span) k (world_of r) (world_of q) (world_of c) t ≡ closes k m.span (ended x m body env r w t)
  ends_viewed (Commit at view writes sent) h =
      over_faultless t run (λ y. final_writes (at_end x m.span) (validators_of x.cells) m.span y.done (world_of c) t) (body_means x body env r) (λ p s. meant (same_writes p.1 writes && same_actions (sends_of_commit s.held p.0.state.done.sends) sent) p.0.result (holding p.0.state.done.sends (with_tx p.0 s)))
      ∙ ap (λ o. commit_closes writes sent (ended x m body env r (view_or c o) t)) h
  ends_viewed (Fail at view) h =
      over_faulted t run (λ y. final_writes (at_end x m.span) (validators_of x.cells) m.span y.done (world_of q) t) (body_means x body env r)
      ∙ ap (λ o. faulted (ended x m body env r (view_or q o) t) (λ g s. Faults g s)) h
  ends_viewed (Refused at view agent) h =
      over_faultless t run (λ y. final_writes (at_end x m.span) (validators_of x.cells) m.span y.done (world_of q) t) (body_means x body env r) (λ p s. Faults (fault_at AgentFailed m.span) (with_tx p.0 s))
      ∙ ap (λ o. refuse_closes m.span (ended x m body env r (view_or q o) t)) h
  ends_viewed (Read d) h = absurd (no_view h)
  ends_viewed (Retry since d b) h = absurd (no_view h)
  ends_viewed (Sent a) h = absurd (no_view h)
  ends_viewed (SendRefused d) h = absurd (no_view h)
  ends_viewed (Acted d n v sends) h = absurd (no_view h)
  ends_viewed (Swapped v) h = absurd (no_view h)
  ends_viewed (Broke at) h = absurd (no_view h)

  -- any other event
  pub ends_unviewed : (k : EventKind) → end_view k q c ≡ None → ends_tx (transacting x m body env) (at_end x m.span) k (world_of r) (world_of q) (world_of c) t ≡ Invalid
  ends_unviewed (Commit at view writes sent) h = absurd (no_view (sym h))
  ends_unviewed (Fail at view) h = absurd (no_view (sym h))
  ends_unviewed (Refused at view agent) h = absurd (no_view (sym h))
  ends_unviewed (Read d) h = refl
  ends_unviewed (Retry since d b) h = refl
  ends_unviewed (Sent a) h = refl
  ends_unviewed (SendRefused d) h = refl
  ends_unviewed (Acted d n v sends) h = refl
  ends_unviewed (Swapped v) h = refl
  ends_unviewed (Broke at) h = refl

-- a run that is noted, if it is the one that is meant
pub noted : (b : Bool) → b ≡ true → (v : Value) (t u : ThreadState) (res : Result Value ThreadStop) → MatchResult res (λ w. (w ≡ v) × (u ≡ t)) (λ y. y ≡ Memory) → AnswersAt res u (meant b v t)
noted b is v t u (Ok w) h = ap (λ k. meant k v t) is ∙ ap (λ z. Completes z t) (sym h.0) ∙ ap (λ s. Completes w s) (sym h.1)
noted b is v t u (Err y) h = subst (λ z. HaltsAt z u (meant b v t)) (sym h) tt

-- one run more
pub noted_more : (p : Progress) (r : Transacted) (txs : List Transacted) → txs ≡ p.txs.items ++ r ∷ [] → record { todo = (thread_state p).todo; printed = (thread_state p).printed; held = (thread_state p).held; txs = map tx_run txs; asks = (thread_state p).asks } ≡ with_tx (tx_run r) (thread_state p)
noted_more p r txs e =
    let made : List TxRun → ThreadState = λ (l : List TxRun). record { todo = (thread_state p).todo; printed = (thread_state p).printed; held = (thread_state p).held; txs = l; asks = (thread_state p).asks } in
    ap made (ap (map tx_run) e ∙ map-append tx_run p.txs.items (r ∷ []))

-- a stop of the body or a commute
pub end_stops : (k : EventKind) (span : Span) (y : ThreadStop) (t : ThreadState) (c : Completion ThreadState (TxRun × Writes)) → HaltsAt y t c → HaltsAt (end_stop k y) t (closes k span c)
end_stops (Commit at view writes sent) span y t c h = faultless_stop y t c (λ r s. meant (same_writes r.1 writes && same_actions (sends_of_commit s.held r.0.state.done.sends) sent) r.0.result (holding r.0.state.done.sends (with_tx r.0 s))) h
end_stops (Fail at view) span y t c h = faulted_stop y t c h
end_stops (Refused at view agent) span y t c h = faultless_stop y t c (λ r s. Faults (fault_at AgentFailed span) (with_tx r.0 s)) h
end_stops (Read d) span y t c h = refl
end_stops (Retry since d b) span y t c h = refl
end_stops (Sent a) span y t c h = refl
end_stops (SendRefused d) span y t c h = refl
end_stops (Acted d n v sends) span y t c h = refl
end_stops (Swapped v) span y t c h = refl
end_stops (Broke at) span y t c h = refl

-- what a run is to the event is what the event makes of it
module _ (span : Span) (r : TxRun) (ws : Writes) (t : ThreadState) (res : Result Value ThreadStop) (u : ThreadState) where
  no_end : Closes (Stopped Wrong) span r res t u → AnswersAt {A = Value} res u Invalid
  no_end h = subst (λ q. AnswersAt {A = Value} q u Invalid) (sym h.0) refl

  as_meant : (b : Bool) → Closes (if b then Committed else Stopped Wrong) span r res t u → AnswersAt res u (meant b r.result (holding r.state.done.sends (with_tx r t)))
  as_meant true h = h
  as_meant false h = no_end h

  ended_as : (k : EventKind) → Closes (ends_as k ws (sends_of_commit t.held r.state.done.sends)) span r res t u → AnswersAt res u (closes k span (Completes (r, ws) t))
  ended_as (Refused at view agent) h = h
  ended_as (Commit at view writes sent) h = as_meant (same_writes ws writes && same_actions (sends_of_commit t.held r.state.done.sends) sent) h
  ended_as (Fail at view) h = no_end h
  ended_as (Read d) h = no_end h
  ended_as (Retry since d b) h = no_end h
  ended_as (Sent a) h = no_end h
  ended_as (SendRefused d) h = no_end h
  ended_as (Acted d n v sends) h = no_end h
  ended_as (Swapped v) h = no_end h
  ended_as (Broke at) h = no_end h

-- what is given of a run that came to these final writes
module _ (x : Setting) (m : Mark) (body : Tree) (env : List Value) (r w : PlainView) (t : ThreadState) (sound : SoundFunctions [] (functions_of x.functions)) (cells : SoundCells (callable (deepest x)) x.cells) (q : Transacted) (run : Runs (Ok q) m body env (body_means x body env r))
    (calm : SoundCommutes (callable (deepest x)) q.work.done.commutes) where
  pub ended_closed : {V : Type 0} (f : V → Writes) (last : Result V ThreadStop) (k : EventKind) (res : Result Value ThreadStop) (u : ThreadState) → ToldOf f last (final_means (deepest x) q.work.done w m.span)
      → Closes (closing f k last (sends_of_commit t.held q.work.done.sends)) m.span (tx_run q) res t u → AnswersAt res u (closes k m.span (ended x m body env r w t))
  ended_closed f (Ok v) k res u told h =
      subst (λ c. AnswersAt res u (closes k m.span c)) (sym (ended_done x m body env r w t sound cells q run calm (f v) told)) (ended_as m.span (tx_run q) (f v) t res u k h)
  ended_closed f (Err y) k res u told h =
      let stops = end_stops k m.span y t (ended x m body env r w t) (ended_stop x m body env r w t sound cells q run calm y told) in
      subst (λ p. AnswersAt p u (closes k m.span (ended x m body env r w t))) (sym h.0) (subst (λ s. HaltsAt (end_stop k y) s (closes k m.span (ended x m body env r w t))) (sym h.1) stops)

abbrev IsFault : Completion ThreadState Value → Type 0
IsFault (Faults g s) = Unit {0}
IsFault _ = ⊥

abbrev IsValue : Completion ThreadState Value → Type 0
IsValue (Completes v s) = Unit {0}
IsValue _ = ⊥

-- the same with other events to come
abbrev at_todo : {A : Type 0} → List SeenEvent → Completion ThreadState A → Completion ThreadState A
at_todo es (Completes a t) = Completes a (with_todo es t)
at_todo es (Recurs vs t) = Recurs vs (with_todo es t)
at_todo es (Faults f t) = Faults f (with_todo es t)
at_todo es (Retries t) = Retries (with_todo es t)
at_todo es (Waits t) = Waits (with_todo es t)
at_todo es (OutOfTurns t) = OutOfTurns (with_todo es t)
at_todo es Invalid = Invalid

gives_todo : (es : List SeenEvent) (res : Result Value ThreadStop) (u : ThreadState) (c : Completion ThreadState Value) → AnswersAt res u c → AnswersAt res (with_todo es u) (at_todo es c)
gives_todo es (Ok v) u c h = ap (λ d. at_todo es d) h
gives_todo es (Err (Fault f)) u c h = ap (λ d. at_todo es d) h
gives_todo es (Err Event) u c h = absurd h
gives_todo es (Err Wrong) u c h = ap (λ d. at_todo es d) h
gives_todo es (Err Turns) u c h = ap (λ d. at_todo es d) h
gives_todo es (Err Memory) u c h = tt

pub closes_todo : (q : Closing) (span : Span) (r : TxRun) (es : List SeenEvent) (res : Result Value ThreadStop) (t u : ThreadState) → Closes q span r res t u → Closes q span r res (with_todo es t) (with_todo es u)
closes_todo ARefused span r es res t u h = gives_todo es res u (Faults (fault_at AgentFailed span) (with_tx r t)) h
closes_todo Committed span r es res t u h = gives_todo es res u (Completes r.result (holding r.state.done.sends (with_tx r t))) h
closes_todo (Stopped y) span r es res t u h = (h.0, ap (with_todo es) h.1)

-- where the event isn't allowed, the thread is as it was
no_fault : (c : Completion ThreadState Value) → IsFault c → c ≡ Invalid → ⊥
no_fault c is h = subst IsFault h is

no_value : (c : Completion ThreadState Value) → IsValue c → c ≡ Invalid → ⊥
no_value c is h = subst IsValue h is

pub closes_other : (q : Closing) (span : Span) (r : TxRun) (res : Result Value ThreadStop) (t u : ThreadState) → Closes q span r res t u → IsOther res → t ≡ u
closes_other q span r (Ok v) t u h o = absurd o
closes_other q span r (Err (Fault f)) t u h o = absurd o
closes_other q span r (Err Event) t u h o = absurd o
closes_other q span r (Err Turns) t u h o = absurd o
closes_other q span r (Err Memory) t u h o = absurd o
closes_other ARefused span r (Err Wrong) t u h o = absurd (no_fault (Faults (fault_at AgentFailed span) (with_tx r t)) tt h)
closes_other Committed span r (Err Wrong) t u h o = absurd (no_value (Completes r.result (holding r.state.done.sends (with_tx r t))) tt h)
closes_other (Stopped y) span r (Err Wrong) t u h o = sym h.1

-- ---- the events that it eats

-- what is given where there was no such event
pub unmatched : {E : Type 0} (P : E → Type 0) (Q : ThreadStop → Type 0) (r : Result E ThreadStop) (y : ThreadStop) → r ≡ Err y → Q y → MatchResult r P Q
unmatched P Q r y is h = subst (λ z. MatchResult z P Q) (sym is) h

-- what follows a try that had to run again for this
abbrev again_by : Rerun → Transacting → World → ThreadState → Completion ThreadState Value → Completion ThreadState Value
again_by (Outdated k) d R t next = missing t (d.lacking k R) next
again_by (Touched k) d R t next = over t (d.on R) (λ v x. allowed (touched k x.done) next) (λ g. Invalid)
again_by Other d R t next = Invalid

-- whether it had to
abbrev passes_by : Rerun → Transacting → World → Bool
passes_by (Outdated k) d R = has_missed (d.lacking k R)
passes_by (Touched k) d R = ended_with (λ w. touched k w) (d.on R)
passes_by Other d R = false

module _ (d : Transacting) (R : World) where
  again_as : (k : EventKind) (t : ThreadState) (next : Completion ThreadState Value) → again d k R t next ≡ again_by (rerun_as k) d R t next
  again_as (Retry since c cause.Outdated) t next = refl
  again_as (Retry since c cause.Held) t next = refl
  again_as (Retry since c (cause.Commuted at)) t next = refl
  again_as (Commit at view writes sent) t next = refl
  again_as (Fail at view) t next = refl
  again_as (Refused at view agent) t next = refl
  again_as (Read c) t next = refl
  again_as (Sent a) t next = refl
  again_as (SendRefused c) t next = refl
  again_as (Acted c n v sends) t next = refl
  again_as (Swapped v) t next = refl
  again_as (Broke at) t next = refl

  passes_as : (k : EventKind) → passes d k R ≡ passes_by (rerun_as k) d R
  passes_as (Retry since c cause.Outdated) = refl
  passes_as (Retry since c cause.Held) = refl
  passes_as (Retry since c (cause.Commuted at)) = refl
  passes_as (Commit at view writes sent) = refl
  passes_as (Fail at view) = refl
  passes_as (Refused at view agent) = refl
  passes_as (Read c) = refl
  passes_as (Sent a) = refl
  passes_as (SendRefused c) = refl
  passes_as (Acted c n v sends) = refl
  passes_as (Swapped v) = refl
  passes_as (Broke at) = refl

  module _ (k : EventKind) (r : Rerun) (is : r ≡ rerun_as k) where
    again_is : (t : ThreadState) (next : Completion ThreadState Value) → again d k R t next ≡ again_by r d R t next
    again_is t next = again_as k t next ∙ ap (λ q. again_by q d R t next) (sym is)

    passes_is : passes d k R ≡ passes_by r d R
    passes_is = passes_as k ∙ ap (λ q. passes_by q d R) (sym is)

    -- the body on a world that lacks that value
    module _ (n : ℕ) (old : r ≡ Outdated n) where
      again_old : (t : ThreadState) (next : Completion ThreadState Value) → again d k R t next ≡ missing t (d.lacking n R) next
      again_old t next = again_is t next ∙ ap (λ q. again_by q d R t next) old

      passes_old : passes d k R ≡ has_missed (d.lacking n R)
      passes_old = passes_is ∙ ap (λ q. passes_by q d R) old

      pub rerun_outdated : {U : Type 0} (res : Result U ThreadStop) → Misses res (d.lacking n R) → Reruns d k R res
      rerun_outdated (Ok u) h = (passes_old ∙ ap has_missed h.1, λ t next. again_old t next ∙ ap (λ c. missing t c next) h.1)
      rerun_outdated (Err (Fault f)) h = absurd h
      rerun_outdated (Err Event) h = absurd h
      rerun_outdated (Err Wrong) h = (passes_old ∙ h.0, λ t next. again_old t next ∙ h.1 t next)
      rerun_outdated (Err Turns) h = (passes_old ∙ ap has_missed h.1, λ t next. again_old t next ∙ ap (λ c. missing t c next) h.1)
      rerun_outdated (Err Memory) h = tt

    pub rerun_other : (U : Type 0) → r ≡ Other → Reruns {U = U} d k R (Err Wrong)
    rerun_other U other = (passes_is ∙ ap (λ q. passes_by q d R) other, λ t next. again_is t next ∙ ap (λ q. again_by q d R t next) other)

    -- the body on the world at the try's read point
    module _ (j : Touch) (did : r ≡ Touched j) where
      again_did : (t : ThreadState) (next : Completion ThreadState Value) → again d k R t next ≡ over t (d.on R) (λ v x. allowed (touched j x.done) next) (λ g. Invalid)
      again_did t next = again_is t next ∙ ap (λ q. again_by q d R t next) did

      passes_did : passes d k R ≡ ended_with (λ w. touched j w) (d.on R)
      passes_did = passes_is ∙ ap (λ q. passes_by q d R) did

      -- it gives no value
      rerun_stopped : (U : Type 0) (y : ThreadStop) → BodyStops y (d.on R) → Reruns {U = U} d k R (Err (stop_without_fault y))
      rerun_stopped U (Fault f) h = (passes_did ∙ ap (λ c. ended_with (λ w. touched j w) c) h.1, λ t next. again_did t next ∙ ap (λ c. over t c (λ v x. allowed (touched j x.done) next) (λ g. Invalid)) h.1)
      rerun_stopped U Event h = absurd h
      rerun_stopped U Wrong h = absurd h
      rerun_stopped U Turns h = (passes_did ∙ ap (λ c. ended_with (λ w. touched j w) c) h.1, λ t next. again_did t next ∙ ap (λ c. over t c (λ v x. allowed (touched j x.done) next) (λ g. Invalid)) h.1)
      rerun_stopped U Memory h = tt

      pub rerun_stop : (U : Type 0) (y z : ThreadStop) → z ≡ stop_without_fault y → BodyStops y (d.on R) → Reruns {U = U} d k R (Err z)
      rerun_stop U y z is_z h = subst (λ q. Reruns {U = U} d k R (Err q)) (sym is_z) (rerun_stopped U y h)

      -- it gives one
      module _ (v : Value) (x : TxState) (run : d.on R ≡ Completes v x) where
        passes_run : passes d k R ≡ touched j x.done
        passes_run = passes_did ∙ ap (λ c. ended_with (λ w. touched j w) c) run

        again_run : (b : Bool) → touched j x.done ≡ b → (t : ThreadState) (next : Completion ThreadState Value) → again d k R t next ≡ allowed b next
        again_run b there t next = again_did t next ∙ ap (λ c. over t c (λ v x. allowed (touched j x.done) next) (λ g. Invalid)) run ∙ ap (λ (c : Bool). allowed c next) there

        pub rerun_run : {U : Type 0} (res : Result U ThreadStop) → Allows res (touched j x.done) → Reruns d k R res
        rerun_run (Ok u) h = (passes_run ∙ h, λ t next. again_run true h t next)
        rerun_run (Err (Fault f)) h = absurd h
        rerun_run (Err Event) h = absurd h
        rerun_run (Err Wrong) h = (passes_run ∙ h, λ t next. again_run false h t next)
        rerun_run (Err Turns) h = absurd h
        rerun_run (Err Memory) h = tt

-- the retries that are left to eat
module _ (d : Transacting) (k : ℕ) (e : Seen) (t : ThreadState) (h : Comes 0 e t) where
  abbrev world : World
  world = world_of (plain_view e.start)

  retried_at : (b p : Bool) → is_retry e.kind.now ≡ b → passes d e.kind.now world ≡ p → retried (suc k) d t ≡ with_todo (if b then (if p then behind_retries k d h.0 else seen_event e ∷ h.0) else seen_event e ∷ h.0) t
  retried_at b p is pass =
      ap (λ es. with_todo (behind_retries (suc k) d es) t) h.1
      ∙ ap (λ (c : Bool). with_todo (if c then (if is_retry e.kind.now then (if passes d e.kind.now world then behind_retries k d h.0 else seen_event e ∷ h.0) else seen_event e ∷ h.0) else seen_event e ∷ h.0) t) h.2
      ∙ ap (λ (c : Bool). with_todo (if c then (if passes d e.kind.now world then behind_retries k d h.0 else seen_event e ∷ h.0) else seen_event e ∷ h.0) t) is
      ∙ ap (λ (c : Bool). with_todo (if b then (if c then behind_retries k d h.0 else seen_event e ∷ h.0) else seen_event e ∷ h.0) t) pass

  pub retried_end : is_retry e.kind.now ≡ false → retried (suc k) d t ≡ t
  retried_end is = retried_at false (passes d e.kind.now world) is refl ∙ ap (λ l. with_todo l t) (sym h.1)

  -- one without its cause stays
  pub retried_stays : is_retry e.kind.now ≡ true → passes d e.kind.now world ≡ false → retried (suc k) d t ≡ t
  retried_stays is pass = retried_at true false is pass ∙ ap (λ l. with_todo l t) (sym h.1)

  pub retried_more : (u : ThreadState) → u ≡ with_todo h.0 t → is_retry e.kind.now ≡ true → passes d e.kind.now world ≡ true → retried (suc k) d t ≡ retried k d u
  retried_more u rest is pass = retried_at true true is pass ∙ ap (λ s. retried k d s) (sym rest)

module _ (d : Transacting) (f : Applies ThreadState) where
  -- what stands in the state of events to come counts for nothing here
  eats_same : (k : ℕ) (es us : List SeenEvent) (t : ThreadState) → eats_tx k d f es (record t { todo = us }) ≡ eats_tx k d f es t
  eats_same zero es us t = refl
  eats_same (suc k) [] us t = refl
  eats_same (suc k) (e ∷ es) us t =
      let end = uneaten (e ∷ es) (ends_tx d f e.kind e.R e.Q e.C (record t { todo = es })) in
      ap (λ r. if e.book == 0 then (if is_retry e.kind then again d e.kind e.R (record t { todo = e ∷ es }) r else end) else Invalid) (eats_same k es us t)

  -- what the transaction means at its end's event, behind which these come
  abbrev ending : Seen → List SeenEvent → ThreadState → Completion ThreadState Value
  ending e es t = uneaten (seen_event e ∷ es) (ends_tx d f e.kind.now (world_of (plain_view e.start)) (world_of (plain_view e.view)) (world_of (plain_view e.here)) (with_todo es t))

  -- what it means at a retry's
  abbrev rerunning : ℕ → Seen → List SeenEvent → ThreadState → Completion ThreadState Value
  rerunning k e es t = again d e.kind.now (world_of (plain_view e.start)) (with_todo (seen_event e ∷ es) t) (eats_tx k d f es t)

  eaten : (k : ℕ) (e : Seen) (t : ThreadState) (b : Bool) (h : Comes 0 e t) → is_retry e.kind.now ≡ b → eats_tx (suc k) d f t.todo t ≡ (if b then rerunning k e h.0 t else ending e h.0 t)
  eaten k e t b h is =
      let a = seen_event e in
      let end = ending e h.0 t in
      let more = rerunning k e h.0 t in
      ap (λ es. eats_tx (suc k) d f es t) h.1 ∙ ap (λ (c : Bool). if c then (if is_retry a.kind then more else end) else Invalid) h.2 ∙ ap (λ (c : Bool). if c then more else end) is

  pub eats_more : (k : ℕ) (e : Seen) (t u : ThreadState) (h : Comes 0 e t) → u ≡ with_todo h.0 t → is_retry e.kind.now ≡ true → ((s : ThreadState) (next : Completion ThreadState Value) → again d e.kind.now (world_of (plain_view e.start)) s next ≡ next)
      → eats_tx (suc k) d f t.todo t ≡ eats_tx k d f u.todo u
  eats_more k e t u h rest is goes = eaten k e t true h is ∙ goes (with_todo (seen_event e ∷ h.0) t) (eats_tx k d f h.0 t) ∙ sym (eats_same k h.0 h.0 t) ∙ ap (λ s. eats_tx k d f s.todo s) (sym rest)

  -- where a try had no such cause, or turns don't suffice for its body
  pub eats_unrun : (U : Type 0) (k : ℕ) (y : ThreadStop) (e : Seen) (w t : ThreadState) (h : Comes 0 e t) → w ≡ retried (suc k) d t → is_retry e.kind.now ≡ true → Reruns {U = U} d e.kind.now (world_of (plain_view e.start)) (Err y)
      → Stops false y t (up_to w (eats_tx (suc k) d f t.todo t))
  eats_unrun U k (Fault g) e w t h is retry no_cause = absurd no_cause
  eats_unrun U k Event e w t h is retry no_cause = absurd no_cause
  eats_unrun U k Wrong e w t h is retry no_cause = (
    refl,
    ap (λ c. up_to w c) (eaten k e t true h retry ∙ no_cause.1 (with_todo (seen_event e ∷ h.0) t) (eats_tx k d f h.0 t)) ∙ ap (λ s. Waits s) (is ∙ retried_stays d k e t h retry no_cause.0),
  )
  eats_unrun U k Turns e w t h is retry no_cause =
      ap (λ c. up_to w c) (eaten k e t true h retry ∙ no_cause.1 (with_todo (seen_event e ∷ h.0) t) (eats_tx k d f h.0 t)) ∙ ap (λ l. OutOfTurns (with_todo l t)) (sym h.1)
  eats_unrun U k Memory e w t h is retry no_cause = tt

  pub eats_end : (k : ℕ) (e : Seen) (t : ThreadState) (h : Comes 0 e t) → is_retry e.kind.now ≡ false → eats_tx (suc k) d f t.todo t ≡ ending e h.0 t
  eats_end k e t h is = eaten k e t false h is

  pub eats_none : (k : ℕ) (y : ThreadStop) (w t u : ThreadState) → w ≡ retried (suc k) d t → ComesNone 0 y t u → Stops false y u (up_to w (eats_tx (suc k) d f t.todo t))
  eats_none k Event w t u is h = (refl, ap (λ es. up_to w (eats_tx (suc k) d f es t)) h.0 ∙ ap (λ l. Waits (record t { todo = l; asks = Some 0 })) (sym h.0) ∙ ap (λ s. Waits s) (sym h.1))
  eats_none k Wrong w t u is h =
      let e = h.0 in
      let back = e ∷ h.1 in
      let end = uneaten back (ends_tx d f e.kind e.R e.Q e.C (record t { todo = h.1 })) in
      let stays : w ≡ t = is ∙ ap (λ es. with_todo (behind_retries (suc k) d es) t) h.2 ∙ ap (λ (b : Bool). with_todo (if b then (if is_retry e.kind then (if passes d e.kind e.R then behind_retries k d h.1 else back) else back) else back) t) h.3 ∙ ap (λ l. with_todo l t) (sym h.2) in (
        refl,
        ap (λ es. up_to w (eats_tx (suc k) d f es t)) h.2 ∙ ap (λ (b : Bool). up_to w (if b then (if is_retry e.kind then again d e.kind e.R (record t { todo = back }) (eats_tx k d f h.1 t) else end) else Invalid)) h.3 ∙ ap (λ s. Waits s) (stays ∙ sym h.4),
      )
  eats_none k (Fault g) w t u is h = absurd h
  eats_none k Turns w t u is h = absurd h
  eats_none k Memory w t u is h = absurd h

-- ---- a dosync in a transaction, or outside

-- where a transaction runs
pub zone_running : (o : Option PlainTxView) → is_on o ≡ true → zone_on o ≡ in_dosync
zone_running None on = absurd (false≢true on)
zone_running (Some r) on = refl

pub running : (o : Option TxView) (q : Option PlainTxView) → plain_tx_world o ≡ q → is_on q ≡ is_some o
running None q is = ap is_on (sym is)
running (Some r) q is = ap is_on (sym is)

-- where none runs
pub nowhere_running : (o : Option TxView) (q : Option PlainTxView) → plain_tx_world o ≡ q → is_some o ≡ false → q ≡ None
nowhere_running None q is off = sym is
nowhere_running (Some r) q is off = absurd (false≢true (sym off))

module _ (x : Setting) (m : Mark) (body : Tree) (env : List Value) (st st1 : State) where
  join_on : (o : Option PlainTxView) → is_on o ≡ true → (r : Result Value ThreadStop) → Gives (has_all o) r (part o st1) (eval (forms_on o (around_it x) x.depth) (calls_on o x) x.turns (is_on o) body env (part o st))
      → Gives (has_all o) r (part o st1) ((forms_on o (around_it x) x.depth).dosync (is_on o) m body env (λ t. closed (eval (forms_on o (around_it x) x.depth) (calls_on o x) x.turns true body env t)) (apply (calls_on o x true) m.span) (part o st))
  join_on None is r h = absurd (false≢true is)
  join_on (Some q) is r h = closed_gives (is_whole q.gone) r (tx_state st1.tx) (eval (forms_on (Some q) (around_it x) x.depth) (calls_on (Some q) x) x.turns true body env (tx_state st.tx)) h

  pub joined : is_on x.world ≡ true → (r : Result Value ThreadStop) → Yields x r st1 (means x body env st) → Yields x r st1 (dosync_means x m body env st)
  joined is r h = join_on x.world is r h

  begin_on : (o : Option PlainTxView) → is_on o ≡ false → (r : Result Value ThreadStop) → Gives false r (thread_state st1.thread) (eat_means x (suc reruns) m body env (thread_state st.thread))
      → Gives (has_all o) r (part o st1) ((forms_on o (around_it x) x.depth).dosync (is_on o) m body env (λ t. closed (eval (forms_on o (around_it x) x.depth) (calls_on o x) x.turns true body env t)) (apply (calls_on o x true) m.span) (part o st))
  begin_on None is r h = h
  begin_on (Some q) is r h = absurd (false≢true (sym is))

  pub begun : is_on x.world ≡ false → (r : Result Value ThreadStop) → Gives false r (thread_state st1.thread) (eat_means x (suc reruns) m body env (thread_state st.thread)) → Yields x r st1 (dosync_means x m body env st)
  begun is r h = begin_on x.world is r h
