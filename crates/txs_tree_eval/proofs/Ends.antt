-- What a thread means, by what its body means.
use Rattle.std.proofs.Common.{◌≡◌, ℕ, zero, suc, ◌<◌, ◌-◌, true, false, List, [], ◌∷◌, ◌++◌, length, map, get_or, Option, Some, None, Result, Ok, Err, IfOk, IfSome, sym, ap, ◌∙◌, subst, subst₂, ⊎_elim, arith}
use Rattle.std.proofs.lemmas.Bool.{false≢true}
use Rattle.txs_value_data.specs.Places.{nth}
use Rattle.txs_value_cell.specs.declared.cell.CellDefinition.{CellDefinition}
use Rattle.txs_value_data.specs.declared.value.Value.{Value}
use Rattle.txs_value_data.specs.declared.value.Value.TheVariants.{Nil}
use Rattle.txs_world_protocol.specs.SeenEvent.{SeenEvent}
use Rattle.txs_world_protocol.specs.declared.event.EventKind.TheVariants.{Broke}
use Rattle.txs_world_protocol.specs.declared.event.Outcome.{Outcome}
use Rattle.txs_tree_eval.specs.Told.{Account, Accounts, Concluded, Tells, TellsOf, TellsWrong, asked, lacking, told_tx, TellsTx, Waitless, thread_source, source_in}
use Rattle.txs_tree_eval_node.specs.Evaluated.{Yields, means, around_it, deeply, forms_on, thread_state, idle}
use Rattle.txs_tree_eval_transaction.specs.Worked.{Gives, Stops, tx_state}
use Rattle.txs_tree_meaning.specs.Known.{known}
use Rattle.txs_tree_meaning.specs.Meaning.{Completion, Completes, Recurs, Faults, Retries, Waits, OutOfTurns, Invalid, closed, eval, call_at}
use Rattle.txs_tree_meaning.specs.Right.{on_right, eats_right, right_meaning}
use Rattle.txs_tree_eval_node.specs.Setting.{Setting, callable, zone_in}
use Rattle.txs_tree_meaning.specs.Sound.{Sound, SoundTree, in_thread, in_dosync}
use Rattle.txs_tree_meaning.specs.Thread.{ThreadState, Surroundings, thread_meaning}
use Rattle.txs_tree_meaning.specs.Transaction.{TxState, tx_start, tx_meaning}
use Rattle.txs_tree_meaning.specs.Tree.{Tree, ThreadSource}
use Rattle.txs_tree_meaning.specs.View.{Parts, tree_of, thread_of, threads_of, functions_of, program_of}
use Rattle.txs_tree_eval_transaction.specs.Views.{PlainView, PlainTxView, whole_view, world_of}
use Rattle.txs_tree_eval.specs.declared.meaning.Needs.{Needs}
use Rattle.txs_tree_eval.specs.declared.meaning.Needs.TheVariants.{Wrong as NotAllowed}
use Rattle.txs_tree_eval.specs.declared.meaning.ThreadMeaning.{ThreadMeaning}
use Rattle.txs_tree_meaning.specs.declared.node.Function.{Function}
use Rattle.txs_tree_meaning.specs.declared.node.Thread.{Thread}
use Rattle.txs_tree_eval.specs.declared.pure_call.EvalStop.TheVariants.{Turns as FewTurns}
use Rattle.txs_tree_eval_node.specs.declared.state.State.{State}
use Rattle.txs_tree_eval_transaction.specs.declared.work.TxWork.{TxWork}
use Rattle.txs_tree_eval_transaction.specs.declared.stop.ThreadStop.{ThreadStop}
use Rattle.txs_tree_eval_transaction.specs.declared.stop.ThreadStop.TheVariants.{Fault, Event, Wrong, Turns, Memory}
use Rattle.txs_tree_eval.specs.declared.transaction.TxMeaning.{TxMeaning}
use Rattle.txs_value_data.specs.declared.fault.Fault as fault
use Rattle.txs_tree_eval_node.proofs.Called.{sound_everywhere}
use Rattle.txs_tree_meaning.proofs.Callable.{length-functions_of}
use Rattle.txs_tree_eval_node.proofs.Ending.{closed_gives}
use Rattle.txs_tree_eval_node.proofs.Evaluation.{stops_again}
use Rattle.txs_tree_eval.proofs.Beginning.{Left, Before, same_wait, either_way, waits_behind, goes_right}
use Rattle.txs_tree_eval.proofs.Deeply.{thread_same}
use Rattle.txs_tree_eval.proofs.Right.{Steady, Three, at, thread_goes}
use Rattle.txs_tree_meaning.proofs.Soundness.{SoundThread-at}

thread-at : (ts : List Thread) (k : ℕ) (t : Thread) → k < length ts → t ≡ get_or ts k t → nth (threads_of ts) k ≡ Some (thread_of t)
thread-at [] k t lt is = absurd (omega arith)
thread-at (u ∷ ts) zero t lt is = ap (λ x. Some (thread_of x)) (sym is)
thread-at (u ∷ ts) (suc k) t lt is = thread-at ts k t (omega arith) is

-- what a whole program is evaluated in
abbrev pub whole : List CellDefinition → List Function → ℕ → Option PlainTxView → Setting
whole cells fs n o = record { cells = cells; functions = fs; depth = length fs; turns = n; world = o }

pub whole_of : (setting : Setting) (cs ds : List CellDefinition) (fs gs : List Function) (n : ℕ) (o : Option PlainTxView) → setting ≡ whole cs fs n o → cs ≡ ds → fs ≡ gs → setting ≡ whole ds gs n o
whole_of setting cs ds fs gs n o is same_cells same = is ∙ ap (λ l. whole l fs n o) same_cells ∙ ap (λ l. whole ds l n o) same

-- a place that no recur leaves
closed_given : (r : Result Value ThreadStop) (s : ThreadState) (c : Completion ThreadState Value) → Gives false r s c → Gives false r s (closed c)
closed_given (Ok v) s c h = ap closed h
closed_given (Err y) s c h = stops_again false y s c (λ vs t. Invalid) h

abbrev pub IsWaiting : Completion ThreadState Value → Type 0
IsWaiting (Completes v s) = ⊥
IsWaiting (Recurs vs s) = ⊥
IsWaiting (Faults f s) = ⊥
IsWaiting (Retries s) = ⊥
IsWaiting (Waits s) = Unit {0}
IsWaiting (OutOfTurns s) = ⊥
IsWaiting Invalid = ⊥

-- what is told of an end is what the meaning says
module _ (m : ThreadMeaning) (k right : ℕ) (before : Completion ThreadState Value) (f : SeenEvent) (gs : List SeenEvent) (c x y : Completion ThreadState Value) (three : Three f gs c x y) (s : ThreadState) where
  -- where the meaning is that of the thread that waits before what it doesn't allow
  tells_same : (r : Result Value ThreadStop) (needs : Needs) (outcome : Option Outcome) → c ≡ x → Gives false r s x → Concluded r (length s.todo) needs outcome → Account m (k - length s.todo) s needs outcome → TellsOf m k right before c
  tells_same (Ok v) needs outcome same h e a = subst (λ d. TellsOf m k right before d) (sym (same ∙ h)) (subst₂ (λ n o. Account m (k - length s.todo) s n o) e.0 e.1 a)
  tells_same (Err (Fault g)) needs outcome same h e a = subst (λ d. TellsOf m k right before d) (sym (same ∙ h)) (subst₂ (λ n o. Account m (k - length s.todo) s n o) e.0 e.1 a)
  tells_same (Err Event) needs outcome same h e a =
      let dry : s.todo ≡ [] = waits_behind f gs c x y s three (same ∙ h.1) in
      subst (λ d. TellsOf m k right before d) (sym (same ∙ h.1)) (subst₂ (λ n o. Account m (k - length s.todo) s n o) (e.0 ∙ ap (λ l. lacking (length l)) dry) e.1 a)
  tells_same (Err Wrong) needs outcome same h e a =
      let dry : s.todo ≡ [] = waits_behind f gs c x y s three (same ∙ h.1) in
      subst (λ d. TellsOf m k right before d) (sym (same ∙ h.1)) (subst₂ (λ n o. Account m (k - length s.todo) s n o) (e.0 ∙ ap (λ l. lacking (length l)) dry) e.1 a)
  tells_same (Err Turns) needs outcome same h e a = subst (λ d. TellsOf m k right before d) (sym (same ∙ h)) (subst₂ (λ n o. Account m (k - length s.todo) s n o) e.0 e.1 a)
  tells_same (Err Memory) needs outcome same h e a = absurd e

  -- how many events are right, and what it means on them
  abbrev pub Right : Type 0
  Right = (right ≡ k - length s.todo) × (t : ThreadState) × (before ≡ Waits t) × (s.printed ≡ t.printed) × (s.txs ≡ t.txs)

  -- where it waits before an event that it doesn't allow
  tells_left : (needs : Needs) (outcome : Option Outcome) → c ≡ Invalid → Left s → Right → needs ≡ lacking (length s.todo) → outcome ≡ None → Account m (k - length s.todo) s needs outcome → TellsOf m k right before c
  tells_left needs outcome none left told lack end a =
      let some : lacking (length s.todo) ≡ NotAllowed = ap (λ l. lacking (length l)) left.2 in
      let account : Account m right told.1 NotAllowed None = record {
        printed = a.printed ∙ told.3;
        eaten = a.eaten ∙ sym told.0;
        txs = a.txs ∙ ap (λ l. map told_tx l) told.4;
        needs = a.needs ∙ lack ∙ some;
        asks = a.asks ∙ ap (λ n. asked n s.asks) (lack ∙ some);
        outcome = a.outcome ∙ end;
      } in
      subst (λ d. TellsOf m k right before d) (sym none) (subst (λ d. TellsWrong m right d) (sym told.2) account)

  tells_stopped : (r : Result Value ThreadStop) (needs : Needs) (outcome : Option Outcome) → c ≡ Invalid → Before x → (x ≡ Waits s → Right) → Gives false r s x → Concluded r (length s.todo) needs outcome → Account m (k - length s.todo) s needs outcome → TellsOf m k right before c
  tells_stopped (Ok v) needs outcome none stop told h e a = absurd (subst IsWaiting (sym stop.1 ∙ h) tt)
  tells_stopped (Err (Fault g)) needs outcome none stop told h e a = absurd (subst IsWaiting (sym stop.1 ∙ h) tt)
  tells_stopped (Err Event) needs outcome none stop told h e a =
      let here : s ≡ stop.0 = same_wait s stop.0 (sym h.1 ∙ stop.1) in
      tells_left needs outcome none (subst (λ t. Left t) (sym here) stop.2) (told h.1) e.0 e.1 a
  tells_stopped (Err Wrong) needs outcome none stop told h e a =
      let here : s ≡ stop.0 = same_wait s stop.0 (sym h.1 ∙ stop.1) in
      tells_left needs outcome none (subst (λ t. Left t) (sym here) stop.2) (told h.1) e.0 e.1 a
  tells_stopped (Err Turns) needs outcome none stop told h e a = absurd (subst IsWaiting (sym stop.1 ∙ h) tt)
  tells_stopped (Err Memory) needs outcome none stop told h e a = absurd e

  tells_end : (r : Result Value ThreadStop) (needs : Needs) (outcome : Option Outcome) → (c ≡ Invalid → x ≡ Waits s → Right) → Gives false r s x → Concluded r (length s.todo) needs outcome → Account m (k - length s.todo) s needs outcome → TellsOf m k right before c
  tells_end r needs outcome told h e a =
      ⊎_elim (λ same. tells_same r needs outcome same h e a) (λ stop. tells_stopped r needs outcome stop.0 stop.1 (told stop.0) h e a) (either_way f gs c x y three)

-- some event
abbrev pub any_event : SeenEvent
any_event = record { book = 0; kind = Broke 0; R = λ k. Nil; Q = λ k. Nil; C = λ k. Nil }

-- a read of the lent threads, as a read of the program's
module _ (us : List Thread) (parts : Parts) (k : ℕ) (r : Thread) (same : us ≡ parts.threads) (lt : k < length parts.threads) (is : r ≡ get_or us k r) (n : ℕ) (setting : Setting) (same_setting : setting ≡ whole parts.cells parts.functions n None) where
  at_place : get_or us k r ≡ get_or parts.threads k (get_or us k r)
  at_place = ap (λ x. get_or us k x) is ∙ ap (λ l. get_or l k (get_or us k r)) same

  abbrev body : Tree
  body = tree_of (get_or us k r).body

  pub sound_body : (l : ℕ) → l ≡ 0 → Sound (program_of parts) → SoundTree (callable setting) (zone_in setting) l None body
  sound_body l none s =
      let sound : SoundTree (known (functions_of parts.functions)) in_thread 0 None body = (SoundThread-at (known (functions_of parts.functions)) parts.threads k (get_or us k r) s.threads lt at_place).0 in
      let everywhere = sound_everywhere parts.cells parts.functions n None body in_thread 0 None sound in
      subst (λ d. SoundTree (callable setting) (zone_in setting) d None body) (sym none) (subst (λ x. SoundTree (callable x) (zone_in x) 0 None body) (sym same_setting) everywhere)

  abbrev x : Surroundings
  x = around_it (whole parts.cells parts.functions n None)

  -- the body on these events, where calls go so deep and the thread waits before what it doesn't allow
  abbrev body_on : List SeenEvent → ℕ → Completion ThreadState Value
  body_on es d = eval (deeply x (on_right x d)) (call_at (λ b. deeply x (on_right x b)) n (functions_of parts.functions) d) n false body [] (idle es)

  -- the source of the thread
  abbrev source : ThreadSource
  source = record { functions = functions_of parts.functions; cells = parts.cells; main = body }

  -- how deep calls may go
  abbrev deep : ℕ
  deep = length (functions_of parts.functions)

  module _ (sound : Sound (program_of parts)) where
    main_known : SoundTree (known (functions_of parts.functions)) in_thread 0 None body
    main_known = (SoundThread-at (known (functions_of parts.functions)) parts.threads k (get_or us k r) sound.threads lt at_place).0

    sound_main : SoundTree (callable (at any_event [] parts.cells parts.functions n sound.functions sound.cells deep)) in_thread 0 None body
    sound_main =
        let everywhere = sound_everywhere parts.cells parts.functions n None body in_thread 0 None main_known in
        subst (λ d. SoundTree (callable (at any_event [] parts.cells parts.functions n sound.functions sound.cells d)) in_thread 0 None body) (sym (length-functions_of parts.functions)) everywhere

    three : (f : SeenEvent) (gs es : List SeenEvent) → Three f gs (thread_meaning source n es) (closed (body_on es deep)) (closed (body_on (es ++ f ∷ gs) deep))
    three f gs es =
        subst (λ c. Three f gs c (closed (body_on es deep)) (closed (body_on (es ++ f ∷ gs) deep))) (sym (thread_same parts.cells parts.functions n sound.functions sound.cells body main_known (idle es)))
        ((thread_goes f gs parts.cells parts.functions n sound.functions sound.cells deep body sound_main).0 (idle es))

    steady : (es : List SeenEvent) → Steady (length es) (closed (body_on es deep))
    steady es = (thread_goes any_event [] parts.cells parts.functions n sound.functions sound.cells deep body sound_main).1 (idle es)

    pub told_thread : (m : ThreadMeaning) (j : ℕ) (es : List SeenEvent) (env : List Value) (st st1 : State) (end : Result Value ThreadStop) (needs : Needs) (outcome : Option Outcome) → j ≡ length es → env ≡ [] → thread_state st.thread ≡ idle es
        → Yields setting end st1 (means setting body env st) → Concluded end (length (thread_state st1.thread).todo) needs outcome → Account m (j - length (thread_state st1.thread).todo) (thread_state st1.thread) needs outcome
        → IfSome (thread_source (program_of parts) k) (λ p. Tells m p n es)
    told_thread m j es env st st1 end needs outcome many no_locals fresh h e a =
        let s = thread_state st1.thread in
        let here : Yields (whole parts.cells parts.functions n None) end st1 (means (whole parts.cells parts.functions n None) body env st) = subst (λ y. Yields y end st1 (means y body env st)) same_setting h in
        let from : List Value → ThreadState → Completion ThreadState Value = λ l t. eval (deeply x (on_right x (length parts.functions))) (call_at (λ b. deeply x (on_right x b)) n (functions_of parts.functions) (length parts.functions)) n false body l t in
        let begun : Gives false end s (body_on es (length parts.functions)) = subst₂ (λ l t. Gives false end s (from l t)) no_locals fresh here in
        let whole_of_it : Gives false end s (closed (body_on es deep)) = subst (λ d. Gives false end s (closed (body_on es d))) (sym (length-functions_of parts.functions)) (closed_given end s (body_on es (length parts.functions)) begun) in
        let account : Account m (length es - length s.todo) s needs outcome = subst (λ i. Account m (i - length s.todo) s needs outcome) many a in
        let told : Tells m source n es = tells_end m (length es) (eats_right source n [] es) (right_meaning source n es) any_event [] (thread_meaning source n es) (closed (body_on es deep)) (closed (body_on (es ++ any_event ∷ []) deep)) (three any_event [] es) s end needs outcome
        (λ none waits. goes_right (thread_meaning source n) (λ l. closed (body_on l deep)) three steady any_event es s none waits) whole_of_it e account in
        subst (λ o. IfSome (source_in (program_of parts) o) (λ p. Tells m p n es)) (sym (thread-at parts.threads k (get_or us k r) lt at_place)) told

    pub told_account : {E : Type 0} (a : Result ThreadMeaning E) (j : ℕ) (es : List SeenEvent) (env : List Value) (st st1 : State) (end : Result Value ThreadStop) → j ≡ length es → env ≡ [] → thread_state st.thread ≡ idle es
        → Yields setting end st1 (means setting body env st) → IfOk a (λ m. Accounts m j (thread_state st1.thread) end) → IfOk a (λ m. IfSome (thread_source (program_of parts) k) (λ p. Tells m p n es))
    told_account (Ok m) j es env st st1 end many no_locals fresh h a = told_thread m j es env st st1 end a.0 a.1 many no_locals fresh h a.2 a.3
    told_account (Err z) j es env st st1 end many no_locals fresh h a = a

-- an account of what was concluded
pub accounted : {E : Type 0} (a : Result ThreadMeaning E) (k : ℕ) (s : ThreadState) (end : Result Value ThreadStop) (needs : Needs) (outcome : Option Outcome) (left eaten : ℕ) → left ≡ length s.todo → eaten ≡ k - left
    → Concluded end left needs outcome → IfOk a (λ m. Account m eaten s needs outcome) → IfOk a (λ m. Accounts m k s end)
accounted (Ok m) k s end needs outcome left eaten few ate e h =
    (needs, outcome, subst (λ l. Concluded end l needs outcome) few e, subst (λ i. Account m i s needs outcome) (ate ∙ ap (λ l. k - l) few) h)
accounted (Err x) k s end needs outcome left eaten few ate e h = h

-- ---- the body of a transaction

module _ (cells : List CellDefinition) (fs : List Function) (n : ℕ) (node : Tree) (vs ws : List Value) (w : PlainView) (setting : Setting) (same : setting ≡ whole cells fs n (Some (whole_view w))) (copy : ws ≡ vs) where
  pub sound_tx : SoundTree (known (functions_of fs)) in_dosync (length vs) None node → SoundTree (callable setting) (zone_in setting) (length ws) None node
  sound_tx h = subst₂ (λ y us. SoundTree (callable y) (zone_in y) (length us) None node) (sym same) (sym copy) (sound_everywhere cells fs n (Some (whole_view w)) node in_dosync (length vs) None h)

  pub told_body : (r : Result Value ThreadStop) (st out : State) → tx_state st.tx ≡ tx_start → Yields setting r out (means setting node ws st) → Gives true r (tx_state out.tx) (tx_meaning n (functions_of fs) (length fs) node vs (world_of w))
  told_body r st out fresh h =
      let here : Yields (whole cells fs n (Some (whole_view w))) r out (means (whole cells fs n (Some (whole_view w))) node vs st) = subst₂ (λ y us. Yields y r out (means y node us st)) same copy h in
      let x = around_it (whole cells fs n (Some (whole_view w))) in
      let from : TxState → Completion TxState Value = λ t. eval (forms_on (Some (whole_view w)) x (length fs)) (call_at (forms_on (Some (whole_view w)) x) n (functions_of fs) (length fs)) n true node vs t in
      closed_gives true r (tx_state out.tx) (from tx_start) (subst (λ t. Gives true r (tx_state out.tx) (from t)) fresh here)

-- nothing is waited for in a transaction
pub waitless : {S A : Type 0} (r : Result A ThreadStop) (s : S) (c : Completion S A) → Gives true r s c → Waitless r
waitless (Ok v) s c h = tt
waitless (Err (Fault f)) s c h = tt
waitless (Err Event) s c h = absurd (false≢true (sym h.0))
waitless (Err Wrong) s c h = absurd (false≢true (sym h.0))
waitless (Err Turns) s c h = tt
waitless (Err Memory) s c h = tt

pub tells_value : (m : TxMeaning) (v : Value) (x : TxWork) (c : Completion TxState Value) → c ≡ Completes v (tx_state x) → m ≡ record { result = Ok v; done = x.done; reads = x.reads.items; used = x.used } → TellsTx (Ok m) c
tells_value m v x c h is = subst (λ y. TellsTx (Ok m) y) (sym h) is

pub tells_fault : (m : TxMeaning) (y : ThreadStop) (f : fault.Fault) (x : TxWork) (c : Completion TxState Value) → y ≡ Fault f → Stops true y (tx_state x) c → m ≡ record { result = Err f; done = x.done; reads = x.reads.items; used = x.used } → TellsTx (Ok m) c
tells_fault m y f x c e h is =
    let faults : c ≡ Faults f (tx_state x) = subst (λ z. Stops true z (tx_state x) c) e h in
    subst (λ d. TellsTx (Ok m) d) (sym faults) is

pub tells_turns : (y : ThreadStop) (t : TxState) (c : Completion TxState Value) → y ≡ Turns → Stops true y t c → TellsTx (Err FewTurns) c
tells_turns y t c e h =
    let over : c ≡ OutOfTurns t = subst (λ z. Stops true z t c) e h in
    subst (λ d. TellsTx (Err FewTurns) d) (sym over) tt
