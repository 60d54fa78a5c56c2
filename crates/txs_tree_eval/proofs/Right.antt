-- What a thread means on a beginning of its events, and what it does there and on all of them where it waits before an event that it
-- doesn't allow.
use Rattle.std.proofs.Common.{◌≡◌, ℕ, zero, suc, ◌+◌, ◌-◌, ◌≤◌, Bool, true, false, ◌&&◌, ◌==◌, List, [], ◌∷◌, ◌++◌, length, nat_eq, Option, Some, None, Result, Ok, Err, refl, sym, ap, ◌∙◌, subst, subst₂, inl, inr, ⊎_elim, ◌⊎◌, if◌then◌else◌, arith}
use Rattle.txs_world_protocol.specs.Ask.{Writes, same_writes, same_cell, same_value, same_action, same_actions}
use Rattle.txs_world_protocol.specs.SeenEvent.{SeenEvent, home}
use Rattle.txs_world_protocol.specs.declared.event.Cause.TheVariants as cause
use Rattle.txs_world_protocol.specs.declared.event.EventKind.{EventKind}
use Rattle.txs_world_protocol.specs.declared.event.EventKind.TheVariants.{Read, Commit, Retry, Fail, Refused, Send as Sent, SendRefused, Act as Acted, Swap as Swapped, Broke}
use Rattle.txs_value_cell.specs.Cells.{World, validators_of, validator_at}
use Rattle.txs_value_cell.specs.Forms.{rule, may_stand, cell_of}
use Rattle.txs_value_cell.specs.declared.action.Action.{Action}
use Rattle.txs_value_cell.specs.declared.cell.CellDefinition.{CellDefinition}
use Rattle.txs_value_cell.specs.declared.form.CellForm.TheVariants as form_of
use Rattle.txs_value_cell.specs.declared.form.LookForm.{LookForm}
use Rattle.txs_value_cell.specs.declared.form.LookForm.TheVariants.{Deref, Ensure}
use Rattle.txs_value_cell.specs.declared.form.PutForm.{PutForm}
use Rattle.txs_value_cell.specs.declared.form.PutForm.TheVariants.{RefSet, Reset}
use Rattle.txs_value_cell.specs.declared.form.UpdateForm.{UpdateForm}
use Rattle.txs_value_cell.specs.declared.form.UpdateForm.TheVariants.{Alter, Commute, Swap}
use Rattle.txs_value_cell.specs.declared.form.Standing.{Standing}
use Rattle.txs_value_cell.specs.declared.form.Standing.TheVariants.{Anywhere, Inside, Outside}
use Rattle.txs_frame.specs.Frame.{PlainTxFrame, has_number, commuted, sends_of_commit}
use Rattle.txs_value_apply.specs.Core.{core, vector_of}
use Rattle.txs_value_apply.specs.Truth.{choose}
use Rattle.txs_value_data.specs.Places.{nth, fault_at}
use Rattle.txs_value_data.specs.declared.fault.Fault.{Fault}
use Rattle.txs_value_data.specs.declared.fault.FaultKind.{FaultKind}
use Rattle.txs_value_data.specs.declared.fault.FaultKind.TheVariants.{AgentFailed}
use Rattle.txs_value_data.specs.declared.fault.Span.{Span}
use Rattle.txs_value_data.specs.declared.op.Callee.{Callee}
use Rattle.txs_value_data.specs.declared.op.Callee.TheVariants.{Core as CoreOp, Function}
use Rattle.txs_value_data.specs.Limits.{reruns}
use Rattle.txs_value_data.specs.declared.value.CellId.{CellId}
use Rattle.txs_value_data.specs.declared.value.Value.{Value}
use Rattle.txs_value_data.specs.declared.value.Value.TheVariants.{Nil, Truth, Int, Key, Text, Vector, Cell}
use Rattle.txs_tree_meaning.specs.Meaning.{Completion, Completes, Recurs, Faults, Retries, Waits, OutOfTurns, Invalid, bind, again, closed, give, result_of, allowed, Applies, Effects, apply, turns, eval, eval_all, eval_let, eval_do, call_at}
use Rattle.txs_tree_meaning.specs.Known.{Known, known}
use Rattle.txs_tree_meaning.specs.Right.{up_to, ended_with, has_missed, passes, behind_retries, on_right}
use Rattle.txs_tree_meaning.specs.Sound.{MayStand, in_thread, in_dosync, SoundCall, SoundCallee, SentCallee, SoundCells, SoundValidator, SoundTree, SoundAll, SoundLet, SoundDo, SoundFunctions}
use Rattle.txs_tree_meaning.specs.Thread.{ThreadState, Transacting, with_tx, holding, run_of, uneaten, eats, meant, reads, resets, faulted, faultless, swaps, sends, sends_or_holds, over, ends_tx, is_retry, is_held, missing, again as tried_again, eats_tx, accepts, Surroundings, thread_look, thread_put, thread_update, on_events}
use Rattle.txs_tree_meaning.specs.Transaction.{TxState, in_transaction, tx_start, tx_meaning, tx_meaning_lacking, judged, validated, final_writes}
use Rattle.txs_tree_meaning.specs.Tree.{Mark, Tree, Const, Local, If, Do, Let, Loop, Recur, Core, Call, VectorOf, Println, Dosync, Look, Put, Update, Send, Trees, none, more, count, PlainFunction}
use Rattle.txs_tree_meaning.specs.View.{functions_of}
use Rattle.txs_tree_meaning.specs.declared.node.Function as function
use Rattle.txs_tree_meaning.proofs.PureLaw.{Agrees}
use Rattle.txs_theorem_threads.proofs.Meant.{callee_proper}
use Rattle.txs_theorem_threads.specs.Behaves.{IsProper}
use Rattle.txs_tree_eval_node.specs.Evaluated.{around_it, with_todo, deeply, wholly, is_read_of, is_swap_to, quiet, made_means}
use Rattle.txs_tree_eval_node.specs.Setting.{Setting, callable, deepest}
use Rattle.txs_tree_eval_node.proofs.Acting.{commutes_deepest, finals_agree_on}
use Rattle.txs_tree_eval_node.proofs.Applying.{whole_agrees, validated_agrees, made_agrees}
use Rattle.txs_tree_eval_node.proofs.Called.{called_body, callee_deepest, cells_deepest, validator_sound}
use Rattle.txs_tree_eval_node.proofs.Forms.{read_as, resets_as}
use Rattle.txs_tree_eval_node.proofs.Recurs.{keeps_sound_on}

-- ---- how many events are left

-- at most so many are left where it goes on or waits
abbrev pub Steady : {A : Type 0} → ℕ → Completion ThreadState A → Type 0
Steady k (Completes a t) = length t.todo ≤ k
Steady k (Recurs vs t) = length t.todo ≤ k
Steady k (Faults e t) = Unit {0}
Steady k (Retries t) = Unit {0}
Steady k (Waits t) = length t.todo ≤ k
Steady k (OutOfTurns t) = Unit {0}
Steady k Invalid = Unit {0}

itself : (k : ℕ) → k ≤ k
itself k = omega arith

steady_more : {A : Type 0} (j k : ℕ) (c : Completion ThreadState A) → j ≤ k → Steady j c → Steady k c
steady_more j k (Completes a t) le h = omega (arith, le, h)
steady_more j k (Recurs vs t) le h = omega (arith, le, h)
steady_more j k (Faults e t) le h = tt
steady_more j k (Retries t) le h = tt
steady_more j k (Waits t) le h = omega (arith, le, h)
steady_more j k (OutOfTurns t) le h = tt
steady_more j k Invalid le h = tt

steady_bind : {A B : Type 0} (k : ℕ) (c : Completion ThreadState A) (g : A → ThreadState → Completion ThreadState B) → Steady k c → ((a : A) (u : ThreadState) → Steady (length u.todo) (g a u)) → Steady k (bind c g)
steady_bind k (Completes a u) g h each = steady_more (length u.todo) k (g a u) h (each a u)
steady_bind k (Recurs vs u) g h each = tt
steady_bind k (Faults e u) g h each = tt
steady_bind k (Retries u) g h each = tt
steady_bind k (Waits u) g h each = h
steady_bind k (OutOfTurns u) g h each = tt
steady_bind k Invalid g h each = tt

steady_again : {A : Type 0} (k : ℕ) (c : Completion ThreadState A) (g : List Value → ThreadState → Completion ThreadState A) → Steady k c → ((vs : List Value) (u : ThreadState) → Steady (length u.todo) (g vs u)) → Steady k (again c g)
steady_again k (Completes a u) g h each = h
steady_again k (Recurs vs u) g h each = steady_more (length u.todo) k (g vs u) h (each vs u)
steady_again k (Faults e u) g h each = tt
steady_again k (Retries u) g h each = tt
steady_again k (Waits u) g h each = h
steady_again k (OutOfTurns u) g h each = tt
steady_again k Invalid g h each = tt

-- with an event that was eaten, or stays to come
steady_event : (s : ThreadState) (e : SeenEvent) (es : List SeenEvent) (c : Completion ThreadState Value) → Steady (length es) c → Steady (length (e ∷ es)) (up_to (with_todo (e ∷ es) s) (uneaten (e ∷ es) c))
steady_event s e es (Completes a u) h = omega (arith, h)
steady_event s e es (Recurs vs u) h = omega (arith, h)
steady_event s e es (Faults d u) h = tt
steady_event s e es (Retries u) h = tt
steady_event s e es (Waits u) h = omega (arith, h)
steady_event s e es (OutOfTurns u) h = tt
steady_event s e es Invalid h = itself (suc (length es))

-- ---- a transaction that had to run again

-- whether a retry had its cause: then the transaction goes on; else turns don't suffice for the body, or there is no meaning
abbrev Settled : Bool → (ThreadState → Completion ThreadState Value → Completion ThreadState Value) → Type 0
Settled p go =
    ((p ≡ true) × ((t : ThreadState) (next : Completion ThreadState Value) → go t next ≡ next))
    ⊎ (((p ≡ false) × ((t : ThreadState) (next : Completion ThreadState Value) → go t next ≡ OutOfTurns t)) ⊎ ((p ≡ false) × ((t : ThreadState) (next : Completion ThreadState Value) → go t next ≡ Invalid)))

abbrev Causes : Transacting → EventKind → World → Type 0
Causes d kind R = Settled (passes d kind R) (λ t next. tried_again d kind R t next)

-- a test of what was done
settled_by : (b : Bool) → Settled b (λ t next. allowed b next)
settled_by true = inl (refl, λ t next. refl)
settled_by false = inr (inr (refl, λ t next. refl))

-- a test of what the body did
settled : (p : PlainTxFrame → Bool) (c : Completion TxState Value) → Settled (ended_with p c) (λ t next. over t c (λ v x. allowed (p x.done) next) (λ e. Invalid))
settled p (Completes v x) = settled_by (p x.done)
settled p (Recurs vs x) = inr (inr (refl, λ t next. refl))
settled p (Faults e x) = inr (inr (refl, λ t next. refl))
settled p (Retries x) = inr (inr (refl, λ t next. refl))
settled p (Waits x) = inr (inr (refl, λ t next. refl))
settled p (OutOfTurns x) = inr (inl (refl, λ t next. refl))
settled p Invalid = inr (inr (refl, λ t next. refl))

-- a test of what the body came to look at
missed : (c : Completion TxState Value) → Settled (has_missed c) (λ t next. missing t c next)
missed (Completes v x) = inr (inr (refl, λ t next. refl))
missed (Recurs vs x) = inr (inr (refl, λ t next. refl))
missed (Faults e x) = inr (inr (refl, λ t next. refl))
missed (Retries x) = inr (inr (refl, λ t next. refl))
missed (Waits x) = inl (refl, λ t next. refl)
missed (OutOfTurns x) = inr (inl (refl, λ t next. refl))
missed Invalid = inr (inr (refl, λ t next. refl))

causes : (d : Transacting) (kind : EventKind) (R : World) → Causes d kind R
causes d (Retry since c cause.Outdated) R = missed (d.lacking c.number R)
causes d (Retry since c cause.Held) R = settled (λ w. is_held w c.number) (d.on R)
causes d (Retry since c (cause.Commuted at)) R = settled (λ w. has_number (commuted w) c.number) (d.on R)
causes d (Read c) R = inr (inr (refl, λ t next. refl))
causes d (Commit at view writes sent) R = inr (inr (refl, λ t next. refl))
causes d (Fail at view) R = inr (inr (refl, λ t next. refl))
causes d (Refused at view agent) R = inr (inr (refl, λ t next. refl))
causes d (Sent a) R = inr (inr (refl, λ t next. refl))
causes d (SendRefused c) R = inr (inr (refl, λ t next. refl))
causes d (Acted c m v held) R = inr (inr (refl, λ t next. refl))
causes d (Swapped v) R = inr (inr (refl, λ t next. refl))
causes d (Broke at) R = inr (inr (refl, λ t next. refl))

-- ---- a beginning of the events, and all

-- the events behind the beginning: there is at least one
module _ (f : SeenEvent) (gs : List SeenEvent) where
  -- the same with these events behind those to come
  abbrev pub longer : ThreadState → ThreadState
  longer s = record s { todo = s.todo ++ f ∷ gs }

  -- the same, whichever book's event it waits for
  abbrev pub unasked : ThreadState → ThreadState
  unasked s = record s { asks = None }

  -- What may come on all events where the thread waits on the beginning: it waits before the next one, or eats that.
  abbrev pub Later : {A : Type 0} → ThreadState → Completion ThreadState A → Type 0
  Later s (Completes a t) = length t.todo ≤ length gs
  Later s (Recurs vs t) = length t.todo ≤ length gs
  Later s (Faults e t) = Unit {0}
  Later s (Retries t) = Unit {0}
  Later s (Waits t) = (unasked t ≡ unasked (longer s)) ⊎ (length t.todo ≤ length gs)
  Later s (OutOfTurns t) = Unit {0}
  Later s Invalid = Unit {0}

  -- There is no meaning: of the tree, whatever the events are; or the thread waits before an event of the beginning.
  abbrev pub Gone : {A : Type 0} → Completion ThreadState A → Completion ThreadState A → Type 0
  Gone x y = ((x ≡ Invalid) × (y ≡ Invalid)) ⊎ ((s : ThreadState) × (e : SeenEvent) × (es : List SeenEvent) × (s.todo ≡ e ∷ es) × (x ≡ Waits s) × (y ≡ Waits (longer s)))

  -- the meaning on the beginning; and what comes where it waits before an event that isn't allowed: on the beginning, and on all events
  abbrev pub Three : {A : Type 0} → Completion ThreadState A → Completion ThreadState A → Completion ThreadState A → Type 0
  Three (Completes a s) x y = (x ≡ Completes a s) × (y ≡ Completes a (longer s))
  Three (Recurs vs s) x y = (x ≡ Recurs vs s) × (y ≡ Recurs vs (longer s))
  Three (Faults e s) x y = (x ≡ Faults e s) × (y ≡ Faults e (longer s))
  Three (Retries s) x y = (x ≡ Retries s) × (y ≡ Retries (longer s))
  Three (Waits s) x y = (s.todo ≡ []) × (x ≡ Waits s) × Later s y
  Three (OutOfTurns s) x y = (x ≡ OutOfTurns s) × (y ≡ OutOfTurns (longer s))
  Three Invalid x y = Gone x y

  -- the same of a part of the meaning, from every state
  abbrev pub Goes : {A : Type 0} → (ThreadState → Completion ThreadState A) → (ThreadState → Completion ThreadState A) → Type 0
  Goes F G = ((s : ThreadState) → Three (F s) (G s) (G (longer s))) × ((t : ThreadState) → Steady (length t.todo) (G t))

  less_later : {A : Type 0} (s : ThreadState) (c : Completion ThreadState A) → Steady (length gs) c → Later s c
  less_later s (Completes a t) h = h
  less_later s (Recurs vs t) h = h
  less_later s (Faults e t) h = tt
  less_later s (Retries t) h = tt
  less_later s (Waits t) h = inr h
  less_later s (OutOfTurns t) h = tt
  less_later s Invalid h = tt

  later_bind : {A B : Type 0} (s : ThreadState) (c : Completion ThreadState A) (g : A → ThreadState → Completion ThreadState B) → Later s c → ((a : A) (u : ThreadState) → Steady (length u.todo) (g a u)) → Later s (bind c g)
  later_bind s (Completes a u) g h each = less_later s (g a u) (steady_more (length u.todo) (length gs) (g a u) h (each a u))
  later_bind s (Recurs vs u) g h each = tt
  later_bind s (Faults e u) g h each = tt
  later_bind s (Retries u) g h each = tt
  later_bind s (Waits u) g h each = h
  later_bind s (OutOfTurns u) g h each = tt
  later_bind s Invalid g h each = tt

  later_again : {A : Type 0} (s : ThreadState) (c : Completion ThreadState A) (g : List Value → ThreadState → Completion ThreadState A) → Later s c → ((vs : List Value) (u : ThreadState) → Steady (length u.todo) (g vs u)) → Later s (again c g)
  later_again s (Completes a u) g h each = h
  later_again s (Recurs vs u) g h each = less_later s (g vs u) (steady_more (length u.todo) (length gs) (g vs u) h (each vs u))
  later_again s (Faults e u) g h each = tt
  later_again s (Retries u) g h each = tt
  later_again s (Waits u) g h each = h
  later_again s (OutOfTurns u) g h each = tt
  later_again s Invalid g h each = tt

  gone_map : {A B : Type 0} (x y : Completion ThreadState A) (F : Completion ThreadState A → Completion ThreadState B) → F Invalid ≡ Invalid → ((s : ThreadState) → F (Waits s) ≡ Waits s) → Gone x y → Gone (F x) (F y)
  gone_map x y F i w h =
      ⊎_elim (λ p. inl (ap F p.0 ∙ i, ap F p.1 ∙ i)) (λ p. inr (p.0, p.1, p.2, p.3, ap F p.4 ∙ w p.0, ap F p.5 ∙ w (longer p.0))) h

  three_bind : {A B : Type 0} (c x y : Completion ThreadState A) (k g : A → ThreadState → Completion ThreadState B) → Three c x y → ((a : A) (s : ThreadState) → Three (k a s) (g a s) (g a (longer s))) → ((a : A) (u : ThreadState) → Steady (length u.todo) (g a u))
      → Three (bind c k) (bind x g) (bind y g)
  three_bind (Completes a s) x y k g h each steady = subst₂ (λ p q. Three (k a s) p q) (sym (ap (λ d. bind d g) h.0)) (sym (ap (λ d. bind d g) h.1)) (each a s)
  three_bind (Recurs vs s) x y k g h each steady = inl (ap (λ d. bind d g) h.0, ap (λ d. bind d g) h.1)
  three_bind (Faults e s) x y k g h each steady = (ap (λ d. bind d g) h.0, ap (λ d. bind d g) h.1)
  three_bind (Retries s) x y k g h each steady = (ap (λ d. bind d g) h.0, ap (λ d. bind d g) h.1)
  three_bind (Waits s) x y k g h each steady = (h.0, ap (λ d. bind d g) h.1, later_bind s y g h.2 steady)
  three_bind (OutOfTurns s) x y k g h each steady = (ap (λ d. bind d g) h.0, ap (λ d. bind d g) h.1)
  three_bind Invalid x y k g h each steady = gone_map x y (λ d. bind d g) refl (λ s. refl) h

  three_again : {A : Type 0} (c x y : Completion ThreadState A) (k g : List Value → ThreadState → Completion ThreadState A) → Three c x y → ((vs : List Value) (s : ThreadState) → Three (k vs s) (g vs s) (g vs (longer s))) → ((vs : List Value) (u : ThreadState) → Steady (length u.todo) (g vs u))
      → Three (again c k) (again x g) (again y g)
  three_again (Completes a s) x y k g h each steady = (ap (λ d. again d g) h.0, ap (λ d. again d g) h.1)
  three_again (Recurs vs s) x y k g h each steady = subst₂ (λ p q. Three (k vs s) p q) (sym (ap (λ d. again d g) h.0)) (sym (ap (λ d. again d g) h.1)) (each vs s)
  three_again (Faults e s) x y k g h each steady = (ap (λ d. again d g) h.0, ap (λ d. again d g) h.1)
  three_again (Retries s) x y k g h each steady = (ap (λ d. again d g) h.0, ap (λ d. again d g) h.1)
  three_again (Waits s) x y k g h each steady = (h.0, ap (λ d. again d g) h.1, later_again s y g h.2 steady)
  three_again (OutOfTurns s) x y k g h each steady = (ap (λ d. again d g) h.0, ap (λ d. again d g) h.1)
  three_again Invalid x y k g h each steady = gone_map x y (λ d. again d g) refl (λ s. refl) h

  -- ---- parts of a tree

  module _ {A B : Type 0} (F G : ThreadState → Completion ThreadState A) (k g : A → ThreadState → Completion ThreadState B) where
    goes_bind : Goes F G → ((a : A) → Goes (k a) (g a)) → Goes (λ s. bind (F s) k) (λ s. bind (G s) g)
    goes_bind h each =
        (λ s. three_bind (F s) (G s) (G (longer s)) k g (h.0 s) (λ a t. (each a).0 t) (λ a u. (each a).1 u), λ t. steady_bind (length t.todo) (G t) g (h.1 t) (λ a u. (each a).1 u))

  module _ {A : Type 0} (F G : ThreadState → Completion ThreadState A) (k g : List Value → ThreadState → Completion ThreadState A) where
    goes_again : Goes F G → ((vs : List Value) → Goes (k vs) (g vs)) → Goes (λ s. again (F s) k) (λ s. again (G s) g)
    goes_again h each =
        (λ s. three_again (F s) (G s) (G (longer s)) k g (h.0 s) (λ vs t. (each vs).0 t) (λ vs u. (each vs).1 u), λ t. steady_again (length t.todo) (G t) g (h.1 t) (λ vs u. (each vs).1 u))

  goes_wrong : {A : Type 0} → Goes {A = A} (λ s. Invalid) (λ s. Invalid)
  goes_wrong = (λ s. inl (refl, refl), λ t. tt)

  goes_value : {A : Type 0} (a : A) → Goes (λ s. Completes a s) (λ s. Completes a s)
  goes_value a = (λ s. (refl, refl), λ t. itself (length t.todo))

  goes_recurs : (vs : List Value) → Goes {A = Value} (λ s. Recurs vs s) (λ s. Recurs vs s)
  goes_recurs vs = (λ s. (refl, refl), λ t. itself (length t.todo))

  goes_give : {A : Type 0} (o : Option A) → Goes (λ s. give o s) (λ s. give o s)
  goes_give None = (λ s. inl (refl, refl), λ t. tt)
  goes_give (Some a) = goes_value a

  goes_result : {A : Type 0} (r : Result A FaultKind) (span : Span) → Goes (λ s. result_of r span s) (λ s. result_of r span s)
  goes_result (Ok a) span = goes_value a
  goes_result (Err e) span = (λ s. (refl, refl), λ t. tt)

  goes_choose : (v : Value) (F G K L : ThreadState → Completion ThreadState Value) → Goes F G → Goes K L → Goes (λ s. choose v (F s) (K s)) (λ s. choose v (G s) (L s))
  goes_choose Nil F G K L h j = j
  goes_choose (Truth true) F G K L h j = h
  goes_choose (Truth false) F G K L h j = j
  goes_choose (Int z) F G K L h j = h
  goes_choose (Key bs) F G K L h j = h
  goes_choose (Text bs) F G K L h j = h
  goes_choose (Vector ds) F G K L h j = h
  goes_choose (Cell c) F G K L h j = h

  goes_if : (b : Bool) (F G : ThreadState → Completion ThreadState Value) → Goes F G → Goes (λ s. if b then F s else Invalid) (λ s. if b then G s else Invalid)
  goes_if true F G h = h
  goes_if false F G h = goes_wrong

  goes_turns : (k d : ℕ) (F G : List Value → ThreadState → Completion ThreadState Value) → ((vs : List Value) → Goes (F vs) (G vs)) → (vs : List Value) → Goes (λ s. turns k d F vs s) (λ s. turns k d G vs s)
  goes_turns zero d F G each vs = (λ s. (refl, refl), λ t. tt)
  goes_turns (suc k) d F G each vs =
      goes_if (nat_eq (length vs) d) (λ s. again (F vs s) (turns k d F)) (λ s. again (G vs s) (turns k d G)) (goes_again (F vs) (G vs) (turns k d F) (turns k d G) (each vs) (λ ws. goes_turns k d F G each ws))

  -- ---- at an event

  -- what is left of the events doesn't matter here: there is no waiting
  abbrev Same : {A : Type 0} → Completion ThreadState A → Completion ThreadState A → Completion ThreadState A → Type 0
  Same (Completes a s) x y = (x ≡ Completes a s) × (y ≡ Completes a (longer s))
  Same (Recurs vs s) x y = (x ≡ Recurs vs s) × (y ≡ Recurs vs (longer s))
  Same (Faults e s) x y = (x ≡ Faults e s) × (y ≡ Faults e (longer s))
  Same (Retries s) x y = ⊥
  Same (Waits s) x y = ⊥
  Same (OutOfTurns s) x y = (x ≡ OutOfTurns s) × (y ≡ OutOfTurns (longer s))
  Same Invalid x y = (x ≡ Invalid) × (y ≡ Invalid)

  abbrev Calm : {A : Type 0} → (ThreadState → Completion ThreadState A) → (ThreadState → Completion ThreadState A) → Type 0
  Calm F G = ((s : ThreadState) → Same (F s) (G s) (G (longer s))) × ((t : ThreadState) → Steady (length t.todo) (G t))

  -- pure code
  same_pure : {A : Type 0} (p : Completion (Unit {0}) A) (s : ThreadState) (c x y : Completion ThreadState A) → Agrees s p c → Agrees s p x → Agrees (longer s) p y → Same c x y
  same_pure (Completes a u) s c x y h i j = subst (λ d. Same d x y) (sym h) (i, j)
  same_pure (Recurs vs u) s c x y h i j = subst (λ d. Same d x y) (sym h) (i, j)
  same_pure (Faults e u) s c x y h i j = subst (λ d. Same d x y) (sym h) (i, j)
  same_pure (Retries u) s c x y h i j = absurd h
  same_pure (Waits u) s c x y h i j = absurd h
  same_pure (OutOfTurns u) s c x y h i j = subst (λ d. Same d x y) (sym h) (i, j)
  same_pure Invalid s c x y h i j = subst (λ d. Same d x y) (sym h) (i, j)

  steady_pure : {A : Type 0} (p : Completion (Unit {0}) A) (t : ThreadState) (c : Completion ThreadState A) → Agrees t p c → Steady (length t.todo) c
  steady_pure (Completes a u) t c h = subst (λ d. Steady (length t.todo) d) (sym h) (itself (length t.todo))
  steady_pure (Recurs vs u) t c h = subst (λ d. Steady (length t.todo) d) (sym h) (itself (length t.todo))
  steady_pure (Faults e u) t c h = subst (λ d. Steady (length t.todo) d) (sym h) tt
  steady_pure (Retries u) t c h = absurd h
  steady_pure (Waits u) t c h = absurd h
  steady_pure (OutOfTurns u) t c h = subst (λ d. Steady (length t.todo) d) (sym h) tt
  steady_pure Invalid t c h = subst (λ d. Steady (length t.todo) d) (sym h) tt

  calm_pure : {A : Type 0} (p : Completion (Unit {0}) A) (F G : ThreadState → Completion ThreadState A) → ((s : ThreadState) → Agrees s p (F s)) → ((s : ThreadState) → Agrees s p (G s)) → Calm F G
  calm_pure p F G h i = (λ s. same_pure p s (F s) (G s) (G (longer s)) (h s) (i s) (i (longer s)), λ t. steady_pure p t (G t) (i t))

  -- the same part by another name
  calm_along : (F G : ThreadState → Completion ThreadState Value) → ((t : ThreadState) → F t ≡ G t) → Calm G G → Calm F F
  calm_along F G is h =
      (λ s. subst₂ (λ p q. Same p p q) (sym (is s)) (sym (is (longer s))) (h.0 s), λ t. subst (λ d. Steady (length t.todo) d) (sym (is t)) (h.1 t))

  calm_wrong : {A : Type 0} → Calm {A = A} (λ t. Invalid) (λ t. Invalid)
  calm_wrong = (λ s. (refl, refl), λ t. tt)

  calm_meant : (b : Bool) (v : Value) → Calm (λ t. meant b v t) (λ t. meant b v t)
  calm_meant true v = (λ s. (refl, refl), λ t. itself (length t.todo))
  calm_meant false v = calm_wrong

  same_faultless : {A : Type 0} (c x y : Completion ThreadState A) (k g : A → ThreadState → Completion ThreadState Value) → Same c x y → ((a : A) (s : ThreadState) → Same (k a s) (g a s) (g a (longer s))) → Same (faultless c k) (faultless x g) (faultless y g)
  same_faultless (Completes a s) x y k g h each = subst₂ (λ p q. Same (k a s) p q) (sym (ap (λ d. faultless d g) h.0)) (sym (ap (λ d. faultless d g) h.1)) (each a s)
  same_faultless (Recurs vs s) x y k g h each = (ap (λ d. faultless d g) h.0, ap (λ d. faultless d g) h.1)
  same_faultless (Faults e s) x y k g h each = (ap (λ d. faultless d g) h.0, ap (λ d. faultless d g) h.1)
  same_faultless (Retries s) x y k g h each = absurd h
  same_faultless (Waits s) x y k g h each = absurd h
  same_faultless (OutOfTurns s) x y k g h each = (ap (λ d. faultless d g) h.0, ap (λ d. faultless d g) h.1)
  same_faultless Invalid x y k g h each = (ap (λ d. faultless d g) h.0, ap (λ d. faultless d g) h.1)

  steady_faultless : {A : Type 0} (n : ℕ) (c : Completion ThreadState A) (g : A → ThreadState → Completion ThreadState Value) → Steady n c → ((a : A) (u : ThreadState) → Steady (length u.todo) (g a u)) → Steady n (faultless c g)
  steady_faultless n (Completes a u) g h each = steady_more (length u.todo) n (g a u) h (each a u)
  steady_faultless n (Recurs vs u) g h each = tt
  steady_faultless n (Faults e u) g h each = tt
  steady_faultless n (Retries u) g h each = tt
  steady_faultless n (Waits u) g h each = h
  steady_faultless n (OutOfTurns u) g h each = tt
  steady_faultless n Invalid g h each = tt

  module _ {A : Type 0} (F G : ThreadState → Completion ThreadState A) (k g : A → ThreadState → Completion ThreadState Value) where
    calm_faultless : Calm F G → ((a : A) → Calm (k a) (g a)) → Calm (λ t. faultless (F t) k) (λ t. faultless (G t) g)
    calm_faultless h each =
        (λ s. same_faultless (F s) (G s) (G (longer s)) k g (h.0 s) (λ a t. (each a).0 t), λ t. steady_faultless (length t.todo) (G t) g (h.1 t) (λ a u. (each a).1 u))

  same_faulted : {A : Type 0} (c x y : Completion ThreadState A) → Same c x y → Same (faulted c (λ e t. Faults e t)) (faulted x (λ e t. Faults e t)) (faulted y (λ e t. Faults e t))
  same_faulted (Completes a s) x y h = (ap (λ d. faulted d (λ e t. Faults e t)) h.0, ap (λ d. faulted d (λ e t. Faults e t)) h.1)
  same_faulted (Recurs vs s) x y h = (ap (λ d. faulted d (λ e t. Faults e t)) h.0, ap (λ d. faulted d (λ e t. Faults e t)) h.1)
  same_faulted (Faults e s) x y h = (ap (λ d. faulted d (λ e t. Faults e t)) h.0, ap (λ d. faulted d (λ e t. Faults e t)) h.1)
  same_faulted (Retries s) x y h = absurd h
  same_faulted (Waits s) x y h = absurd h
  same_faulted (OutOfTurns s) x y h = (ap (λ d. faulted d (λ e t. Faults e t)) h.0, ap (λ d. faulted d (λ e t. Faults e t)) h.1)
  same_faulted Invalid x y h = (ap (λ d. faulted d (λ e t. Faults e t)) h.0, ap (λ d. faulted d (λ e t. Faults e t)) h.1)

  steady_faulted : {A : Type 0} (n : ℕ) (c : Completion ThreadState A) → Steady n c → Steady n (faulted c (λ e t. Faults e t))
  steady_faulted n (Completes a u) h = tt
  steady_faulted n (Recurs vs u) h = tt
  steady_faulted n (Faults e u) h = tt
  steady_faulted n (Retries u) h = tt
  steady_faulted n (Waits u) h = h
  steady_faulted n (OutOfTurns u) h = tt
  steady_faulted n Invalid h = tt

  calm_faulted : {A : Type 0} (F G : ThreadState → Completion ThreadState A) → Calm F G → Calm (λ t. faulted (F t) (λ e u. Faults e u)) (λ t. faulted (G t) (λ e u. Faults e u))
  calm_faulted F G h = (λ s. same_faulted (F s) (G s) (G (longer s)) (h.0 s), λ t. steady_faulted (length t.todo) (G t) (h.1 t))

  -- a transaction's meaning carried over
  calm_over : (c : Completion TxState Value) (k g : Value → TxState → ThreadState → Completion ThreadState Value) (b : Fault → ThreadState → Completion ThreadState Value) → ((v : Value) (z : TxState) → c ≡ Completes v z → Calm (k v z) (g v z)) → ((e : Fault) → Calm (b e) (b e))
      → Calm (λ t. over t c (λ v z. k v z t) (λ e. b e t)) (λ t. over t c (λ v z. g v z t) (λ e. b e t))
  calm_over (Completes v z) k g b each broke = each v z refl
  calm_over (Recurs vs z) k g b each broke = calm_wrong
  calm_over (Faults e z) k g b each broke = broke e
  calm_over (Retries z) k g b each broke = calm_wrong
  calm_over (Waits z) k g b each broke = calm_wrong
  calm_over (OutOfTurns z) k g b each broke = (λ s. (refl, refl), λ t. tt)
  calm_over Invalid k g b each broke = calm_wrong

  -- ---- an event of a thread

  three_event : (s : ThreadState) (e : SeenEvent) (es : List SeenEvent) (c x y : Completion ThreadState Value) → Same c x y
      → Three (uneaten (e ∷ es) c) (up_to (with_todo (e ∷ es) s) (uneaten (e ∷ es) x)) (up_to (longer (with_todo (e ∷ es) s)) (uneaten (e ∷ es ++ f ∷ gs) y))
  three_event s e es (Completes a u) x y h = (ap (λ d. up_to (with_todo (e ∷ es) s) (uneaten (e ∷ es) d)) h.0, ap (λ d. up_to (longer (with_todo (e ∷ es) s)) (uneaten (e ∷ es ++ f ∷ gs) d)) h.1)
  three_event s e es (Recurs vs u) x y h = (ap (λ d. up_to (with_todo (e ∷ es) s) (uneaten (e ∷ es) d)) h.0, ap (λ d. up_to (longer (with_todo (e ∷ es) s)) (uneaten (e ∷ es ++ f ∷ gs) d)) h.1)
  three_event s e es (Faults d u) x y h = (ap (λ c. up_to (with_todo (e ∷ es) s) (uneaten (e ∷ es) c)) h.0, ap (λ c. up_to (longer (with_todo (e ∷ es) s)) (uneaten (e ∷ es ++ f ∷ gs) c)) h.1)
  three_event s e es (Retries u) x y h = absurd h
  three_event s e es (Waits u) x y h = absurd h
  three_event s e es (OutOfTurns u) x y h = (ap (λ d. up_to (with_todo (e ∷ es) s) (uneaten (e ∷ es) d)) h.0, ap (λ d. up_to (longer (with_todo (e ∷ es) s)) (uneaten (e ∷ es ++ f ∷ gs) d)) h.1)
  three_event s e es Invalid x y h =
      inr (
        with_todo (e ∷ es) s,
        e,
        es,
        refl,
        ap (λ d. up_to (with_todo (e ∷ es) s) (uneaten (e ∷ es) d)) h.0,
        ap (λ d. up_to (longer (with_todo (e ∷ es) s)) (uneaten (e ∷ es ++ f ∷ gs) d)) h.1,
      )

  -- the first event behind the beginning, where the thread waits on the beginning
  later_event : (s w : ThreadState) (c : Completion ThreadState Value) → unasked w ≡ unasked (longer s) → Steady (length gs) c → Later s (up_to w (uneaten (f ∷ gs) c))
  later_event s w (Completes a u) as_left h = h
  later_event s w (Recurs vs u) as_left h = h
  later_event s w (Faults e u) as_left h = tt
  later_event s w (Retries u) as_left h = tt
  later_event s w (Waits u) as_left h = inr h
  later_event s w (OutOfTurns u) as_left h = tt
  later_event s w Invalid as_left h = inl as_left

  module _ (book : ℕ) (k g : SeenEvent → ThreadState → Completion ThreadState Value) (each : (e : SeenEvent) → Calm (k e) (g e)) where
    three_eats : (es : List SeenEvent) (s : ThreadState)
        → Three (eats book k es (with_todo es s)) (up_to (with_todo es s) (eats book g es (with_todo es s))) (up_to (longer (with_todo es s)) (eats book g (es ++ f ∷ gs) (longer (with_todo es s))))
    three_eats [] s = (refl, refl, of_book (f.book == book))
      where
        of_book : (own : Bool) → Later (record s { todo = []; asks = Some book }) (up_to (longer (with_todo [] s)) (if own then uneaten (f ∷ gs) (g f (with_todo gs s)) else Invalid))
        of_book true = later_event (record s { todo = []; asks = Some book }) (longer (with_todo [] s)) (g f (with_todo gs s)) refl ((each f).1 (with_todo gs s))
        of_book false = inl refl
    three_eats (e ∷ es) s = of_book (e.book == book)
      where
        of_book : (own : Bool) → Three (if own then uneaten (e ∷ es) (k e (with_todo es s)) else Invalid) (up_to (with_todo (e ∷ es) s) (if own then uneaten (e ∷ es) (g e (with_todo es s)) else Invalid))
            (up_to (longer (with_todo (e ∷ es) s)) (if own then uneaten (e ∷ es ++ f ∷ gs) (g e (longer (with_todo es s))) else Invalid))
        of_book true = three_event s e es (k e (with_todo es s)) (g e (with_todo es s)) (g e (longer (with_todo es s))) ((each e).0 (with_todo es s))
        of_book false = inr (with_todo (e ∷ es) s, e, es, refl, refl, refl)

    steady_eats : (es : List SeenEvent) (t : ThreadState) → Steady (length es) (up_to (with_todo es t) (eats book g es (with_todo es t)))
    steady_eats [] t = itself 0
    steady_eats (e ∷ es) t = of_book (e.book == book)
      where
        of_book : (own : Bool) → Steady (suc (length es)) (up_to (with_todo (e ∷ es) t) (if own then uneaten (e ∷ es) (g e (with_todo es t)) else Invalid))
        of_book true = steady_event t e es (g e (with_todo es t)) ((each e).1 (with_todo es t))
        of_book false = itself (suc (length es))

    goes_eats : Goes (λ t. eats book k t.todo t) (λ t. up_to t (eats book g t.todo t))
    goes_eats = (λ s. three_eats s.todo s, λ t. steady_eats t.todo t)

  -- ---- forms outside transactions

  calm_reads : (c : CellId) (e : EventKind) (C : World) → Calm (λ t. reads c e C t) (λ t. reads c e C t)
  calm_reads c e C = calm_along (λ t. reads c e C t) (λ t. meant (is_read_of c e) (C c.number) t) (λ t. read_as c (is_read_of c e) e C t refl) (calm_meant (is_read_of c e) (C c.number))

  calm_resets : (v : Value) (e : EventKind) → Calm (λ t. resets v e t) (λ t. resets v e t)
  calm_resets v e = calm_along (λ t. resets v e t) (λ t. meant (is_swap_to v e) v t) (λ t. resets_as v e t) (calm_meant (is_swap_to v e) v)

  calm_refused : (b : Bool) (f : Fault) → Calm {A = Value} (λ t. if b then Faults f t else Invalid) (λ t. if b then Faults f t else Invalid)
  calm_refused true f = (λ s. (refl, refl), λ t. tt)
  calm_refused false f = calm_wrong

  calm_sends : (a : Action) (span : Span) (e : EventKind) → Calm (λ t. sends a span e t) (λ t. sends a span e t)
  calm_sends a span (Read d) = calm_wrong
  calm_sends a span (Commit at view writes sent) = calm_wrong
  calm_sends a span (Retry since d b) = calm_wrong
  calm_sends a span (Fail at view) = calm_wrong
  calm_sends a span (Refused at view agent) = calm_wrong
  calm_sends a span (Sent b) = calm_meant (same_action a b) (Cell a.agent)
  calm_sends a span (SendRefused d) = calm_refused (same_cell a.agent d) (fault_at AgentFailed span)
  calm_sends a span (Acted d n v held) = calm_wrong
  calm_sends a span (Swapped v) = calm_wrong
  calm_sends a span (Broke at) = calm_wrong

  module _ (c : CellId) (k g : Value → ThreadState → Completion ThreadState Value) (each : (v : Value) → Calm (k v) (g v)) where
    calm_swaps : (e : EventKind) (R C : World) → Calm (λ t. swaps c k e R C t) (λ t. swaps c g e R C t)
    calm_swaps (Swapped new) R C =
        calm_faultless (k (C c.number)) (g (C c.number)) (λ v t. meant (same_value v new) v t) (λ v t. meant (same_value v new) v t) (each (C c.number)) (λ v. calm_meant (same_value v new) v)
    calm_swaps (Broke at) R C = calm_faulted (k (R c.number)) (g (R c.number)) (each (R c.number))
    calm_swaps (Read d) R C = calm_wrong
    calm_swaps (Commit at view writes sent) R C = calm_wrong
    calm_swaps (Retry since d b) R C = calm_wrong
    calm_swaps (Fail at view) R C = calm_wrong
    calm_swaps (Refused at view d) R C = calm_wrong
    calm_swaps (Sent a) R C = calm_wrong
    calm_swaps (SendRefused d) R C = calm_wrong
    calm_swaps (Acted d n w sends) R C = calm_wrong

  -- a send, made or held
  goes_or_holds : (a : Action) (span : Span) → Goes (λ t. sends_or_holds t.held a span t) (λ t. up_to t (sends_or_holds t.held a span t))
  goes_or_holds a span = (λ s. three s s.held, λ t. steady t t.held)
    where
      made : Goes (λ t. eats 0 (λ e t1. sends a span e.kind t1) t.todo t) (λ t. up_to t (eats 0 (λ e t1. sends a span e.kind t1) t.todo t))
      made = goes_eats 0 (λ e t. sends a span e.kind t) (λ e t. sends a span e.kind t) (λ e. calm_sends a span e.kind)

      three : (s : ThreadState) (o : Option (List Action)) → Three (sends_or_holds o a span s) (up_to s (sends_or_holds o a span s)) (up_to (longer s) (sends_or_holds o a span (longer s)))
      three s None = made.0 s
      three s (Some held) = (refl, refl)

      steady : (t : ThreadState) (o : Option (List Action)) → Steady (length t.todo) (up_to t (sends_or_holds o a span t))
      steady t None = made.1 t
      steady t (Some held) = itself (length t.todo)

  -- on the cell that a form takes
  goes_cell : (r : Result CellId FaultKind) (span : Span) (k g : CellId → ThreadState → Completion ThreadState Value) → ((c : CellId) → Goes (k c) (λ t. up_to t (g c t))) → Goes (λ t. bind (result_of r span t) k) (λ t. up_to t (bind (result_of r span t) g))
  goes_cell (Ok c) span k g each = each c
  goes_cell (Err e) span k g each = (λ s. (refl, refl), λ t. tt)

  -- where an answer is there that comes of no state
  goes_accepted : (p : Completion (Unit {0}) Value) → IsProper p → (F : ThreadState → Completion ThreadState Value) → ((s : ThreadState) → Agrees s p (F s)) → (k : Value → ThreadState → Completion ThreadState Value) → ((a : Value) → Goes (k a) (λ t. up_to t (k a t)))
      → Goes (λ t. bind (F t) k) (λ t. up_to t (bind (F t) k))
  goes_accepted (Completes a u) proper F is k each =
      (λ s. subst₂ (λ p q. Three (bind p k) (up_to s (bind p k)) (up_to (longer s) (bind q k))) (sym (is s)) (sym (is (longer s))) ((each a).0 s), λ t. subst (λ p. Steady (length t.todo) (up_to t (bind p k))) (sym (is t)) ((each a).1 t))
  goes_accepted (Recurs vs u) proper F is k each = absurd proper
  goes_accepted (Faults e u) proper F is k each =
      (λ s. subst₂ (λ p q. Three (bind p k) (up_to s (bind p k)) (up_to (longer s) (bind q k))) (sym (is s)) (sym (is (longer s))) (refl, refl), λ t. subst (λ p. Steady (length t.todo) (up_to t (bind p k))) (sym (is t)) tt)
  goes_accepted (Retries u) proper F is k each = absurd proper
  goes_accepted (Waits u) proper F is k each = absurd proper
  goes_accepted (OutOfTurns u) proper F is k each =
      (λ s. subst₂ (λ p q. Three (bind p k) (up_to s (bind p k)) (up_to (longer s) (bind q k))) (sym (is s)) (sym (is (longer s))) (refl, refl), λ t. subst (λ p. Steady (length t.todo) (up_to t (bind p k))) (sym (is t)) tt)
  goes_accepted Invalid proper F is k each = absurd proper

  -- a form that may stand there
  goes_allowed : (st : Standing) (F G : ThreadState → Completion ThreadState Value) → MayStand in_thread st → Goes F (λ t. up_to t (G t)) → Goes (λ t. allowed (may_stand st false) (F t)) (λ t. up_to t (allowed (may_stand st false) (G t)))
  goes_allowed Anywhere F G may h = h
  goes_allowed Inside F G may h = absurd may
  goes_allowed Outside F G may h = h

  module _ (x : Surroundings) (d : ℕ) (m : Mark) (v : Value) where
    goes_look : (form : LookForm) → MayStand in_thread (rule (form_of.Look form)).stands → Goes (λ t. (on_events x d).look form false m v t) (λ t. (on_right x d).look form false m v t)
    goes_look Deref may =
        let go : CellId → ThreadState → Completion ThreadState Value = λ c t. thread_look x Deref c t in
        let r = cell_of (rule (form_of.Look Deref)) false v in
        goes_allowed (rule (form_of.Look Deref)).stands (λ t. bind (result_of r m.span t) go) (λ t. bind (result_of r m.span t) go) may
        (goes_cell r m.span go go (λ c. goes_eats (home x.cells c) (λ e t. reads c e.kind e.C t) (λ e t. reads c e.kind e.C t) (λ e. calm_reads c e.kind e.C)))
    goes_look Ensure may = absurd may

    -- the validator of a cell has this answer
    goes_put : (form : PutForm) (w : Value) (k : Applies ThreadState) (answer : CellId → Completion (Unit {0}) Value) → ((c : CellId) → IsProper (answer c)) → ((c : CellId) (t : ThreadState) → Agrees t (answer c) (accepts x k c m.span w t))
        → MayStand in_thread (rule (form_of.Put form)).stands → Goes (λ t. (on_events x d).put form false m v w k t) (λ t. (on_right x d).put form false m v w k t)
    goes_put Reset w k answer proper agrees may =
        let go : CellId → ThreadState → Completion ThreadState Value = λ c t. thread_put x Reset m.span c w k t in
        let eaten : CellId → Value → ThreadState → Completion ThreadState Value = λ c a t. eats (home x.cells c) (λ e t1. resets a e.kind t1) t.todo t in
        let r = cell_of (rule (form_of.Put Reset)) false v in
        goes_allowed (rule (form_of.Put Reset)).stands (λ t. bind (result_of r m.span t) go) (λ t. bind (result_of r m.span t) go) may
        (goes_cell r m.span go go
        (λ c. goes_accepted (answer c) (proper c) (λ t. accepts x k c m.span w t) (agrees c) (eaten c) (λ a. goes_eats (home x.cells c) (λ e t. resets a e.kind t) (λ e t. resets a e.kind t) (λ e. calm_resets a e.kind))))
    goes_put RefSet w k answer proper agrees may = absurd may

    -- what the callee makes of a cell's value, where the validator accepts it, leaves the state as it was
    goes_update : (form : UpdateForm) (callee : Callee) (vs : List Value) (k : Applies ThreadState) → MayStand in_thread (rule (form_of.Update form)).stands → ((c : CellId) (w : Value) → Calm (λ t. bind (k callee (w ∷ vs) t) (accepts x k c m.span)) (λ t. bind (k callee (w ∷ vs) t) (accepts x k c m.span)))
        → Goes (λ t. (on_events x d).update form false m v callee vs k t) (λ t. (on_right x d).update form false m v callee vs k t)
    goes_update Swap callee vs k may each =
        let go : CellId → ThreadState → Completion ThreadState Value = λ c t. thread_update x Swap m.span c callee vs k t in
        let makes : CellId → Value → ThreadState → Completion ThreadState Value = λ c w t. bind (k callee (w ∷ vs) t) (accepts x k c m.span) in
        let r = cell_of (rule (form_of.Update Swap)) false v in
        goes_allowed (rule (form_of.Update Swap)).stands (λ t. bind (result_of r m.span t) go) (λ t. bind (result_of r m.span t) go) may
        (goes_cell r m.span go go
        (λ c. goes_eats (home x.cells c) (λ e t. swaps c (makes c) e.kind e.R e.C t) (λ e t. swaps c (makes c) e.kind e.R e.C t) (λ e. calm_swaps c (makes c) (makes c) (λ w. each c w) e.kind e.R e.C)))
    goes_update Alter callee vs k may each = absurd may
    goes_update Commute callee vs k may each = absurd may

    goes_send : (callee : Callee) (vs : List Value) → Goes (λ t. (on_events x d).send false m v callee vs t) (λ t. (on_right x d).send false m v callee vs t)
    goes_send callee vs =
        let action : CellId → Action = λ c. record { agent = c; callee = callee; args = vs; span = m.span } in
        let go : CellId → ThreadState → Completion ThreadState Value = λ c t. sends_or_holds t.held (action c) m.span t in
        goes_cell (cell_of (rule form_of.Send) false v) m.span go go (λ c. goes_or_holds (action c) m.span)

  goes_print : (x : Surroundings) (d : ℕ) (vs : List Value) → Goes (λ t. (on_events x d).print false vs t) (λ t. (on_right x d).print false vs t)
  goes_print x d vs = (λ s. (refl, refl), λ t. itself (length t.todo))

  -- ---- transactions

  -- a run that is noted where its writes are such, and its sends are those that a commit makes
  calm_committed : (w : Bool) (made sent : List Action) (v : Value) (x : ThreadState → ThreadState) → ((s : ThreadState) → x (longer s) ≡ longer (x s)) → ((t : ThreadState) → (x t).todo ≡ t.todo)
      → Calm (λ t. meant (w && same_actions (sends_of_commit t.held made) sent) v (x t)) (λ t. meant (w && same_actions (sends_of_commit t.held made) sent) v (x t))
  calm_committed w made sent v x same left = (λ s. alike (w && same_actions (sends_of_commit s.held made) sent) s, λ t. steady (w && same_actions (sends_of_commit t.held made) sent) t)
    where
      alike : (b : Bool) (s : ThreadState) → Same (meant b v (x s)) (meant b v (x s)) (meant b v (x (longer s)))
      alike true s = (refl, ap (λ u. Completes v u) (same s))
      alike false s = (refl, refl)

      steady : (b : Bool) (t : ThreadState) → Steady (length t.todo) (meant b v (x t))
      steady true t = omega (arith, ap length (left t))
      steady false t = tt

  module _ (d : Transacting) (k g : Applies ThreadState) (pure : (R : World) (v : Value) (z : TxState) → d.on R ≡ Completes v z → (C : World) → Calm (λ t. final_writes k d.validators d.mark.span z.done C t) (λ t. final_writes g d.validators d.mark.span z.done C t)) where
    calm_ends : (e : EventKind) (R Q C : World) → Calm (λ t. ends_tx d k e R Q C t) (λ t. ends_tx d g e R Q C t)
    calm_ends (Commit at view writes sent) R Q C =
        let noted : Value → TxState → ThreadState → ThreadState = λ v z t. holding z.done.sends (with_tx (run_of d v z) t) in
        let meets : Value → TxState → Writes → ThreadState → Completion ThreadState Value = λ v z ws t. meant (same_writes ws writes && same_actions (sends_of_commit t.held z.done.sends) sent) v (noted v z t) in
        calm_over (d.on R) (λ v z t. faultless (final_writes k d.validators d.mark.span z.done C t) (meets v z)) (λ v z t. faultless (final_writes g d.validators d.mark.span z.done C t) (meets v z)) (λ e t. Invalid)
        (λ v z is. calm_faultless (λ t. final_writes k d.validators d.mark.span z.done C t) (λ t. final_writes g d.validators d.mark.span z.done C t) (meets v z) (meets v z) (pure R v z is C)
        (λ ws. calm_committed (same_writes ws writes) z.done.sends sent v (noted v z) (λ s. refl) (λ t. refl)))
        (λ e. calm_wrong)
    calm_ends (Fail at view) R Q C =
        calm_over (d.on R) (λ v z t. faulted (final_writes k d.validators d.mark.span z.done Q t) (λ e u. Faults e u)) (λ v z t. faulted (final_writes g d.validators d.mark.span z.done Q t) (λ e u. Faults e u)) (λ e t. Faults e t)
        (λ v z is. calm_faulted (λ t. final_writes k d.validators d.mark.span z.done Q t) (λ t. final_writes g d.validators d.mark.span z.done Q t) (pure R v z is Q)) (λ e. (λ s. (refl, refl), λ t. tt))
    calm_ends (Refused at view agent) R Q C =
        let meets : Value → TxState → Writes → ThreadState → Completion ThreadState Value = λ v z ws t. Faults (fault_at AgentFailed d.mark.span) (with_tx (run_of d v z) t) in
        calm_over (d.on R) (λ v z t. faultless (final_writes k d.validators d.mark.span z.done Q t) (meets v z)) (λ v z t. faultless (final_writes g d.validators d.mark.span z.done Q t) (meets v z)) (λ e t. Invalid)
        (λ v z is. calm_faultless (λ t. final_writes k d.validators d.mark.span z.done Q t) (λ t. final_writes g d.validators d.mark.span z.done Q t) (meets v z) (meets v z) (pure R v z is Q) (λ ws. (λ s. (refl, refl), λ t. tt))) (λ e. calm_wrong)
    calm_ends (Read c) R Q C = calm_wrong
    calm_ends (Retry since c b) R Q C = calm_wrong
    calm_ends (Sent a) R Q C = calm_wrong
    calm_ends (SendRefused a) R Q C = calm_wrong
    calm_ends (Acted a n w sends) R Q C = calm_wrong
    calm_ends (Swapped w) R Q C = calm_wrong
    calm_ends (Broke at) R Q C = calm_wrong

    -- its end
    abbrev ending : Applies ThreadState → SeenEvent → ThreadState → Completion ThreadState Value
    ending h e t = ends_tx d h e.kind e.R e.Q e.C t

    -- A retry, where a try ran again: the transaction goes on, or turns don't suffice for the body, or it had no such cause.
    module _ (P : Bool → Completion ThreadState Value → Type 0) (kind : EventKind) (R : World) (u : ThreadState) (next : Completion ThreadState Value) where
      on_cause : Causes d kind R → P true next → P false (OutOfTurns u) → P false Invalid → P (passes d kind R) (tried_again d kind R u next)
      on_cause (inl h) goes stops wrong = subst₂ P (sym h.0) (sym (h.1 u next)) goes
      on_cause (inr (inl h)) goes stops wrong = subst₂ P (sym h.0) (sym (h.1 u next)) stops
      on_cause (inr (inr h)) goes stops wrong = subst₂ P (sym h.0) (sym (h.1 u next)) wrong

    -- the same of three such retries, of one cause
    module _ (P : Bool → Completion ThreadState Value → Completion ThreadState Value → Completion ThreadState Value → Type 0) (kind : EventKind) (R : World) (u v w : ThreadState) (a b c : Completion ThreadState Value) where
      on_causes : Causes d kind R → P true a b c → P false (OutOfTurns u) (OutOfTurns v) (OutOfTurns w) → P false Invalid Invalid Invalid
          → P (passes d kind R) (tried_again d kind R u a) (tried_again d kind R v b) (tried_again d kind R w c)
      on_causes (inl h) goes stops wrong = subst (λ (p : Bool). P p (tried_again d kind R u a) (tried_again d kind R v b) (tried_again d kind R w c)) (sym h.0)
          (subst (λ x. P true x (tried_again d kind R v b) (tried_again d kind R w c)) (sym (h.1 u a)) (subst₂ (λ x y. P true a x y) (sym (h.1 v b)) (sym (h.1 w c)) goes))
      on_causes (inr (inl h)) goes stops wrong = subst (λ (p : Bool). P p (tried_again d kind R u a) (tried_again d kind R v b) (tried_again d kind R w c)) (sym h.0)
          (subst (λ x. P false x (tried_again d kind R v b) (tried_again d kind R w c)) (sym (h.1 u a)) (subst₂ (λ x y. P false (OutOfTurns u) x y) (sym (h.1 v b)) (sym (h.1 w c)) stops))
      on_causes (inr (inr h)) goes stops wrong = subst (λ (p : Bool). P p (tried_again d kind R u a) (tried_again d kind R v b) (tried_again d kind R w c)) (sym h.0)
          (subst (λ x. P false x (tried_again d kind R v b) (tried_again d kind R w c)) (sym (h.1 u a)) (subst₂ (λ x y. P false Invalid x y) (sym (h.1 v b)) (sym (h.1 w c)) wrong))

    -- what comes at this event
    steady_own : (n : ℕ) (e : SeenEvent) (es : List SeenEvent) (t : ThreadState) → Steady (length es) (up_to (with_todo (behind_retries n d es) t) (eats_tx n d g es t)) → (own retry : Bool)
        → Steady (suc (length es)) (up_to (with_todo (if own then (if retry then (if passes d e.kind e.R then behind_retries n d es else e ∷ es) else e ∷ es) else e ∷ es) t)
        (if own then (if retry then tried_again d e.kind e.R (with_todo (e ∷ es) t) (eats_tx n d g es t) else uneaten (e ∷ es) (ending g e (with_todo es t))) else Invalid))
    steady_own n e es t rest true true =
        on_cause (λ (p : Bool) c. Steady (suc (length es)) (up_to (with_todo (if p then behind_retries n d es else e ∷ es) t) c)) e.kind e.R (with_todo (e ∷ es) t) (eats_tx n d g es t) (causes d e.kind e.R)
        (steady_more (length es) (suc (length es)) (up_to (with_todo (behind_retries n d es) t) (eats_tx n d g es t)) (omega arith) rest) tt (itself (suc (length es)))
    steady_own n e es t rest true false = steady_event t e es (ending g e (with_todo es t)) ((calm_ends e.kind e.R e.Q e.C).1 (with_todo es t))
    steady_own n e es t rest false retry = itself (suc (length es))

    steady_tx : (n : ℕ) (es : List SeenEvent) (t : ThreadState) → Steady (length es) (up_to (with_todo (behind_retries n d es) t) (eats_tx n d g es t))
    steady_tx zero es t = tt
    steady_tx (suc n) [] t = itself 0
    steady_tx (suc n) (e ∷ es) t = steady_own n e es t (steady_tx n es t) (e.book == 0) (is_retry e.kind)

    -- where it waits for its transaction's next event
    abbrev waiting : ThreadState → ThreadState
    waiting s = record s { todo = []; asks = Some 0 }

    later_own : (n : ℕ) (s : ThreadState) → (own retry : Bool)
        → Later (waiting s) (up_to (with_todo (if own then (if retry then (if passes d f.kind f.R then behind_retries n d gs else f ∷ gs) else f ∷ gs) else f ∷ gs) s)
        (if own then (if retry then tried_again d f.kind f.R (with_todo (f ∷ gs) s) (eats_tx n d g gs (longer s)) else uneaten (f ∷ gs) (ending g f (with_todo gs s))) else Invalid))
    later_own n s true true =
        on_cause (λ (p : Bool) c. Later (waiting s) (up_to (with_todo (if p then behind_retries n d gs else f ∷ gs) s) c)) f.kind f.R (with_todo (f ∷ gs) s) (eats_tx n d g gs (longer s)) (causes d f.kind f.R)
        (less_later (waiting s) (up_to (with_todo (behind_retries n d gs) s) (eats_tx n d g gs (longer s))) (steady_tx n gs (longer s))) tt (inl refl)
    later_own n s true false = later_event (waiting s) (longer (with_todo [] s)) (ending g f (with_todo gs s)) refl ((calm_ends f.kind f.R f.Q f.C).1 (with_todo gs s))
    later_own n s false retry = inl refl

    three_own : (n : ℕ) (e : SeenEvent) (es : List SeenEvent) (s : ThreadState)
        → Three (eats_tx n d k es s) (up_to (with_todo (behind_retries n d es) s) (eats_tx n d g es s)) (up_to (with_todo (behind_retries n d (es ++ f ∷ gs)) s) (eats_tx n d g (es ++ f ∷ gs) (longer s))) → (own retry : Bool)
        → Three (if own then (if retry then tried_again d e.kind e.R (with_todo (e ∷ es) s) (eats_tx n d k es s) else uneaten (e ∷ es) (ending k e (with_todo es s))) else Invalid)
        (up_to (with_todo (if own then (if retry then (if passes d e.kind e.R then behind_retries n d es else e ∷ es) else e ∷ es) else e ∷ es) s)
        (if own then (if retry then tried_again d e.kind e.R (with_todo (e ∷ es) s) (eats_tx n d g es s) else uneaten (e ∷ es) (ending g e (with_todo es s))) else Invalid))
        (up_to (with_todo (if own then (if retry then (if passes d e.kind e.R then behind_retries n d (es ++ f ∷ gs) else e ∷ es ++ f ∷ gs) else e ∷ es ++ f ∷ gs) else e ∷ es ++ f ∷ gs) s)
        (if own then (if retry then tried_again d e.kind e.R (with_todo (e ∷ es ++ f ∷ gs) s) (eats_tx n d g (es ++ f ∷ gs) (longer s)) else uneaten (e ∷ es ++ f ∷ gs) (ending g e (longer (with_todo es s)))) else Invalid))
    three_own n e es s rest true true =
        on_causes
        (λ (p : Bool) x y z. Three x (up_to (with_todo (if p then behind_retries n d es else e ∷ es) s) y) (up_to (with_todo (if p then behind_retries n d (es ++ f ∷ gs) else e ∷ es ++ f ∷ gs) s) z))
        e.kind e.R (with_todo (e ∷ es) s) (with_todo (e ∷ es) s) (with_todo (e ∷ es ++ f ∷ gs) s) (eats_tx n d k es s) (eats_tx n d g es s) (eats_tx n d g (es ++ f ∷ gs) (longer s)) (causes d e.kind e.R)
        rest (refl, refl) (inr (with_todo (e ∷ es) s, e, es, refl, refl, refl))
    three_own n e es s rest true false = three_event s e es (ending k e (with_todo es s)) (ending g e (with_todo es s)) (ending g e (longer (with_todo es s))) ((calm_ends e.kind e.R e.Q e.C).0 (with_todo es s))
    three_own n e es s rest false retry = inr (with_todo (e ∷ es) s, e, es, refl, refl, refl)

    three_tx : (n : ℕ) (es : List SeenEvent) (s : ThreadState)
        → Three (eats_tx n d k es s) (up_to (with_todo (behind_retries n d es) s) (eats_tx n d g es s)) (up_to (with_todo (behind_retries n d (es ++ f ∷ gs)) s) (eats_tx n d g (es ++ f ∷ gs) (longer s)))
    three_tx zero es s = (refl, refl)
    three_tx (suc n) [] s = (refl, refl, later_own n s (f.book == 0) (is_retry f.kind))
    three_tx (suc n) (e ∷ es) s = three_own n e es s (three_tx n es s) (e.book == 0) (is_retry e.kind)

    goes_tx : (n : ℕ) → Goes (λ t. eats_tx n d k t.todo t) (λ t. up_to (with_todo (behind_retries n d t.todo) t) (eats_tx n d g t.todo t))
    goes_tx n = (λ s. three_tx n s.todo s, λ t. steady_tx n t.todo t)

  -- ---- trees

  abbrev IsSome : Completion TxState Value → Type 0
  IsSome Invalid = ⊥
  IsSome _ = Unit {0}

  -- a body that gave a value gave it in no recur
  opened : (c : Completion TxState Value) (v : Value) (z : TxState) → closed c ≡ Completes v z → c ≡ Completes v z
  opened (Completes w y) v z h = h
  opened (Recurs vs y) v z h = absurd (subst IsSome (sym h) tt)
  opened (Faults e y) v z h = h
  opened (Retries y) v z h = h
  opened (Waits y) v z h = h
  opened (OutOfTurns y) v z h = h
  opened Invalid v z h = h

  module _ (cells : List CellDefinition) (functions : List function.Function) (n : ℕ) (sound : SoundFunctions [] (functions_of functions)) (known_cells : SoundCells (known (functions_of functions)) cells) where
    abbrev pub at : ℕ → Setting
    at b = record { cells = cells; functions = functions; depth = b; turns = n; world = None }

    abbrev pub around : Surroundings
    around = around_it (at 0)

    -- the forms on events, and those of a thread that waits before an event that it doesn't allow
    abbrev pub plain_forms : ℕ → Effects ThreadState
    plain_forms b = deeply around (on_events around b)

    abbrev pub right_forms : ℕ → Effects ThreadState
    right_forms b = deeply around (on_right around b)

    abbrev pub plain_calls : ℕ → Bool → ℕ → List Value → ThreadState → Completion ThreadState Value
    plain_calls b = call_at plain_forms n (functions_of functions) b

    abbrev pub right_calls : ℕ → Bool → ℕ → List Value → ThreadState → Completion ThreadState Value
    right_calls b = call_at right_forms n (functions_of functions) b

    -- where calls may go as deep as there are functions
    abbrev most : List Known
    most = callable (deepest (at 0))

    deep_cells : SoundCells most cells
    deep_cells = cells_deepest (at 0) cells known_cells

    abbrev still : Span → Applies (Unit {0})
    still span = quiet (deepest (at 0)) span

    -- a validator's answer
    abbrev answer : Span → Value → CellId → Completion (Unit {0}) Value
    answer span w c = validated (still span) (validator_at (validators_of cells) c.number) span w tt

    answer_agrees : (span : Span) (w : Value) (c : CellId) (t : ThreadState) → Agrees t (answer span w c) (accepts around (wholly around span) c span w t)
    answer_agrees span w c t =
        validated_agrees most (still span) (wholly around span) (λ f k vs s h. whole_agrees (at 0) sound span f k vs s h) (validator_at (validators_of cells) c.number) (validator_sound most cells c.number deep_cells) span w t

    judged_proper : (a : Value) (span : Span) (v : Value) → IsProper (judged a span v tt)
    judged_proper Nil span v = tt
    judged_proper (Truth true) span v = tt
    judged_proper (Truth false) span v = tt
    judged_proper (Int z) span v = tt
    judged_proper (Key bs) span v = tt
    judged_proper (Text bs) span v = tt
    judged_proper (Vector vs) span v = tt
    judged_proper (Cell c) span v = tt

    then_judged : (p : Completion (Unit {0}) Value) (span : Span) (v : Value) → IsProper p → IsProper (bind p (λ a u. judged a span v u))
    then_judged (Completes a u) span v h = judged_proper a span v
    then_judged (Recurs vs u) span v h = h
    then_judged (Faults e u) span v h = tt
    then_judged (Retries u) span v h = h
    then_judged (Waits u) span v h = h
    then_judged (OutOfTurns u) span v h = tt
    then_judged Invalid span v h = h

    validated_proper : (o : Option Callee) → SoundValidator (known (functions_of functions)) o → (span : Span) (w : Value) → IsProper (validated (still span) o span w tt)
    validated_proper None h span w = tt
    validated_proper (Some f) h span w = then_judged (still span f (w ∷ []) tt) span w (callee_proper (functions_of functions) sound n span f (w ∷ []) h)

    answer_proper : (span : Span) (w : Value) (c : CellId) → IsProper (answer span w c)
    answer_proper span w c = validated_proper (validator_at (validators_of cells) c.number) (validator_sound (known (functions_of functions)) cells c.number known_cells) span w

    -- what a swap makes of a value
    makes_calm : (b : ℕ) (span : Span) (callee : Callee) (j : ℕ) (vs : List Value) → SoundCallee (callable (at b)) callee j → (c : CellId) (w : Value)
        → Calm (λ t. bind (wholly around span callee (w ∷ vs) t) (accepts around (wholly around span) c span)) (λ t. bind (wholly around span callee (w ∷ vs) t) (accepts around (wholly around span) c span))
    makes_calm b span callee j vs h c w =
        let made : ThreadState → Completion ThreadState Value = λ t. bind (wholly around span callee (w ∷ vs) t) (accepts around (wholly around span) c span) in
        let agrees : (t : ThreadState) → Agrees t (made_means (deepest (at 0)) callee c (w ∷ vs) span) (made t) = λ t.
        made_agrees most (still span) (wholly around span) (λ f k us s g. whole_agrees (at 0) sound span f k us s g) cells deep_cells callee j c.number (w ∷ vs) span t (callee_deepest (at b) callee j h) in
        calm_pure (made_means (deepest (at 0)) callee c (w ∷ vs) span) made made agrees agrees

    goes_dosync : (b : ℕ) (m : Mark) (body : Tree) (env : List Value) (l : ℕ) (run : ThreadState → Completion ThreadState Value) (other : ThreadState → Completion ThreadState Value) → SoundTree (callable (at b)) in_dosync l None body
        → Goes (λ t. (on_events around b).dosync false m body env run (wholly around m.span) t) (λ t. (on_right around b).dosync false m body env other (wholly around m.span) t)
    goes_dosync b m body env l run other h =
        let d : Transacting = record { mark = m; body = body; locals = env; on = tx_meaning n (functions_of functions) b body env; lacking = λ j. tx_meaning_lacking n (functions_of functions) b body env (Some j); validators = validators_of cells } in
        let k : Applies ThreadState = wholly around m.span in
        let pure : (R : World) (v : Value) (z : TxState) → d.on R ≡ Completes v z → (C : World) → Calm (λ t. final_writes k d.validators d.mark.span z.done C t) (λ t. final_writes k d.validators d.mark.span z.done C t) = λ R v z is C.
        let first = eval (in_transaction R) (call_at (λ e. in_transaction R) n (functions_of functions) b) n true body env tx_start in
        let kept = commutes_deepest (at b) z.done.commutes (keeps_sound_on (at b) R sound body l env tx_start z v h tt (opened first v z is)) in
        let agrees : (t : ThreadState) → Agrees t (final_writes (still m.span) d.validators m.span z.done C tt) (final_writes k d.validators m.span z.done C t) = λ t. finals_agree_on t (at 0) sound deep_cells m.span z.done C kept in
        calm_pure (final_writes (still m.span) d.validators m.span z.done C tt) (λ t. final_writes k d.validators d.mark.span z.done C t) (λ t. final_writes k d.validators d.mark.span z.done C t) agrees agrees in
        goes_tx d k k pure (suc reruns)

    module _ (b : ℕ) (calls : (i k : ℕ) → SoundCall (callable (at b)) in_thread i k → (vs : List Value) → Goes (plain_calls b false i vs) (right_calls b false i vs)) where
      abbrev plain : Tree → List Value → ThreadState → Completion ThreadState Value
      plain e env s = eval (plain_forms b) (plain_calls b) n false e env s

      abbrev right : Tree → List Value → ThreadState → Completion ThreadState Value
      right e env s = eval (right_forms b) (right_calls b) n false e env s

      abbrev plain_all : Trees → List Value → ThreadState → Completion ThreadState (List Value)
      plain_all es env s = eval_all (plain_forms b) (plain_calls b) n false es env s

      abbrev right_all : Trees → List Value → ThreadState → Completion ThreadState (List Value)
      right_all es env s = eval_all (right_forms b) (right_calls b) n false es env s

      abbrev plain_let : Trees → List Value → ThreadState → Completion ThreadState (List Value)
      plain_let es env s = eval_let (plain_forms b) (plain_calls b) n false es env s

      abbrev right_let : Trees → List Value → ThreadState → Completion ThreadState (List Value)
      right_let es env s = eval_let (right_forms b) (right_calls b) n false es env s

      abbrev plain_do : Trees → List Value → ThreadState → Completion ThreadState Value
      plain_do es env s = eval_do (plain_forms b) (plain_calls b) n false es env s

      abbrev right_do : Trees → List Value → ThreadState → Completion ThreadState Value
      right_do es env s = eval_do (right_forms b) (right_calls b) n false es env s

      mutual
        tree_goes : (e : Tree) (l : ℕ) (tail : Option ℕ) (env : List Value) → SoundTree (callable (at b)) in_thread l tail e → Goes (plain e env) (right e env)
        tree_goes (Const v m) l tail env h = goes_value v
        tree_goes (Local i m) l tail env h = goes_give (nth env i)
        tree_goes (If c a e m) l tail env h =
            goes_bind (plain c env) (right c env) (λ v s. choose v (plain a env s) (plain e env s)) (λ v s. choose v (right a env s) (right e env s)) (tree_goes c l None env h.0)
            (λ v. goes_choose v (plain a env) (right a env) (plain e env) (right e env) (tree_goes a l tail env h.1) (tree_goes e l tail env h.2))
        tree_goes (Do items m) l tail env h = do_goes items l tail env h
        tree_goes (Let values body m) l tail env h =
            goes_bind (plain_let values env) (right_let values env) (λ vs s. plain body (env ++ vs) s) (λ vs s. right body (env ++ vs) s) (let_goes values l env h.0) (λ vs. tree_goes body (l + count values) tail (env ++ vs) h.1)
        tree_goes (Loop values body m) l tail env h =
            goes_bind (plain_let values env) (right_let values env) (λ vs s. turns n (count values) (λ ws t. plain body (env ++ ws) t) vs s) (λ vs s. turns n (count values) (λ ws t. right body (env ++ ws) t) vs s) (let_goes values l env h.0)
            (λ vs. goes_turns n (count values) (λ ws t. plain body (env ++ ws) t) (λ ws t. right body (env ++ ws) t) (λ ws. tree_goes body (l + count values) (Some (count values)) (env ++ ws) h.1) vs)
        tree_goes (Recur values m) l tail env h = goes_bind (plain_all values env) (right_all values env) (λ vs s. Recurs vs s) (λ vs s. Recurs vs s) (row_goes values l env h.1) (λ vs. goes_recurs vs)
        tree_goes (Core op args m) l tail env h =
            goes_bind (plain_all args env) (right_all args env) (λ vs s. result_of (core op vs) m.span s) (λ vs s. result_of (core op vs) m.span s) (row_goes args l env h.1) (λ vs. goes_result (core op vs) m.span)
        tree_goes (Call i args m) l tail env h =
            goes_bind (plain_all args env) (right_all args env) (λ vs s. plain_calls b false i vs s) (λ vs s. right_calls b false i vs s) (row_goes args l env h.1) (λ vs. calls i (count args) h.0 vs)
        tree_goes (VectorOf items m) l tail env h =
            goes_bind (plain_all items env) (right_all items env) (λ vs s. result_of (vector_of vs) m.span s) (λ vs s. result_of (vector_of vs) m.span s) (row_goes items l env h.1) (λ vs. goes_result (vector_of vs) m.span)
        tree_goes (Println args m) l tail env h =
            goes_bind (plain_all args env) (right_all args env) (λ vs s. (on_events around b).print false vs s) (λ vs s. (on_right around b).print false vs s) (row_goes args l env h.2) (λ vs. goes_print around b vs)
        tree_goes (Dosync body m) l tail env h =
            goes_dosync b m body env l (λ s. closed (eval (plain_forms b) (plain_calls b) n true body env s)) (λ s. closed (eval (right_forms b) (right_calls b) n true body env s)) h
        tree_goes (Look form cell m) l tail env h =
            goes_bind (plain cell env) (right cell env) (λ v s. (on_events around b).look form false m v s) (λ v s. (on_right around b).look form false m v s) (tree_goes cell l None env h.1) (λ v. goes_look around b m v form h.0)
        tree_goes (Put form cell value m) l tail env h =
            let k : Applies ThreadState = wholly around m.span in
            goes_bind (plain cell env) (right cell env) (λ v s. bind (plain value env s) (λ w t. (on_events around b).put form false m v w k t)) (λ v s. bind (right value env s) (λ w t. (on_right around b).put form false m v w k t)) (tree_goes cell l None env h.1)
            (λ v. goes_bind (plain value env) (right value env) (λ w t. (on_events around b).put form false m v w k t) (λ w t. (on_right around b).put form false m v w k t) (tree_goes value l None env h.2)
            (λ w. goes_put around b m v form w k (answer m.span w) (answer_proper m.span w) (answer_agrees m.span w) h.0))
        tree_goes (Update form cell callee args m) l tail env h =
            let k : Applies ThreadState = wholly around m.span in
            goes_bind (plain cell env) (right cell env) (λ v s. bind (plain_all args env s) (λ vs t. (on_events around b).update form false m v callee vs k t)) (λ v s. bind (right_all args env s) (λ vs t. (on_right around b).update form false m v callee vs k t))
            (tree_goes cell l None env h.1)
            (λ v. goes_bind (plain_all args env) (right_all args env) (λ vs t. (on_events around b).update form false m v callee vs k t) (λ vs t. (on_right around b).update form false m v callee vs k t) (row_goes args l env h.3)
            (λ vs. goes_update around b m v form callee vs k h.0 (makes_calm b m.span callee (suc (count args)) vs h.2)))
        tree_goes (Send cell callee args m) l tail env h =
            goes_bind (plain cell env) (right cell env) (λ v s. bind (plain_all args env s) (λ vs t. (on_events around b).send false m v callee vs t)) (λ v s. bind (right_all args env s) (λ vs t. (on_right around b).send false m v callee vs t))
            (tree_goes cell l None env h.0)
            (λ v. goes_bind (plain_all args env) (right_all args env) (λ vs t. (on_events around b).send false m v callee vs t) (λ vs t. (on_right around b).send false m v callee vs t) (row_goes args l env h.2) (λ vs. goes_send around b m v callee vs))

        row_goes : (es : Trees) (l : ℕ) (env : List Value) → SoundAll (callable (at b)) in_thread l es → Goes (plain_all es env) (right_all es env)
        row_goes none l env h = goes_value []
        row_goes (more e rest) l env h =
            goes_bind (plain e env) (right e env) (λ v s. bind (plain_all rest env s) (λ vs t. Completes (v ∷ vs) t)) (λ v s. bind (right_all rest env s) (λ vs t. Completes (v ∷ vs) t)) (tree_goes e l None env h.0)
            (λ v. goes_bind (plain_all rest env) (right_all rest env) (λ vs t. Completes (v ∷ vs) t) (λ vs t. Completes (v ∷ vs) t) (row_goes rest l env h.1) (λ vs. goes_value (v ∷ vs)))

        let_goes : (es : Trees) (l : ℕ) (env : List Value) → SoundLet (callable (at b)) in_thread l es → Goes (plain_let es env) (right_let es env)
        let_goes none l env h = goes_value []
        let_goes (more e rest) l env h =
            goes_bind (plain e env) (right e env) (λ v s. bind (plain_let rest (env ++ v ∷ []) s) (λ vs t. Completes (v ∷ vs) t)) (λ v s. bind (right_let rest (env ++ v ∷ []) s) (λ vs t. Completes (v ∷ vs) t)) (tree_goes e l None env h.0)
            (λ v. goes_bind (plain_let rest (env ++ v ∷ [])) (right_let rest (env ++ v ∷ [])) (λ vs t. Completes (v ∷ vs) t) (λ vs t. Completes (v ∷ vs) t) (let_goes rest (l + 1) (env ++ v ∷ []) h.1) (λ vs. goes_value (v ∷ vs)))

        do_goes : (es : Trees) (l : ℕ) (tail : Option ℕ) (env : List Value) → SoundDo (callable (at b)) in_thread l tail es → Goes (plain_do es env) (right_do es env)
        do_goes none l tail env h = absurd h
        do_goes (more e none) l tail env h = tree_goes e l tail env h
        do_goes (more e (more a rest)) l tail env h =
            goes_bind (plain e env) (right e env) (λ v s. plain_do (more a rest) env s) (λ v s. right_do (more a rest) env s) (tree_goes e l None env h.0) (λ v. do_goes (more a rest) l tail env h.1)

    -- ---- functions

    body_goes : (b i k : ℕ) → SoundCall (callable (at (suc b))) in_thread i k → ((j m : ℕ) → SoundCall (callable (at b)) in_thread j m → (us : List Value) → Goes (plain_calls b false j us) (right_calls b false j us))
        → (found : Option PlainFunction) → nth (functions_of functions) i ≡ found → (vs : List Value)
        → Goes (λ s. bind (give found s) (λ fun t. turns (suc n) fun.parameters (λ ws u. eval (plain_forms b) (plain_calls b) n false fun.body ws u) vs t))
        (λ s. bind (give found s) (λ fun t. turns (suc n) fun.parameters (λ ws u. eval (right_forms b) (right_calls b) n false fun.body ws u) vs t))
    body_goes b i k h below None there vs = goes_wrong
    body_goes b i k h below (Some fun) there vs =
        let low : suc b - 1 ≡ b = omega arith in
        let body : SoundTree (callable (at b)) in_thread k (Some k) fun.body = subst (λ j. SoundTree (callable (at j)) in_thread k (Some k) fun.body) low (called_body (at (suc b)) i k h fun sound there) in
        goes_turns (suc n) fun.parameters (λ ws u. eval (plain_forms b) (plain_calls b) n false fun.body ws u) (λ ws u. eval (right_forms b) (right_calls b) n false fun.body ws u)
        (λ ws. tree_goes b below fun.body k (Some k) ws body) vs

    pub calls_go : (b i k : ℕ) → SoundCall (callable (at b)) in_thread i k → (vs : List Value) → Goes (plain_calls b false i vs) (right_calls b false i vs)
    calls_go zero i k h vs = goes_wrong
    calls_go (suc b) i k h vs = body_goes b i k h (λ j m below us. calls_go b j m below us) (nth (functions_of functions) i) refl vs

    -- a callee, outside every transaction
    pub callee_goes : (b : ℕ) (span : Span) (callee : Callee) (k : ℕ) → SentCallee (callable (at b)) callee k → (vs : List Value) → Goes (apply (plain_calls b false) span callee vs) (apply (right_calls b false) span callee vs)
    callee_goes b span (CoreOp op) k h vs = goes_result (core op vs) span
    callee_goes b span (Function i) k h vs =
        calls_go b i k (record {
          function = h.function;
          found = h.found;
          arity = h.arity;
          zoned = h.zoned;
        }) vs

    goes_closed : (F G : ThreadState → Completion ThreadState Value) → Goes F G → Goes (λ s. closed (F s)) (λ s. closed (G s))
    goes_closed F G h = goes_again F G (λ vs s. Invalid) (λ vs s. Invalid) h (λ vs. goes_wrong)

    -- a thread's body, where calls go so deep
    pub thread_goes : (b : ℕ) (main : Tree) → SoundTree (callable (at b)) in_thread 0 None main
        → Goes (λ s. closed (eval (plain_forms b) (plain_calls b) n false main [] s)) (λ s. closed (eval (right_forms b) (right_calls b) n false main [] s))
    thread_goes b main h =
        goes_closed (λ s. eval (plain_forms b) (plain_calls b) n false main [] s) (λ s. eval (right_forms b) (right_calls b) n false main [] s)
        (tree_goes b (λ i k below vs. calls_go b i k below vs) main 0 None [] h)
