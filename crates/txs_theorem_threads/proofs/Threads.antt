-- A sound body's tree on replies that fit is the body on their events: that of a thread, or of an action.
use Rattle.std.proofs.Common.{ℕ, zero, suc, Bool, true, false, List, [], Option, Some, None, Result, Ok, Err, refl, sym, ap, subst, length, inl, ◌≡◌, ◌∷◌, ◌++◌, ◌∙◌, ◌==◌, if◌then◌else◌}
use Rattle.std.proofs.lemmas.Bool.{false≢true}
use Rattle.std.proofs.lemmas.List.{append_assoc}
use Rattle.txs_world_protocol.proofs.AskLemmas.{same_value-itself, same_ask-itself}
use Rattle.txs_world_protocol.specs.Ask.{Exchange, same_cell, same_value, same_action}
use Rattle.txs_world_protocol.specs.SeenEvent.{SeenEvent, home}
use Rattle.txs_world_protocol.specs.declared.ask.Ask.TheVariants as ask
use Rattle.txs_world_protocol.specs.declared.ask.Ask.{Ask}
use Rattle.txs_world_protocol.specs.declared.ask.Reply.TheVariants as reply
use Rattle.txs_world_protocol.specs.declared.ask.Reply.{Reply}
use Rattle.txs_world_protocol.specs.declared.event.EventKind.TheVariants as event
use Rattle.txs_world_protocol.specs.declared.event.EventKind.{EventKind}
use Rattle.txs_value_data.proofs.SameLemmas.{number-itself, same_cell-itself}
use Rattle.txs_value_apply.specs.Core.{core}
use Rattle.txs_value_cell.specs.Cells.{World, Validators, validators_of, validator_at}
use Rattle.txs_value_cell.specs.Forms.{rule, cell_of, may_stand}
use Rattle.txs_value_data.specs.Limits.{reruns}
use Rattle.txs_value_data.specs.Places.{fault_at}
use Rattle.txs_value_data.specs.Printed.{printed_line}
use Rattle.txs_value_cell.specs.declared.action.Action.{Action}
use Rattle.txs_value_cell.specs.declared.cell.CellDefinition.{CellDefinition}
use Rattle.txs_value_data.specs.declared.fault.Fault.{Fault}
use Rattle.txs_value_data.specs.declared.fault.FaultKind.{FaultKind}
use Rattle.txs_value_data.specs.declared.fault.FaultKind.TheVariants.{AgentFailed}
use Rattle.txs_value_data.specs.declared.fault.Span.{Span}
use Rattle.txs_value_cell.specs.declared.form.CellForm.TheVariants as form_of
use Rattle.txs_value_cell.specs.declared.form.LookForm.{LookForm}
use Rattle.txs_value_cell.specs.declared.form.LookForm.TheVariants.{Deref, Ensure}
use Rattle.txs_value_cell.specs.declared.form.PutForm.{PutForm}
use Rattle.txs_value_cell.specs.declared.form.PutForm.TheVariants.{RefSet, Reset}
use Rattle.txs_value_cell.specs.declared.form.UpdateForm.{UpdateForm}
use Rattle.txs_value_cell.specs.declared.form.UpdateForm.TheVariants as update_of
use Rattle.txs_value_data.specs.declared.op.Callee.{Callee}
use Rattle.txs_value_data.specs.declared.op.Callee.TheVariants.{Core as CoreOp, Function}
use Rattle.txs_value_data.specs.declared.value.CellId.{CellId}
use Rattle.txs_value_data.specs.declared.value.Value.{Value}
use Rattle.txs_value_data.specs.declared.value.Value.TheVariants.{Nil, Cell}
use Rattle.txs_tree_meaning.specs.Known.{Known, known, is_inside}
use Rattle.txs_tree_meaning.specs.Meaning.{Completion, Completes, Recurs, Faults, Retries, Waits, OutOfTurns, Invalid, bind, closed, result_of, Effects, apply, eval, call_at}
use Rattle.txs_tree_meaning.specs.Sound.{SoundSource, SoundFunctions, SoundCells, SoundTree, SoundSent, in_thread}
use Rattle.txs_tree_meaning.specs.Thread.{ThreadState, eats, meant, reads, resets, faulted, faultless, swaps, sends, sends_or_holds, Transacting, eats_tx, thread_look, accepts as accepts_there, Surroundings, around_action, on_events, from_events, thread_meaning, action_meaning, uneaten}
use Rattle.txs_tree_meaning.specs.Transaction.{validated, tx_meaning, tx_meaning_lacking}
use Rattle.txs_tree_meaning.specs.Tree.{Mark, Tree, PlainFunction, ThreadSource}
use Rattle.txs_code_meaning.specs.ActorState.{InHand, held_in, ActorState, Reception, Replied, Unreplied, asks, Continue, heard, on_step, step_of, newest_value, peek, just_done, reset_atom, opened, SwapInHand, open_atom, swap_verdict, close_swap, break_swap, send_verdict, sent, send_now, send_or_hold, send_action, Verdict, read_cell, assign_cell, print}
use Rattle.txs_code_meaning.specs.Opening.{fresh}
use Rattle.txs_theorem_threads.proofs.Accepted.{OfValidator, AllValidators, validator_such, validators_pure, validated_carried, made_carried}
use Rattle.txs_theorem_threads.proofs.Account.{Account, IsBeside, holds_beside, account_link, after_reply, answered_in}
use Rattle.txs_theorem_threads.proofs.Callees.{Keeps, IsPure}
use Rattle.txs_theorem_threads.proofs.Placed.{MayCallAt, placed, thread_placed, function_placed}
use Rattle.txs_theorem_threads.proofs.Quiet.{carried, IsQuiet, quietly, callee_carried}
use Rattle.txs_theorem_threads.proofs.Related.{Link, Related, Applied, bind_related, closed_related, result_related, Alike, eval_related, calls_related}
use Rattle.txs_theorem_threads.proofs.Tries.{body_on, tries_related}
use Rattle.txs_theorem_threads.proofs.Worlds.{IsShort, IsOwn, carried_related, on_cell_related, tx_link, tx_related}
use Rattle.txs_theorem_threads.specs.EndsSo.{in_hand}
use Rattle.txs_theorem_threads.specs.ActionsBehave.{action_source}
use Rattle.txs_theorem_threads.specs.Behaves.{source}
use Rattle.txs_theorem_threads.specs.FollowsAgent.{SoundAction, taken_at}
use Rattle.txs_theorem_threads.specs.OnReplies.{res, telling, tries, swap_concludes, swaps_on, accepts, on_replies, Anew}
use Rattle.txs_theorem_threads.specs.RepliesFit.{Out, In, WithSwap, OnEvent, SaysRead, SaysSwap, SaysBroke, SaysSent, SaysSendRefused, ReplyFits, book_asked, halted}

-- ---- what forms are at their events

read_as : (c : CellId) (v : Value) (kind : EventKind) (C : World) (t : ThreadState) → SaysRead c kind → C c.number ≡ v → reads c kind C t ≡ Completes v t
read_as c v (event.Read d) C t says e = ap (λ b. meant b (C c.number) t) (ap (λ x. same_cell c x) (sym says) ∙ same_cell-itself c) ∙ ap (λ w. Completes w t) e
read_as c v _ C t says e = absurd says

reset_as : (v : Value) (kind : EventKind) (t : ThreadState) → SaysSwap v kind → resets v kind t ≡ Completes v t
reset_as v (event.Swap w) t says = ap (λ b. meant b v t) (ap (λ x. same_value v x) (sym says) ∙ same_value-itself v)
reset_as v _ t says = absurd says

sent_as : (a : Action) (span : Span) (kind : EventKind) (t : ThreadState) → SaysSent a kind → sends a span kind t ≡ Completes (Cell a.agent) t
sent_as a span (event.Send b) t says = ap (λ z. meant z (Cell a.agent) t) (ap (λ x. same_action a x) (sym says) ∙ same_ask-itself (ask.Send a))
sent_as a span _ t says = absurd says

denied_as : (a : Action) (g : CellId) (span : Span) (kind : EventKind) (t : ThreadState) → a.agent ≡ g → SaysSendRefused g kind → sends a span kind t ≡ Faults (fault_at AgentFailed span) t
denied_as a g span (event.SendRefused h) t e says =
    ap (λ z. if z then Faults (fault_at AgentFailed span) t else Invalid) (ap (λ x. same_cell a.agent x) (sym (e ∙ says)) ∙ same_cell-itself a.agent)
denied_as a g span _ t e says = absurd says

module _ (c : CellId) (f : Value → ThreadState → Completion ThreadState Value) (R C : World) (t : ThreadState) where
  swap_as : (kind : EventKind) (v w : Value) → f v t ≡ Completes w t → C c.number ≡ v → SaysSwap w kind → swaps c f kind R C t ≡ Completes w t
  swap_as (event.Swap x) v w made e says =
      ap (λ z. faultless (f z t) (λ y t1. meant (same_value y x) y t1)) e ∙ ap (λ r. faultless r (λ y t1. meant (same_value y x) y t1)) made
      ∙ ap (λ b. meant b w t) (ap (λ y. same_value w y) (sym says) ∙ same_value-itself w)
  swap_as _ v w made e says = absurd says

  broke_as : (kind : EventKind) (v : Value) (y : Fault) → f v t ≡ Faults y t → R c.number ≡ v → SaysBroke kind → swaps c f kind R C t ≡ Faults y t
  broke_as (event.Broke at) v y made e says = ap (λ z. faulted (f z t) (λ g t1. Faults g t1)) e ∙ ap (λ r. faulted r (λ g t1. Faults g t1)) made
  broke_as _ v y made e says = absurd says

module _ (cells : List CellDefinition) (a : Account cells) where
  abbrev k : Link ActorState ThreadState
  k = account_link cells a

  -- an event of this book is eaten
  eats_event : (book : ℕ) (go : SeenEvent → ThreadState → Completion ThreadState Value) (P : SeenEvent → Type 0) (next : List SeenEvent → Type 0) (x : Completion ActorState Value) (es : List SeenEvent) (t : ThreadState) → OnEvent book P next es
      → ((e : SeenEvent) (es1 : List SeenEvent) → P e → next es1 → Related k x (uneaten (e ∷ es1 ++ a.tail) (go e (record t { todo = es1 ++ a.tail })))) → Related k x (eats book go (es ++ a.tail) t)
  eats_event book go P next x [] t m h = absurd m
  eats_event book go P next x (e ∷ es) t m h =
      subst (λ b. Related k x (if b then uneaten (e ∷ es ++ a.tail) (go e (record t { todo = es ++ a.tail })) else Invalid)) (sym (ap (λ n. n == book) m.0 ∙ number-itself book)) (h e es m.1 m.2)

  -- the thread on these events, at a form that eats the next one
  abbrev at_events : ℕ → (SeenEvent → ThreadState → Completion ThreadState Value) → ThreadState → List SeenEvent → Completion ThreadState Value
  at_events book go t l = eats book go l (record t { todo = l })

  -- a form that asks once, and eats the event that its ask is
  asks_once : (book : ℕ) (go : SeenEvent → ThreadState → Completion ThreadState Value) (q : Ask) (x : Reception → Completion ActorState Value) (s : ActorState) (t : ThreadState) → IsOwn q → book ≡ book_asked cells q → ((u : ActorState) → x (Unreplied u) ≡ Waits u)
      → k.rel s t → ((es : List SeenEvent) (r : Reply) (xs : List Exchange) → ReplyFits cells Out q r (after_reply a.from a.fits t.txs q r xs) es → Related k (x (Replied r (record s { todo = xs }))) (at_events book go t (es ++ a.tail))) → Related k (x (asks q s)) (eats book go t.todo t)
  asks_once book go q x s t own of un r h =
      subst (λ l. Related k (x (asks q s)) (at_events book go t l)) (sym r.2)
      (answered_in cells a t.txs Out r.1 q s (λ y. Related k (x y) (at_events book go t (r.1 ++ a.tail))) r.3
      (subst (λ y. Related k y (at_events book go t (r.1 ++ a.tail))) (sym (un (record s { wants = Some q }))) (a.waiting t.txs Out (record s { wants = Some q }) r.1 (at_events book go t) own r.3 (ap (λ n. Some n) of, refl, r.0.0, refl)))
      (λ rep xs m. h r.1 rep xs m))

  -- a value at the event that is eaten
  event_gives : (book : ℕ) (go : SeenEvent → ThreadState → Completion ThreadState Value) (P : SeenEvent → Type 0) (v : Value) (s : ActorState) (t : ThreadState) (es : List SeenEvent) → IsBeside a.before a.from s t → OnEvent book P (a.fits t.txs Out s.todo) es
      → ((e : SeenEvent) (t1 : ThreadState) → P e → go e t1 ≡ Completes v t1) → Related k (Completes v s) (at_events book go t (es ++ a.tail))
  event_gives book go P v s t es pr m h =
      eats_event book go P (a.fits t.txs Out s.todo) (Completes v s) es (record t { todo = es ++ a.tail }) m
      (λ e es1 p fits. subst (λ z. Related k (Completes v s) (uneaten (e ∷ es1 ++ a.tail) z)) (sym (h e (record t { todo = es1 ++ a.tail }) p)) (refl, (pr, es1, refl, fits)))

  -- a fault there
  event_breaks : (book : ℕ) (go : SeenEvent → ThreadState → Completion ThreadState Value) (P : SeenEvent → Type 0) (y : Fault) (s : ActorState) (t : ThreadState) (es : List SeenEvent) → IsBeside a.before a.from s t → OnEvent book P (a.fits t.txs Out s.todo) es
      → ((e : SeenEvent) (t1 : ThreadState) → P e → go e t1 ≡ Faults y t1) → Related k (Faults y s) (at_events book go t (es ++ a.tail))
  event_breaks book go P y s t es pr m h =
      eats_event book go P (a.fits t.txs Out s.todo) (Faults y s) es (record t { todo = es ++ a.tail }) m
      (λ e es1 p fits. subst (λ z. Related k (Faults y s) (uneaten (e ∷ es1 ++ a.tail) z)) (sym (h e (record t { todo = es1 ++ a.tail }) p)) (refl, (pr.0, Out, es1, refl, fits)))

  -- ---- reads, sets of atoms, sends

  peek_answered : (c : CellId) (s : ActorState) (t : ThreadState) (es : List SeenEvent) (r : Reply) (xs : List Exchange) → IsBeside a.before a.from s t → ReplyFits cells Out (ask.Peek c) r (λ ph1 es1. a.fits t.txs ph1 xs es1) es
      → Related k (res (heard newest_value (Replied r (record s { todo = xs })))) (at_events (home cells c) (λ e t1. reads c e.kind e.C t1) t (es ++ a.tail))
  peek_answered c s t es (reply.Is v) xs pr m =
      event_gives (home cells c) (λ e t1. reads c e.kind e.C t1) (λ e. SaysRead c e.kind × (e.C c.number ≡ v)) v (record s { todo = xs }) t es pr m (λ e t1 p. read_as c v e.kind e.C t1 p.0 p.1)
  peek_answered c s t es _ xs pr m = tt

  peek_related : (c : CellId) (s : ActorState) (t : ThreadState) → k.rel s t → Related k (res (peek c s)) (eats (home cells c) (λ e t1. reads c e.kind e.C t1) t.todo t)
  unfolding peek
  peek_related c s t r = asks_once (home cells c) (λ e t1. reads c e.kind e.C t1) (ask.Peek c) (λ h. res (heard newest_value h)) s t tt refl (λ u. refl) r (λ es rep xs m. peek_answered c s t es rep xs r.0 m)

  reset_answered : (c : CellId) (v : Value) (s : ActorState) (t : ThreadState) (es : List SeenEvent) (r : Reply) (xs : List Exchange) → IsBeside a.before a.from s t → ReplyFits cells Out (ask.CloseAt c None v) r (λ ph1 es1. a.fits t.txs ph1 xs es1) es
      → Related k (res (on_step (heard just_done (Replied r (record s { todo = xs }))) (λ u s1. Continue v s1))) (at_events (home cells c) (λ e t1. resets v e.kind t1) t (es ++ a.tail))
  reset_answered c v s t es reply.Done xs pr m =
      event_gives (home cells c) (λ e t1. resets v e.kind t1) (λ e. SaysSwap v e.kind) v (record s { todo = xs }) t es pr m (λ e t1 p. reset_as v e.kind t1 p)
  reset_answered c v s t es _ xs pr m = tt

  reset_related : (c : CellId) (v : Value) (s : ActorState) (t : ThreadState) → k.rel s t → Related k (res (reset_atom c v s)) (eats (home cells c) (λ e t1. resets v e.kind t1) t.todo t)
  unfolding reset_atom
  reset_related c v s t r =
      asks_once (home cells c) (λ e t1. resets v e.kind t1) (ask.CloseAt c None v) (λ h. res (on_step (heard just_done h) (λ u s1. Continue v s1))) s t tt refl (λ u. refl) r (λ es rep xs m. reset_answered c v s t es rep xs r.0 m)

  send_answered : (act : Action) (s : ActorState) (t : ThreadState) (es : List SeenEvent) (r : Reply) (xs : List Exchange) → IsBeside a.before a.from s t → ReplyFits cells Out (ask.Send act) r (λ ph1 es1. a.fits t.txs ph1 xs es1) es
      → Related k (res (on_step (heard send_verdict (Replied r (record s { todo = xs }))) (sent act))) (at_events 0 (λ e t1. sends act act.span e.kind t1) t (es ++ a.tail))
  send_answered act s t es reply.Done xs pr m =
      event_gives 0 (λ e t1. sends act act.span e.kind t1) (λ e. SaysSent act e.kind) (Cell act.agent) (record s { todo = xs }) t es pr m (λ e t1 p. sent_as act act.span e.kind t1 p)
  send_answered act s t es (reply.AgentIsFailed g) xs pr m =
      event_breaks 0 (λ e t1. sends act act.span e.kind t1) (λ e. (act.agent ≡ g) × SaysSendRefused g e.kind) (fault_at AgentFailed act.span) (record s { todo = xs }) t es pr m (λ e t1 p. denied_as act g act.span e.kind t1 p.0 p.1)
  send_answered act s t es _ xs pr m = tt

  send_related : (act : Action) (s : ActorState) (t : ThreadState) → k.rel s t → Related k (res (send_now act s)) (eats 0 (λ e t1. sends act act.span e.kind t1) t.todo t)
  unfolding send_now
  send_related act s t r = asks_once 0 (λ e t1. sends act act.span e.kind t1) (ask.Send act) (λ h. res (on_step (heard send_verdict h) (sent act))) s t tt refl (λ u. refl) r (λ es rep xs m. send_answered act s t es rep xs r.0 m)

  -- outside of an action a send is made, and in one it is held
  send_action_related : (act : Action) (s : ActorState) (t : ThreadState) → k.rel s t → Related k (res (send_action false act s)) (sends_or_holds t.held act act.span t)
  send_action_related act s t r = subst (λ o. Related k (res (send_action false act s)) (sends_or_holds o act act.span t)) r.0.1 (go s.acting)
    where
      go : (o : Option InHand) → Related k (res (send_or_hold o act s)) (sends_or_holds (held_in o) act act.span t)
      go None = send_related act s t r
      go (Some h) = (refl, (holds_beside a.before a.from s t (act ∷ []) (act ∷ []) refl r.0, r.1, r.2, r.3))

  print_related : (vs : List Value) (s : ActorState) (t : ThreadState) → k.rel s t → Related k (res (print false vs s)) (Completes Nil (record t { printed = t.printed ++ printed_line vs }))
  unfolding print
  print_related vs s t r = (refl, ((sym (append_assoc a.before t.printed (printed_line vs)) ∙ ap (λ l. l ++ printed_line vs) r.0.0, r.0.1, r.0.2), r.1, r.2, r.3))

  -- a `reset!` on a value that may be no atom, where the atom's validator looks at what it is to get
  reset_of : (span : Span) (w : Value) (f : CellId → ActorState → Completion ActorState Value) (g : CellId → ThreadState → Completion ThreadState Value) (q : CellId → Completion (Unit {0}) Value)
      (left : (c : CellId) (s : ActorState) → (f c s ≡ carried s (q c)) × IsQuiet (q c)) (right : (c : CellId) (t : ThreadState) → (g c t ≡ carried t (q c)) × IsQuiet (q c)) (rc : Result CellId FaultKind) (s : ActorState) (t : ThreadState) → k.rel s t
      → Related k (bind (res (step_of rc span s)) (λ c s1. bind (f c s1) (λ v s2. res (assign_cell Reset false span v c s2)))) (bind (result_of rc span t) (λ c t1. bind (g c t1) (λ v t2. eats (home cells c) (λ e t3. resets v e.kind t3) t2.todo t2)))
  reset_of span w f g q left right (Ok c) s t r =
      let go1 : Value → ActorState → Completion ActorState Value = λ v s2. res (assign_cell Reset false span v c s2) in
      let go2 : Value → ThreadState → Completion ThreadState Value = λ v t2. eats (home cells c) (λ e t3. resets v e.kind t3) t2.todo t2 in
      let l = left c s in
      subst (λ y. Related k (bind (f c s) go1) (bind y go2)) (sym (right c t).0)
      (subst (λ x. Related k (bind x go1) (bind (carried t (q c)) go2)) (sym l.0)
      (carried_related ActorState ThreadState k (q c) go1 go2 s t l.1 r (λ v. reset_related c v s t r)))
  reset_of span w f g q left right (Err y) s t r = (refl, k.faults_of s t r)

  -- ---- swaps

  module _ (span : Span) (cv : Value) (c : CellId) (f : CellId → Value → ActorState → Completion ActorState Value) (g : Value → ThreadState → Completion ThreadState Value) (q : Value → Completion (Unit {0}) Value)
      (left : (v : Value) (s : ActorState) → (f c v s ≡ carried s (q v)) × IsQuiet (q v)) (right : (v : Value) (t : ThreadState) → (g v t ≡ carried t (q v)) × IsQuiet (q v)) where
    -- what the thread does on an event
    abbrev swapped : SeenEvent → ThreadState → Completion ThreadState Value
    swapped e t = swaps c g e.kind e.R e.C t

    -- what is left of the swap follows the thread
    abbrev FollowsSwap : ℕ → Type 0
    FollowsSwap n = (s : ActorState) (t : ThreadState) → k.rel s t → Related k (swaps_on n span cv f s) (eats (home cells c) swapped t.todo t)

    module _ (n : ℕ) (next : FollowsSwap n) (at : ℕ) (W : World) (v : Value) (there : W c.number ≡ v) where
      abbrev in_hand_now : SwapInHand
      in_hand_now = record { cell = c; at = at }

      -- what comes after the callee, and after the close
      abbrev after_close : Value → Verdict → ActorState → Completion ActorState Value
      after_close w d s = swap_concludes d w (swaps_on n span cv f) s

      abbrev after_callee : Value → ActorState → Completion ActorState Value
      after_callee w s = bind (res (close_swap in_hand_now w s)) (after_close w)

      close_answered : (w : Value) (u : Unit {0}) (s : ActorState) (t : ThreadState) (es : List SeenEvent) (r : Reply) (xs : List Exchange) → q v ≡ Completes w u → IsBeside a.before a.from s t → ReplyFits cells (WithSwap c W) (ask.CloseAt c (Some at) w) r (λ ph1 es1. a.fits t.txs ph1 xs es1) es
          → Related k (bind (res (heard swap_verdict (Replied r (record s { todo = xs })))) (after_close w)) (at_events (home cells c) swapped t (es ++ a.tail))
      close_answered w u s t es reply.Done xs z pr m =
          event_gives (home cells c) swapped (λ e. (c ≡ c) × (W c.number ≡ e.C c.number) × SaysSwap w e.kind) w (record s { todo = xs }) t es pr m
          (λ e t1 h. swap_as c g e.R e.C t1 e.kind v w ((right v t1).0 ∙ ap (carried t1) z) (sym h.1 ∙ there) h.2)
      close_answered w u s t es (reply.Changed x) xs z pr m = next (record s { todo = xs }) (record t { todo = es ++ a.tail }) (pr, es, refl, m)
      close_answered w u s t es _ xs z pr m = tt

      close_related : (w : Value) (u : Unit {0}) (s : ActorState) (t : ThreadState) (es : List SeenEvent) → q v ≡ Completes w u → IsBeside a.before a.from s t → a.fits t.txs (WithSwap c W) s.todo es → Related k (after_callee w s) (at_events (home cells c) swapped t (es ++ a.tail))
      unfolding close_swap
      close_related w u s t es z pr fits =
          answered_in cells a t.txs (WithSwap c W) es (ask.CloseAt c (Some at) w) s (λ h. Related k (bind (res (heard swap_verdict h)) (after_close w)) (at_events (home cells c) swapped t (es ++ a.tail))) fits
          (a.waiting t.txs (WithSwap c W) (record s { wants = Some (ask.CloseAt c (Some at) w) }) es (at_events (home cells c) swapped t) tt fits (refl, refl, pr.0, refl)) (λ r xs m. close_answered w u s t es r xs z pr m)

      break_answered : (y : Fault) (u : Unit {0}) (s : ActorState) (t : ThreadState) (es : List SeenEvent) (r : Reply) (xs : List Exchange) → q v ≡ Faults y u → IsBeside a.before a.from s t → ReplyFits cells (WithSwap c W) (ask.Broke c at) r (λ ph1 es1. a.fits t.txs ph1 xs es1) es
          → Related k (bind (res (heard just_done (Replied r (record s { todo = xs })))) (λ x s1. Faults y s1)) (at_events (home cells c) swapped t (es ++ a.tail))
      break_answered y u s t es reply.Done xs z pr m =
          event_breaks (home cells c) swapped (λ e. (c ≡ c) × (W ≡ e.R) × SaysBroke e.kind) y (record s { todo = xs }) t es pr m
          (λ e t1 h. broke_as c g e.R e.C t1 e.kind v y ((right v t1).0 ∙ ap (carried t1) z) (ap (λ Z. Z c.number) (sym h.1) ∙ there) h.2)
      break_answered y u s t es _ xs z pr m = tt

      break_related : (y : Fault) (u : Unit {0}) (s : ActorState) (t : ThreadState) (es : List SeenEvent) → q v ≡ Faults y u → IsBeside a.before a.from s t → a.fits t.txs (WithSwap c W) s.todo es → Related k (bind (res (break_swap in_hand_now s)) (λ x s1. Faults y s1)) (at_events (home cells c) swapped t (es ++ a.tail))
      unfolding break_swap
      break_related y u s t es z pr fits =
          answered_in cells a t.txs (WithSwap c W) es (ask.Broke c at) s (λ h. Related k (bind (res (heard just_done h)) (λ x s1. Faults y s1)) (at_events (home cells c) swapped t (es ++ a.tail))) fits
          (a.waiting t.txs (WithSwap c W) (record s { wants = Some (ask.Broke c at) }) es (at_events (home cells c) swapped t) tt fits (refl, refl, pr.0, refl)) (λ r xs m. break_answered y u s t es r xs z pr m)

      -- a swap whose callee needs turns needs them at its end
      swap_short : (u : Unit {0}) (t : ThreadState) (Q : World) → q v ≡ OutOfTurns u → IsShort (halted (at_events (home cells c) swapped t (in_hand cells Q (WithSwap c W))))
      swap_short u t Q z =
          let t1 : ThreadState = record t { todo = [] } in
          let breaks : Completion ThreadState Value → Completion ThreadState Value = λ r. uneaten (in_hand cells Q (WithSwap c W)) (faulted r (λ y t2. Faults y t2)) in
          subst (λ r. IsShort (halted r))
          (sym (ap (λ b. if b then breaks (g (W c.number) t1) else Invalid) (number-itself (home cells c)) ∙ ap (λ x. breaks (g x t1)) there ∙ ap breaks ((right v t1).0 ∙ ap (carried t1) z))) tt

      callee_comes : (z : Completion (Unit {0}) Value) (s : ActorState) (t : ThreadState) (es : List SeenEvent) → q v ≡ z → IsQuiet z → IsBeside a.before a.from s t → a.fits t.txs (WithSwap c W) s.todo es
          → Related k (telling (break_swap in_hand_now) (carried s z) after_callee) (at_events (home cells c) swapped t (es ++ a.tail))
      callee_comes (Completes w u) s t es z quiet pr fits = close_related w u s t es z pr fits
      callee_comes (Recurs vs u) s t es z quiet pr fits = tt
      callee_comes (Faults y u) s t es z quiet pr fits = break_related y u s t es z pr fits
      callee_comes (Retries u) s t es z quiet pr fits = absurd quiet
      callee_comes (Waits u) s t es z quiet pr fits = absurd quiet
      callee_comes (OutOfTurns u) s t es z quiet pr fits = a.shortage t.txs (WithSwap c W) s es (at_events (home cells c) swapped t) fits (refl, pr.0, refl) (λ Q. swap_short u t Q z)
      callee_comes Invalid s t es z quiet pr fits = tt

      opened_comes : (s : ActorState) (t : ThreadState) (es : List SeenEvent) → IsBeside a.before a.from s t → a.fits t.txs (WithSwap c W) s.todo es → Related k (telling (break_swap in_hand_now) (f c v s) after_callee) (at_events (home cells c) swapped t (es ++ a.tail))
      opened_comes s t es pr fits =
          let l = left v s in
          subst (λ y. Related k (telling (break_swap in_hand_now) y after_callee) (at_events (home cells c) swapped t (es ++ a.tail))) (sym l.0) (callee_comes (q v) s t es refl l.1 pr fits)

    -- what comes after the open
    abbrev after_open : ℕ → SwapInHand × Value → ActorState → Completion ActorState Value
    after_open n o s = telling (break_swap o.0) (f o.0.cell o.1 s) (λ w s1. bind (res (close_swap o.0 w s1)) (λ d s2. swap_concludes d w (swaps_on n span cv f) s2))

    open_answered : (n : ℕ) (next : FollowsSwap n) (s : ActorState) (t : ThreadState) (es : List SeenEvent) (r : Reply) (xs : List Exchange) → IsBeside a.before a.from s t → ReplyFits cells Out (ask.OpenAt c) r (λ ph1 es1. a.fits t.txs ph1 xs es1) es
        → Related k (bind (res (on_step (heard opened (Replied r (record s { todo = xs }))) (λ x s1. Continue (record { cell = c; at = x.0 }, x.1) s1))) (after_open n)) (at_events (home cells c) swapped t (es ++ a.tail))
    open_answered n next s t es (reply.Opened p v) xs pr m = opened_comes n next p m.0 v m.1 (record s { todo = xs }) t es pr m.2
    open_answered n next s t es _ xs pr m = tt

    open_related : (n : ℕ) (next : FollowsSwap n) (s : ActorState) (t : ThreadState) → k.rel s t → Related k (bind (res (open_atom c s)) (after_open n)) (eats (home cells c) swapped t.todo t)
    unfolding open_atom
    open_related n next s t r =
        asks_once (home cells c) swapped (ask.OpenAt c) (λ h. bind (res (on_step (heard opened h) (λ x s1. Continue (record { cell = c; at = x.0 }, x.1) s1))) (after_open n)) s t tt refl (λ u. refl) r
        (λ es rep xs m. open_answered n next s t es rep xs r.0 m)

    swap_related : cell_of (rule (form_of.Update update_of.Swap)) false cv ≡ Ok c → (n : ℕ) → FollowsSwap n
    swap_related e zero s t r = tt
    swap_related e (suc n) s t r =
        subst (λ rc. Related k (bind (res (on_step (step_of rc span s) open_atom)) (after_open n)) (eats (home cells c) swapped t.todo t)) (sym e) (open_related n (swap_related e n) s t r)

  -- a swap on a value that may be no atom
  swap_of : (span : Span) (cv : Value) (f : CellId → Value → ActorState → Completion ActorState Value) (g : CellId → Value → ThreadState → Completion ThreadState Value) (q : CellId → Value → Completion (Unit {0}) Value)
      (left : (c : CellId) (v : Value) (s : ActorState) → (f c v s ≡ carried s (q c v)) × IsQuiet (q c v)) (right : (c : CellId) (v : Value) (t : ThreadState) → (g c v t ≡ carried t (q c v)) × IsQuiet (q c v)) (n : ℕ) (rc : Result CellId FaultKind) → cell_of (rule (form_of.Update update_of.Swap)) false cv ≡ rc
      → (s : ActorState) (t : ThreadState) → k.rel s t → Related k (swaps_on (suc n) span cv f s) (bind (result_of rc span t) (λ c t1. eats (home cells c) (λ e t2. swaps c (g c) e.kind e.R e.C t2) t1.todo t1))
  swap_of span cv f g q left right n (Ok c) e s t r = swap_related span cv c f (g c) (q c) (left c) (right c) e (suc n) s t r
  swap_of span cv f g q left right n (Err y) e s t r =
      subst (λ rc. Related k (bind (res (on_step (step_of rc span s) open_atom)) (λ o s1. telling (break_swap o.0) (f o.0.cell o.1 s1) (λ w s2. bind (res (close_swap o.0 w s2)) (λ d s3. swap_concludes d w (swaps_on n span cv f) s3)))) (Faults (fault_at y span) t)) (sym e)
      (refl, k.faults_of s t r)

-- ---- bodies

-- what is carried is alike
carried_alike : (k : Link ActorState ThreadState) (y : Completion (Unit {0}) Value) (s : ActorState) (t : ThreadState) → IsQuiet y → k.rel s t → Related k (carried s y) (carried t y)
carried_alike k (Completes a u) s t q r = (refl, r)
carried_alike k (Recurs vs u) s t q r = (refl, r)
carried_alike k (Faults f u) s t q r = (refl, k.faults_of s t r)
carried_alike k (Retries u) s t q r = absurd q
carried_alike k (Waits u) s t q r = absurd q
carried_alike k (OutOfTurns u) s t q r = k.out_of_turns_of s t r
carried_alike k Invalid s t q r = k.invalid_both

module _ (cells : List CellDefinition) (functions : List PlainFunction) (sound : SoundFunctions [] functions) (valid : SoundCells (known functions) cells) (a : Account cells) (n : ℕ) where
  abbrev link : Link ActorState ThreadState
  link = account_link cells a

  abbrev ks : List Known
  ks = known functions

  abbrev validators : Validators
  validators = validators_of cells

  abbrev given : Surroundings
  given = around_action cells functions n

  abbrev left_calls : ℕ → Bool → ℕ → List Value → ActorState → Completion ActorState Value
  left_calls d = call_at (λ e. on_replies validators) n functions d

  abbrev right_calls : ℕ → Bool → ℕ → List Value → ThreadState → Completion ThreadState Value
  right_calls d = call_at (on_events given) n functions d

  abbrev thread_forms : ℕ → Effects ThreadState
  thread_forms d = on_events given d

  -- a dosync as the thread meets it
  abbrev dosync_of : ℕ → Mark → Tree → List Value → Transacting
  dosync_of d m e env = record { mark = m; body = e; locals = env; on = tx_meaning n functions d e env; lacking = λ j. tx_meaning_lacking n functions d e env (Some j); validators = validators }

  on_lacking : (d : ℕ) (m : Mark) (e : Tree) (env : List Value) (u : Option ℕ) (R : World) → body_on (dosync_of d m e env) u R ≡ tx_meaning_lacking n functions d e env u R
  on_lacking d m e env None R = refl
  on_lacking d m e env (Some j) R = refl

  abbrev left_callee : (d : ℕ) (inside : Bool) (span : Span) (c : Callee) (vs : List Value) (s : ActorState) → IsPure ks c → (apply (left_calls d inside) span c vs s ≡ carried s (quietly n functions d span c vs tt)) × IsQuiet (quietly n functions d span c vs tt)
  left_callee d inside span c vs s pure = callee_carried (λ e. on_replies validators) n inside functions sound d span c vs s pure

  abbrev right_callee : (d : ℕ) (inside : Bool) (span : Span) (c : Callee) (vs : List Value) (t : ThreadState) → IsPure ks c → (apply (right_calls d inside) span c vs t ≡ carried t (quietly n functions d span c vs tt)) × IsQuiet (quietly n functions d span c vs tt)
  right_callee d inside span c vs t pure = callee_carried (on_events given) n inside functions sound d span c vs t pure

  -- validators are pure
  all_checked : AllValidators (IsPure ks) validators
  all_checked = validators_pure ks cells valid

  checked : (x : ℕ) → OfValidator (IsPure ks) (validator_at validators x)
  checked x = validator_such (IsPure ks) validators x all_checked

  true_false : true ≡ false → ⊥
  true_false e = false≢true (sym e)

  thread_alike : (d : ℕ) → Alike ActorState ThreadState link (on_replies validators) (thread_forms d) (left_calls d) (right_calls d) n n (λ i. i ≡ false) (placed ks)
  thread_alike d = record {
    print = th_print;
    look = th_look;
    put = th_put;
    update = th_update;
    send = th_send;
    dosync = th_dosync;
  }
    where
      th_print : (inside : Bool) (vs : List Value) (s : ActorState) (t : ThreadState) → inside ≡ false → link.rel s t → Related link ((on_replies validators).print inside vs s) ((thread_forms d).print inside vs t)
      th_print true vs s t i r = absurd (true_false i)
      th_print false vs s t i r = print_related cells a vs s t r

      th_look : (form : LookForm) (inside : Bool) (m : Mark) (c : Value) (s : ActorState) (t : ThreadState) → may_stand (rule (form_of.Look form)).stands inside ≡ true → inside ≡ false → link.rel s t → Related link ((on_replies validators).look form inside m c s) ((thread_forms d).look form inside m c t)
      th_look form true m c s t q i r = absurd (true_false i)
      th_look Ensure false m c s t q i r = absurd (false≢true q)
      th_look Deref false m c s t q i r =
          on_cell_related ThreadState link (cell_of (rule (form_of.Look Deref)) false c) m.span (read_cell Deref false) (thread_look given Deref) s t r (λ x e. peek_related cells a x s t r)

      th_put : (form : PutForm) (inside : Bool) (m : Mark) (c w : Value) (s : ActorState) (t : ThreadState) → may_stand (rule (form_of.Put form)).stands inside ≡ true → inside ≡ false → (((x : ℕ) → MayCallAt ks inside x) → Applied ActorState ThreadState link (apply (left_calls d inside) m.span) (apply (right_calls d inside) m.span)) → link.rel s t
          → Related link ((on_replies validators).put form inside m c w (apply (left_calls d inside) m.span) s) ((thread_forms d).put form inside m c w (apply (right_calls d inside) m.span) t)
      th_put form true m c w s t q i h r = absurd (true_false i)
      th_put RefSet false m c w s t q i h r = absurd (false≢true q)
      th_put Reset false m c w s t q i h r =
          reset_of cells a m.span w (λ x s1. accepts validators (apply (left_calls d false) m.span) x m.span w s1) (λ x t1. accepts_there given (apply (right_calls d false) m.span) x m.span w t1)
          (λ x. validated (quietly n functions d m.span) (validator_at validators x.number) m.span w tt)
          (λ x s1. validated_carried (IsPure ks) s1 (apply (left_calls d false) m.span) (quietly n functions d m.span) (λ y vs pure. left_callee d false m.span y vs s1 pure) (validator_at validators x.number) (checked x.number) m.span w)
          (λ x t1. validated_carried (IsPure ks) t1 (apply (right_calls d false) m.span) (quietly n functions d m.span) (λ y vs pure. right_callee d false m.span y vs t1 pure) (validator_at validators x.number) (checked x.number) m.span w)
          (cell_of (rule (form_of.Put Reset)) false c) s t r

      th_update : (form : UpdateForm) (inside : Bool) (m : Mark) (c : Value) (callee : Callee) (vs : List Value) (s : ActorState) (t : ThreadState) → may_stand (rule (form_of.Update form)).stands inside ≡ true → inside ≡ false → IsPure ks callee
          → (((x : ℕ) → MayCallAt ks inside x) → Applied ActorState ThreadState link (apply (left_calls d inside) m.span) (apply (right_calls d inside) m.span)) → link.rel s t
          → Related link ((on_replies validators).update form inside m c callee vs (apply (left_calls d inside) m.span) s) ((thread_forms d).update form inside m c callee vs (apply (right_calls d inside) m.span) t)
      th_update form true m c callee vs s t q i pure h r = absurd (true_false i)
      th_update update_of.Alter false m c callee vs s t q i pure h r = tt
      th_update update_of.Commute false m c callee vs s t q i pure h r = tt
      th_update update_of.Swap false m c callee vs s t q i pure h r =
          let o : CellId → Option Callee = λ x. validator_at validators x.number in
          swap_of cells a m.span c (λ x v s1. bind (apply (left_calls d false) m.span callee (v ∷ vs) s1) (accepts validators (apply (left_calls d false) m.span) x m.span))
          (λ x v t1. bind (apply (right_calls d false) m.span callee (v ∷ vs) t1) (accepts_there given (apply (right_calls d false) m.span) x m.span))
          (λ x v. bind (quietly n functions d m.span callee (v ∷ vs) tt) (λ w u. validated (quietly n functions d m.span) (o x) m.span w u))
          (λ x v s1. made_carried (IsPure ks) s1 (apply (left_calls d false) m.span) (quietly n functions d m.span) (λ y ws pure1. left_callee d false m.span y ws s1 pure1) (o x) (checked x.number) m.span callee (v ∷ vs) pure)
          (λ x v t1. made_carried (IsPure ks) t1 (apply (right_calls d false) m.span) (quietly n functions d m.span) (λ y ws pure1. right_callee d false m.span y ws t1 pure1) (o x) (checked x.number) m.span callee (v ∷ vs) pure)
          (length s.todo) (cell_of (rule (form_of.Update update_of.Swap)) false c) refl s t r

      th_send : (inside : Bool) (m : Mark) (c : Value) (callee : Callee) (vs : List Value) (s : ActorState) (t : ThreadState) → inside ≡ false → link.rel s t → Related link ((on_replies validators).send inside m c callee vs s) ((thread_forms d).send inside m c callee vs t)
      th_send true m c callee vs s t i r = absurd (true_false i)
      th_send false m c callee vs s t i r =
          let act : CellId → Action = λ x. record { agent = x; callee = callee; args = vs; span = m.span } in
          on_cell_related ThreadState link (cell_of (rule form_of.Send) false c) m.span (λ x s1. send_action false (act x) s1) (λ x t1. sends_or_holds t1.held (act x) m.span t1) s t r (λ x e. send_action_related cells a (act x) s t r)

      th_dosync : (inside : Bool) (m : Mark) (e : Tree) (env : List Value) (s : ActorState) (t : ThreadState) → inside ≡ false → Keeps (placed ks) true e
          → (true ≡ false → (s1 : ActorState) (t1 : ThreadState) → link.rel s1 t1 → Related link (closed (eval (on_replies validators) (left_calls d) n true e env s1)) (closed (eval (thread_forms d) (right_calls d) n true e env t1)))
          → (((x : ℕ) → MayCallAt ks true x) → true ≡ false → Applied ActorState ThreadState link (apply (left_calls d true) m.span) (apply (right_calls d true) m.span)) → link.rel s t
          → Related link ((on_replies validators).dosync inside m e env (λ s1. closed (eval (on_replies validators) (left_calls d) n true e env s1)) (apply (left_calls d true) m.span) s)
          ((thread_forms d).dosync inside m e env (λ t1. closed (eval (thread_forms d) (right_calls d) n true e env t1)) (apply (right_calls d true) m.span) t)
      th_dosync true m e env s t i keeps h h1 r = absurd (true_false i)
      th_dosync false m e env s t i keeps h h1 r =
          let tx : Transacting = dosync_of d m e env in
          subst (λ l. Related link (tries validators (suc reruns) m.span (λ s1. closed (eval (on_replies validators) (left_calls d) n true e env s1)) (apply (left_calls d true) m.span) Anew s) (eats_tx (suc reruns) tx (apply (right_calls d true) m.span) l t)) (sym r.2)
          (tries_related cells a (IsPure ks) tx (λ s1. closed (eval (on_replies validators) (left_calls d) n true e env s1)) (apply (left_calls d true) m.span) (apply (right_calls d true) m.span) (quietly n functions d m.span) all_checked
          (left_callee d true m.span) (right_callee d true m.span)
          (λ txs u R s1 es own fits. subst (Related (tx_link (IsPure ks) (a.fits txs) u R es s1.printed (held_in s1.acting)) (closed (eval (on_replies validators) (left_calls d) n true e env s1))) (sym (on_lacking d m e env u R))
          (tx_related cells (a.fits txs) (λ W c at r1 xs es1 f. a.splits txs (In W) (ask.Look c at) r1 xs es1 f) u R s1.printed (held_in s1.acting) es n functions sound d e env s1 keeps own fits (refl, refl))) (suc reruns) Anew s r.1 t r.0 r.3)

  calls_alike : (d : ℕ) (inside : Bool) (f : ℕ) (vs : List Value) (s : ActorState) (t : ThreadState) → MayCallAt ks inside f → inside ≡ false → link.rel s t → Related link (left_calls d inside f vs s) (right_calls d inside f vs t)
  calls_alike d =
      calls_related ActorState ThreadState link (λ e. on_replies validators) thread_forms n n functions (λ i. i ≡ false) (placed ks) (inl refl) thread_alike (function_placed functions sound) d

  -- a sound body's tree on exchanges that fit is the body on their events, and those behind them
  pub body_related : (body : Tree) (env : List Value) (s : ActorState) (t : ThreadState) → SoundTree ks in_thread (length env) None body → link.rel s t
      → Related link (closed (eval (on_replies validators) (left_calls (length functions)) n false body env s)) (closed (eval (thread_forms (length functions)) (right_calls (length functions)) n false body env t))
  body_related body env s t h r =
      let d = length functions in
      closed_related ActorState ThreadState link (eval (on_replies validators) (left_calls d) n false body env s) (eval (thread_forms d) (right_calls d) n false body env t)
      (eval_related ActorState ThreadState link (on_replies validators) (thread_forms d) (left_calls d) (right_calls d) n n (λ i. i ≡ false) (placed ks) (inl refl) (thread_alike d)
      (calls_alike d) body false env s t (thread_placed ks body (length env) None h) refl r)

  -- a callee that may be sent, applied on values
  sent_related : (span : Span) (c : Callee) (vs : List Value) (m : ℕ) (s : ActorState) (t : ThreadState) → SoundSent ks c m → link.rel s t
      → Related link (apply (left_calls (length functions) false) span c vs s) (apply (right_calls (length functions) false) span c vs t)
  sent_related span (CoreOp op) vs m s t h r = result_related ActorState ThreadState link (core op vs) span s t r
  sent_related span (Function f) vs m s t h r = calls_alike (length functions) false f vs s t (ap is_inside h.found ∙ h.zoned) refl r

  -- what its agent's validator makes of a value
  accepted_so : (o : Option Callee) → OfValidator (IsPure ks) o → (span : Span) (w : Value) (s : ActorState) (t : ThreadState) → link.rel s t
      → Related link (validated (apply (left_calls (length functions) false) span) o span w s) (validated (apply (right_calls (length functions) false) span) o span w t)
  accepted_so o pure span w s t r =
      let d = length functions in
      let q : Completion (Unit {0}) Value = validated (quietly n functions d span) o span w tt in
      let one = validated_carried (IsPure ks) s (apply (left_calls d false) span) (quietly n functions d span) (λ y vs p. left_callee d false span y vs s p) o pure span w in
      let two = validated_carried (IsPure ks) t (apply (right_calls d false) span) (quietly n functions d span) (λ y vs p. right_callee d false span y vs t p) o pure span w in
      subst (λ z. Related link (validated (apply (left_calls d false) span) o span w s) z) (sym two.0)
      (subst (λ z. Related link z (carried t q)) (sym one.0) (carried_alike link q s t one.1 r))

  -- an action on exchanges that fit is what it means on their events, and those behind them
  pub action_related : (g : CellId) (act : Action) (v : Value) (s : ActorState) (todo : List Exchange) (es : List SeenEvent) → SoundAction functions act → link.rel (taken_at g act v s todo).state (from_events (Some []) (es ++ a.tail))
      → Related link (action_source cells functions g act v s n todo) (action_meaning cells functions n act v (es ++ a.tail))
  action_related g act v s todo es h r =
      let d = length functions in
      let o = validator_at validators act.agent.number in
      bind_related ActorState ThreadState link (apply (left_calls d false) act.span act.callee (v ∷ act.args) (taken_at g act v s todo).state) (apply (right_calls d false) act.span act.callee (v ∷ act.args) (from_events (Some []) (es ++ a.tail)))
      (λ w s1. validated (apply (left_calls d false) act.span) o act.span w s1) (λ w t1. validated (apply (right_calls d false) act.span) o act.span w t1)
      (sent_related act.span act.callee (v ∷ act.args) (suc (length act.args)) (taken_at g act v s todo).state (from_events (Some []) (es ++ a.tail)) h r)
      (λ w s1 t1 r1. accepted_so o (checked act.agent.number) act.span w s1 t1 r1)

-- a sound thread's tree on exchanges that fit is the thread on their events, and those behind them
pub thread_related : (p : ThreadSource) → SoundSource p → (a : Account p.cells) (n : ℕ) (todo : List Exchange) (es : List SeenEvent) → IsBeside a.before a.from (fresh todo) (from_events None (es ++ a.tail)) → a.fits [] Out todo es
    → Related (account_link p.cells a) (source p n todo) (thread_meaning p n (es ++ a.tail))
thread_related p sound a n todo es beside fits =
    body_related p.cells p.functions sound.functions sound.cells a n p.main [] (fresh todo) (from_events None (es ++ a.tail)) sound.main (beside, es, refl, fits)
