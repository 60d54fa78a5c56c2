-- What is answered of a thread or an action tells what it means, with as many turns as suffice and with more.
use Rattle.std.proofs.Common.{◌≡◌, ◌≤◌, ◌<◌, ◌⊎◌, ℕ, suc, ◌-◌, true, false, List, [], ◌∷◌, length, Option, Some, None, Result, Ok, Err, refl, sym, ap, ◌∙◌, subst, ⊎_elim, arith}
use Rattle.std.specs.Prelude.{not}
use Rattle.txs_value_data.specs.Places.{nth}
use Rattle.txs_value_data.specs.declared.fault.Fault.{Fault}
use Rattle.txs_value_cell.specs.declared.action.Action.{Action}
use Rattle.txs_value_data.specs.declared.value.Value.{Value}
use Rattle.txs_world_protocol.specs.SeenEvent.{SeenEvent}
use Rattle.txs_world_protocol.specs.declared.event.Outcome.{Outcome}
use Rattle.txs_world_protocol.specs.declared.event.Outcome.TheVariants.{Done, Failed}
use Rattle.txs_tree_meaning.specs.Known.{known}
use Rattle.txs_tree_meaning.specs.Meaning.{Completion, Completes, Recurs, Faults, Retries, Waits, OutOfTurns, Invalid}
use Rattle.txs_tree_meaning.specs.Right.{is_wrong}
use Rattle.txs_tree_meaning.specs.Sound.{Sound}
use Rattle.txs_tree_meaning.specs.Thread.{ThreadState, from_events}
use Rattle.txs_tree_meaning.specs.Tree.{PlainProgram, PlainThread}
use Rattle.txs_tree_eval.specs.ActionTold.{ActionAccount, ActionTellsOf, ActionTellsWrong}
use Rattle.txs_tree_eval.specs.Told.{Account, TellsOf, TellsWrong}
use Rattle.txs_tree_eval.specs.declared.action.ActionMeaning.{ActionMeaning}
use Rattle.txs_tree_eval.specs.declared.meaning.Needs.{Needs}
use Rattle.txs_tree_eval.specs.declared.meaning.Needs.TheVariants.{Nothing, Event, Turns}
use Rattle.txs_tree_eval.specs.declared.meaning.ThreadMeaning.{ThreadMeaning}
use Rattle.txs_theorem_threads.proofs.Meant.{Any, none_some}
use Rattle.txs_theorem_threads.specs.FollowsAll.{source_of}
use Rattle.txs_theorem_audit.specs.Verdict.{printed_by}
use Rattle.txs_theorem_audit.proofs.Onward.{From, Step, applied_leads, thread_leads}
use Rattle.txs_theorem_audit.specs.Evaluated.{prints_by}
use Rattle.txs_audit_book.proofs.Sources as piece
use Rattle.txs_audit_event.proofs.Sending.{sent_of, source, source_sound}
use Rattle.txs_audit_event.specs.Lines.{outcome_of}
use Rattle.txs_audit_event.specs.Meant.{Known, MayDo, MeantSo, MeantWrong, TellsMeant, doer_means, is_right, of_action, of_thread, ended_by, thread_means}
use Rattle.txs_audit_event.specs.Transactions.{awaited}
use Rattle.txs_audit_event.specs.declared.meant.Doer.{Doer}
use Rattle.txs_audit_event.specs.declared.meant.Doer.TheVariants as doer
use Rattle.txs_audit_event.specs.declared.meant.Meant.{Meant}

-- ---- what is answered

thread_so : (m : ThreadMeaning) (ate : ℕ) (t : ThreadState) (lack : Needs) (end : Option Outcome) → Account m ate t lack end → MeantSo (of_thread m) ate t lack end
thread_so m ate t lack end h = record { printed = h.printed; eaten = h.eaten; txs = h.txs; needs = h.needs; asks = h.asks; ended = h.outcome }

thread_wrong : (m : ThreadMeaning) (right : ℕ) (c : Completion ThreadState Value) → TellsWrong m right c → MeantWrong (of_thread m)
thread_wrong m right (Completes v t) h = absurd h
thread_wrong m right (Recurs vs t) h = absurd h
thread_wrong m right (Faults f t) h = absurd h
thread_wrong m right (Retries t) h = absurd h
thread_wrong m right (Waits t) h = record { needs = h.needs; asks = h.asks; ended = h.outcome }
thread_wrong m right (OutOfTurns t) h = absurd h
thread_wrong m right Invalid h = absurd h

pub thread_tells : (m : ThreadMeaning) (k right : ℕ) (b c : Completion ThreadState Value) → TellsOf m k right b c → TellsMeant (of_thread m) k c
thread_tells m k right b (Completes v t) h = thread_so m (k - length t.todo) t Nothing (Some Done) h
thread_tells m k right b (Recurs vs t) h = absurd h
thread_tells m k right b (Faults f t) h = thread_so m (k - length t.todo) t Nothing (Some (Failed f)) h
thread_tells m k right b (Retries t) h = absurd h
thread_tells m k right b (Waits t) h = thread_so m (k - length t.todo) t Event None h
thread_tells m k right b (OutOfTurns t) h = thread_so m (k - length t.todo) t Turns None h
thread_tells m k right b Invalid h = thread_wrong m right b h

action_so : (m : ActionMeaning) (ate : ℕ) (t : ThreadState) (lack : Needs) (end : Option (Result Value Fault)) (held : List Action) → ActionAccount m ate t lack end held → MeantSo (of_action m) ate t lack (ended_by end)
action_so m ate t lack end held h = record { printed = h.printed; eaten = h.eaten; txs = h.txs; needs = h.needs; asks = h.asks; ended = ap ended_by h.result }

action_wrong : (m : ActionMeaning) (right : ℕ) (c : Completion ThreadState Value) → ActionTellsWrong m right c → MeantWrong (of_action m)
action_wrong m right (Completes v t) h = absurd h
action_wrong m right (Recurs vs t) h = absurd h
action_wrong m right (Faults f t) h = absurd h
action_wrong m right (Retries t) h = absurd h
action_wrong m right (Waits t) h = record { needs = h.needs; asks = h.asks; ended = ap ended_by h.result }
action_wrong m right (OutOfTurns t) h = absurd h
action_wrong m right Invalid h = absurd h

pub action_tells : (m : ActionMeaning) (k right : ℕ) (b c : Completion ThreadState Value) → ActionTellsOf m k right b c → TellsMeant (of_action m) k c
action_tells m k right b (Completes v t) h = action_so m (k - length t.todo) t Nothing (Some (Ok v)) _ h
action_tells m k right b (Recurs vs t) h = absurd h
action_tells m k right b (Faults f t) h = action_so m (k - length t.todo) t Nothing (Some (Err f)) _ h
action_tells m k right b (Retries t) h = absurd h
action_tells m k right b (Waits t) h = action_so m (k - length t.todo) t Event None _ h
action_tells m k right b (OutOfTurns t) h = action_so m (k - length t.todo) t Turns None _ h
action_tells m k right b Invalid h = action_wrong m right b h

-- ---- with more turns

-- an answer that wants no turns tells of the same with more turns
pub tells_more : (m : Meant) (k : ℕ) (c d : Completion ThreadState Value) → TellsMeant m k c → Step None Any c d → (m.needs ≡ Turns → ⊥) → TellsMeant m k d
tells_more m k (Completes v t) d h step enough = subst (TellsMeant m k) (sym step) h
tells_more m k (Recurs vs t) d h step enough = absurd h
tells_more m k (Faults f t) d h step enough = subst (TellsMeant m k) (sym step) h
tells_more m k (Retries t) d h step enough = absurd h
tells_more m k (Waits t) d h step enough = subst (TellsMeant m k) (sym step) h
tells_more m k (OutOfTurns t) d h step enough = absurd (enough h.needs)
tells_more m k Invalid d h step enough = subst (TellsMeant m k) (sym step) h

-- what a thread or an action means with more turns goes on from what it means with fewer
module _ (p : PlainProgram) (sound : Sound p) (n m : ℕ) (le : n ≤ m) (es : List SeenEvent) where
  thread_steps : (i : ℕ) (o : Option PlainThread) → nth p.threads i ≡ o → Step None Any (thread_means p n o es) (thread_means p m o es)
  thread_steps i None there = refl
  thread_steps i (Some t) there = (thread_leads (source_of p t) (piece.source_sound p sound i t there) n m le es).1

  pub steps : (d : Doer) → MayDo p d → Step None Any (doer_means p n d es) (doer_means p m d es)
  steps (doer.Thread i) may = thread_steps i (nth p.threads i) refl
  steps (doer.Action x v) may =
      let fits = sent_of (known p.functions) x.now.callee (suc (length x.now.args)) may in
      (applied_leads (source p x.now) (source_sound p sound x.now) n m le x.now.span x.now.callee (v.now ∷ x.now.args) fits (from_events (Some []) es)).1

  -- an answer for which turns suffice, or that was given with as many as there may be
  pub within : (d : Doer) → MayDo p d → (a : Meant) (k : ℕ) → TellsMeant a k (doer_means p n d es) → (n ≡ m) ⊎ (a.needs ≡ Turns → ⊥) → TellsMeant a k (doer_means p m d es)
  within d may a k tells enough =
      ⊎_elim (λ e. subst (λ j. TellsMeant a k (doer_means p j d es)) e tells) (λ none. tells_more a k (doer_means p n d es) (doer_means p m d es) tells (steps d may) none) enough

-- ---- whether all events are allowed

right_same : (m : Meant) (k : ℕ) (c : Completion ThreadState Value) → TellsMeant m k c → is_right m.needs ≡ not (is_wrong c)
right_same m k (Completes v t) h = ap is_right h.needs
right_same m k (Recurs vs t) h = absurd h
right_same m k (Faults f t) h = ap is_right h.needs
right_same m k (Retries t) h = absurd h
right_same m k (Waits t) h = ap is_right h.needs
right_same m k (OutOfTurns t) h = ap is_right h.needs
right_same m k Invalid h = ap is_right h.needs

not_wrong : (u : ThreadState) (c : Completion ThreadState Value) → From None Any u c → u.todo ≡ [] → is_wrong c ≡ false
not_wrong u (Completes v t) h e = refl
not_wrong u (Recurs vs t) h e = absurd (none_some (length vs) h.0)
not_wrong u (Faults f t) h e = refl
not_wrong u (Retries t) h e = absurd h
not_wrong u (Waits t) h e = refl
not_wrong u (OutOfTurns t) h e = refl
not_wrong u Invalid h e = absurd (h e)

nothing : (es : List SeenEvent) → length es ≡ 0 → es ≡ []
nothing [] e = refl
nothing (x ∷ es) e = absurd (omega (arith, e))

-- what was eaten whole stays so
eaten_right : (m : Meant) (k : ℕ) (c d : Completion ThreadState Value) → TellsMeant m k c → Step None Any c d → 0 < k → m.eaten ≡ k → is_right m.needs ≡ not (is_wrong d)
eaten_right m k (Completes v t) d h step some all = ap is_right h.needs ∙ sym (ap (λ c. not (is_wrong c)) step)
eaten_right m k (Recurs vs t) d h step some all = absurd h
eaten_right m k (Faults f t) d h step some all = ap is_right h.needs ∙ sym (ap (λ c. not (is_wrong c)) step)
eaten_right m k (Retries t) d h step some all = absurd h
eaten_right m k (Waits t) d h step some all = ap is_right h.needs ∙ sym (ap (λ c. not (is_wrong c)) step)
eaten_right m k (OutOfTurns t) d h step some all =
    let ate : k - length t.todo ≡ k = sym h.eaten ∙ all in
    let none : length t.todo ≡ 0 = omega (arith, some, ate) in
    ap is_right h.needs ∙ sym (ap not (not_wrong t d step (nothing t.todo none)))
eaten_right m k Invalid d h step some all = ap is_right h.needs ∙ sym (ap (λ c. not (is_wrong c)) step)

pub known_right : (p : PlainProgram) → Sound p → (n m : ℕ) → n ≤ m → (es : List SeenEvent) (d : Doer) → MayDo p d → (a : Meant) (k : ℕ) → TellsMeant a k (doer_means p n d es) → 0 < k → Known a k n m true
    → is_right a.needs ≡ not (is_wrong (doer_means p m d es))
known_right p sound n m le es d may a k tells some known =
    let c = doer_means p n d es in
    let e = doer_means p m d es in
    let step = steps p sound n m le es d may in
    ⊎_elim (λ all. eaten_right a k c e tells step some all)
    (λ enough. right_same a k e (within p sound n m le es d may a k tells enough)) known

-- ---- what is read of an answer

pub prints_so : (m : Meant) (k : ℕ) (c : Completion ThreadState Value) → TellsMeant m k c → prints_by m.needs m.printed ≡ printed_by c
prints_so m k (Completes v t) h = ap (λ z. prints_by z m.printed) h.needs ∙ h.printed
prints_so m k (Recurs vs t) h = absurd h
prints_so m k (Faults f t) h = ap (λ z. prints_by z m.printed) h.needs ∙ h.printed
prints_so m k (Retries t) h = absurd h
prints_so m k (Waits t) h = ap (λ z. prints_by z m.printed) h.needs ∙ h.printed
prints_so m k (OutOfTurns t) h = ap (λ z. prints_by z m.printed) h.needs ∙ h.printed
prints_so m k Invalid h = ap (λ z. prints_by z m.printed) h.needs

pub ended_so : (m : Meant) (k : ℕ) (c : Completion ThreadState Value) → TellsMeant m k c → m.ended ≡ outcome_of c
ended_so m k (Completes v t) h = h.ended
ended_so m k (Recurs vs t) h = absurd h
ended_so m k (Faults f t) h = h.ended
ended_so m k (Retries t) h = absurd h
ended_so m k (Waits t) h = h.ended
ended_so m k (OutOfTurns t) h = h.ended
ended_so m k Invalid h = h.ended

pub asks_so : (m : Meant) (k : ℕ) (c : Completion ThreadState Value) → TellsMeant m k c → m.asks ≡ awaited c
asks_so m k (Completes v t) h = h.asks
asks_so m k (Recurs vs t) h = absurd h
asks_so m k (Faults f t) h = h.asks
asks_so m k (Retries t) h = absurd h
asks_so m k (Waits t) h = h.asks
asks_so m k (OutOfTurns t) h = h.asks
asks_so m k Invalid h = h.asks
