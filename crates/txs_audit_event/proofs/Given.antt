-- What differs of what an action came to, by how it ends.
use Rattle.std.proofs.Common.{◌≡◌, ◌≤◌, ◌⊎◌, ℕ, suc, true, false, List, [], ◌∷◌, length, take, Option, Some, None, Result, Ok, Err, refl, sym, ap, ◌∙◌, subst, ⊎_elim}
use Rattle.txs_value_data.specs.declared.fault.Fault.{Fault}
use Rattle.txs_value_data.specs.declared.fault.Span.{Span}
use Rattle.txs_value_cell.specs.Cells.{validator_at, validators_of}
use Rattle.txs_value_cell.specs.declared.action.Action.{Action}
use Rattle.txs_value_data.specs.declared.value.Value.{Value}
use Rattle.txs_world_protocol.specs.SeenEvent.{SeenEvent}
use Rattle.txs_world_protocol.specs.declared.event.Event.{Event}
use Rattle.txs_world_book.specs.Book.{first_failed}
use Rattle.txs_world_book.specs.declared.cell.StoreCell.{StoreCell}
use Rattle.txs_tree_meaning.specs.Known.{known}
use Rattle.txs_tree_meaning.specs.Meaning.{Completion, Completes, Recurs, Faults, Retries, Waits, OutOfTurns, Invalid}
use Rattle.txs_tree_meaning.specs.Sound.{Sound}
use Rattle.txs_tree_meaning.specs.Right.{right_events}
use Rattle.txs_tree_meaning.specs.Thread.{ThreadState, action_in, around_action}
use Rattle.txs_tree_meaning.specs.Tree.{PlainProgram}
use Rattle.txs_tree_eval.specs.ActionTold.{ActionTellsOf, ActionTellsWrong, TellsAction, sends_held}
use Rattle.txs_tree_eval.specs.declared.action.ActionMeaning.{ActionMeaning}
use Rattle.txs_tree_eval.specs.declared.meaning.Needs.TheVariants as needs
use Rattle.txs_tree_eval.specs.declared.pure_call.EvalStop.{EvalStop}
use Rattle.txs_theorem_threads.proofs.Meant.{Any}
use Rattle.txs_theorem_threads.specs.FollowsAgent.{SoundAction}
use Rattle.txs_theorem_audit.specs.Verdict.{is_sent_call, sends_if}
use Rattle.txs_theorem_audit.proofs.Onward.{Step, action_leads}
use Rattle.txs_theorem_audit.specs.Evaluated.{ActionEnd, ActionGives, end_by_answers, means_on}
use Rattle.txs_theorem_audit.proofs.Evaluating.{found_so}
use Rattle.txs_audit_book.specs.Judged.{EndsBy}
use Rattle.txs_audit_event.proofs.Sending.{sent_of, source, source_sound}
use Rattle.txs_audit_event.specs.Given.{gave_by, is_open, is_short_end}
use Rattle.txs_audit_event.specs.Transactions.{gave_what, valued_what}

held_same : (o : Option (List Action)) → sends_if o ≡ sends_held o
held_same None = refl
held_same (Some sends) = refl

-- by what is answered of an action, and of its agent's validator
module _ (p : PlainProgram) (n : ℕ) (x : Action) (v : Value) (es : List SeenEvent) (m : ActionMeaning) (q : Result Value EvalStop) (sound : Sound p) (fits : SoundAction p.functions x) (gives : ActionGives p n x v es m q) where
  abbrev ends : ActionEnd
  ends = end_by_answers m (validator_at (validators_of p.cells) x.agent.number) x.span q

  pub gave_so : (cells : List StoreCell) (done : List Event) (span : Span) (new : Result Value Fault) (sends : List Action) → gave_what cells done span new sends (means_on p n x v es) ≡ gave_by cells done span new sends m.sends ends
  gave_so cells done span new sends =
      found_so p n x v sound fits es m q gives (gave_what cells done span new sends) (λ end asks out eaten held. gave_by cells done span new sends held end)
      (λ w t few. ap (λ l. valued_what (first_failed cells done l) span w l new sends) (held_same t.held))
      (λ f t held few. refl) (λ t few. refl) (λ t held few. refl) (λ out. refl)

  pub open_so : is_open (means_on p n x v es) ≡ is_short_end ends
  open_so = found_so p n x v sound fits es m q gives is_open (λ end asks out eaten held. is_short_end end) (λ w t few. refl) (λ f t held few. refl) (λ t few. refl) (λ t held few. refl) (λ out. refl)

-- ---- with more turns

shut_same : (c d : Completion ThreadState Value) → Step None Any c d → is_open c ≡ false → d ≡ c
shut_same (Completes v t) d h e = h
shut_same (Recurs vs t) d h e = h
shut_same (Faults f t) d h e = h
shut_same (Retries t) d h e = h
shut_same (Waits t) d h e = h
shut_same (OutOfTurns t) d h e = absurd cc
shut_same Invalid d h e = h

module _ (p : PlainProgram) (x : Action) (v : Value) (es : List SeenEvent) (sound : Sound p) (sent : is_sent_call (known p.functions) x.callee (suc (length x.args)) ≡ true) where
  fits : SoundAction p.functions x
  fits = sent_of (known p.functions) x.callee (suc (length x.args)) sent

  -- what turns suffice for is the same with more
  pub same_meant : (n m : ℕ) → n ≤ m → (n ≡ m) ⊎ (is_open (means_on p n x v es) ≡ false) → means_on p m x v es ≡ means_on p n x v es
  same_meant n m le enough =
      ⊎_elim (λ e. sym (ap (λ j. means_on p j x v es) e))
      (λ shut. shut_same (means_on p n x v es) (means_on p m x v es) (action_leads (source p x) (source_sound p sound x) n m le x v fits es).1 shut) enough

-- ---- what is answered

abbrev IsOk : Option (Result Value Fault) → Type 0
IsOk None = ⊥
IsOk (Some (Ok v)) = Unit {0}
IsOk (Some (Err f)) = ⊥

-- an action that has a value needs nothing
value_needs : (m : ActionMeaning) (k right : ℕ) (before c : Completion ThreadState Value) → ActionTellsOf m k right before c → (w : Value) → m.result ≡ Some (Ok w) → m.needs ≡ needs.Nothing
value_needs m k right before (Completes v t) h w is = h.needs
value_needs m k right before (Recurs vs t) h w is = absurd h
value_needs m k right before (Faults f t) h w is = h.needs
value_needs m k right before (Retries t) h w is = absurd h
value_needs m k right before (Waits t) h w is = absurd (subst IsOk (sym (sym h.result ∙ is)) tt)
value_needs m k right before (OutOfTurns t) h w is = absurd (subst IsOk (sym (sym h.result ∙ is)) tt)
value_needs m k right before Invalid h w is = wrong before h
  where
    wrong : (c : Completion ThreadState Value) → ActionTellsWrong m right c → m.needs ≡ needs.Nothing
    wrong (Completes v t) g = absurd g
    wrong (Recurs vs t) g = absurd g
    wrong (Faults f t) g = absurd g
    wrong (Retries t) g = absurd g
    wrong (Waits t) g = absurd (subst IsOk (sym (sym g.result ∙ is)) tt)
    wrong (OutOfTurns t) g = absurd g
    wrong Invalid g = absurd g

-- the parts of an answer, as the law of actions wants them
module _ (p : PlainProgram) (n : ℕ) (x : Action) (v : Value) (es : List SeenEvent) (m : ActionMeaning) (end : ActionEnd) (sound : Sound p) (sent : is_sent_call (known p.functions) x.callee (suc (length x.args)) ≡ true) (tells : TellsAction m p x.callee x.span (v ∷ x.args) n es) (ends_so : EndsBy p n x m end) where
  abbrev may : SoundAction p.functions x
  may = sent_of (known p.functions) x.callee (suc (length x.args)) sent

  abbrev callee : List SeenEvent → Completion ThreadState Value
  callee l = action_in (around_action p.cells p.functions n) x.callee x.span (v ∷ x.args) l

  gives_all : ActionGives p n x v es m ends_so.0
  gives_all = record {
    tells = tells;
    validator = λ w is. ends_so.2 w (value_needs m (length es) (right_events callee [] es) (callee (take (right_events callee [] es) es)) (callee es) tells w is) is;
  }

  pub gave_told : (cells : List StoreCell) (done : List Event) (span : Span) (new : Result Value Fault) (sends : List Action) → gave_by cells done span new sends m.sends end ≡ gave_what cells done span new sends (means_on p n x v es)
  gave_told cells done span new sends = ap (gave_by cells done span new sends m.sends) ends_so.1 ∙ sym (gave_so p n x v es m ends_so.0 sound may gives_all cells done span new sends)

  pub open_told : is_short_end end ≡ is_open (means_on p n x v es)
  open_told = ap is_short_end ends_so.1 ∙ sym (open_so p n x v es m ends_so.0 sound may gives_all)
