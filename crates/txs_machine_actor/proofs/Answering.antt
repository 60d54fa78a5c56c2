-- An actor can take the answers that it may have, and can go on after them.
use Rattle.std.proofs.Common.{◌≡◌, ℕ, zero, suc, ◌+◌, ◌-◌, ◌<◌, ◌≤◌, Bool, true, false, List, [], length, Option, Some, None, refl, sym, ap, ◌∙◌, subst, arith, ◌⊎◌, inl, inr}
use Rattle.txs_world_protocol.specs.Ask.{Writes}
use Rattle.txs_world_protocol.specs.declared.ask.Reply.{Reply}
use Rattle.txs_world_protocol.specs.declared.ask.Reply.TheVariants.{At, Is, Done, Opened, Full, Memory}
use Rattle.txs_world_protocol.specs.declared.event.Outcome.{Outcome}
use Rattle.txs_world_protocol.specs.declared.event.Outcome.TheVariants as outcome
use Rattle.txs_frame.specs.Frame.{commuted}
use Rattle.txs_frame.specs.Phase.{PlainPhase}
use Rattle.txs_frame.specs.declared.frame.Commute.{Commute}
use Rattle.txs_value_data.specs.Places.{nth, fault_at}
use Rattle.txs_value_data.specs.declared.value.Value.{Value}
use Rattle.txs_value_data.specs.declared.value.Value.TheVariants.{Cell}
use Rattle.txs_value_data.specs.declared.fault.FaultKind.TheVariants.{RetryLimit, AgentFailed}
use Rattle.txs_value_cell.specs.declared.form.LookForm.TheVariants.{Deref, Ensure}
use Rattle.txs_value_cell.specs.declared.form.PutForm.TheVariants.{Reset}
use Rattle.txs_value_cell.specs.declared.form.UpdateForm.TheVariants as update
use Rattle.txs_machine_stack.specs.Travels.{body_at}
use Rattle.txs_code_meaning.specs.Machine.{Frame}
use Rattle.txs_code_meaning.specs.PlainCode.{PlainCode, CodeBody}
use Rattle.txs_code_meaning.specs.WellTyped.{FunctionKind, form_of}
use Rattle.txs_value_data.specs.declared.value.CellId.{CellId}
use Rattle.txs_machine_stack.specs.PlainFrame.{PlainStack}
use Rattle.txs_code_meaning.specs.declared.instr.Instr.{Instr}
use Rattle.txs_code_meaning.specs.declared.instr.Instr.TheVariants as instr
use Rattle.txs_code_meaning.specs.declared.instr.OpenForm.TheVariants as open_form
use Rattle.txs_machine_loop.specs.Ready.{Setting, swaps_of, Ready}
use Rattle.txs_machine_loop.specs.Values.{last_of, put_under}
use Rattle.txs_machine_loop.proofs.Lists.{nth_index}
use Rattle.txs_machine_loop.proofs.Ready.{here_of}
use Rattle.txs_machine_actor.specs.PlainActor.{PlainActor, home_of, stops_as, asked_for, unanswered, MayAnswer, MayAnswerIf, begins_again, run_again, ends_again, opens_again, end_again, refuse, views, fails_as, ServesWell, IsFirst, has_failed, answered_for, answered_if, answered, functions_of, setting_of, Began, BeganAnew, BeganWell, swaps_in, NoneAside, AllApply, AllCanDo, WaitsAs, open_of, GoesOn, AsksWell, CanGoOn, Runs, attends_anew, ActsFor, attending_at, waits, AttendsOn, Attends, Lives, OpenApplies}
use Rattle.txs_machine_transaction.specs.Roles.{holds_all}
use Rattle.txs_machine_transaction.specs.Asks.{applied_in, ask_for}
use Rattle.txs_machine_transaction.specs.Transaction.{is_running, depth_in, IsSwapping}
use Rattle.txs_code_meaning.specs.Validating.{has_validator}
use Rattle.txs_value_cell.specs.Cells.{validators_of}
use Rattle.txs_machine_actor.specs.Turns.{TakesAnswer, HasJudged}
use Rattle.txs_machine_transaction.specs.declared.state.Savepoint.{Savepoint}
use Rattle.txs_machine_transaction.specs.declared.state.Transaction.{Transaction}
use Rattle.txs_machine_transaction.specs.declared.state.Transaction.TheVariants.{Outside, Restarting, Running, Applying, Evaluating, Swapping, Judging, Weighing}
use Rattle.txs_machine_transaction.specs.declared.state.Pending.{Pending}
use Rattle.txs_machine_transaction.specs.declared.state.Pending.TheVariants as pending
use Rattle.txs_machine_transaction.specs.declared.role.Role.{Role}
use Rattle.txs_machine_transaction.specs.declared.role.Role.TheVariants.{Thread, Attending, Acting}
use Rattle.txs_machine_actor.proofs.Applying.{AllLook, tasks_do, typed_look, length_blank, well_behind, callers_none, began_none, swap_none, swapless}
use Rattle.txs_machine_actor.proofs.Landing.{look_ready, begin_ready, end_ready, no_own_swap, open_stands, open_ready, put_stands, put_ready, send_stands, send_ready, close_stands, close_ready}
use Rattle.txs_machine_actor.proofs.Effects.{home_all}
use Rattle.txs_machine_actor.proofs.Replies.{by_reply}
use Rattle.txs_value_data.specs.declared.fault.Fault.{Fault}
use Rattle.txs_value_cell.specs.declared.action.Action.{Action}

-- the actor can go on, in whatever body, as the actor of the same thread
pub record Going (d : PlainCode) (kinds : List FunctionKind) (k : ℕ) (x : PlainActor) : Type 0 where
  pub number : x.number ≡ k
  pub body : CodeBody
  pub is : body_at d k x.body ≡ Some body
  pub goes : CanGoOn d kinds body x x.outcome x.pending

module _ (d : PlainCode) (kinds : List FunctionKind) (b : CodeBody) (a : PlainActor) (is : body_at d a.number a.body ≡ Some b)
    (look : AllLook (functions_of d kinds) (has_validator d.cells) (validators_of d.cells)) where
  -- the actor after an answer can go on, or has ended
  abbrev After : PlainActor → Type 0
  After x = Going d kinds a.number x ⊎ Attends d x

  abbrev set : Setting
  set = setting_of d kinds a.body

  -- the frames below all others
  abbrev home : List Frame
  home = home_of a.role

  -- no swap is in hand in a transaction
  unswapped : depth_in a.tx ≡ 1 → swaps_in a.tx ≡ 0
  unswapped e = swapless a.tx (omega (arith, e))

  within : (i : Instr) → nth b.instrs a.place ≡ Some i → a.place < length b.instrs
  within i e = (nth_index b.instrs a.place i instr.Halt e).0

  deep_enough : (own : ℕ × ℕ) → Ready set d.constants b a.locals a.place a.values a.room own → length a.values ≤ a.room
  deep_enough own r = let h = here_of set d.constants b a.locals a.place a.values a.room own r in omega (arith, h.shallow, r.roomy, r.deep)

  -- an actor in the same body
  goes_so : (x : PlainActor) → x.number ≡ a.number → x.outcome ≡ None → x.pending ≡ None → x.body ≡ a.body → GoesOn d kinds b x → After x
  goes_so x n e f same g =
      inl (record { number = n; body = b; is = ap (λ y. body_at d a.number y) same ∙ is; goes = subst (λ (q : Option Pending). CanGoOn d kinds b x x.outcome q) (sym f) (subst (λ (o : Option Outcome). CanGoOn d kinds b x o None) (sym e) g) })

  -- one that has ended
  ends_so : (o : Outcome) → After (stops_as a o)
  ends_so o = inl (record { number = refl; body = b; is = is; goes = tt })

  -- it goes on as it is
  stays_so : a.outcome ≡ None → GoesOn d kinds b a → After (record a { pending = None })
  stays_so e g =
      goes_so (record a { pending = None }) refl e refl refl
      (record { own = g.own; base = g.base; ready = g.ready; enters = g.enters; callers = g.callers; is_first = g.is_first; counted = g.counted; swaps = g.swaps; began = g.began; shallow = g.shallow; commutes = g.commutes; opened = g.opened; serves = g.serves; applies = g.applies })

  -- the fault of an action is handed in next, by its agent's own body
  fails_goes : (f : Fault) → a.outcome ≡ None → AllApply (functions_of d kinds) a.done.commutes → OpenApplies (functions_of d kinds) a.commuting → (r : Role) → ServesWell d kinds a.number r → After (fails_as a f r)
  fails_goes f e all can Thread w = ends_so (outcome.Failed f)
  fails_goes f e all can (Attending h o) w = absurd w
  fails_goes f e all can (Acting h judges aside) w =
      let typed = w.0.typed.typed in
      let same : kinds ≡ typed.kinds = sym w.0.typed.same in
      inr
      (record {
        function_rooms = w.0.typed.function_rooms;
        thread_rooms = w.0.typed.thread_rooms;
        typed = typed;
        agent = h.agent;
        acting = Some (record h { fault = Some f });
        here = refl;
        actor = w.0.actor;
        roomy = w.0.roomy;
        commutes = subst (λ (y : List FunctionKind). AllApply (functions_of d y) a.done.commutes) same all;
        opened = subst (λ (y : List FunctionKind). OpenApplies (functions_of d y) a.commuting) same can;
        attends = subst (λ (o : Option Outcome). AttendsOn d h.agent (fails_as a f (Acting h judges aside)) o None) (sym e) (has_failed (record h { fault = Some f }) f (stood_so judges w.0.is) refl refl);
      })
    where
      Stood : Bool → PlainStack → Type 0
      Stood j y = fails_as a f (Acting h j y) ≡ attending_at (fails_as a f (Acting h j y)) h.agent (Some (record h { fault = Some f })) 2 []

      stood_so : (j : Bool) → WaitsAs j aside → Stood j aside
      stood_so false q = subst (λ (y : PlainStack). Stood false y) (sym q) refl
      stood_so true q = subst (λ (y : PlainStack). Stood true y) (sym q.1) refl

  begins_goes : (left : ℕ) (from : Savepoint) → a.outcome ≡ None → GoesOn d kinds b a → BeganAnew d kinds a.number home from → After (begins_again a left from)
  begins_goes zero from e g w = fails_goes (fault_at RetryLimit from.span) e g.commutes g.opened a.role g.serves
  begins_goes (suc left) from e g w =
      let x = begins_again a (suc left) from in
      let v = w.0 in
      let go : GoesOn d kinds v.stands.code_body x =
      record { own = (0, 0); base = (0, 0); ready = v.stands.ready; enters = v.stands.enters; callers = v.callers; is_first = v.is_first; counted = refl; swaps = refl; began = tt; shallow = omega arith; commutes = g.commutes; opened = g.opened; serves = g.serves; applies = w.1 } in
      inl (record { number = refl; body = v.stands.code_body; is = v.stands.is; goes = subst (λ (o : Option Outcome). CanGoOn d kinds v.stands.code_body x o None) (sym e) go })

  -- the swap goes again from its open
  opens_goes : (from : Savepoint) → a.outcome ≡ None → GoesOn d kinds b a → Began d kinds a.number home from → After (opens_again a from)
  opens_goes from e g v =
      let x = opens_again a from in
      let go : GoesOn d kinds v.stands.code_body x =
      record { own = (0, 0); base = (0, 0); ready = v.stands.ready; enters = v.stands.enters; callers = v.callers; is_first = v.is_first; counted = refl; swaps = refl; began = tt; shallow = omega arith; commutes = g.commutes; opened = g.opened; serves = g.serves; applies = tt } in
      inl (record { number = refl; body = v.stands.code_body; is = v.stands.is; goes = subst (λ (o : Option Outcome). CanGoOn d kinds v.stands.code_body x o None) (sym e) go })

  swap_again_goes : (t : Transaction) → IsSwapping t → a.outcome ≡ None → GoesOn d kinds b a → BeganWell d kinds a.number home t → After (end_again a t)
  swap_again_goes Outside s e g w = absurd s
  swap_again_goes (Restarting left) s e g w = absurd s
  swap_again_goes (Running left inner from) s e g w = absurd s
  swap_again_goes (Applying left from phase) s e g w = absurd s
  swap_again_goes (Evaluating left from phase aside) s e g w = absurd s
  swap_again_goes (Swapping c p from) s e g w = opens_goes from e g w
  swap_again_goes (Judging aside) s e g w = absurd s
  swap_again_goes (Weighing c p from aside) s e g w = absurd s

  again_goes : (t : Transaction) → a.outcome ≡ None → GoesOn d kinds b a → BeganWell d kinds a.number home t → After (run_again a t)
  again_goes Outside e g w = stays_so e g
  again_goes (Restarting left) e g w = stays_so e g
  again_goes (Running left inner from) e g w = begins_goes left from e g w
  again_goes (Applying left from phase) e g w = begins_goes left from e g w
  again_goes (Evaluating left from phase aside) e g w = stays_so e g
  again_goes (Swapping c p from) e g w = stays_so e g
  again_goes (Judging aside) e g w = stays_so e g
  again_goes (Weighing c p from aside) e g w = stays_so e g

  ends_goes : (left : ℕ) (from : Savepoint) → a.outcome ≡ None → (g : GoesOn d kinds b a) → NoneAside a.tx → g.base.0 + g.own.0 ≡ 1 → g.base.1 + g.own.1 ≡ 0 → 1 ≤ a.steps → BeganAnew d kinds a.number home from → After (ends_again a left from)
  ends_goes zero from e g u c z le w = fails_goes (fault_at RetryLimit from.span) e g.commutes g.opened a.role g.serves
  ends_goes (suc left) from e g u c z le w =
      goes_so (ends_again a (suc left) from) refl e refl refl
      (record { own = g.own; base = g.base; ready = g.ready; enters = g.enters; callers = callers_none d kinds a.number a.tx a.frames g.base u g.callers; is_first = began_none kinds home a.tx a.frames a.body u g.is_first; counted = c; swaps = z; began = w; shallow = le; commutes = g.commutes; opened = g.opened; serves = g.serves; applies = tt })

  end_again_goes : (t : Transaction) → a.outcome ≡ None → (g : GoesOn d kinds b a) → NoneAside a.tx → g.base.0 + g.own.0 ≡ 1 → g.base.1 + g.own.1 ≡ 0 → 1 ≤ a.steps → BeganWell d kinds a.number home t → After (end_again a t)
  end_again_goes Outside e g u c z le w = stays_so e g
  end_again_goes (Restarting left) e g u c z le w = stays_so e g
  end_again_goes (Running left inner from) e g u c z le w = ends_goes left from e g u c z le w
  end_again_goes (Applying left from phase) e g u c z le w = ends_goes left from e g u c z le w
  end_again_goes (Evaluating left from phase aside) e g u c z le w = stays_so e g
  end_again_goes (Swapping x p from) e g u c z le w = opens_goes from e g w
  end_again_goes (Judging aside) e g u c z le w = stays_so e g
  end_again_goes (Weighing x p from aside) e g u c z le w = stays_so e g

  refuse_goes : (t : Transaction) → a.outcome ≡ None → GoesOn d kinds b a → After (refuse a t)
  refuse_goes Outside e g = stays_so e g
  refuse_goes (Restarting left) e g = stays_so e g
  refuse_goes (Running left inner from) e g = fails_goes (fault_at AgentFailed from.span) e g.commutes g.opened a.role g.serves
  refuse_goes (Applying left from phase) e g = fails_goes (fault_at AgentFailed from.span) e g.commutes g.opened a.role g.serves
  refuse_goes (Evaluating left from phase aside) e g = stays_so e g
  refuse_goes (Swapping c p from) e g = stays_so e g
  refuse_goes (Judging aside) e g = stays_so e g
  refuse_goes (Weighing c p from aside) e g = stays_so e g

  -- the commutes are applied from now on
  views_goes : (t : Transaction) (phase : PlainPhase) (q : ℕ) (vs : List Value) → a.outcome ≡ None → (g : GoesOn d kinds b a) → NoneAside a.tx → g.base.0 + g.own.0 ≡ 1 → g.base.1 + g.own.1 ≡ 0 → 1 ≤ a.steps → BeganWell d kinds a.number home t → nth b.instrs a.place ≡ Some instr.TxEnd
      → AllCanDo (functions_of d kinds) (has_validator d.cells) phase.work
      → After (views a phase q vs t)
  views_goes Outside phase q vs e g u c z le w is_end all = stays_so e g
  views_goes (Restarting left) phase q vs e g u c z le w is_end all = stays_so e g
  views_goes (Running left inner from) phase q vs e g u c z le w is_end all =
      goes_so (views a phase q vs (Running left inner from)) refl e refl refl
      (record { own = g.own; base = g.base; ready = g.ready; enters = g.enters; callers = callers_none d kinds a.number a.tx a.frames g.base u g.callers; is_first = began_none kinds home a.tx a.frames a.body u g.is_first; counted = c; swaps = z; began = w; shallow = le; commutes = g.commutes; opened = g.opened; serves = g.serves; applies = (is_end, all) })
  views_goes (Applying left from before) phase q vs e g u c z le w is_end all = stays_so e g
  views_goes (Evaluating left from before aside) phase q vs e g u c z le w is_end all = stays_so e g
  views_goes (Swapping x p from) phase q vs e g u c z le w is_end all = stays_so e g
  views_goes (Judging aside) phase q vs e g u c z le w is_end all = stays_so e g
  views_goes (Weighing x p from aside) phase q vs e g u c z le w is_end all = stays_so e g

  full_ends : (p : Pending) → After (answered_for a p Full)
  full_ends (pending.Begin left from) = ends_so outcome.JournalFull
  full_ends (pending.Read c) = ends_so outcome.JournalFull
  full_ends (pending.Ensure c es) = ends_so outcome.JournalFull
  full_ends (pending.Open c n kept) = ends_so outcome.JournalFull
  full_ends (pending.View phase) = ends_so outcome.JournalFull
  full_ends (pending.Reset c v) = ends_so outcome.JournalFull
  full_ends (pending.Send x n) = ends_so outcome.JournalFull
  full_ends (pending.Swap c n from) = ends_so outcome.JournalFull
  full_ends (pending.Close c p v) = ends_so outcome.JournalFull
  full_ends pending.Commit = ends_so outcome.JournalFull
  full_ends (pending.Hold xs) = ends_so outcome.JournalFull
  full_ends (pending.Fail f) = ends_so outcome.JournalFull
  full_ends (pending.Broke c p f) = ends_so outcome.JournalFull
  full_ends (pending.Take ag) = ends_so outcome.JournalFull
  full_ends (pending.Finish ag new) = ends_so outcome.JournalFull

  memory_ends : (p : Pending) → After (answered_for a p Memory)
  memory_ends (pending.Begin left from) = ends_so outcome.Memory
  memory_ends (pending.Read c) = ends_so outcome.Memory
  memory_ends (pending.Ensure c es) = ends_so outcome.Memory
  memory_ends (pending.Open c n kept) = ends_so outcome.Memory
  memory_ends (pending.View phase) = ends_so outcome.Memory
  memory_ends (pending.Reset c v) = ends_so outcome.Memory
  memory_ends (pending.Send x n) = ends_so outcome.Memory
  memory_ends (pending.Swap c n from) = ends_so outcome.Memory
  memory_ends (pending.Close c p v) = ends_so outcome.Memory
  memory_ends pending.Commit = ends_so outcome.Memory
  memory_ends (pending.Hold xs) = ends_so outcome.Memory
  memory_ends (pending.Fail f) = ends_so outcome.Memory
  memory_ends (pending.Broke c p f) = ends_so outcome.Memory
  memory_ends (pending.Take ag) = ends_so outcome.Memory
  memory_ends (pending.Finish ag new) = ends_so outcome.Memory

  full_taken : (p : Pending) → TakesAnswer a (length b.instrs) (Some p) Full
  full_taken (pending.Begin left from) = tt
  full_taken (pending.Read c) = tt
  full_taken (pending.Ensure c es) = tt
  full_taken (pending.Open c n kept) = tt
  full_taken (pending.View phase) = tt
  full_taken (pending.Reset c v) = tt
  full_taken (pending.Send x n) = tt
  full_taken (pending.Swap c n from) = tt
  full_taken (pending.Close c p v) = tt
  full_taken pending.Commit = tt
  full_taken (pending.Hold xs) = tt
  full_taken (pending.Fail f) = tt
  full_taken (pending.Broke c p f) = tt
  full_taken (pending.Take ag) = tt
  full_taken (pending.Finish ag new) = tt

  memory_taken : (p : Pending) → TakesAnswer a (length b.instrs) (Some p) Memory
  memory_taken (pending.Begin left from) = tt
  memory_taken (pending.Read c) = tt
  memory_taken (pending.Ensure c es) = tt
  memory_taken (pending.Open c n kept) = tt
  memory_taken (pending.View phase) = tt
  memory_taken (pending.Reset c v) = tt
  memory_taken (pending.Send x n) = tt
  memory_taken (pending.Swap c n from) = tt
  memory_taken (pending.Close c p v) = tt
  memory_taken pending.Commit = tt
  memory_taken (pending.Hold xs) = tt
  memory_taken (pending.Fail f) = tt
  memory_taken (pending.Broke c p f) = tt
  memory_taken (pending.Take ag) = tt
  memory_taken (pending.Finish ag new) = tt

  -- an agent is at the beginning of its own body again
  goes_home : (ag : CellId) → a.outcome ≡ None → AllApply (functions_of d kinds) a.done.commutes → OpenApplies (functions_of d kinds) a.commuting → (r : Role) → ActsFor d kinds a.number ag r → Attends d (attends_anew a r)
  goes_home ag e all can Thread w = absurd w
  goes_home ag e all can (Attending h o) w = absurd w
  goes_home ag e all can (Acting h judges aside) w =
      let typed = w.1.typed.typed in
      let same : kinds ≡ typed.kinds = sym w.1.typed.same in
      record {
        function_rooms = w.1.typed.function_rooms;
        thread_rooms = w.1.typed.thread_rooms;
        typed = typed;
        agent = h.agent;
        acting = None;
        here = refl;
        actor = w.1.actor;
        roomy = w.1.roomy;
        commutes = subst (λ (y : List FunctionKind). AllApply (functions_of d y) a.done.commutes) same all;
        opened = subst (λ (y : List FunctionKind). OpenApplies (functions_of d y) a.commuting) same can;
        attends = subst (λ (o : Option Outcome). AttendsOn d h.agent (attends_anew a (Acting h judges aside)) o None) (sym e) (waits (stood_so judges w.1.is));
      }
    where
      Stood : Bool → PlainStack → Type 0
      Stood j y = attends_anew a (Acting h j y) ≡ attending_at (attends_anew a (Acting h j y)) h.agent None 0 []

      stood_so : (j : Bool) → WaitsAs j aside → Stood j aside
      stood_so false q = subst (λ (y : PlainStack). Stood false y) (sym q) refl
      stood_so true q = subst (λ (y : PlainStack). Stood true y) (sym q.1) refl

  -- the value that an agent's validator looks at is there while its function runs
  serves_judged : (r : Role) → ServesWell d kinds a.number r → HasJudged r
  serves_judged Thread w = tt
  serves_judged (Attending h o) w = tt
  serves_judged (Acting h false aside) w = tt
  serves_judged (Acting h true aside) w = subst (λ (y : PlainStack). 0 < length y.values) (sym w.0.is.1) (omega arith)

  -- an actor serves as well where the action holds these sends
  holds_serves : (xs : List Action) (r : Role) → ServesWell d kinds a.number r → ServesWell d kinds a.number (holds_all xs r)
  holds_serves xs Thread w = tt
  holds_serves xs (Attending h o) w = absurd w
  holds_serves xs (Acting h judges aside) w = w

  -- the value that an agent's validator looked at is there
  judged_by : (ag : CellId) (r : Role) → ActsFor d kinds a.number ag r → HasJudged r
  judged_by ag Thread w = absurd w
  judged_by ag (Attending h o) w = absurd w
  judged_by ag (Acting h false aside) w = tt
  judged_by ag (Acting h true aside) w = subst (λ (y : PlainStack). 0 < length y.values) (sym w.1.is.1) (omega arith)

  pub takes : (p : Pending) (inside : Bool) (at view : ℕ) (ws : Writes) (r : Reply) → AsksWell d kinds b a p → MayAnswer (ask_for p inside at view ws a.done) r → TakesAnswer a (length b.instrs) (Some p) r
  takes p inside at view ws r w m =
      by_reply (λ q i x. AsksWell d kinds b a q → TakesAnswer a (length b.instrs) (Some q) x) a.done
      (record {
        begins = λ left from i x k. within instr.TxBegin k.1.0;
        reads = λ c i v k.
            let l = look_ready set d.constants b a.locals a.place a.values a.room k.0.own k.0.ready Deref k.1 v in
            (within (instr.Look Deref) k.1, omega (arith, l.0), deep_enough k.0.own k.0.ready);
        reads_again = λ c x k. serves_judged a.role k.0.serves;
        ensures = λ c es i v k.
            let l = look_ready set d.constants b a.locals a.place a.values a.room k.0.own k.0.ready Ensure k.1.0 v in
            (within (instr.Look Ensure) k.1.0, omega (arith, l.0), deep_enough k.0.own k.0.ready, k.1.1);
        ensures_again = λ c es i x k. serves_judged a.role k.0.serves;
        opens = λ c n kept i v k.
            let l = open_stands set d.constants b a.locals a.place a.values a.room k.0.own k.0.ready (open_of kept) n k.1.0 in
            (within (instr.Open (open_of kept) n) k.1.0, omega (arith, l.0), l.2);
        opens_again = λ c n kept i x k. serves_judged a.role k.0.serves;
        views = λ phase i q vs e k. e ∙ sym (ap (λ (x : PlainPhase). length x.values) k.1.2 ∙ length_blank (commuted a.done));
        resets = λ c v i k.
            let l = put_stands set d.constants b a.locals a.place a.values a.room k.0.own k.0.ready Reset k.1 in
            (within (instr.Put Reset) k.1, omega (arith, l.0), deep_enough k.0.own k.0.ready);
        sends = λ x n i k.
            let l = send_stands set d.constants b a.locals a.place a.values a.room k.0.own k.0.ready x.callee n k.1 in
            (within (instr.Send x.callee n) k.1, omega (arith, l.0), deep_enough k.0.own k.0.ready);
        refused = λ x n i g k. tt;
        opens_atom = λ c n from i p v k.
            let l = open_stands set d.constants b a.locals a.place a.values a.room k.0.own k.0.ready (open_form.Swap k.1.0.0) n k.1.0.1 in
            (within (instr.Open (open_form.Swap k.1.0.0) n) k.1.0.1, omega (arith, l.0), l.2);
        closes_atom = λ c p v i k.
            let l = close_stands set d.constants b a.locals a.place a.values a.room k.0.own k.0.ready update.Swap k.1.0 in
            (within (instr.Close update.Swap) k.1.0, omega (arith, l.0), deep_enough k.0.own k.0.ready);
        swaps_again = λ c p v i x k. serves_judged a.role k.0.serves;
        commits = λ i k. within instr.TxEnd k.1.0;
        commits_again = λ i x k. serves_judged a.role k.0.serves;
        changed = λ i x k. serves_judged a.role k.0.serves;
        denied = λ i x k. serves_judged a.role k.0.serves;
        holds = λ xs i k. within instr.TxEnd k.1.0;
        holds_again = λ xs i x k. serves_judged a.role k.0.serves;
        holds_changed = λ xs i x k. serves_judged a.role k.0.serves;
        holds_denied = λ xs i x k. serves_judged a.role k.0.serves;
        fails = λ f i k. serves_judged a.role k.1;
        breaks = λ c p f i k. serves_judged a.role k.1;
        takes = λ ag i n x v k. absurd k.1;
        idles = λ ag i k. absurd k.1;
        finishes = λ ag new i k. judged_by ag a.role k.0;
        refuses = λ ag new i h k. judged_by ag a.role k.0;
        full = λ q i k. full_taken q;
        memory = λ q i k. memory_taken q;
      }) p inside at view ws r m w

  -- `alter` and `commute` are no swaps
  no_swap : (had : Option Commute) → swaps_of (form_of (open_of had)) ≡ 0
  no_swap None = refl
  no_swap (Some k) = refl

  opened_ready : (g : GoesOn d kinds b a) (had : Option Commute) (n : ℕ) → nth b.instrs a.place ≡ Some (instr.Open (open_of had) n) → (v : Value) → Ready set d.constants b a.locals (a.place + 1) (put_under n v a.values) a.room (g.own.0, 0)
  opened_ready g had n e v =
      subst (λ (x : ℕ). Ready set d.constants b a.locals (a.place + 1) (put_under n v a.values) a.room (g.own.0, x)) (no_swap had)
      (open_ready set d.constants b a.locals a.place a.values a.room g.own g.ready (open_of had) n e v)

  pub lands : (p : Pending) (inside : Bool) (at view : ℕ) (ws : Writes) (r : Reply) → a.outcome ≡ None → AsksWell d kinds b a p → MayAnswer (ask_for p inside at view ws a.done) r → After (answered_for a p r)
  lands p inside at view ws r e w m =
      by_reply (λ q i x. AsksWell d kinds b a q → After (answered_for a q x)) a.done
      (record {
        begins = λ left from i x k.
            let g = k.0 in
            let t = begin_ready set d.constants b a.locals a.place a.values a.room g.own g.ready k.1.0 in
            let c = g.counted in
            let u = k.1.5 in
            goes_so (answered_for a (pending.Begin left from) (At x)) refl e refl refl
            (record { own = (suc g.own.0, g.own.1); base = g.base; ready = t; enters = g.enters; callers = callers_none d kinds a.number a.tx a.frames g.base u g.callers; is_first = began_none kinds home a.tx a.frames a.body u g.is_first; counted = omega (arith, c, k.1.1); swaps = g.swaps ∙ k.1.4; began = k.1.3; shallow = let h = k.1.2 in omega (arith, h); commutes = tt; opened = tt; serves = g.serves; applies = tt });
        reads = λ c i v k.
            let g = k.0 in
            goes_so (answered_for a (pending.Read c) (Is v)) refl e refl refl
            (record { own = g.own; base = g.base; ready = (look_ready set d.constants b a.locals a.place a.values a.room g.own g.ready Deref k.1 v).1; enters = g.enters; callers = g.callers; is_first = g.is_first; counted = g.counted; swaps = g.swaps; began = g.began; shallow = g.shallow; commutes = g.commutes; opened = g.opened; serves = g.serves; applies = well_behind d kinds a.number home b b a.place (a.place + 1) a.tx (instr.Look Deref) g.applies k.1 (λ x. cc) (λ x. cc) });
        reads_again = λ c x k. again_goes a.tx e k.0 k.0.began;
        ensures = λ c es i v k.
            let g = k.0 in
            goes_so (answered_for a (pending.Ensure c es) (Is v)) refl e refl refl
            (record { own = g.own; base = g.base; ready = (look_ready set d.constants b a.locals a.place a.values a.room g.own g.ready Ensure k.1.0 v).1; enters = g.enters; callers = g.callers; is_first = g.is_first; counted = g.counted; swaps = g.swaps; began = g.began; shallow = g.shallow; commutes = g.commutes; opened = g.opened; serves = g.serves; applies = well_behind d kinds a.number home b b a.place (a.place + 1) a.tx (instr.Look Ensure) g.applies k.1.0 (λ x. cc) (λ x. cc) });
        ensures_again = λ c es i x k. again_goes a.tx e k.0 k.0.began;
        opens = λ c n kept i v k.
            let g = k.0 in
            let none = no_own_swap set d.constants b a.locals a.place a.values a.room g.own g.ready (instr.Open (open_of kept) n) k.1.0 tt in
            let s = g.swaps in
            goes_so (answered_for a (pending.Open c n kept) (Is v)) refl e refl refl
            (record { own = (g.own.0, 0); base = g.base; ready = opened_ready g kept n k.1.0 v; enters = g.enters; callers = g.callers; is_first = g.is_first; counted = g.counted; swaps = omega (arith, s, none); began = g.began; shallow = g.shallow; commutes = g.commutes; opened = k.1.1; serves = g.serves; applies = well_behind d kinds a.number home b b a.place (a.place + 1) a.tx (instr.Open (open_of kept) n) g.applies k.1.0 (λ x. cc) (λ x. cc) });
        opens_again = λ c n kept i x k. again_goes a.tx e k.0 k.0.began;
        views = λ phase i q vs f k.
            let le = k.0.shallow in
            views_goes a.tx phase q vs e k.0 k.1.3 (k.0.counted ∙ k.1.1) (k.0.swaps ∙ unswapped k.1.1) (omega (arith, le, k.1.1)) k.0.began k.1.0 (subst (λ (x : PlainPhase). AllCanDo (functions_of d kinds) (has_validator d.cells) x.work) (sym k.1.2) (tasks_do (functions_of d kinds) (has_validator d.cells) (validators_of d.cells) look a.done k.0.commutes));
        resets = λ c v i k.
            let g = k.0 in
            goes_so (answered_for a (pending.Reset c v) Done) refl e refl refl
            (record { own = g.own; base = g.base; ready = put_ready set d.constants b a.locals a.place a.values a.room g.own g.ready Reset k.1 (last_of a.values); enters = g.enters; callers = g.callers; is_first = g.is_first; counted = g.counted; swaps = g.swaps; began = g.began; shallow = g.shallow; commutes = g.commutes; opened = g.opened; serves = g.serves; applies = well_behind d kinds a.number home b b a.place (a.place + 1) a.tx (instr.Put Reset) g.applies k.1 (λ x. cc) (λ x. cc) });
        sends = λ x n i k.
            let g = k.0 in
            goes_so (answered_for a (pending.Send x n) Done) refl e refl refl
            (record { own = g.own; base = g.base; ready = send_ready set d.constants b a.locals a.place a.values a.room g.own g.ready x.callee n k.1 (Cell x.agent); enters = g.enters; callers = g.callers; is_first = g.is_first; counted = g.counted; swaps = g.swaps; began = g.began; shallow = g.shallow; commutes = g.commutes; opened = g.opened; serves = g.serves; applies = well_behind d kinds a.number home b b a.place (a.place + 1) a.tx (instr.Send x.callee n) g.applies k.1 (λ y. cc) (λ y. cc) });
        refused = λ x n i g k. ends_so (outcome.Failed (fault_at AgentFailed x.span));
        commits = λ i k.
            let g = k.0 in
            let t = end_ready set d.constants b a.locals a.place a.values a.room g.own g.ready k.1.0 in
            let c = g.counted in
            goes_so (answered_for a pending.Commit Done) refl e refl refl
            (record { own = (g.own.0 - 1, g.own.1); base = g.base; ready = t.1; enters = g.enters; callers = callers_none d kinds a.number a.tx a.frames g.base k.1.2 g.callers; is_first = began_none kinds home a.tx a.frames a.body k.1.2 g.is_first; counted = omega (arith, c, t.0, k.1.1); swaps = g.swaps ∙ unswapped k.1.1; began = tt; shallow = omega arith; commutes = g.commutes; opened = g.opened; serves = g.serves; applies = tt });
        holds = λ xs i k.
            let g = k.0 in
            let t = end_ready set d.constants b a.locals a.place a.values a.room g.own g.ready k.1.0 in
            let c = g.counted in
            goes_so (answered_for a (pending.Hold xs) Done) refl e refl refl
            (record { own = (g.own.0 - 1, g.own.1); base = g.base; ready = t.1; enters = g.enters; callers = callers_none d kinds a.number a.tx a.frames g.base k.1.2 g.callers; is_first = subst (λ (y : List Frame). IsFirst kinds y a.frames a.body) (sym (home_all xs a.role)) (began_none kinds home a.tx a.frames a.body k.1.2 g.is_first); counted = omega (arith, c, t.0, k.1.1); swaps = g.swaps ∙ unswapped k.1.1; began = tt; shallow = omega arith; commutes = g.commutes; opened = g.opened; serves = holds_serves xs a.role g.serves; applies = tt });
        opens_atom = λ c n from i p v k.
            let g = k.0 in
            let f = k.1.0.0 in
            let none : NoneAside a.tx = subst NoneAside (sym k.1.1) tt in
            let depth : depth_in a.tx ≡ 0 = ap depth_in k.1.1 in
            let many : swaps_in a.tx ≡ 0 = ap swaps_in k.1.1 in
            let s = g.swaps in
            goes_so (answered_for a (pending.Swap c n from) (Opened p v)) refl e refl refl
            (record { own = (g.own.0, 1); base = g.base; ready = open_ready set d.constants b a.locals a.place a.values a.room g.own g.ready (open_form.Swap f) n k.1.0.1 v; enters = g.enters; callers = callers_none d kinds a.number a.tx a.frames g.base none g.callers; is_first = began_none kinds home a.tx a.frames a.body none g.is_first; counted = g.counted ∙ depth; swaps = omega (arith, s, many); began = k.1.2; shallow = omega arith; commutes = g.commutes; opened = g.opened; serves = g.serves; applies = tt });
        closes_atom = λ c p v i k.
            let g = k.0 in
            let n = swap_none a.tx k.1.1 in
            let l = close_stands set d.constants b a.locals a.place a.values a.room g.own g.ready update.Swap k.1.0 in
            let s = g.swaps in
            goes_so (answered_for a (pending.Close c p v) Done) refl e refl refl
            (record { own = (g.own.0, 0); base = g.base; ready = close_ready set d.constants b a.locals a.place a.values a.room g.own g.ready update.Swap k.1.0 (last_of a.values); enters = g.enters; callers = callers_none d kinds a.number a.tx a.frames g.base n.0 g.callers; is_first = began_none kinds home a.tx a.frames a.body n.0 g.is_first; counted = g.counted ∙ n.1; swaps = omega (arith, s, n.2, l.1); began = tt; shallow = omega arith; commutes = g.commutes; opened = g.opened; serves = g.serves; applies = tt });
        swaps_again = λ c p v i x k. swap_again_goes a.tx k.1.1 e k.0 k.0.began;
        commits_again = λ i x k. again_goes a.tx e k.0 k.0.began;
        changed = λ i x k. end_again_goes a.tx e k.0 k.1.2 (k.0.counted ∙ k.1.1) (k.0.swaps ∙ unswapped k.1.1) (let le = k.0.shallow in omega (arith, le, k.1.1)) k.0.began;
        denied = λ i x k. refuse_goes a.tx e k.0;
        holds_again = λ xs i x k. again_goes a.tx e k.0 k.0.began;
        holds_changed = λ xs i x k. end_again_goes a.tx e k.0 k.1.2 (k.0.counted ∙ k.1.1) (k.0.swaps ∙ unswapped k.1.1) (let le = k.0.shallow in omega (arith, le, k.1.1)) k.0.began;
        holds_denied = λ xs i x k. refuse_goes a.tx e k.0;
        fails = λ f i k. fails_goes f e k.2 k.3 a.role k.1;
        breaks = λ c p f i k. fails_goes f e k.2 k.3 a.role k.1;
        takes = λ ag i n x v k. absurd k.1;
        idles = λ ag i k. absurd k.1;
        finishes = λ ag new i k. inr (goes_home ag e k.1 k.2 a.role k.0);
        refuses = λ ag new i h k. inr (goes_home ag e k.1 k.2 a.role k.0);
        full = λ q i k. full_ends q;
        memory = λ q i k. memory_ends q;
      }) p inside at view ws r m w

  take_by : (o : Option Outcome) (q : Option Pending) (r : Reply) → CanGoOn d kinds b a o q → MayAnswerIf (asked_for q (is_running a.tx) a.at a.view (applied_in a.tx) a.done) r → TakesAnswer a (length b.instrs) q r
  take_by o None r g m = absurd m
  take_by None (Some p) r g m = takes p (is_running a.tx) a.at a.view (applied_in a.tx) r g m
  take_by (Some x) (Some p) r g m = absurd g

  land_by : (o : Option Outcome) (q : Option Pending) (r : Reply) → a.outcome ≡ o → CanGoOn d kinds b a o q → MayAnswerIf (asked_for q (is_running a.tx) a.at a.view (applied_in a.tx) a.done) r → After (answered_if a q r)
  land_by o None r e g m = absurd m
  land_by None (Some p) r e g m = lands p (is_running a.tx) a.at a.view (applied_in a.tx) r e g m
  land_by (Some x) (Some p) r e g m = absurd g

-- the actor can take its answer
pub takes_answer : (d : PlainCode) (a : PlainActor) (r : Reply) (u : Runs d a) → MayAnswerIf (unanswered a) r → TakesAnswer a (length u.body.instrs) a.pending r
takes_answer d a r u m = take_by d u.kinds u.body a u.is (typed_look (functions_of d u.kinds) d.cells u.validators) a.outcome a.pending r u.goes m

-- the actor after its answer runs
pub answered_runs : (d : PlainCode) (a : PlainActor) (r : Reply) → Runs d a → MayAnswerIf (unanswered a) r → Lives d (answered a r)
answered_runs d a r u m = by (land_by d u.kinds u.body a u.is (typed_look (functions_of d u.kinds) d.cells u.validators) a.outcome a.pending r refl u.goes m)
  where
    by : Going d u.kinds a.number (answered a r) ⊎ Attends d (answered a r) → Lives d (answered a r)
    by (inl g) = inl (record { kinds = u.kinds; rooms = u.rooms; functions = u.functions; validators = u.validators; body = g.body; is = ap (λ k. body_at d k (answered a r).body) g.number ∙ g.is; goes = g.goes })
    by (inr g) = inr g

-- the actor can take its answer, where the body that was looked up is lent
pub takes_in : (d : PlainCode) (a : PlainActor) (r : Reply) (u : Runs d a) → MayAnswerIf (unanswered a) r → (b : CodeBody) (is : List Instr) → body_at d a.number a.body ≡ Some b → is ≡ b.instrs → TakesAnswer a (length is) a.pending r
takes_in d a r u m b is e f =
    let same : u.body.instrs ≡ is = ap (λ (x : CodeBody). x.instrs) (some (sym u.is ∙ e)) ∙ sym f in
    subst (λ (x : List Instr). TakesAnswer a (length x) a.pending r) same (takes_answer d a r u m)
  where
    some : {A : Type 0} {x y : A} → Some x ≡ Some y → x ≡ y
    some g = cc
