-- An agent in its own body: what its turns come to, and where it goes on after an answer.
use Rattle.std.proofs.Common.{◌≡◌, ℕ, suc, ◌+◌, ◌-◌, ◌<◌, ◌≤◌, Bool, true, false, List, [], ◌∷◌, ◌++◌, length, reverse, Option, Some, None, Result, Ok, Err, refl, sym, ap, ◌∙◌, subst, arith, inl, inr}
use Rattle.std.proofs.lemmas.Bool.{lt-ltb, le-ltb}
use Rattle.std.proofs.lemmas.List.{length-append, take_all, drop_all}
use Rattle.txs_world_protocol.specs.Ask.{Exchange}
use Rattle.txs_world_protocol.specs.declared.ask.Ask.{Ask}
use Rattle.txs_world_protocol.specs.declared.ask.Ask.TheVariants as ask
use Rattle.txs_world_protocol.specs.declared.ask.Reply.{Reply}
use Rattle.txs_world_protocol.specs.declared.ask.Reply.TheVariants as reply
use Rattle.txs_world_protocol.specs.declared.event.Outcome.{Outcome}
use Rattle.txs_world_protocol.specs.declared.event.Outcome.TheVariants as outcome
use Rattle.txs_frame.specs.Frame.{PlainTxFrame, empty_frame}
use Rattle.txs_machine_stack.specs.Travels.{Needs}
use Rattle.txs_code_meaning.specs.Opening.{given, opening}
use Rattle.txs_frame.specs.declared.frame.Commute.{Commute}
use Rattle.txs_value_apply.specs.Core.{Answer, core}
use Rattle.txs_value_data.specs.Places.{nth, fault_at}
use Rattle.txs_value_cell.specs.Cells.{validators_of, validator_at}
use Rattle.txs_value_cell.specs.declared.action.Action.{Action}
use Rattle.txs_value_data.specs.declared.fault.FaultKind.TheVariants.{InvalidState}
use Rattle.txs_value_data.specs.declared.fault.Fault.{Fault}
use Rattle.txs_value_data.specs.declared.op.Callee.{Callee}
use Rattle.txs_value_data.specs.declared.op.Callee.TheVariants as callee
use Rattle.txs_value_data.specs.declared.op.Op.{Op}
use Rattle.txs_value_data.specs.declared.value.CellId.{CellId}
use Rattle.txs_value_data.specs.declared.value.Value.{Value}
use Rattle.txs_code_meaning.specs.ActorState.{InHand, StepResult, step_of, Taken, finish}
use Rattle.txs_code_meaning.specs.Machine.{PlainInstr, PlainBody, ThreadCode, fetch, Frame, to_stack, to_validation, locals_of, nils, agent_code, Configuration, Turned, Asking, Unfinished, turn, on, started, told, first_place, hands_in, rested, runs_callee, where_accepted, where_valid}
use Rattle.txs_code_meaning.specs.Machine as machine
use Rattle.txs_code_meaning.specs.PlainCode.{PlainCode, CodeBody, parameters_of, library_of}
use Rattle.txs_code_meaning.specs.WellTyped.{FunctionKind, plain, a_function, IsTable, IsStaging, IsPureFunction, MayBeSent, WellTypedFunctions, WellTyped}
use Rattle.txs_machine_stack.specs.Calls.{begun}
use Rattle.txs_machine_stack.specs.PlainFrame.{PlainStack}
use Rattle.txs_machine_loop.specs.Ready.{Ready}
use Rattle.txs_machine_loop.specs.Values.{stack_in}
use Rattle.txs_machine_loop.proofs.Lists.{length_nils}
use Rattle.txs_machine_actor.specs.Paces.{MayStep, IsOver}
use Rattle.txs_machine_actor.specs.PlainActor.{PlainActor, state_of, configuration_of, code_of, IsActorOf, ServesWell, asked_for, unanswered, MayAnswerIf, stops_as, stands_at, answered, answered_if, answered_for, attends_anew, kind_or_pure, owner_of, functions_of, setting_of, CalledIn, CanApply, AllApply, OpenApplies, ActsFor, AsksWell, GoesOn, CanGoOn, Runs, attending_at, MayRun, CanSend, has_failed, HandsOut, MayBreak, BreaksAt, AttendsAt, waits, has_taken, has_value, AttendsFor, AttendsOn, Attends, Lives, Awaits}
use Rattle.txs_machine_transaction.specs.Roles.{in_hand}
use Rattle.txs_machine_transaction.specs.Asks.{ask_for, applied_in}
use Rattle.txs_machine_transaction.specs.Transaction.{is_running}
use Rattle.txs_machine_actor.specs.Turns.{IsNew, OneStep, Answers, Moves, TurnsFrom, Turns, AsksFor, TakesAnswer, IsAttending, OperatedAs, Operates, begins_acting, BeginsActing, CanApplyFor, AppliesFor, CanAttend, AttendsSo, CanCheck, CanJudge, check_of, verdict, AnsweredFor, begins_judging, BeginsJudging, JudgesFor, HandedBy, Hands, CanHandIn, HandsInBy, HasJudged}
use Rattle.txs_machine_actor.specs.declared.outcome.Turn.{Turn}
use Rattle.txs_machine_actor.specs.declared.outcome.Turn.TheVariants as turned
use Rattle.txs_machine_transaction.specs.declared.state.Pending.{Pending}
use Rattle.txs_machine_transaction.specs.declared.state.Pending.TheVariants as pending
use Rattle.txs_machine_transaction.specs.declared.state.Transaction.TheVariants.{Outside}
use Rattle.txs_machine_transaction.specs.declared.role.Role.{Role}
use Rattle.txs_machine_transaction.specs.declared.role.Role.TheVariants.{Thread, Attending, Acting}
use Rattle.txs_machine_actor.proofs.Applying.{typed_look}
use Rattle.txs_machine_actor.proofs.Calling.{parameters_at, parameters_from, function_at, kind_at, table_too}
use Rattle.txs_machine_actor.proofs.Effects.{finishes, takes as takes_so, it, new_of, sends_of}
use Rattle.txs_machine_actor.proofs.Meaning.{stated, configuration, body_in}
use Rattle.txs_machine_actor.proofs.Replies.{take_replies, finish_replies}
use Rattle.txs_machine_actor.proofs.Striding.{none_asked}

some : {A : Type 0} {x y : A} → Some x ≡ Some y → x ≡ y
some e = cc

-- what is asked for, where an action is handed in
finish_asks : (g : CellId) (new : Result (Value × List Action) Fault) (p seen : ℕ) (done : PlainTxFrame) → ask_for (pending.Finish g new) false p seen [] done ≡ ask.Finish g (new_of new) (sends_of new)
finish_asks g (Ok x) p seen done = refl
finish_asks g (Err f) p seen done = refl

-- ---- functions that begin

module _ (d : PlainCode) (kinds : List FunctionKind) (rooms : List ℕ) (functions : WellTypedFunctions (functions_of d kinds) 0 d.constants d.functions kinds rooms) where
  -- a function's body can begin
  begun_ready : (f : ℕ) (b1 : CodeBody) (most room1 : ℕ) (vals : List Value) → nth d.functions f ≡ Some b1 → Needs d f most → b1.locals + most ≤ room1 → length vals ≡ b1.locals → Ready (setting_of d kinds (suc f)) d.constants b1 b1.locals 0 vals room1 (0, 0)
  begun_ready f b1 most room1 vals e needs roomy many_vals =
      let ks = d.constants in
      let here = function_at (functions_of d kinds) 0 ks d.functions kinds rooms f b1 functions e in
      let t = function_at (functions_of d needs.2.kinds) 0 ks d.functions needs.2.kinds needs.0 f b1 needs.2.functions e in
      let kind : here.kind ≡ kind_or_pure (nth kinds f) = ap kind_or_pure (sym here.is_kind) in
      let empty : 0 ≡ length vals - b1.locals = omega (arith, many_vals) in
      record {
        most = most;
        callable = t.callable;
        depths = t.typed.table.0;
        stages = here.typed.staging.0;
        lawful = t.typed.lawful;
        table = table_too t.kind (kind_or_pure (nth kinds f)) (parameters_of d.functions) b1 most t.typed.table.0 (subst (λ (x : ℕ). IsTable (a_function t.kind) (parameters_of d.functions) b1 x t.typed.table.0) (sym needs.3) t.typed.table.1);
        staging = subst (λ (x : FunctionKind). IsStaging (functions_of d kinds) (a_function x) b1 here.typed.staging.0) kind here.typed.staging.1;
        here = t.typed.table.1.first ∙ ap Some empty;
        stage = plain 0;
        staged = here.typed.staging.1.first;
        owns = refl;
        sized = refl;
        deep = omega (arith, many_vals);
        roomy = roomy;
      }

  -- a pure function can begin outside transactions
  pure_enters : (f : ℕ) → IsPureFunction kinds f → CalledIn (owner_of kinds (suc f)) (0, 0)
  pure_enters f p =
      let kind : kind_or_pure (nth kinds f) ≡ p.0 = ap kind_or_pure p.1 in
      let lawful = kind_at (functions_of d kinds) 0 d.constants d.functions kinds rooms f p.0 functions p.1 p.2 in
      subst (λ (x : FunctionKind). CalledIn (a_function x) (0, 0)) (sym kind) (record { inside = λ e. let x = sym lawful.0 ∙ e in cc; outside = λ e. refl; swapping = λ lt. p.2 })

  -- and so can one that may be sent
  sent_enters : (f : ℕ) → MayBeSent kinds (callee.Function f) → CalledIn (owner_of kinds (suc f)) (0, 0)
  sent_enters f p =
      let kind : kind_or_pure (nth kinds f) ≡ p.0 = ap kind_or_pure p.1 in
      subst (λ (x : FunctionKind). CalledIn (a_function x) (0, 0)) (sym kind) (record { inside = λ e. let x = sym p.2 ∙ e in cc; outside = λ e. refl; swapping = λ lt. absurd (omega (arith, lt)) })

-- a turn of an actor that may make one more step
moves_so : (d : PlainCode) (a c : PlainActor) (r : Turn) → a.outcome ≡ None → a.steps < a.limit → Answers d a r c → Turns d a r c
moves_so d a c r e lt h =
    subst (λ (o : Option Outcome). TurnsFrom d a o r c) (sym e) (subst (λ (t : Bool). Moves d a t r c) (sym (lt-ltb a.steps a.limit lt)) h)

-- ---- turns in the agent's own body

module _ (d : PlainCode) (function_rooms thread_rooms : List ℕ) (typed : WellTyped d function_rooms thread_rooms) (n : ℕ) (was : List ℕ) (p seen : ℕ) (done : PlainTxFrame) (kept : Option Commute) (limit room : ℕ) (g : CellId)
    (actor : IsActorOf d n g) (roomy : 0 < room) (commutes : AllApply (functions_of d typed.kinds) done.commutes) (opened : OpenApplies (functions_of d typed.kinds) kept) where
  -- the agent's actor in its own body
  abbrev pub own_as : Option Bool → ℕ → Option InHand → List Value → ℕ → Option Pending → PlainActor
  own_as acc at o vs s q = it n (Attending g o) 0 [] 0 at vs was p seen done kept acc s limit room Outside q

  abbrev ac : ThreadCode
  ac = agent_code (library_of d) g

  -- the machine there
  abbrev at_own_as : Option Bool → ℕ → Option InHand → List Value → List Exchange → Configuration
  at_own_as acc at o stack xs = configuration 0 at stack [] [] machine.Outside (stated xs was p seen done kept o acc)

  -- a turn of the agent's code is one of the actor's
  turned_so : (c : Configuration) (r : Turned Configuration) → turn ac c ≡ r → turn (code_of d n) c ≡ r
  turned_so c r e = ap (λ (t : ThreadCode). turn t c) actor ∙ e

  -- such an actor can go on
  attends_by : (acc : Option Bool) (at : ℕ) (o : Option InHand) (vs : List Value) (s : ℕ) (q : Option Pending) → AttendsFor d g (own_as acc at o vs s q) q → Attends d (own_as acc at o vs s q)
  attends_by acc at o vs s q w = record {
    function_rooms = function_rooms;
    thread_rooms = thread_rooms;
    typed = typed;
    agent = g;
    acting = o;
    here = refl;
    actor = actor;
    roomy = roomy;
    commutes = commutes;
    opened = opened;
    attends = w;
  }

  -- one that was stopped
  stopped_by : (acc : Option Bool) (at : ℕ) (o : Option InHand) (vs : List Value) (s : ℕ) (x : Outcome) → Attends d (stops_as (own_as acc at o vs s None) x)
  stopped_by acc at o vs s x = record {
    function_rooms = function_rooms;
    thread_rooms = thread_rooms;
    typed = typed;
    agent = g;
    acting = o;
    here = refl;
    actor = actor;
    roomy = roomy;
    commutes = commutes;
    opened = opened;
    attends = tt;
  }

  module _ (acc : Option Bool) (s : ℕ) (lt : s < limit) where
    -- with this answer of a validator
    abbrev own : ℕ → Option InHand → List Value → ℕ → Option Pending → PlainActor
    own at o vs m q = own_as acc at o vs m q

    abbrev at_own : ℕ → Option InHand → List Value → List Exchange → Configuration
    at_own at o stack xs = at_own_as acc at o stack xs

    -- what a turn came to
    abbrev Comes : ℕ → Option InHand → List Value → Turn → PlainActor → Type 0
    Comes at o vs r c = Turns d (own at o vs s None) r c × Lives d c

    -- the agent's own instruction at this place may want memory
    abbrev Breaks : ℕ → Type 0
    Breaks at = (i : PlainInstr) × (fetch ac 0 at ≡ Some i) × MayBreak i

    breaks_in : (at : ℕ) (o : Option InHand) (vs : List Value) → Breaks at → BreaksAt (code_of d n) (configuration_of (own at o vs s None))
    breaks_in at o vs h = subst (λ (t : ThreadCode). BreaksAt t (configuration_of (own at o vs s None))) (sym actor) h

    -- want of memory, in an action or where one is handed in
    no_memory : (at : ℕ) (o : Option InHand) (vs us : List Value) (acc1 : Option Bool) → Breaks at → (x : Outcome) (c : PlainActor) → x ≡ outcome.Memory → c ≡ stops_as (own_as acc1 at o us (s + 1) None) outcome.Memory → Comes at o vs (turned.Ended x) c
    no_memory at o vs us acc1 breaks x c e h =
        let b = stops_as (own_as acc1 at o us (s + 1) None) outcome.Memory in
        let t : Turns d (own at o vs s None) (turned.Ended outcome.Memory) b = moves_so d (own at o vs s None) b (turned.Ended outcome.Memory) refl lt (refl, record { number = refl; outcome = refl; unanswered = refl; counted = refl; limited = refl }, breaks_in at o vs breaks) in (
          subst (λ (y : Outcome). Turns d (own at o vs s None) (turned.Ended y) c) (sym e) (subst (λ (y : PlainActor). Turns d (own at o vs s None) (turned.Ended outcome.Memory) y) (sym h) t),
          subst (λ (y : PlainActor). Lives d y) (sym h) (inr (stopped_by acc1 at o us (s + 1) outcome.Memory)),
        )

    -- a turn that went
    went_so : (at : ℕ) (o : Option InHand) (vs : List Value) (r : Turn) (c b : PlainActor) → r ≡ turned.Went → c ≡ b → turn ac (configuration_of (own at o vs s None)) ≡ Unfinished (configuration_of b) → OneStep (own at o vs s None) None None b → Lives d b → Comes at o vs r c
    went_so at o vs r c b e h w one l =
        let t : Turns d (own at o vs s None) turned.Went b = moves_so d (own at o vs s None) b turned.Went refl lt (turned_so (configuration_of (own at o vs s None)) (Unfinished (configuration_of b)) w, one) in (
          subst (λ (y : Turn). Turns d (own at o vs s None) y c) (sym e) (subst (λ (y : PlainActor). Turns d (own at o vs s None) turned.Went y) (sym h) t),
          subst (λ (y : PlainActor). Lives d y) (sym h) l,
        )

    -- it asks for an action
    takes_one : (r : Turn) (c : PlainActor) → AsksFor (own 0 None [] (s + 1) None) (pending.Take g) r c → Comes 0 None [] r c
    takes_one turned.Went c h = absurd h
    takes_one (turned.Ended x) c h = absurd h.0
    takes_one (turned.Asks q) c h =
        let b = own 0 None [] (s + 1) (Some (pending.Take g)) in
        let go : List Exchange → StepResult (Option Taken) → Turned Configuration = λ xs x. on machine.Outside x (λ o s1. started g o (at_own 0 None [] xs) s1) in
        let k = takes_so n (Attending g None) 0 [] 0 0 [] was p seen done kept acc (s + 1) limit room g Outside go (λ s1. refl) (λ xs m x v. refl) (λ xs. refl) in
        let awaits : Awaits (code_of d n) (configuration_of (own 0 None [] s None)) b (ask.Take g) = record {
          here = refl;
          asks = turned_so (configuration_of (own 0 None [] s None)) (Asking (record (state_of b) { wants = Some (ask.Take g) })) k.now;
          leads = λ x m st. turned_so (given (record { ask = ask.Take g; reply = x } ∷ []) (configuration_of (own 0 None [] s None))) (stands_at (answered b x)) (k.leads x m st);
          rests = λ m. refl;
        } in
        let t : Turns d (own 0 None [] s None) (turned.Asks (ask.Take g)) b = moves_so d (own 0 None [] s None) b (turned.Asks (ask.Take g)) refl lt (awaits, record { number = refl; outcome = refl; unanswered = refl; counted = refl; limited = refl }) in
        let some_steps : 0 < s + 1 = omega arith in (
          subst (λ (y : Ask). Turns d (own 0 None [] s None) (turned.Asks y) c) (sym h.0) (subst (λ (y : PlainActor). Turns d (own 0 None [] s None) (turned.Asks (ask.Take g)) y) (sym h.1) t),
          subst (λ (y : PlainActor). Lives d y) (sym h.1) (inr (attends_by acc 0 None [] (s + 1) (Some (pending.Take g)) (refl, refl, some_steps))),
        )

    -- it hands in what an action came to
    hands_one : (at : ℕ) (x : InHand) (vs : List Value) (new : Result (Value × List Action) Fault) (acc1 : Option Bool) → Breaks at
        → ((xs : List Exchange) → given xs (configuration_of (own at (Some x) vs s None)) ≡ at_own at (Some x) vs xs)
        → ((xs : List Exchange) → turn ac (at_own at (Some x) vs xs) ≡ told (finish g (new_of new) (sends_of new) (stated xs was p seen done kept (Some x) acc1)) (λ s1. Unfinished (first_place [] (rested s1))))
        → (r : Turn) (c : PlainActor) → AsksFor (own_as acc1 at (Some x) [] (s + 1) None) (pending.Finish g new) r c → Comes at (Some x) vs r c
    hands_one at x vs new acc1 breaks there w turned.Went c h = absurd h
    hands_one at x vs new acc1 breaks there w (turned.Ended y) c h = no_memory at (Some x) vs [] acc1 breaks y c h.1 h.2
    hands_one at x vs new acc1 breaks there w (turned.Asks q) c h =
        let y = ask.Finish g (new_of new) (sends_of new) in
        let b = own_as acc1 at (Some x) [] (s + 1) (Some (pending.Finish g new)) in
        let same : ask_for (pending.Finish g new) false p seen [] done ≡ y = finish_asks g new p seen done in
        let k = finishes n (Attending g (Some x)) 0 [] 0 at [] was p seen done kept acc1 (s + 1) limit room g new Outside refl in
        let awaits : Awaits (code_of d n) (configuration_of (own at (Some x) vs s None)) b y = record {
          here = refl;
          asks = turned_so (configuration_of (own at (Some x) vs s None)) (Asking (record (state_of b) { wants = Some y })) (ap (λ (z : Configuration). turn ac z) (there []) ∙ w [] ∙ k.now);
          leads = λ z m st. turned_so (given (record { ask = y; reply = z } ∷ []) (configuration_of (own at (Some x) vs s None))) (stands_at (answered b z)) (ap (λ (u : Configuration). turn ac u) (there (record { ask = y; reply = z } ∷ [])) ∙ w (record { ask = y; reply = z } ∷ []) ∙ k.leads z m st);
          rests = λ m. absurd m;
        } in
        let t : Turns d (own at (Some x) vs s None) (turned.Asks y) b = moves_so d (own at (Some x) vs s None) b (turned.Asks y) refl lt (awaits, record { number = refl; outcome = refl; unanswered = ap Some same; counted = refl; limited = refl }) in (
          subst (λ (z : Ask). Turns d (own at (Some x) vs s None) (turned.Asks z) c) (sym (h.0 ∙ same)) (subst (λ (z : PlainActor). Turns d (own at (Some x) vs s None) (turned.Asks y) z) (sym h.1) t),
          subst (λ (z : PlainActor). Lives d z) (sym h.1) (inr (attends_by acc1 at (Some x) [] (s + 1) (Some (pending.Finish g new)) (refl, x, refl))),
        )

    -- ---- the value of an action

    module _ (x : InHand) (v : Value) (unfailed : x.fault ≡ None) where
      -- the validator of the agent that the action was sent to
      abbrev judge_of : Option Callee
      judge_of = validator_at (validators_of d.cells) x.action.agent.number

      -- what is done with a value that may be handed in
      abbrev hands_on : Configuration → Turned Configuration
      hands_on c1 = told (finish g (Ok v) x.sends c1.state) (λ s1. Unfinished (first_place [] (rested s1)))

      -- what the machine does, by that validator
      abbrev finishes_by : Option Callee → List Exchange → Turned Configuration
      finishes_by o xs = where_valid ac o v x.action.span (at_own 2 (Some x) (v ∷ []) xs) hands_on

      -- and by what it answered
      abbrev accepted_by : Callee → List Exchange → Option Bool → Turned Configuration
      accepted_by f xs o = where_accepted ac o f v x.action.span (at_own 2 (Some x) (v ∷ []) xs) hands_on

      -- what is handed in
      abbrev handing : CellId → Result (Value × List Action) Fault → Option Bool → List Exchange → Turned Configuration
      handing h new acc1 xs = told (finish h (new_of new) (sends_of new) (stated xs was p seen done kept (Some x) acc1)) (λ s1. Unfinished (first_place [] (rested s1)))

      -- with no fault of the action, the machine looks at the value
      looks_so : (xs : List Exchange) → turn ac (at_own 2 (Some x) (v ∷ []) xs) ≡ finishes_by judge_of xs
      looks_so xs = ap (λ (o : Option Fault). hands_in ac g (Some x) o (at_own 2 (Some x) (v ∷ []) xs)) unfailed

      -- it is handed in, where there is no validator, or the validator has accepted it
      gives_one : (acc1 : Option Bool) → ((xs : List Exchange) → finishes_by judge_of xs ≡ handing g (Ok (v, x.sends)) acc1 xs) → (r : Turn) (c : PlainActor) → AsksFor (own_as acc1 2 (Some x) [] (s + 1) None) (pending.Finish g (Ok (v, x.sends))) r c → Comes 2 (Some x) (v ∷ []) r c
      gives_one acc1 w r c h = hands_one 2 x (v ∷ []) (Ok (v, x.sends)) acc1 (machine.FinishOf g, refl, tt) (λ xs. refl) (λ xs. looks_so xs ∙ w xs) r c h

      -- a fault of the validator, or that it refuses the value, is handed in
      faults_one : (mine : x.agent ≡ g) (f : Fault) (acc1 : Option Bool) → ((xs : List Exchange) → finishes_by judge_of xs ≡ handing x.agent (Err f) acc1 xs) → (r : Turn) (c : PlainActor) → AsksFor (own_as acc1 2 (Some x) [] (s + 1) None) (pending.Finish x.agent (Err f)) r c
          → Comes 2 (Some x) (v ∷ []) r c
      faults_one mine f acc1 w r c h =
          hands_one 2 x (v ∷ []) (Err f) acc1 (machine.FinishOf g, refl, tt) (λ xs. refl) (λ xs. looks_so xs ∙ w xs ∙ ap (λ (y : CellId). handing y (Err f) acc1 xs) mine) r c
          (subst (λ (y : CellId). AsksFor (own_as acc1 2 (Some x) [] (s + 1) None) (pending.Finish y (Err f)) r c) mine h)

      -- a validator of this code takes one value, and is pure
      can_judge : (f : Callee) → judge_of ≡ Some f → CanApply (functions_of d typed.kinds) f 0
      can_judge f e = (typed_look (functions_of d typed.kinds) d.cells typed.validators x.action.agent.number f e).1

      judges_so : (f : Callee) → CanApply (functions_of d typed.kinds) f 0 → CanJudge d f
      judges_so (callee.Core op) can = can
      judges_so (callee.Function m) can =
          let y = parameters_from d.functions m 1 can.1 in
          record {
            body = y.0;
            is_body = y.1;
            parameters = (function_at (functions_of d typed.kinds) 0 d.constants d.functions typed.kinds function_rooms m y.0 typed.functions y.1).typed.parameters;
            many = some (sym can.1 ∙ parameters_at d.functions m y.0 y.1);
          }

      can_check : (o : Option Callee) → judge_of ≡ o → CanCheck d (check_of o v x.action.span)
      can_check None e = tt
      can_check (Some f) e = judges_so f (can_judge f e)

      -- a validator that is an operation
      judged_one : (mine : x.agent ≡ g) (op : Op) → acc ≡ None → judge_of ≡ Some (callee.Core op) → (y : Answer) → core op (v ∷ []) ≡ y → (r : Turn) (c : PlainActor) → AnsweredFor (own 2 (Some x) (v ∷ []) (s + 1) None) x.action.span y r c → Comes 2 (Some x) (v ∷ []) r c
      judged_one mine op free e y q r c h = by_answer y (λ xs. comes_to y q xs) h
        where
          -- what the machine does, by the operation's answer
          does : Answer → List Exchange → Turned Configuration
          does z xs = on machine.Outside (step_of z x.action.span (stated xs was p seen done kept (Some x) acc)) (λ answer s1. Unfinished (record (at_own 2 (Some x) (v ∷ []) xs) { state = machine.answered answer s1 }))

          comes_to : (z : Answer) → core op (v ∷ []) ≡ z → (xs : List Exchange) → finishes_by judge_of xs ≡ does z xs
          comes_to z k xs = ap (λ (o : Option Callee). finishes_by o xs) e ∙ ap (accepted_by (callee.Core op) xs) free ∙ ap (λ (z1 : Answer). does z1 xs) k

          by_answer : (z : Answer) → ((xs : List Exchange) → finishes_by judge_of xs ≡ does z xs) → AnsweredFor (own 2 (Some x) (v ∷ []) (s + 1) None) x.action.span z r c → Comes 2 (Some x) (v ∷ []) r c
          by_answer (Ok w) k m =
              went_so 2 (Some x) (v ∷ []) r c (own_as (verdict w) 2 (Some x) (v ∷ []) (s + 1) None) m.0 m.1 (looks_so [] ∙ k [])
              (record { number = refl; outcome = refl; unanswered = refl; counted = refl; limited = refl }) (inr (attends_by (verdict w) 2 (Some x) (v ∷ []) (s + 1) None (has_value x v refl mine unfailed)))
          by_answer (Err k1) k m = faults_one mine (fault_at k1 x.action.span) acc k r c m

      -- a validator that is a function
      abbrev judge_vals : CodeBody → List Value
      judge_vals b1 = (v ∷ []) ++ nils (b1.locals - b1.parameters)

      abbrev judging_at : PlainStack → PlainActor
      judging_at st = begins_judging (own 2 (Some x) (v ∷ []) (s + 1) None) st (Attending g (Some x))

      judging_means : (f : ℕ) → acc ≡ None → judge_of ≡ Some (callee.Function f) → (b1 : CodeBody) → nth d.functions f ≡ Some b1 → b1.parameters ≤ b1.locals → 1 ≡ b1.parameters → (room1 : ℕ)
          → finishes_by judge_of [] ≡ Unfinished (configuration_of (judging_at (begun f b1 (v ∷ []) room1)))
      judging_means f free e b1 is_b1 within many room1 =
          let many_vals : length (judge_vals b1) ≡ b1.locals = length-append (v ∷ []) (nils (b1.locals - b1.parameters)) ∙ omega (arith, many, length_nils (b1.locals - b1.parameters), within) in
          let frs : List Frame = record { body = 0; place = 2; stack = v ∷ []; locals = []; awaits = to_validation } ∷ [] in
          let at_this : List Value → List Value → Turned Configuration = λ stack locals. Unfinished (configuration (suc f) 0 stack locals frs machine.Outside (stated [] was p seen done kept (Some x) acc)) in
          ap (λ (o : Option Callee). finishes_by o []) e
          ∙ ap (accepted_by (callee.Function f) []) free
          ∙ ap (λ (o : Option PlainBody). at_this [] (locals_of o (v ∷ []))) (body_in (parameters_of d.functions) d.constants d.functions f b1 is_b1)
          ∙ ap (λ (y : ℕ). at_this [] ((v ∷ []) ++ nils (b1.locals - y))) many
          ∙ ap (λ (y : List Value). at_this y (judge_vals b1)) (sym (ap reverse (drop_all b1.locals (judge_vals b1) (omega (arith, many_vals)))))
          ∙ ap (λ (y : List Value). at_this (stack_in b1.locals (judge_vals b1)) y) (sym (take_all b1.locals (judge_vals b1) (omega (arith, many_vals))))

      judging_goes : (mine : x.agent ≡ g) (f : ℕ) → IsPureFunction typed.kinds f → (b1 : CodeBody) → nth d.functions f ≡ Some b1 → b1.parameters ≤ b1.locals → 1 ≡ b1.parameters → (most : ℕ) → Needs d f most
          → GoesOn d typed.kinds b1 (judging_at (begun f b1 (v ∷ []) (b1.locals + most)))
      judging_goes mine f pure b1 is_b1 within many most needs =
          let many_vals : length (judge_vals b1) ≡ b1.locals = length-append (v ∷ []) (nils (b1.locals - b1.parameters)) ∙ omega (arith, many, length_nils (b1.locals - b1.parameters), within) in
          record {
            own = (0, 0);
            base = (0, 0);
            ready = begun_ready d typed.kinds function_rooms typed.functions f b1 most (b1.locals + most) (judge_vals b1) is_b1 needs (omega arith) many_vals;
            enters = pure_enters d typed.kinds function_rooms typed.functions f pure;
            callers = refl;
            is_first = tt;
            counted = refl;
            swaps = refl;
            began = tt;
            shallow = omega arith;
            commutes = commutes;
            opened = opened;
            serves = (record { typed = record { function_rooms = function_rooms; thread_rooms = thread_rooms; typed = typed; same = refl }; actor = subst (λ (y : CellId). IsActorOf d n y) (sym mine) actor; is = (v, refl); roomy = roomy }, unfailed);
            applies = tt;
          }

      judging_one : (mine : x.agent ≡ g) (f : ℕ) → acc ≡ None → judge_of ≡ Some (callee.Function f) → (r : Turn) (c : PlainActor) → BeginsJudging d (own 2 (Some x) (v ∷ []) (s + 1) None) f v r c → Comes 2 (Some x) (v ∷ []) r c
      judging_one mine f free e turned.Went c h =
          let can = can_judge (callee.Function f) e in
          let i = h.1 in
          let b1 = i.0 in
          let many : 1 ≡ b1.parameters = some (sym can.1 ∙ parameters_at d.functions f b1 i.2) in
          let within = (function_at (functions_of d typed.kinds) 0 d.constants d.functions typed.kinds function_rooms f b1 typed.functions i.2).typed.parameters in
          let c0 = judging_at (begun f b1 (v ∷ []) (b1.locals + i.1)) in
          went_so 2 (Some x) (v ∷ []) turned.Went c c0 refl (h.2 ∙ ap judging_at i.4) (looks_so [] ∙ judging_means f free e b1 i.2 within many (b1.locals + i.1))
          (record { number = refl; outcome = refl; unanswered = refl; counted = refl; limited = refl })
          (inl (record { kinds = typed.kinds; rooms = function_rooms; functions = typed.functions; validators = typed.validators; body = b1; is = i.2; goes = judging_goes mine f can.0 b1 i.2 within many i.1 i.3 }))
      judging_one mine f free e (turned.Asks q) c h = absurd h
      judging_one mine f free e (turned.Ended y) c h = no_memory 2 (Some x) (v ∷ []) (v ∷ []) acc (machine.FinishOf g, refl, tt) y c h.0 h.1

      judges_one : (mine : x.agent ≡ g) (f : Callee) → acc ≡ None → judge_of ≡ Some f → (r : Turn) (c : PlainActor) → JudgesFor d (own 2 (Some x) (v ∷ []) (s + 1) None) f v x.action.span r c → Comes 2 (Some x) (v ∷ []) r c
      judges_one mine (callee.Core op) free e r c (inl h) = judged_one mine op free e (core op (v ∷ [])) refl r c h
      judges_one mine (callee.Core op) free e r c (inr h) =
          let m = no_memory 2 (Some x) (v ∷ []) (v ∷ []) acc (machine.FinishOf g, refl, tt) outcome.Memory c refl h.1 in
          (subst (λ (y : Turn). Turns d (own 2 (Some x) (v ∷ []) s None) y c) (sym h.0) m.0, m.1)
      judges_one mine (callee.Function f) free e r c h = judging_one mine f free e r c h

      -- by what the validator answered
      handed_one : (mine : x.agent ≡ g) (f : Callee) → judge_of ≡ Some f → (a : Option Bool) → acc ≡ a → (r : Turn) (c : PlainActor) → HandedBy d (own 2 (Some x) (v ∷ []) (s + 1) None) (record { callee = f; value = v; span = x.action.span }) a r c
          → Comes 2 (Some x) (v ∷ []) r c
      handed_one mine f e None free r c h = judges_one mine f free e r c h
      handed_one mine f e (Some true) free r c h = gives_one None (λ xs. ap (λ (o : Option Callee). finishes_by o xs) e ∙ ap (accepted_by f xs) free) r c h
      handed_one mine f e (Some false) free r c h =
          faults_one mine (fault_at InvalidState x.action.span) None (λ xs. ap (λ (o : Option Callee). finishes_by o xs) e ∙ ap (accepted_by f xs) free) r c h

      -- by the validator, if there is one
      hands_by : (mine : x.agent ≡ g) (o : Option Callee) → judge_of ≡ o → (r : Turn) (c : PlainActor) → Hands d (own 2 (Some x) (v ∷ []) (s + 1) None) (check_of o v x.action.span) r c → Comes 2 (Some x) (v ∷ []) r c
      hands_by mine None e r c h = gives_one acc (λ xs. ap (λ (o : Option Callee). finishes_by o xs) e) r c h
      hands_by mine (Some f) e r c h = handed_one mine f e acc refl r c h

      value_one : (mine : x.agent ≡ g) (r : Turn) (c : PlainActor) → AttendsSo d (own 2 (Some x) (v ∷ []) (s + 1) None) 2 r c → Comes 2 (Some x) (v ∷ []) r c
      value_one mine r c h = hands_by mine judge_of refl r c (subst (λ (o : Option Fault). HandsInBy d (own 2 (Some x) (v ∷ []) (s + 1) None) o r c) unfailed h)

      can_value : CanAttend d (own 2 (Some x) (v ∷ []) (s + 1) None) 2
      can_value = ((g, refl), subst (λ (o : Option Fault). CanHandIn d (own 2 (Some x) (v ∷ []) (s + 1) None) o) (sym unfailed) (omega arith, can_check judge_of refl))

    -- ---- the fault of an action

    -- it is handed in, and what the action held is dropped
    fault_one : (x : InHand) (f : Fault) → x.fault ≡ Some f → (r : Turn) (c : PlainActor) → AttendsSo d (own 2 (Some x) [] (s + 1) None) 2 r c → Comes 2 (Some x) [] r c
    fault_one x f failed r c h =
        hands_one 2 x [] (Err f) acc (machine.FinishOf g, refl, tt) (λ xs. refl) (λ xs. ap (λ (o : Option Fault). hands_in ac g (Some x) o (at_own 2 (Some x) [] xs)) failed) r c
        (subst (λ (o : Option Fault). HandsInBy d (own 2 (Some x) [] (s + 1) None) o r c) failed h)

    can_fault : (x : InHand) (f : Fault) → x.fault ≡ Some f → CanAttend d (own 2 (Some x) [] (s + 1) None) 2
    can_fault x f failed = ((g, refl), subst (λ (o : Option Fault). CanHandIn d (own 2 (Some x) [] (s + 1) None) o) (sym failed) tt)

    -- ---- an action that is run

    module _ (x : Action) (v : Value) (may : MayRun d x) where
      -- the action, which holds no send
      abbrev hand : InHand
      hand = in_hand g x

      -- the action's callee, as the machine runs it
      runs_it : (f : Callee) → x.callee ≡ f → (xs : List Exchange) → turn ac (at_own 1 (Some hand) (v ∷ []) xs) ≡ runs_callee ac f x v [] (at_own 1 (Some hand) (v ∷ []) xs)
      runs_it f e xs = ap (λ (y : Callee). runs_callee ac y x v [] (at_own 1 (Some hand) (v ∷ []) xs)) e

      operated : (op : Op) → x.callee ≡ callee.Core op → (y : Answer) → core op (v ∷ x.args) ≡ y → (r : Turn) (c : PlainActor) → OperatedAs (own 1 (Some hand) [] (s + 1) None) x.span y r c → Comes 1 (Some hand) (v ∷ []) r c
      operated op e (Ok w) q r c h =
          went_so 1 (Some hand) (v ∷ []) r c (own 2 (Some hand) (w ∷ []) (s + 1) None) h.0 h.1
          (runs_it (callee.Core op) e [] ∙ ap (λ (y : Answer). machine.gives (at_own 1 (Some hand) (v ∷ []) []) [] (step_of y x.span (stated [] was p seen done kept (Some hand) acc))) q)
          (record { number = refl; outcome = refl; unanswered = refl; counted = refl; limited = refl }) (inr (attends_by acc 2 (Some hand) (w ∷ []) (s + 1) None (has_value hand w refl refl refl)))
      operated op e (Err k) q r c h =
          hands_one 1 hand (v ∷ []) (Err (fault_at k x.span)) acc (machine.RunOf, refl, tt) (λ xs. refl)
          (λ xs. runs_it (callee.Core op) e xs ∙ ap (λ (y : Answer). machine.gives (at_own 1 (Some hand) (v ∷ []) xs) [] (step_of y x.span (stated xs was p seen done kept (Some hand) acc))) q) r c h

      operates : (op : Op) → x.callee ≡ callee.Core op → (r : Turn) (c : PlainActor) → Operates (own 1 (Some hand) (v ∷ []) (s + 1) None) op r c → Comes 1 (Some hand) (v ∷ []) r c
      operates op e r c (inl h) = operated op e (core op (v ∷ x.args)) refl r c h
      operates op e r c (inr h) =
          let m = no_memory 1 (Some hand) (v ∷ []) [] acc (machine.RunOf, refl, tt) outcome.Memory c refl h.1 in
          (subst (λ (y : Turn). Turns d (own 1 (Some hand) (v ∷ []) s None) y c) (sym h.0) m.0, m.1)

      -- the function of the action
      can_apply : (f : Callee) → x.callee ≡ f → CanSend (functions_of d typed.kinds) f (length x.args)
      can_apply f e = subst (λ (y : Callee). CanSend (functions_of d typed.kinds) y (length x.args)) e (may function_rooms thread_rooms typed)

      abbrev vals : CodeBody → List Value
      vals b1 = (v ∷ x.args) ++ nils (b1.locals - b1.parameters)

      abbrev began_at : PlainStack → PlainActor
      began_at st = begins_acting (own 1 (Some hand) [] (s + 1) None) st (Attending g (Some hand))

      begins_means : (f : ℕ) → x.callee ≡ callee.Function f → (b1 : CodeBody) → nth d.functions f ≡ Some b1 → b1.parameters ≤ b1.locals → suc (length x.args) ≡ b1.parameters → (room1 : ℕ)
          → turn ac (at_own 1 (Some hand) (v ∷ []) []) ≡ Unfinished (configuration_of (began_at (begun f b1 (v ∷ x.args) room1)))
      begins_means f e b1 is_b1 within many room1 =
          let many_vals : length (vals b1) ≡ b1.locals = length-append (v ∷ x.args) (nils (b1.locals - b1.parameters)) ∙ omega (arith, many, length_nils (b1.locals - b1.parameters), within) in
          let frs : List Frame = record { body = 0; place = 2; stack = []; locals = []; awaits = to_stack } ∷ [] in
          let at_this : List Value → List Value → Turned Configuration = λ stack locals. Unfinished (configuration (suc f) 0 stack locals frs machine.Outside (stated [] was p seen done kept (Some hand) acc)) in
          runs_it (callee.Function f) e []
          ∙ ap (λ (o : Option PlainBody). at_this [] (locals_of o (v ∷ x.args))) (body_in (parameters_of d.functions) d.constants d.functions f b1 is_b1)
          ∙ ap (λ (y : ℕ). at_this [] ((v ∷ x.args) ++ nils (b1.locals - y))) many
          ∙ ap (λ (y : List Value). at_this y (vals b1)) (sym (ap reverse (drop_all b1.locals (vals b1) (omega (arith, many_vals)))))
          ∙ ap (λ (y : List Value). at_this (stack_in b1.locals (vals b1)) y) (sym (take_all b1.locals (vals b1) (omega (arith, many_vals))))

      begins_goes : (f : ℕ) → MayBeSent typed.kinds (callee.Function f) → (b1 : CodeBody) → nth d.functions f ≡ Some b1 → b1.parameters ≤ b1.locals → suc (length x.args) ≡ b1.parameters → (most : ℕ) → Needs d f most
          → GoesOn d typed.kinds b1 (began_at (begun f b1 (v ∷ x.args) (b1.locals + most)))
      begins_goes f sent b1 is_b1 within many most needs =
          let many_vals : length (vals b1) ≡ b1.locals = length-append (v ∷ x.args) (nils (b1.locals - b1.parameters)) ∙ omega (arith, many, length_nils (b1.locals - b1.parameters), within) in
          record {
            own = (0, 0);
            base = (0, 0);
            ready = begun_ready d typed.kinds function_rooms typed.functions f b1 most (b1.locals + most) (vals b1) is_b1 needs (omega arith) many_vals;
            enters = sent_enters d typed.kinds function_rooms typed.functions f sent;
            callers = refl;
            is_first = tt;
            counted = refl;
            swaps = refl;
            began = tt;
            shallow = omega arith;
            commutes = commutes;
            opened = opened;
            serves = (record { typed = record { function_rooms = function_rooms; thread_rooms = thread_rooms; typed = typed; same = refl }; actor = actor; is = refl; roomy = roomy }, refl);
            applies = tt;
          }

      begins_one : (f : ℕ) → x.callee ≡ callee.Function f → (r : Turn) (c : PlainActor) → BeginsActing d (own 1 (Some hand) (v ∷ []) (s + 1) None) f r c → Comes 1 (Some hand) (v ∷ []) r c
      begins_one f e turned.Went c h =
          let can = can_apply (callee.Function f) e in
          let i = h.1 in
          let b1 = i.0 in
          let many : suc (length x.args) ≡ b1.parameters = some (sym can.1 ∙ parameters_at d.functions f b1 i.2) in
          let within = (function_at (functions_of d typed.kinds) 0 d.constants d.functions typed.kinds function_rooms f b1 typed.functions i.2).typed.parameters in
          let c0 = began_at (begun f b1 (v ∷ x.args) (b1.locals + i.1)) in
          went_so 1 (Some hand) (v ∷ []) turned.Went c c0 refl (h.2 ∙ ap began_at i.4) (begins_means f e b1 i.2 within many (b1.locals + i.1))
          (record { number = refl; outcome = refl; unanswered = refl; counted = refl; limited = refl })
          (inl (record { kinds = typed.kinds; rooms = function_rooms; functions = typed.functions; validators = typed.validators; body = b1; is = i.2; goes = begins_goes f can.0 b1 i.2 within many i.1 i.3 }))
      begins_one f e (turned.Asks q) c h = absurd h
      begins_one f e (turned.Ended y) c h = no_memory 1 (Some hand) (v ∷ []) [] acc (machine.RunOf, refl, tt) y c h.0 h.1

      runs_one : (f : Callee) → x.callee ≡ f → (r : Turn) (c : PlainActor) → AppliesFor d (own 1 (Some hand) (v ∷ []) (s + 1) None) (Some f) r c → Comes 1 (Some hand) (v ∷ []) r c
      runs_one (callee.Core op) e r c h = operates op e r c h
      runs_one (callee.Function f) e r c h = begins_one f e r c h

      can_one : (f : Callee) → x.callee ≡ f → CanApplyFor d (own 1 (Some hand) (v ∷ []) (s + 1) None) (Some f)
      can_one (callee.Core op) e = record { value = omega arith; roomy = roomy; takes_all = can_apply (callee.Core op) e }
      can_one (callee.Function f) e =
          let can = can_apply (callee.Function f) e in
          let y = parameters_from d.functions f (suc (length x.args)) can.1 in
          record {
            value = omega arith;
            body = y.0;
            is_body = y.1;
            parameters = (function_at (functions_of d typed.kinds) 0 d.constants d.functions typed.kinds function_rooms f y.0 typed.functions y.1).typed.parameters;
            many = some (sym can.1 ∙ parameters_at d.functions f y.0 y.1);
          }

-- ---- a turn of such an actor

-- the instruction at hand can be made, and where it leads the actor can go on
pub record AttendsHere (d : PlainCode) (a : PlainActor) : Type 0 where
  pub can : CanAttend d (record a { steps = a.steps + 1 }) a.place
  pub so : (r : Turn) (c : PlainActor) → AttendsSo d (record a { steps = a.steps + 1 }) a.place r c → Turns d a r c × Lives d c

module _ (d : PlainCode) (a : PlainActor) (h : Attends d a) (lt : a.steps < a.limit) (g : CellId) (is_g : h.agent ≡ g) where
  -- the same actor by its fields
  abbrev own_at : ℕ → Option InHand → List Value → PlainActor
  own_at at o vs = record (attending_at a g o at vs) { pending = None; outcome = None }

  plainly : (at : ℕ) (o : Option InHand) (vs : List Value) → a.outcome ≡ None → a.pending ≡ None → a ≡ attending_at a g o at vs → own_at at o vs ≡ a
  plainly at o vs e f is =
      ap (λ (x : Option Outcome). record (attending_at a g o at vs) { pending = None; outcome = x }) (sym e) ∙ ap (λ (x : Option Pending). record (attending_at a g o at vs) { pending = x }) (sym f) ∙ sym is

  here_actor : IsActorOf d a.number g
  here_actor = subst (λ (x : CellId). IsActorOf d a.number x) is_g h.actor

  attends_here : AttendsAt d g a → a.outcome ≡ None → a.pending ≡ None → AttendsHere d a
  attends_here (waits is) e f =
      subst (λ (x : PlainActor). AttendsHere d x) (plainly 0 None [] e f is)
      (record { can = (g, refl); so = λ r c k. takes_one d h.function_rooms h.thread_rooms h.typed a.number a.printed a.at a.view a.done a.commuting a.limit a.room g here_actor h.roomy h.commutes h.opened a.accepted a.steps lt r c k })
  attends_here (has_taken x v may is) e f =
      subst (λ (y : PlainActor). AttendsHere d y) (plainly 1 (Some (in_hand g x)) (v ∷ []) e f is)
      (record {
        can = can_one d h.function_rooms h.thread_rooms h.typed a.number a.printed a.at a.view a.done a.commuting a.limit a.room g here_actor h.roomy h.commutes h.opened a.accepted a.steps lt x v may x.callee refl;
        so = λ r c k. runs_one d h.function_rooms h.thread_rooms h.typed a.number a.printed a.at a.view a.done a.commuting a.limit a.room g here_actor h.roomy h.commutes h.opened a.accepted a.steps lt x v may x.callee refl r c k;
      })
  attends_here (has_value x v is mine unfailed) e f =
      subst (λ (y : PlainActor). AttendsHere d y) (plainly 2 (Some x) (v ∷ []) e f is)
      (record {
        can = can_value d h.function_rooms h.thread_rooms h.typed a.number a.printed a.at a.view a.done a.commuting a.limit a.room g here_actor h.roomy h.commutes h.opened a.accepted a.steps lt x v unfailed;
        so = λ r c k. value_one d h.function_rooms h.thread_rooms h.typed a.number a.printed a.at a.view a.done a.commuting a.limit a.room g here_actor h.roomy h.commutes h.opened a.accepted a.steps lt x v unfailed mine r c k;
      })
  attends_here (has_failed x x_fault is mine failed) e f =
      subst (λ (y : PlainActor). AttendsHere d y) (plainly 2 (Some x) [] e f is)
      (record {
        can = can_fault d h.function_rooms h.thread_rooms h.typed a.number a.printed a.at a.view a.done a.commuting a.limit a.room g here_actor h.roomy h.commutes h.opened a.accepted a.steps lt x x_fault failed;
        so = λ r c k. fault_one d h.function_rooms h.thread_rooms h.typed a.number a.printed a.at a.view a.done a.commuting a.limit a.room g here_actor h.roomy h.commutes h.opened a.accepted a.steps lt x x_fault failed r c k;
      })

-- ---- actors that run a body aren't in an agent's own

not_served : (d : PlainCode) (kinds : List FunctionKind) (k : ℕ) (r : Role) → IsAttending r → ServesWell d kinds k r → ⊥
not_served d kinds k Thread i s = i
not_served d kinds k (Attending g o) i s = s
not_served d kinds k (Acting h judges aside) i s = i

not_acting : (d : PlainCode) (kinds : List FunctionKind) (k : ℕ) (h : CellId) (r : Role) → IsAttending r → ActsFor d kinds k h r → ⊥
not_acting d kinds k h Thread i w = i
not_acting d kinds k h (Attending g o) i w = w
not_acting d kinds k h (Acting x judges aside) i w = i

not_asking : (d : PlainCode) (kinds : List FunctionKind) (b : CodeBody) (a : PlainActor) (p : Pending) → IsAttending a.role → AsksWell d kinds b a p → ⊥
not_asking d kinds b a (pending.Begin left from) i w = not_served d kinds a.number a.role i w.0.serves
not_asking d kinds b a (pending.Read c) i w = not_served d kinds a.number a.role i w.0.serves
not_asking d kinds b a (pending.Ensure c es) i w = not_served d kinds a.number a.role i w.0.serves
not_asking d kinds b a (pending.Open c n kept) i w = not_served d kinds a.number a.role i w.0.serves
not_asking d kinds b a (pending.Reset c v) i w = not_served d kinds a.number a.role i w.0.serves
not_asking d kinds b a (pending.Send x n) i w = not_served d kinds a.number a.role i w.0.serves
not_asking d kinds b a (pending.View phase) i w = not_served d kinds a.number a.role i w.0.serves
not_asking d kinds b a pending.Commit i w = not_served d kinds a.number a.role i w.0.serves
not_asking d kinds b a (pending.Hold xs) i w = not_served d kinds a.number a.role i w.0.serves
not_asking d kinds b a (pending.Swap c n from) i w = not_served d kinds a.number a.role i w.0.serves
not_asking d kinds b a (pending.Close c p v) i w = not_served d kinds a.number a.role i w.0.serves
not_asking d kinds b a (pending.Fail f) i w = not_served d kinds a.number a.role i w.1
not_asking d kinds b a (pending.Broke c p f) i w = not_served d kinds a.number a.role i w.1
not_asking d kinds b a (pending.Take g) i w = w.1
not_asking d kinds b a (pending.Finish g new) i w = not_acting d kinds a.number g a.role i w.0

-- one that hasn't ended
not_going : (d : PlainCode) (kinds : List FunctionKind) (b : CodeBody) (a : PlainActor) (o : Option Outcome) (q : Option Pending) → IsAttending a.role → o ≡ None → CanGoOn d kinds b a o q → ⊥
not_going d kinds b a None None i e w = not_served d kinds a.number a.role i w.serves
not_going d kinds b a None (Some p) i e w = not_asking d kinds b a p i w
not_going d kinds b a (Some x) q i e w = cc

runs_elsewhere : (d : PlainCode) (a : PlainActor) → Runs d a → IsAttending a.role → a.outcome ≡ None → ⊥
runs_elsewhere d a r i e = not_going d r.kinds r.body a a.outcome a.pending i e r.goes

-- an actor in an agent's own body isn't elsewhere
attends_there : (r : Role) (g : CellId) (o : Option InHand) → r ≡ Attending g o → IsAttending r
attends_there r g o e = subst IsAttending (sym e) tt

pub runs_or : (d : PlainCode) (a : PlainActor) → Lives d a → (IsAttending a.role → ⊥) → Runs d a
runs_or d a (inl r) other = r
runs_or d a (inr h) other = absurd (other (attends_there a.role h.agent h.acting h.here))

pub attends_or : (d : PlainCode) (a : PlainActor) → Lives d a → IsAttending a.role → a.outcome ≡ None → Attends d a
attends_or d a (inl r) i e = absurd (runs_elsewhere d a r i e)
attends_or d a (inr h) i e = h

-- one that hasn't ended and asks nothing is between two instructions
attends_free : (d : PlainCode) (g : CellId) (a : PlainActor) (o : Option Outcome) (q : Option Pending) → o ≡ None → q ≡ None → AttendsOn d g a o q → AttendsAt d g a
attends_free d g a None None e f w = w
attends_free d g a None (Some p) e f w = cc
attends_free d g a (Some x) q e f w = cc

-- its turn
pub attends_turn : (d : PlainCode) (a : PlainActor) → Lives d a → IsAttending a.role → unanswered a ≡ None → MayStep a → AttendsHere d a
attends_turn d a l i f m =
    let h = attends_or d a l i m.0 in
    let q = none_asked a.pending (is_running a.tx) a.at a.view (applied_in a.tx) a.done f in
    attends_here d a h m.1 h.agent refl (attends_free d h.agent a a.outcome a.pending m.0 q h.attends) m.0 q

-- how it ended, or ends now
pub attends_over : (d : PlainCode) (a : PlainActor) (x : Option Outcome) (o : Outcome) (c : PlainActor) → a.outcome ≡ x → Lives d a → IsAttending a.role → unanswered a ≡ None → IsOver a x o c → Turns d a (turned.Ended o) c × Lives d c
attends_over d a (Some y) o c e l i f k = (
  subst (λ (m : Option Outcome). TurnsFrom d a m (turned.Ended o) c) (sym e) (ap turned.Ended k.0, k.1),
  subst (λ (z : PlainActor). Lives d z) (sym k.1) l,
)
attends_over d a None o c e l i f k =
    let b : PlainActor = record a { outcome = Some outcome.StepsSpent } in
    let h = attends_or d a l i e in
    let q = none_asked a.pending (is_running a.tx) a.at a.view (applied_in a.tx) a.done f in
    let t : TurnsFrom d a None (turned.Ended outcome.StepsSpent) b = subst (λ (m : Bool). Moves d a m (turned.Ended outcome.StepsSpent) b) (sym (le-ltb a.steps a.limit k.0)) (refl, refl) in
    let still : Attends d b = record {
      function_rooms = h.function_rooms;
      thread_rooms = h.thread_rooms;
      typed = h.typed;
      agent = h.agent;
      acting = h.acting;
      here = h.here;
      actor = h.actor;
      roomy = h.roomy;
      commutes = h.commutes;
      opened = h.opened;
      attends = subst (λ (y : Option Pending). AttendsOn d h.agent b (Some outcome.StepsSpent) y) (sym q) tt;
    } in (
      subst (λ (m : Option Outcome). TurnsFrom d a m (turned.Ended o) c) (sym e) (subst (λ (y : Outcome). TurnsFrom d a None (turned.Ended y) c) (sym k.1) (subst (λ (z : PlainActor). TurnsFrom d a None (turned.Ended outcome.StepsSpent) z) (sym k.2) t)),
      subst (λ (z : PlainActor). Lives d z) (sym k.2) (inr still),
    )

-- ---- an answer in the agent's own body

-- it can take the answer
takes_for : (d : PlainCode) (g : CellId) (a : PlainActor) (o : Option Outcome) (q : Option Pending) (r : Reply) → 0 < a.room → AttendsOn d g a o q → MayAnswerIf (asked_for q (is_running a.tx) a.at a.view (applied_in a.tx) a.done) r → TakesAnswer a 0 q r
takes_for d g a o None r roomy w m = absurd m
takes_for d g a (Some x) (Some q) r roomy w m = absurd w
takes_for d g a None (Some (pending.Take h)) r roomy w m = take_replies (λ x. TakesAnswer a 0 (Some (pending.Take h)) x) h (λ i x v. (ap (λ (y : PlainActor). y.values) w.1, roomy)) w.2 tt r m
takes_for d g a None (Some (pending.Finish h (Ok z))) r roomy w m =
    let judged = subst HasJudged (sym (ap (λ (y : PlainActor). y.role) w.2)) tt in
    finish_replies (λ x. TakesAnswer a 0 (Some (pending.Finish h (Ok z))) x) h (Ok z.0) z.1 judged (λ f. judged) tt tt r m
takes_for d g a None (Some (pending.Finish h (Err f))) r roomy w m =
    let judged = subst HasJudged (sym (ap (λ (y : PlainActor). y.role) w.2)) tt in
    finish_replies (λ x. TakesAnswer a 0 (Some (pending.Finish h (Err f))) x) h (Err f) [] judged (λ k. judged) tt tt r m
takes_for d g a None (Some (pending.Hold xs)) r roomy w m = absurd w
takes_for d g a None (Some (pending.Begin left from)) r roomy w m = absurd w
takes_for d g a None (Some (pending.Read c)) r roomy w m = absurd w
takes_for d g a None (Some (pending.Ensure c es)) r roomy w m = absurd w
takes_for d g a None (Some (pending.Open c n kept)) r roomy w m = absurd w
takes_for d g a None (Some (pending.Reset c v)) r roomy w m = absurd w
takes_for d g a None (Some (pending.Send x n)) r roomy w m = absurd w
takes_for d g a None (Some (pending.View phase)) r roomy w m = absurd w
takes_for d g a None (Some pending.Commit) r roomy w m = absurd w
takes_for d g a None (Some (pending.Fail f)) r roomy w m = absurd w
takes_for d g a None (Some (pending.Swap c n from)) r roomy w m = absurd w
takes_for d g a None (Some (pending.Close c p v)) r roomy w m = absurd w
takes_for d g a None (Some (pending.Broke c p f)) r roomy w m = absurd w

-- an actor that has ended asks nothing
unended : (d : PlainCode) (a : PlainActor) (r : Reply) → Lives d a → MayAnswerIf (unanswered a) r → a.outcome ≡ None
unended d a r (inl u) m = by a.outcome a.pending u.goes m
  where
    by : (o : Option Outcome) (q : Option Pending) → CanGoOn d u.kinds u.body a o q → MayAnswerIf (asked_for q (is_running a.tx) a.at a.view (applied_in a.tx) a.done) r → o ≡ None
    by None q w n = refl
    by (Some x) None w n = absurd n
    by (Some x) (Some p) w n = absurd w
unended d a r (inr h) m = by a.outcome a.pending h.attends m
  where
    by : (o : Option Outcome) (q : Option Pending) → AttendsOn d h.agent a o q → MayAnswerIf (asked_for q (is_running a.tx) a.at a.view (applied_in a.tx) a.done) r → o ≡ None
    by None q w n = refl
    by (Some x) None w n = absurd n
    by (Some x) (Some p) w n = absurd w

pub attends_takes : (d : PlainCode) (a : PlainActor) (r : Reply) → Lives d a → IsAttending a.role → MayAnswerIf (unanswered a) r → TakesAnswer a 0 a.pending r
attends_takes d a r l i m =
    let h = attends_or d a l i (unended d a r l m) in
    takes_for d h.agent a a.outcome a.pending r h.roomy h.attends m

module _ (d : PlainCode) (a : PlainActor) (h : Attends d a) (e : a.outcome ≡ None) where
  -- an actor with the same code and work
  again : (c : PlainActor) (g : CellId) (o : Option InHand) → c.role ≡ Attending g o → c.number ≡ a.number → g ≡ h.agent → 0 < c.room → c.done ≡ a.done → c.commuting ≡ a.commuting → AttendsOn d g c c.outcome c.pending → Attends d c
  again c g o t n is roomy w k on_so = record {
    function_rooms = h.function_rooms;
    thread_rooms = h.thread_rooms;
    typed = h.typed;
    agent = g;
    acting = o;
    here = t;
    actor = subst (λ (x : CellId). IsActorOf d c.number x) (sym is) (subst (λ (x : ℕ). IsActorOf d x h.agent) (sym n) h.actor);
    roomy = roomy;
    commutes = subst (λ (x : PlainTxFrame). AllApply (functions_of d h.typed.kinds) x.commutes) (sym w) h.commutes;
    opened = subst (λ (x : Option Commute). OpenApplies (functions_of d h.typed.kinds) x) (sym k) h.opened;
    attends = on_so;
  }

  -- one that was stopped
  ends_so : (x : Outcome) → Attends d (stops_as a x)
  ends_so x = again (stops_as a x) h.agent h.acting h.here refl refl h.roomy refl refl tt

  -- it is at the beginning of its own body again
  home_anew : (x : InHand) → a ≡ attending_at a h.agent (Some x) a.place [] → Attends d (attends_anew a a.role)
  home_anew x is =
      let b : PlainActor = attending_at a h.agent (Some x) a.place [] in
      let there = attends_anew b b.role in
      let home : Attends d there = again there h.agent None refl refl refl h.roomy refl refl (subst (λ (o : Option Outcome). AttendsOn d h.agent there o None) (sym e) (waits refl)) in
      subst (λ (y : PlainActor). Attends d (attends_anew y y.role)) (sym is) home

  lands_for : (q : Pending) (r : Reply) → AttendsFor d h.agent a (Some q) → HandsOut d r → MayAnswerIf (Some (ask_for q (is_running a.tx) a.at a.view (applied_in a.tx) a.done)) r → Attends d (answered_for a q r)
  lands_for (pending.Take g) r w out m =
      take_replies (λ (x : Reply). HandsOut d x → Attends d (answered_for a (pending.Take g) x)) g
      (λ i x v may.
      let there : PlainActor → PlainActor = λ y. answered_for y (pending.Take g) (reply.Action i x v) in
      let stood : there a ≡ attending_at (there a) g (Some (in_hand g x)) 1 (v ∷ []) = subst (λ (y : PlainActor). there y ≡ attending_at (there y) g (Some (in_hand g x)) 1 (v ∷ [])) (sym w.1) refl in
      again (there a) g (Some (in_hand g x)) refl refl w.0 h.roomy refl refl (subst (λ (o : Option Outcome). AttendsOn d g (there a) o None) (sym e) (has_taken x v may stood)))
      (λ may.
      let there : PlainActor → PlainActor = λ y. answered_for y (pending.Take g) reply.Idle in
      let stood : there a ≡ attending_at (there a) g None 0 [] = subst (λ (y : PlainActor). there y ≡ attending_at (there y) g None 0 []) (sym w.1) (ap (λ (y : CellId). attending_at (there a) y None 0 []) (sym w.0)) in
      let here_so : a.role ≡ Attending g None = ap (λ (y : PlainActor). y.role) w.1 ∙ ap (λ (y : CellId). Attending y None) (sym w.0) in
      again (there a) g None here_so refl w.0 h.roomy refl refl (subst (λ (o : Option Outcome). AttendsOn d g (there a) o None) (sym e) (waits stood)))
      (λ may. ends_so outcome.Memory) r m out
  lands_for (pending.Finish g (Ok z)) r w out m =
      finish_replies (λ (x : Reply). HandsOut d x → Attends d (answered_for a (pending.Finish g (Ok z)) x)) g (Ok z.0) z.1
      (λ may. home_anew w.1 w.2) (λ f may. home_anew w.1 w.2) (λ may. ends_so outcome.JournalFull) (λ may. ends_so outcome.Memory) r m out
  lands_for (pending.Finish g (Err f)) r w out m =
      finish_replies (λ (x : Reply). HandsOut d x → Attends d (answered_for a (pending.Finish g (Err f)) x)) g (Err f) []
      (λ may. home_anew w.1 w.2) (λ k may. home_anew w.1 w.2) (λ may. ends_so outcome.JournalFull) (λ may. ends_so outcome.Memory) r m out
  lands_for (pending.Hold xs) r w out m = absurd w
  lands_for (pending.Begin left from) r w out m = absurd w
  lands_for (pending.Read c) r w out m = absurd w
  lands_for (pending.Ensure c es) r w out m = absurd w
  lands_for (pending.Open c n kept) r w out m = absurd w
  lands_for (pending.Reset c v) r w out m = absurd w
  lands_for (pending.Send x n) r w out m = absurd w
  lands_for (pending.View phase) r w out m = absurd w
  lands_for pending.Commit r w out m = absurd w
  lands_for (pending.Fail f) r w out m = absurd w
  lands_for (pending.Swap c n from) r w out m = absurd w
  lands_for (pending.Close c p v) r w out m = absurd w
  lands_for (pending.Broke c p f) r w out m = absurd w

  lands_if : (o : Option Outcome) (q : Option Pending) (r : Reply) → o ≡ None → AttendsOn d h.agent a o q → HandsOut d r → MayAnswerIf (asked_for q (is_running a.tx) a.at a.view (applied_in a.tx) a.done) r → Attends d (answered_if a q r)
  lands_if o None r f w out m = absurd m
  lands_if None (Some q) r f w out m = lands_for q r w out m
  lands_if (Some x) (Some q) r f w out m = cc

-- it can go on after it
pub attends_lands : (d : PlainCode) (a : PlainActor) (r : Reply) → Lives d a → IsAttending a.role → MayAnswerIf (unanswered a) r → HandsOut d r → Lives d (answered a r)
attends_lands d a r l i m out =
    let e = unended d a r l m in
    let h = attends_or d a l i e in
    inr (lands_if d a h e a.outcome a.pending r e h.attends out m)

-- ---- an agent's actor before its first turn

module _ (d : PlainCode) (n limit : ℕ) (g : CellId) (actor : IsActorOf d n g) (out : List ℕ) (w : PlainTxFrame) where
  abbrev new_agent : PlainActor
  new_agent = it n (Attending g None) 0 [] 0 0 [] out 0 0 w None None 0 limit 1 Outside None

  pub agent_is_new : out ≡ [] → w ≡ empty_frame → IsNew d n limit new_agent
  agent_is_new unprinted undone =
      let at_first : List ℕ → PlainTxFrame → Configuration = λ o y. first_place [] (stated [] o 0 0 y None None None) in
      record {
        number = refl;
        opens = ap (λ (o : List ℕ). at_first o w) unprinted ∙ ap (λ (y : PlainTxFrame). at_first [] y) undone ∙ ap (λ (t : ThreadCode). opening t []) (sym actor);
        unended = refl;
        unasking = refl;
        unused = refl;
        limited = refl;
      }

  pub agent_lives : w ≡ empty_frame → (function_rooms thread_rooms : List ℕ) → WellTyped d function_rooms thread_rooms → Attends d new_agent
  agent_lives undone function_rooms thread_rooms typed = record {
    function_rooms = function_rooms;
    thread_rooms = thread_rooms;
    typed = typed;
    agent = g;
    acting = None;
    here = refl;
    actor = actor;
    roomy = omega arith;
    commutes = subst (λ (y : PlainTxFrame). AllApply (functions_of d typed.kinds) y.commutes) (sym undone) tt;
    opened = tt;
    attends = waits refl;
  }
