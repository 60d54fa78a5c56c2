-- What an agent's actor asks it may ask, it is handed what it may run, and it goes on so after the answer.
use Rattle.std.proofs.Common.{◌≡◌, ◌≤◌, ◌+◌, ◌-◌, ℕ, zero, suc, Bool, true, false, not, nat_lt, List, [], ◌∷◌, ◌++◌, length, get_or, Option, Some, None, refl, sym, ap, subst, ◌∙◌, ◌⊎◌, inl, inr, arith}
use Rattle.std.proofs.lemmas.Bool.Decides.{nat_tests}
use Rattle.txs_world_protocol.specs.declared.ask.Ask.{Ask}
use Rattle.txs_world_protocol.specs.declared.ask.Ask.TheVariants as ask
use Rattle.txs_world_protocol.specs.declared.ask.Reply.{Reply}
use Rattle.txs_world_protocol.specs.declared.ask.Reply.TheVariants as reply
use Rattle.txs_world_protocol.specs.declared.event.Event.{Event}
use Rattle.txs_world_protocol.specs.declared.event.Outcome.{Outcome}
use Rattle.txs_value_data.specs.Places.{nth}
use Rattle.txs_value_data.specs.declared.fault.Span.{Span}
use Rattle.txs_value_cell.specs.declared.action.Action.{Action}
use Rattle.txs_value_data.specs.declared.value.CellId.{CellId}
use Rattle.txs_value_data.specs.declared.value.Value.{Value}
use Rattle.txs_code_meaning.specs.ActorState.{ActorState}
use Rattle.txs_code_meaning.specs.Machine.{PlainInstr, TakeOf, FinishOf, ThreadCode, Configuration, Asking, Unfinished, agent_code, instr_at, turn}
use Rattle.txs_code_meaning.specs.OwnCells.{NamesOwnCells}
use Rattle.txs_code_meaning.specs.PlainCode.{CodeBody, PlainCode, library_of, parameters_of, plain_instr, plain_instrs, plain_bodies}
use Rattle.txs_code_meaning.specs.declared.instr.Instr.{Instr}
use Rattle.txs_code_meaning.specs.declared.instr.Instr.TheVariants as instr
use Rattle.txs_machine_actor.specs.PlainActor.{PlainActor, IsActorOf, Lives, AttendsOn, MayAnswer, MayRun, HandsOut, answered, answered_if, asked_for, unanswered, code_of, CanGoOn}
use Rattle.txs_machine_actor.specs.Turns.{TurnsOf}
use Rattle.txs_machine_actor.specs.declared.outcome.Turn.TheVariants as turned
use Rattle.txs_machine_transaction.specs.Asks.{ask_for, applied_in}
use Rattle.txs_machine_transaction.specs.Transaction.{is_running}
use Rattle.txs_machine_transaction.specs.declared.state.Pending.{Pending}
use Rattle.txs_machine_transaction.specs.declared.state.Pending.TheVariants as pending
use Rattle.txs_world_book.specs.Book.{actors, has_agent}
use Rattle.txs_world_book.specs.Book as world
use Rattle.txs_world_book.specs.Served.{cells_of}
use Rattle.txs_world.specs.Store.{takes, next_action}
use Rattle.txs_theorem_runs.specs.Lawful.{NamesOwn, RunAsksLawful}
use Rattle.txs_theorem_runs.specs.Run as run
use Rattle.txs_theorem_runs.specs.Run.{State}
use Rattle.txs_theorem_runs.specs.Shared.{Shared, book_for, may_ask}
use Rattle.txs_theorem_runs.specs.Standing.{StandingActor}
use Rattle.txs_theorem_runs.proofs.Asker.{agent_is}
use Rattle.txs_theorem_runs.proofs.Growing.{Grown}
use Rattle.txs_world_shared.specs.SharedState as shared
use Rattle.txs_world_shared.specs.SharedState.{PlainShared, shared_of, is_lawful, answer_to, IsAfter}
use Rattle.txs_machine.specs.RunOver.{IsStateOf, IsLimited, books_of}
use Rattle.txs_machine.specs.Running.{HasWork, IsAgentAt, IsAnswered, IsInRun, IsPlacedAs}
use Rattle.txs_machine.specs.Scheduled.{after_turns, run_of, steps_by}
use Rattle.txs_machine.specs.Serving.{IsServed}
use Rattle.txs_world_protocol.specs.declared.event.Place.{Place}
use Rattle.txs_machine.proofs.Answered.{Leaves, answer_leaves, idle_takes}
use Rattle.txs_machine.proofs.Going.{turns_append, turns_lead}
use Rattle.txs_machine.proofs.Limits.{answered_limited}
use Rattle.txs_machine.proofs.OwnCells.{openings_known, code_known}
use Rattle.txs_machine.proofs.RunOver.{not_grown, served_grows, served_may, state_with, as_state}
use Rattle.txs_machine.proofs.Together.{agent_acts, agent_at}

some : {A : Type 0} {x y : A} → Some x ≡ Some y → x ≡ y
some e = cc

abbrev is_some : {A : Type 0} → Option A → Type 0
is_some None = ⊥
is_some (Some x) = Unit {0}

pub never_ended : (b : PlainActor) (o : Outcome) → b.outcome ≡ Some o → b.outcome ≡ None → ⊥
never_ended b o e f = subst is_some (sym e ∙ f) tt

-- ---- an agent's own instructions name it

abbrev NamesNone : Option PlainInstr → Type 0
NamesNone (Some (TakeOf g)) = ⊥
NamesNone (Some (FinishOf g)) = ⊥
NamesNone _ = Unit {0}

instr_names : (ps : List ℕ) (ks : List Value) (i : Instr) (span : Span) → NamesNone (Some (plain_instr ps ks i span))
instr_names ps ks (instr.Const k) span = tt
instr_names ps ks (instr.Local k) span = tt
instr_names ps ks (instr.Store k) span = tt
instr_names ps ks instr.Pop span = tt
instr_names ps ks (instr.Jump to) span = tt
instr_names ps ks (instr.JumpFalse to) span = tt
instr_names ps ks (instr.Core op k) span = tt
instr_names ps ks (instr.Call g) span = tt
instr_names ps ks instr.Return span = tt
instr_names ps ks (instr.Vector k) span = tt
instr_names ps ks (instr.Print k) span = tt
instr_names ps ks (instr.Look look) span = tt
instr_names ps ks (instr.Put put) span = tt
instr_names ps ks instr.TxBegin span = tt
instr_names ps ks instr.TxEnd span = tt
instr_names ps ks (instr.Open form k) span = tt
instr_names ps ks (instr.Close form) span = tt
instr_names ps ks (instr.Send f n) span = tt
instr_names ps ks instr.Halt span = tt

nth_names : (ps : List ℕ) (ks : List Value) (is : List Instr) (spans : List Span) (at : ℕ) → NamesNone (nth (plain_instrs ps ks is spans) at)
nth_names ps ks [] spans at = tt
nth_names ps ks (i ∷ is) [] at = tt
nth_names ps ks (i ∷ is) (span ∷ spans) zero = instr_names ps ks i span
nth_names ps ks (i ∷ is) (span ∷ spans) (suc at) = nth_names ps ks is spans at

body_names : (ps : List ℕ) (ks : List Value) (bs : List CodeBody) (f at : ℕ) → NamesNone (instr_at (nth (plain_bodies ps ks bs) f) at)
body_names ps ks [] f at = tt
body_names ps ks (b ∷ bs) zero at = nth_names ps ks b.instrs b.spans at
body_names ps ks (b ∷ bs) (suc f) at = body_names ps ks bs f at

-- which agent an instruction names
abbrev named_or : CellId → Option PlainInstr → CellId
named_or d (Some (TakeOf g)) = g
named_or d (Some (FinishOf g)) = g
named_or d _ = d

pub agent_names : (code : PlainCode) (g : CellId) → NamesOwn g (agent_code (library_of code) g)
agent_names code g zero zero h = (λ e. sym (ap (named_or h) e), λ e. sym (ap (named_or h) e))
agent_names code g zero (suc zero) h = (λ e. absurd (subst IsNamed (sym e) tt), λ e. absurd (subst IsNamed (sym e) tt))
  where
    IsNamed : Option PlainInstr → Type 0
    IsNamed (Some (TakeOf i)) = Unit {0}
    IsNamed (Some (FinishOf i)) = Unit {0}
    IsNamed _ = ⊥
agent_names code g zero (suc (suc zero)) h = (λ e. sym (ap (named_or h) e), λ e. sym (ap (named_or h) e))
agent_names code g zero (suc (suc (suc at))) h = (λ e. absurd (subst is_some (sym e) tt), λ e. absurd (subst is_some (sym e) tt))
agent_names code g (suc f) at h =
    let n = body_names (parameters_of code.functions) code.constants code.functions f at in
    (λ e. absurd (subst NamesNone e n), λ e. absurd (subst NamesNone e n))

-- ---- its ask is lawful

module _ (law : RunAsksLawful) (code : PlainCode) (g : CellId) (k : ℕ) (at : IsAgentAt code g k) (stands : StandingActor true (agent_code (library_of code) g)) (mine : NamesOwnCells code) where
  abbrev threads : ℕ
  threads = length code.threads

  no_thread : nat_lt k threads ≡ false
  no_thread = let e = at.place in tested k threads (omega (arith, e))
    where
      tested : (i n : ℕ) → n ≤ i → nat_lt i n ≡ false
      tested i n h = grind (arith, nat_tests, h)

  an_actor : nat_lt k (actors threads (cells_of code.cells)) ≡ true
  an_actor = subst (λ n. nat_lt n (actors threads (cells_of code.cells)) ≡ true) (sym at.place) (agent_is code.cells threads g at.has)

  stands_so : StandingActor (not (nat_lt k threads)) (code_of code k)
  stands_so = subst (λ b. StandingActor (not b) (code_of code k)) (sym no_thread) (subst (StandingActor true) (sym at.acts) stands)

  own_names : (h : CellId) → has_agent (cells_of code.cells) h ≡ true → NamesOwn h (code_of code (world.actor_of threads (cells_of code.cells) h))
  own_names h has =
      let a = agent_acts code h has in
      subst (NamesOwn h) (sym (ap (code_of code) a.2 ∙ (agent_at code a.0 h a.1).acts)) (agent_names code h)

  -- what turns of an agent's actor come to ask, it may ask
  pub asked_lawful : (s : PlainShared) (a b : PlainActor) (tr : List Place) (n : ℕ) (q : Ask) → IsStateOf code s → IsInRun code k s a tr → a.outcome ≡ None → TurnsOf code n a (turned.Asks q) b → is_lawful s k q ≡ true
  asked_lawful s a b tr n q of r going turns =
      let st = run_of code r.turns in
      let place = subst (λ o. IsPlacedAs a o (st.actors k).at (st.actors k).stopped) going r.player.placed in
      let counted : a.steps ≡ (st.actors k).turns = r.player.counted ∙ ap (λ w. steps_by w (st.actors k).turns) place.1 in
      let l = turns_lead code k a.limit n a b (turned.Asks q) st r.player.number going refl counted place.0 place.1 turns in
      let on : run_of code (r.turns ++ l.turns) ≡ after_turns code l.turns st = turns_append code r.turns l.turns (run.opens code.cells (code_of code)) in
      let may = law code.cells threads (code_of code) (r.turns ++ l.turns) (openings_known code mine) (λ i. code_known code i mine) own_names k l.stands.0 _ q an_actor stands_so
      (ap (λ (u : State). (u.actors k).at) on ∙ l.stands.1) l.stands.3.asks refl in
      let same : shared_of s ≡ (run_of code (r.turns ++ l.turns)).shared = r.shared ∙ sym l.shared ∙ sym (ap (λ (u : State). u.shared) on) in
      subst (λ (x : PlainShared). is_lawful x k q ≡ true) (sym (as_state code s of))
      (subst (λ (sh : Shared). may_ask code.cells threads sh.taken k q (sh.books (book_for code.cells q)) ≡ true) (sym same) may)

  -- what a run's next instruction asks, it may ask
  pub asks_so : (before : List run.Play) (c : Configuration) (w : ActorState) (q : Ask) → ((run_of code before).actors k).at ≡ Unfinished c → turn (code_of code k) c ≡ Asking w → w.wants ≡ Some q
      → may_ask code.cells threads (run_of code before).shared.taken k q ((run_of code before).shared.books (book_for code.cells q)) ≡ true
  asks_so before c w q here e wants = law code.cells threads (code_of code) before (openings_known code mine) (λ i. code_known code i mine) own_names k c w q an_actor stands_so here e wants

-- ---- it is handed what it may run

abbrev IsMemory : Reply → Type 0
IsMemory reply.Memory = Unit {0}
IsMemory _ = ⊥

abbrev action_in : Reply → Option Action
action_in (reply.Action n x v) = Some x
action_in _ = None

takes_action : (o : Option Action) (n : ℕ) (v : Value) → action_in (takes o n v) ≡ o
takes_action None n v = refl
takes_action (Some x) n v = refl

-- what is handed out is the first action of a mail
next_for : (code : PlainCode) (s : PlainShared) (k : ℕ) (q : Ask) (i : ℕ) (x : Action) (v : Value) → IsStateOf code s → MayAnswer q (reply.Action i x v) → action_in (answer_to s k q).reply ≡ Some x → (g : CellId) × (next_action (cells_of code.cells) (books_of s 0) g ≡ Some x)
next_for code s k q i x v of m e = go q m e
  where
    go : (p : Ask) → MayAnswer p (reply.Action i x v) → action_in (answer_to s k p).reply ≡ Some x → (g : CellId) × (next_action (cells_of code.cells) (books_of s 0) g ≡ Some x)
    go ask.Begin h f = absurd h
    go (ask.Look c p) h f = absurd h
    go (ask.View cs) h f = absurd h
    go (ask.Commit p ws es y cs xs) h f = absurd h
    go (ask.Fail p y) h f = absurd h
    go (ask.Peek c) h f = absurd h
    go (ask.Send y) h f = absurd h
    go (ask.Take j) h f = (j, ap (λ cs. next_action (cells_of cs) (books_of s 0) j) (sym of.cells) ∙ sym (takes_action (next_action (cells_of s.cells) (books_of s 0) j) _ _) ∙ f)
    go (ask.Finish j new sends) h f = absurd h
    go (ask.OpenAt c) h f = absurd h
    go (ask.CloseAt c p w) h f = absurd h
    go (ask.Broke c p) h f = absurd h

pub agent_hands : (code : PlainCode) (s t : PlainShared) (k : ℕ) (q : Ask) (r : Reply) (tr new : List Place) → IsStateOf code s
    → ((g : CellId) (x : Action) → next_action (cells_of code.cells) (books_of s 0) g ≡ Some x → MayRun code x) → IsServed s k q r t tr new → HandsOut code r
agent_hands code s t k q r tr new of may (inr u) = subst (HandsOut code) (sym u.replied) tt
agent_hands code s t k q r tr new of may (inl n) = go r n.answered (served_may s t k q r tr new (inl n))
  where
    go : (y : Reply) → shared.Answers s q (answer_to s k q) y t → MayAnswer q y → HandsOut code y
    go (reply.At p) a m = tt
    go (reply.Is v) a m = tt
    go (reply.Views p vs) a m = tt
    go reply.Done a m = tt
    go (reply.Retry d) a m = tt
    go (reply.Changed d) a m = tt
    go (reply.AgentIsFailed h) a m = tt
    go (reply.Action i x v) a m = let w = next_for code s k q i x v of m (sym (ap action_in a.0)) in may w.0 x w.1
    go reply.Idle a m = tt
    go (reply.Opened p v) a m = tt
    go reply.Full a m = tt
    go reply.Memory a m = tt

-- ---- after the answer

-- the state is one after what was served, or as it was
after_or : (s t : PlainShared) (k : ℕ) (q : Ask) (r : Reply) (tr new : List Place) → IsServed s k q r t tr new → (t ≡ s) ⊎ IsAfter s q (answer_to s k q) t
after_or s t k q r tr new (inr u) = inl u.state
after_or s t k q r tr new (inl n) = go r n.answered
  where
    go : (y : Reply) → shared.Answers s q (answer_to s k q) y t → (t ≡ s) ⊎ IsAfter s q (answer_to s k q) t
    go (reply.At p) a = inr a.1
    go (reply.Is v) a = inr a.1
    go (reply.Views p vs) a = inr a.1
    go reply.Done a = inr a.1
    go (reply.Retry d) a = inr a.1
    go (reply.Changed d) a = inr a.1
    go (reply.AgentIsFailed h) a = inr a.1
    go (reply.Action i x v) a = inr a.1
    go reply.Idle a = inr a.1
    go (reply.Opened p v) a = inr a.1
    go reply.Full a = inr a.1
    go reply.Memory a = inl a.1

grown_after : (code : PlainCode) (k : ℕ) (bs : List (List Event)) (taken : List Bool) (q : Ask) (t : PlainShared) → is_lawful (state_with code bs taken) k q ≡ true
    → (t ≡ state_with code bs taken) ⊎ IsAfter (state_with code bs taken) q (answer_to (state_with code bs taken) k q) t → Grown k (λ n. get_or bs n []) (books_of t)
grown_after code k bs taken q t lawful (inl e) = subst (λ (x : PlainShared). Grown k (λ n. get_or bs n []) (books_of x)) (sym e) (not_grown k (λ n. get_or bs n []))
grown_after code k bs taken q t lawful (inr g) = subst (λ (b : ℕ → List Event). Grown k (λ n. get_or bs n []) b) (sym (ap (λ (sh : Shared). sh.books) g.shared)) (served_grows code k (λ n. get_or bs n []) taken q lawful)

-- whether a reply says that there is no action
idle_or : (r : Reply) → (r ≡ reply.Idle) ⊎ (r ≡ reply.Idle → ⊥)
idle_or (reply.At p) = inr (λ e. cc)
idle_or (reply.Is v) = inr (λ e. cc)
idle_or (reply.Views p vs) = inr (λ e. cc)
idle_or reply.Done = inr (λ e. cc)
idle_or (reply.Retry d) = inr (λ e. cc)
idle_or (reply.Changed d) = inr (λ e. cc)
idle_or (reply.AgentIsFailed h) = inr (λ e. cc)
idle_or (reply.Action i x v) = inr (λ e. cc)
idle_or reply.Idle = inl refl
idle_or (reply.Opened p v) = inr (λ e. cc)
idle_or reply.Full = inr (λ e. cc)
idle_or reply.Memory = inr (λ e. cc)

-- one that waits for an action is the actor of the agent
takes_own : (code : PlainCode) (a : PlainActor) (j : CellId) → Lives code a → a.outcome ≡ None → a.pending ≡ Some (pending.Take j) → IsActorOf code a.number j
takes_own code a j (inl r) e f =
    let w : CanGoOn code r.kinds r.body a None (Some (pending.Take j)) = subst (λ p. CanGoOn code r.kinds r.body a None p) f (subst (λ o. CanGoOn code r.kinds r.body a o a.pending) e r.goes) in
    absurd w.1
takes_own code a j (inr h) e f =
    let w : AttendsOn code h.agent a None (Some (pending.Take j)) = subst (λ p. AttendsOn code h.agent a None p) f (subst (λ o. AttendsOn code h.agent a o a.pending) e h.attends) in
    subst (IsActorOf code a.number) (sym w.0) h.actor

abbrev agent_named : CellId → List PlainInstr → CellId
agent_named d (TakeOf g ∷ is) = g
agent_named d _ = d

-- it is one agent's
same_agent : (code : PlainCode) (k : ℕ) (g h : CellId) → IsActorOf code k g → IsActorOf code k h → g ≡ h
same_agent code k g h e f = ap (λ (t : ThreadCode). agent_named g t.main.instrs) (sym e ∙ f)

module _ (code : PlainCode) (s t : PlainShared) (g : CellId) (k : ℕ) (a z : PlainActor) (q : Ask) (tr new : List Place) (of : IsStateOf code s) (at : IsAgentAt code g k) (number : a.number ≡ k) (lives : Lives code a) (going : a.outcome ≡ None)
    (asks : unanswered a ≡ Some q) (h : IsAnswered k s a tr q t z new) where
  -- what it waits for, where it is told that there is no action
  record Waits : Type 0 where
    waits : a.pending ≡ Some (pending.Take g)
    takes : q ≡ ask.Take g

  waits_so : h.reply ≡ reply.Idle → Waits
  waits_so e = go a.pending refl asks
    where
      go : (o : Option Pending) → a.pending ≡ o → asked_for o (is_running a.tx) a.at a.view (applied_in a.tx) a.done ≡ Some q → Waits
      go None f i = absurd (subst is_some (sym i) tt)
      go (Some p) f i =
          let w = idle_takes a p (subst (λ y. MayAnswer y reply.Idle) (sym (some i)) (subst (MayAnswer q) e h.may)) in
          let pends : a.pending ≡ Some (pending.Take w.0) = f ∙ ap (λ y. Some y) w.1 in
          let own : w.0 ≡ g = same_agent code k w.0 g (subst (λ n. IsActorOf code n w.0) number (takes_own code a w.0 lives going pends)) at.acts in
          record {
            waits = pends ∙ ap (λ y. Some (pending.Take y)) own;
            takes = sym (some i) ∙ ap (λ y. ask_for y (is_running a.tx) a.at a.view (applied_in a.tx) a.done) w.1 ∙ ap ask.Take own;
          }

  -- where there was no action it is where it was, a step before
  abbrev Idled : Type 0
  Idled = z ≡ record a { steps = a.steps - 1; pending = None }

  idled : h.reply ≡ reply.Idle → Idled
  idled e = h.is ∙ ap (answered a) e ∙ ap (λ p. answered_if a p reply.Idle) (waits_so e).waits

  left_by : (h.reply ≡ reply.Idle → ⊥) → Leaves a z
  left_by unless = subst (Leaves a) (sym h.is) (answer_leaves a q h.reply asks h.may unless)

  pub after_number : z.number ≡ k
  after_number = go (idle_or h.reply) ∙ number
    where
      go : (h.reply ≡ reply.Idle) ⊎ (h.reply ≡ reply.Idle → ⊥) → z.number ≡ a.number
      go (inl e) = ap (λ (x : PlainActor). x.number) (idled e)
      go (inr u) = (left_by u).number

  pub after_limited : (limit : ℕ) → IsLimited limit a → IsLimited limit z
  after_limited limit l = go (idle_or h.reply)
    where
      go : (h.reply ≡ reply.Idle) ⊎ (h.reply ≡ reply.Idle → ⊥) → IsLimited limit z
      go (inl e) =
          let less : a.steps - 1 ≤ limit = omega (arith, l.within) in
          subst (IsLimited limit) (sym (idled e)) (record { limited = l.limited; within = less; spent = λ x. absurd (subst is_some (sym x ∙ going) tt) })
      go (inr u) = subst (IsLimited limit) (sym h.is) (answered_limited limit a h.reply going (answer_leaves a q h.reply asks h.may u) l)

  pub after_steps : a.steps ≤ z.steps + 1
  after_steps = go (idle_or h.reply)
    where
      go : (h.reply ≡ reply.Idle) ⊎ (h.reply ≡ reply.Idle → ⊥) → a.steps ≤ z.steps + 1
      go (inl e) = let i = ap (λ (x : PlainActor). x.steps) (idled e) in omega (arith, i)
      go (inr u) = let i = (left_by u).steps in omega (arith, i)

  -- it is there where the agent has nothing to do
  pub after_work : HasWork code s g → a.steps ≤ z.steps
  after_work w = let i = (left_by never).steps in omega (arith, i)
    where
      given : (r : Reply) → r ≡ reply.Idle → IsServed s k q r t tr new → action_in (answer_to s k q).reply ≡ None
      given r e (inr u) = absurd (subst IsMemory (sym u.replied ∙ e) tt)
      given r e (inl n) = sym (ap action_in (subst (λ y. shared.Answers s q (answer_to s k q) y t) e n.answered).0)

      handed : q ≡ ask.Take g → action_in (answer_to s k q).reply ≡ None → ⊥
      handed e f =
          let next : next_action (cells_of s.cells) (books_of s 0) g ≡ Some w.0 = ap (λ cs. next_action (cells_of cs) (books_of s 0) g) of.cells ∙ w.1 in
          subst is_some (sym next ∙ sym (takes_action (next_action (cells_of s.cells) (books_of s 0) g) _ _) ∙ subst (λ p. action_in (answer_to s k p).reply ≡ None) e f) tt

      never : h.reply ≡ reply.Idle → ⊥
      never e = handed (waits_so e).takes (given h.reply e h.served)

  pub after_of : IsStateOf code t
  after_of = go (after_or s t k q h.reply tr new h.served)
    where
      go : (t ≡ s) ⊎ IsAfter s q (answer_to s k q) t → IsStateOf code t
      go (inl e) = subst (IsStateOf code) (sym e) of
      go (inr x) = record { cells = x.cells ∙ of.cells; threads = x.threads ∙ of.threads }

  pub after_grown : Grown k (books_of s) (books_of t)
  after_grown =
      subst (λ (x : PlainShared). Grown k (books_of x) (books_of t)) (sym is)
      (grown_after code k s.books s.taken q t (subst (λ (x : PlainShared). is_lawful x k q ≡ true) is h.lawful)
      (subst (λ (x : PlainShared). (t ≡ x) ⊎ IsAfter x q (answer_to x k q) t) is (after_or s t k q h.reply tr new h.served)))
    where
      is : s ≡ state_with code s.books s.taken
      is = as_state code s of
