-- A play of an actor, as its turns and the answer to its ask: turns of a run of many actors, as the laws of runs speak of them.
use Rattle.std.proofs.Common.{◌≡◌, ◌==◌, ◌≤◌, ◌+◌, ◌⊎◌, ℕ, zero, suc, List, [], ◌∷◌, ◌++◌, length, map, get_or, true, false, Bool, nat_lt, Option, Some, None, refl, sym, ap, subst, ◌∙◌, inl, inr, if◌then◌else◌, arith}
use Rattle.std.proofs.lemmas.Bool.Decides.{nat_tests}
use Rattle.txs_world_protocol.specs.Ask.{Exchange}
use Rattle.txs_world_protocol.specs.declared.ask.Ask.{Ask}
use Rattle.txs_world_protocol.specs.declared.ask.Reply.{Reply}
use Rattle.txs_world_protocol.specs.declared.ask.Reply.TheVariants as reply
use Rattle.txs_world_protocol.specs.declared.event.Event.{Event}
use Rattle.txs_world_protocol.specs.declared.event.Outcome.{Outcome}
use Rattle.txs_world_protocol.specs.declared.event.Outcome.TheVariants as outcome
use Rattle.txs_value_data.proofs.SameLemmas.{number-itself}
use Rattle.txs_value_data.specs.Limits.{most_events}
use Rattle.txs_code_meaning.specs.Machine.{ThreadCode, Configuration, Turned, Ended, Failed, Asking, Unfinished, Stuck, turn}
use Rattle.txs_code_meaning.specs.PlainCode.{PlainCode}
use Rattle.txs_machine_actor.specs.Laws.{ActorsRun}
use Rattle.txs_machine_actor.specs.PlainActor.{PlainActor, MayAnswer, Stops, answered, unanswered, configuration_of, state_of, code_of, standing, SameBut, Awaits, HasRun}
use Rattle.txs_machine_actor.specs.Turns.{Answers, Moves, TurnsFrom, Turns, GoesOnAfter, TurnsOf}
use Rattle.txs_machine_actor.specs.declared.outcome.Turn.{Turn}
use Rattle.txs_machine_actor.specs.declared.outcome.Turn.TheVariants as turned
use Rattle.txs_machine_actor.proofs.Following.{Unstopped, unstopped_if}
use Rattle.txs_machine_actor.proofs.Saying.{turn_says}
use Rattle.txs_world_book.specs.Served.{Served}
use Rattle.txs_theorem_runs.specs.Laws.{with_book}
use Rattle.txs_theorem_runs.specs.Run as run
use Rattle.txs_theorem_runs.specs.Run.{Stop, Actor, State, Moved, Play, TakesTurn, IsStopped, moved, entry, stop, hears, replied, asked, turned as turned_so, turns_from, stops_from, play, placed}
use Rattle.txs_theorem_runs.specs.Shared.{Shared, book_for, serve_on, may_ask, shared_after}
use Rattle.txs_theorem_runs.specs.Told.{Entry, exchange_of, IsExchanged, AllHold, trace_of}
use Rattle.txs_theorem_runs.proofs.Growing.{IsFull, Serves, trace_stays}
use Rattle.txs_theorem_runs.proofs.Serving.{serves}
use Rattle.txs_world_shared.specs.SharedState as shared
use Rattle.txs_world_shared.specs.SharedState.{PlainShared, shared_of, is_lawful, IsAfter}
use Rattle.txs_machine.specs.RunOver.{IsStateOf, books_of, places_of}
use Rattle.txs_machine.specs.Running.{IsPlacedAs, IsPlayerOf, ComesTo, GoesAs, IsAnswered}
use Rattle.txs_machine.specs.Scheduled.{after_turns, run_of, steps_by, is_quiet, turns_next, turns_at, own_turns, AreTurnsOf}
use Rattle.txs_machine.specs.Serving.{IsNext, with_place, IsServed}
use Rattle.txs_world_protocol.specs.declared.event.Place.{Place}
use Rattle.txs_machine.proofs.Answered.{Leaves, answer_leaves, full_stops, memory_stops, full_state, memory_state, idle_number, idle_outcome, idle_steps}
use Rattle.txs_machine.proofs.Limits.{NoAsk}
use Rattle.txs_machine.proofs.RunOver as over
use Rattle.txs_machine.proofs.RunOver.{append_nil, map_append, Unfilled, unfilled_of, move_unfilled, noted_places, full_at, adds_event, state_with, as_state}

-- turns after others
pub turns_append : (code : PlainCode) (xs ys : List Play) (st : State) → after_turns code (xs ++ ys) st ≡ after_turns code ys (after_turns code xs st)
turns_append code [] ys st = refl
turns_append code (x ∷ xs) ys st = turns_append code xs ys (play code.cells (length code.threads) (code_of code) x st)

-- these turns are one actor's
abbrev pub AreOf : ℕ → List Play → Type 0
AreOf k [] = Unit {0}
AreOf k (y ∷ ys) = (run.actor_of y ≡ k) × AreOf k ys

pub of_append : (k : ℕ) (xs ys : List Play) → AreOf k xs → AreOf k ys → AreOf k (xs ++ ys)
of_append k [] ys h g = g
of_append k (x ∷ xs) ys h g = (h.0, of_append k xs ys h.1 g)

-- turns of one actor leave the others as they were
pub others_left : (code : PlainCode) (k j : ℕ) (ys : List Play) (st : State) → (k == j) ≡ false → AreOf k ys → (after_turns code ys st).actors j ≡ st.actors j
others_left code k j [] st n h = refl
others_left code k j (y ∷ ys) st n h =
    others_left code k j ys (play code.cells (length code.threads) (code_of code) y st) n h.1
    ∙ ap (λ b. if b then (run.moves code.cells (length code.threads) (code_of code) y st).actor else st.actors j) (ap (λ i. i == j) h.0 ∙ n)

-- the next turns of an actor are its own
next_of : (kd : ThreadCode) (k : ℕ) (may : Bool) (c : Configuration) (more : List Play) → AreOf k more → AreOf k (turns_next kd k may c more)
next_of kd k true c more h = (refl, go (is_quiet (turn kd c)))
  where
    go : (b : Bool) → AreOf k (if b then more else [])
    go true = h
    go false = tt
next_of kd k false c more h = (refl, tt)

at_of : (kd : ThreadCode) (k : ℕ) (may : Bool) (o : Turned Configuration) (why : Option Stop) (more : List Play) → AreOf k more → AreOf k (turns_at kd k may o why more)
at_of kd k may (Ended s) why more h = tt
at_of kd k may (Failed f s) why more h = tt
at_of kd k may (Asking s) why more h = tt
at_of kd k may (Unfinished c) None more h = next_of kd k may c more h
at_of kd k may (Unfinished c) (Some why) more h = tt
at_of kd k may Stuck why more h = tt

own_of : (code : PlainCode) (limit k n : ℕ) (st : State) → AreOf k (own_turns code limit k n st)
unfolding own_turns
own_of code limit k zero st = tt
own_of code limit k (suc n) st = at_of (code_of code k) k (nat_lt (st.actors k).turns limit) (st.actors k).at (st.actors k).stopped _ (own_of code limit k n (after_turns code (TakesTurn k ∷ []) st))

first_of : (k : ℕ) (xs ys : List Play) → AreOf k (xs ++ ys) → AreOf k xs
first_of k [] ys h = tt
first_of k (x ∷ xs) ys h = (h.0, first_of k xs ys h.1)

-- so are those of a play
pub turns_of : (code : PlainCode) (limit k n : ℕ) (st : State) (us : List Play) → AreTurnsOf code limit k n st us → AreOf k us
turns_of code limit k n st us (inl e) = subst (AreOf k) (sym e) (own_of code limit k n st)
turns_of code limit k n st us (inr m) = subst (AreOf k) (sym m.4) (of_append k m.0 (IsStopped k run.Memory ∷ []) (first_of k m.0 (m.1 ∷ m.2) (subst (AreOf k) m.3 (own_of code limit k n st))) (refl, tt))

-- one that has ended, or was stopped, makes no turn
pub ended_turns : (code : PlainCode) (limit k n : ℕ) (st : State) (a : PlainActor) (o : Outcome) → a.outcome ≡ Some o → IsPlacedAs a a.outcome (st.actors k).at (st.actors k).stopped → own_turns code limit k n st ≡ []
unfolding own_turns
ended_turns code limit k zero st a o e h = refl
ended_turns code limit k (suc n) st a o e h = go o (st.actors k).at (st.actors k).stopped (subst (λ p. IsPlacedAs a p (st.actors k).at (st.actors k).stopped) e h)
  where
    more : List Play
    more = own_turns code limit k n (after_turns code (TakesTurn k ∷ []) st)

    go : (o : Outcome) (at : Turned Configuration) (why : Option Stop) → IsPlacedAs a (Some o) at why → turns_at (code_of code k) k (nat_lt (st.actors k).turns limit) at why more ≡ []
    go outcome.Done at why h = ap (λ t. turns_at (code_of code k) k (nat_lt (st.actors k).turns limit) t why more) h.0
    go (outcome.Failed f) at why h = ap (λ t. turns_at (code_of code k) k (nat_lt (st.actors k).turns limit) t why more) h.0
    go outcome.StepsSpent at why h =
        ap (λ t. turns_at (code_of code k) k (nat_lt (st.actors k).turns limit) t why more) h.0 ∙ ap (λ w. turns_at (code_of code k) k (nat_lt (st.actors k).turns limit) (Unfinished (configuration_of a)) w more) h.1
    go outcome.JournalFull at why h =
        ap (λ t. turns_at (code_of code k) k (nat_lt (st.actors k).turns limit) t why more) h.1 ∙ ap (λ w. turns_at (code_of code k) k (nat_lt (st.actors k).turns limit) (Unfinished h.0) w more) h.3
    go outcome.Memory at why h =
        ap (λ t. turns_at (code_of code k) k (nat_lt (st.actors k).turns limit) t why more) h.1 ∙ ap (λ w. turns_at (code_of code k) k (nat_lt (st.actors k).turns limit) (Unfinished h.0) w more) h.3

module _ (code : PlainCode) (k limit : ℕ) where
  abbrev threads : ℕ
  threads = length code.threads

  abbrev kd : ThreadCode
  kd = code_of code k

  own_actor : (m : Moved) (st : State) → (placed k m st).actors k ≡ m.actor
  own_actor m st = ap (λ b. if b then m.actor else st.actors k) (number-itself k)

  -- ---- turns

  -- where the answer of a turn leaves a run's actor
  abbrev pub Stands : PlainActor → Turn → Actor → Type 0
  Stands b turned.Went y = (b.outcome ≡ None) × (y.at ≡ Unfinished (configuration_of b)) × (y.stopped ≡ None)
  Stands b (turned.Asks q) y = (c : Configuration) × (y.at ≡ Unfinished c) × (y.stopped ≡ None) × Awaits kd c b q
  Stands b (turned.Ended o) y = (b.outcome ≡ Some o) × IsPlacedAs b (Some o) y.at y.stopped

  -- how many steps the actor has counted there: one that waits with an ask has counted that step already
  abbrev Counts : PlainActor → Turn → Actor → Type 0
  Counts b turned.Went y = b.steps ≡ y.turns
  Counts b (turned.Asks q) y = b.steps ≡ suc y.turns
  Counts b (turned.Ended o) y = b.steps ≡ steps_by y.stopped y.turns

  -- the turns so far, of all that the actor may make: an ask is still to be served
  abbrev pub Made : ℕ → State → Turn → List Play → Type 0
  Made n st turned.Went us = own_turns code limit k n st ≡ us
  Made n st (turned.Asks q) us = own_turns code limit k n st ≡ us ++ TakesTurn k ∷ []
  Made n st (turned.Ended o) us = AreTurnsOf code limit k n st us

  -- the first of them
  abbrev First : ℕ → State → Turn → List Play → Type 0
  First m st turned.Went us = (us ≡ TakesTurn k ∷ []) × (own_turns code limit k (suc m) st ≡ TakesTurn k ∷ own_turns code limit k m (after_turns code (TakesTurn k ∷ []) st))
  First m st (turned.Asks q) us = Made (suc m) st (turned.Asks q) us
  First m st (turned.Ended o) us = Made (suc m) st (turned.Ended o) us

  -- turns, of which this holds, lead a run's actor to where the last leads
  pub record LeadsTo (P : Turn → List Play → Type 0) (st : State) (r : Turn) (b : PlainActor) : Type 0 where
    pub turns : List Play
    pub made : P r turns
    pub shared : (after_turns code turns st).shared ≡ st.shared
    pub entries : ((after_turns code turns st).actors k).entries ≡ (st.actors k).entries
    pub number : b.number ≡ k
    pub stands : Stands b r ((after_turns code turns st).actors k)
    pub counted : Counts b r ((after_turns code turns st).actors k)

  moved_to : (P : Turn → List Play → Type 0) (st : State) (y : Play) (m : Moved) (r : Turn) (b : PlainActor) → P r (y ∷ []) → play code.cells threads (code_of code) y st ≡ placed k m st → m.shared ≡ st.shared → m.actor.entries ≡ (st.actors k).entries → b.number ≡ k → Stands b r m.actor
      → Counts b r m.actor → LeadsTo P st r b
  moved_to P st y m r b e p s n i h counts = record {
    turns = y ∷ [];
    made = e;
    shared = ap (λ (u : State). u.shared) p ∙ s;
    entries = ap (λ (u : State). (u.actors k).entries) p ∙ ap (λ (x : Actor). x.entries) (own_actor m st) ∙ n;
    number = i;
    stands = subst (Stands b r) (sym (ap (λ (u : State). u.actors k) p ∙ own_actor m st)) h;
    counted = subst (Counts b r) (sym (ap (λ (u : State). u.actors k) p ∙ own_actor m st)) counts;
  }

  pub turn_is : (st : State) (c : Configuration) (o : Turned Configuration) → (st.actors k).at ≡ Unfinished c → (st.actors k).stopped ≡ None → turn kd c ≡ o
      → play code.cells threads (code_of code) (TakesTurn k) st ≡ placed k (turned_so code.cells threads kd k c o (st.actors k) st.shared) st
  turn_is st c o at free e =
      ap (λ m. placed k m st)
      (ap (λ t. turns_from code.cells threads kd k t (st.actors k).stopped (st.actors k) st.shared) at
      ∙ ap (λ s. turns_from code.cells threads kd k (Unfinished c) s (st.actors k) st.shared) free
      ∙ ap (λ t. turned_so code.cells threads kd k c t (st.actors k) st.shared) e)

  stop_is : (st : State) (why : Stop) (c : Configuration) → (st.actors k).at ≡ Unfinished c → (st.actors k).stopped ≡ None
      → play code.cells threads (code_of code) (IsStopped k why) st ≡ placed k (moved (stop why (st.actors k)) st.shared) st
  stop_is st why c at free =
      ap (λ x. placed k (moved x st.shared) st)
      (ap (λ t. stops_from why t (st.actors k).stopped (st.actors k)) at ∙ ap (λ s. stops_from why (Unfinished c) s (st.actors k)) free)

  -- the next of an actor's turns
  own_next : (m : ℕ) (st : State) (c : Configuration) (o : Turned Configuration) (may : Bool) → (st.actors k).at ≡ Unfinished c → (st.actors k).stopped ≡ None → nat_lt (st.actors k).turns limit ≡ may
      → own_turns code limit k (suc m) st ≡ turns_next kd k may c (own_turns code limit k m (after_turns code (TakesTurn k ∷ []) st))
  unfolding own_turns
  own_next m st c o may at free e =
      ap (λ t. turns_at kd k (nat_lt (st.actors k).turns limit) t (st.actors k).stopped more) at ∙ ap (λ w. turns_at kd k (nat_lt (st.actors k).turns limit) (Unfinished c) w more) free ∙ ap (λ b. turns_next kd k b c more) e
    where
      more : List Play
      more = own_turns code limit k m (after_turns code (TakesTurn k ∷ []) st)

  -- behind it there are others where it neither asks nor ends
  pub own_turn : (m : ℕ) (st : State) (c : Configuration) (o : Turned Configuration) → (st.actors k).at ≡ Unfinished c → (st.actors k).stopped ≡ None → nat_lt (st.actors k).turns limit ≡ true → turn kd c ≡ o
      → own_turns code limit k (suc m) st ≡ TakesTurn k ∷ (if is_quiet o then own_turns code limit k m (after_turns code (TakesTurn k ∷ []) st) else [])
  own_turn m st c o at free may e =
      own_next m st c o true at free may ∙ ap (λ t. TakesTurn k ∷ (if is_quiet t then own_turns code limit k m (after_turns code (TakesTurn k ∷ []) st) else [])) e

  -- what is known of an actor and a run's before a turn
  record Begins (a : PlainActor) (st : State) : Type 0 where
    number : a.number ≡ k
    limited : a.limit ≡ limit
    counted : a.steps ≡ (st.actors k).turns
    at : (st.actors k).at ≡ Unfinished (configuration_of a)
    free : (st.actors k).stopped ≡ None

  may_turn : (a : PlainActor) (st : State) (may : Bool) → Begins a st → nat_lt a.steps a.limit ≡ may → nat_lt (st.actors k).turns limit ≡ may
  may_turn a st may h e = ap (λ n. nat_lt n limit) (sym h.counted) ∙ ap (nat_lt a.steps) (sym h.limited) ∙ e

  -- a step more
  step_more : (a b : PlainActor) (st : State) → Begins a st → b.steps ≡ a.steps + 1 → b.steps ≡ suc (st.actors k).turns
  step_more a b st h e = let c = h.counted in omega (arith, e, c)

  step_leads : (m : ℕ) (a b : PlainActor) (r : Turn) (st : State) → Begins a st → nat_lt a.steps a.limit ≡ true → Answers code a r b → LeadsTo (First m st) st r b
  step_leads m a b turned.Went st h may t =
      let is = subst (λ i. turn (code_of code i) (configuration_of a) ≡ Unfinished (configuration_of b)) h.number t.0 in
      moved_to (First m st) st (TakesTurn k) _ turned.Went b (refl, own_turn m st (configuration_of a) (Unfinished (configuration_of b)) h.at h.free (may_turn a st true h may) is)
      (turn_is st (configuration_of a) (Unfinished (configuration_of b)) h.at h.free is) refl refl (t.1.number ∙ h.number)
      (t.1.outcome, refl, h.free) (step_more a b st h t.1.counted)
  step_leads m a b (turned.Asks q) st h may t =
      let w = subst (λ i. Awaits (code_of code i) (configuration_of a) b q) h.number t.0 in
      record {
        turns = [];
        made = own_turn m st (configuration_of a) (Asking (record (state_of b) { wants = Some q })) h.at h.free (may_turn a st true h may) w.asks;
        shared = refl;
        entries = refl;
        number = t.1.number ∙ h.number;
        stands = (configuration_of a, h.at, h.free, w);
        counted = step_more a b st h t.1.counted;
      }
  step_leads m a b (turned.Ended outcome.Done) st h may t =
      let is = subst (λ i. turn (code_of code i) (configuration_of a) ≡ Ended (state_of b)) h.number t.0 in
      moved_to (First m st) st (TakesTurn k) _ (turned.Ended outcome.Done) b (inl (sym (own_turn m st (configuration_of a) (Ended (state_of b)) h.at h.free (may_turn a st true h may) is)))
      (turn_is st (configuration_of a) (Ended (state_of b)) h.at h.free is) refl refl (t.1.number ∙ h.number)
      (t.1.outcome, (refl, h.free)) (step_more a b st h t.1.counted ∙ ap (λ w. steps_by w (suc (st.actors k).turns)) (sym h.free))
  step_leads m a b (turned.Ended (outcome.Failed f)) st h may t =
      let is = subst (λ i. turn (code_of code i) (configuration_of a) ≡ Failed f (state_of b)) h.number t.0 in
      moved_to (First m st) st (TakesTurn k) _ (turned.Ended (outcome.Failed f)) b (inl (sym (own_turn m st (configuration_of a) (Failed f (state_of b)) h.at h.free (may_turn a st true h may) is)))
      (turn_is st (configuration_of a) (Failed f (state_of b)) h.at h.free is) refl refl (t.1.number ∙ h.number)
      (t.1.outcome, (refl, h.free)) (step_more a b st h t.1.counted ∙ ap (λ w. steps_by w (suc (st.actors k).turns)) (sym h.free))
  step_leads m a b (turned.Ended outcome.StepsSpent) st h may t = absurd t
  step_leads m a b (turned.Ended outcome.JournalFull) st h may t = absurd t
  step_leads m a b (turned.Ended outcome.Memory) st h may t =
      moved_to (First m st) st (IsStopped k run.Memory) _ (turned.Ended outcome.Memory) b
      (inr ([], TakesTurn k, _, own_next m st (configuration_of a) (Unfinished (configuration_of a)) true h.at h.free (may_turn a st true h may), refl)) (stop_is st run.Memory (configuration_of a) h.at h.free) refl refl (t.1.number ∙ h.number)
      (t.1.outcome, (configuration_of a, h.at, t.0, refl)) (step_more a b st h t.1.counted)

  move_leads : (m : ℕ) (a b : PlainActor) (r : Turn) (may : Bool) (st : State) → Begins a st → nat_lt a.steps a.limit ≡ may → Moves code a may r b → LeadsTo (First m st) st r b
  move_leads m a b r true st h may t = step_leads m a b r st h may t
  move_leads m a b r false st h may t =
      subst (λ s. LeadsTo (First m st) st s b) (sym t.0) (subst (λ x. LeadsTo (First m st) st (turned.Ended outcome.StepsSpent) x) (sym t.1)
      (moved_to (First m st) st (IsStopped k run.TurnsSpent) _ (turned.Ended outcome.StepsSpent) (record a { outcome = Some outcome.StepsSpent })
      (inl (sym (own_next m st (configuration_of a) (Unfinished (configuration_of a)) false h.at h.free (may_turn a st false h may)))) (stop_is st run.TurnsSpent (configuration_of a) h.at h.free) refl refl h.number
      (refl, (h.at, refl)) h.counted))

  -- a turn, and those behind it
  more_made : (m : ℕ) (st : State) (r : Turn) (us vs : List Play) → First m st turned.Went us → Made m (after_turns code us st) r vs → Made (suc m) st r (us ++ vs)
  more_made m st r us vs f h = subst (λ l. Made (suc m) st r (l ++ vs)) (sym f.0) (go r (subst (λ l. Made m (after_turns code l st) r vs) f.0 h))
    where
      go : (r : Turn) → Made m (after_turns code (TakesTurn k ∷ []) st) r vs → Made (suc m) st r (TakesTurn k ∷ vs)
      go turned.Went e = f.1 ∙ ap (λ l. TakesTurn k ∷ l) e
      go (turned.Asks q) e = f.1 ∙ ap (λ l. TakesTurn k ∷ l) e
      go (turned.Ended o) (inl e) = inl (ap (λ l. TakesTurn k ∷ l) e ∙ sym f.1)
      go (turned.Ended o) (inr w) = inr (TakesTurn k ∷ w.0, w.1, w.2, f.1 ∙ ap (λ l. TakesTurn k ∷ l) w.3, ap (λ l. TakesTurn k ∷ l) w.4)

  then_leads : (m : ℕ) (st : State) (c b : PlainActor) (r : Turn) → (l : LeadsTo (First m st) st turned.Went c) → LeadsTo (Made m (after_turns code l.turns st)) (after_turns code l.turns st) r b → LeadsTo (Made (suc m) st) st r b
  then_leads m st c b r l h = record {
    turns = l.turns ++ h.turns;
    made = more_made m st r l.turns h.turns l.made h.made;
    shared = ap (λ (u : State). u.shared) (turns_append code l.turns h.turns st) ∙ h.shared ∙ l.shared;
    entries = ap (λ (u : State). (u.actors k).entries) (turns_append code l.turns h.turns st) ∙ h.entries ∙ l.entries;
    number = h.number;
    stands = subst (λ (u : State). Stands b r (u.actors k)) (sym (turns_append code l.turns h.turns st)) h.stands;
    counted = subst (λ (u : State). Counts b r (u.actors k)) (sym (turns_append code l.turns h.turns st)) h.counted;
  }

  as_made : (P Q : Turn → List Play → Type 0) (st : State) (r : Turn) (b : PlainActor) → ((us : List Play) → P r us → Q r us) → LeadsTo P st r b → LeadsTo Q st r b
  as_made P Q st r b f l = record { turns = l.turns; made = f l.turns l.made; shared = l.shared; entries = l.entries; number = l.number; stands = l.stands; counted = l.counted }

  made_none : (st : State) → Made 0 st turned.Went []
  unfolding own_turns
  made_none st = refl

  kept_limit : (a c : PlainActor) (s : Turn) (may : Bool) → Moves code a may s c → c.limit ≡ a.limit
  kept_limit a c turned.Went true t = t.1.limited
  kept_limit a c (turned.Asks q) true t = t.1.limited
  kept_limit a c (turned.Ended outcome.Done) true t = t.1.limited
  kept_limit a c (turned.Ended (outcome.Failed f)) true t = t.1.limited
  kept_limit a c (turned.Ended outcome.StepsSpent) true t = absurd t
  kept_limit a c (turned.Ended outcome.JournalFull) true t = absurd t
  kept_limit a c (turned.Ended outcome.Memory) true t = t.1.limited
  kept_limit a c s false t = ap (λ (x : PlainActor). x.limit) t.1

  -- so many turns lead a run's actor to where the last leads
  pub turns_lead : (n : ℕ) (a b : PlainActor) (r : Turn) (st : State) → a.number ≡ k → a.outcome ≡ None → a.limit ≡ limit → a.steps ≡ (st.actors k).turns → (st.actors k).at ≡ Unfinished (configuration_of a) → (st.actors k).stopped ≡ None → TurnsOf code n a r b → LeadsTo (Made n st) st r b
  turns_lead zero a b r st n e lim count at free t =
      subst (λ s. LeadsTo (Made 0 st) st s b) (sym t.0) (subst (λ x. LeadsTo (Made 0 st) st turned.Went x) (sym t.1)
      (record { turns = []; made = made_none st; shared = refl; entries = refl; number = n; stands = (e, at, free); counted = count }))
  turns_lead (suc m) a b r st n e lim count at free t =
      let moves = subst (λ o. TurnsFrom code a o t.0 t.1) e t.2 in
      go (λ c u i o l j h f x. turns_lead m c b r u i o l j h f x) t.0 t.1 (kept_limit a t.1 t.0 (nat_lt a.steps a.limit) moves ∙ lim)
      (move_leads m a t.1 t.0 (nat_lt a.steps a.limit) st (record { number = n; limited = lim; counted = count; at = at; free = free }) refl moves) t.3
    where
      go : ((c : PlainActor) (u : State) → c.number ≡ k → c.outcome ≡ None → c.limit ≡ limit → c.steps ≡ (u.actors k).turns → (u.actors k).at ≡ Unfinished (configuration_of c) → (u.actors k).stopped ≡ None → TurnsOf code m c r b → LeadsTo (Made m u) u r b)
          → (s : Turn) (c : PlainActor) → c.limit ≡ limit → LeadsTo (First m st) st s c → GoesOnAfter s (TurnsOf code m c r b) ((r ≡ s) × (b ≡ c)) → LeadsTo (Made (suc m) st) st r b
      go more turned.Went c kept l g = then_leads m st c b r l (more c (after_turns code l.turns st) l.number l.stands.0 kept l.counted l.stands.1 l.stands.2 g)
      go more (turned.Asks q) c kept l g = subst (λ s. LeadsTo (Made (suc m) st) st s b) (sym g.0) (subst (λ x. LeadsTo (Made (suc m) st) st (turned.Asks q) x) (sym g.1) (as_made (First m st) (Made (suc m) st) st (turned.Asks q) c (λ us h. h) l))
      go more (turned.Ended o) c kept l g = subst (λ s. LeadsTo (Made (suc m) st) st s b) (sym g.0) (subst (λ x. LeadsTo (Made (suc m) st) st (turned.Ended o) x) (sym g.1) (as_made (First m st) (Made (suc m) st) st (turned.Ended o) c (λ us h. h) l))

  -- ---- an answer

  placed_unstopped : (a : PlainActor) (o : Option Outcome) (at : Turned Configuration) (why : Option Stop) → Unstopped o → at ≡ standing o (configuration_of a) (state_of a) → why ≡ None → IsPlacedAs a o at why
  placed_unstopped a None at why u e w = (e, w)
  placed_unstopped a (Some outcome.Done) at why u e w = (e, w)
  placed_unstopped a (Some (outcome.Failed f)) at why u e w = (e, w)
  placed_unstopped a (Some outcome.StepsSpent) at why u e w = absurd u
  placed_unstopped a (Some outcome.JournalFull) at why u e w = absurd u
  placed_unstopped a (Some outcome.Memory) at why u e w = absurd u

  module _ (laws : ActorsRun) (bs : List (List Event)) (taken : List Bool) (t : PlainShared) (a : PlainActor) (q : Ask) (tr new : List Place) (u : State)
      (lawful : may_ask code.cells threads taken k q (get_or bs (book_for code.cells q) []) ≡ true) (number : a.number ≡ k) (going : a.outcome ≡ None) (asks : unanswered a ≡ Some q)
      (same : shared_of (state_with code bs taken) ≡ u.shared) (hold : AllHold code.cells threads (λ n. get_or bs n []) k (u.actors k).entries)
      (traced : places_of tr ≡ trace_of code.cells (λ n. get_or bs n []) k (u.actors k).entries) (ran : HasRun code (map exchange_of (u.actors k).entries) a)
      (c : Configuration) (at : (u.actors k).at ≡ Unfinished c) (unstopped : (u.actors k).stopped ≡ None) (awaits : Awaits kd c a q) (counts : a.steps ≡ suc (u.actors k).turns) where
    abbrev before : PlainShared
    before = state_with code bs taken

    abbrev books : ℕ → List Event
    books n = get_or bs n []

    abbrev home : List Event
    home = books (book_for code.cells q)

    abbrev v : Served
    v = serve_on code.cells k q home

    abbrev next : ℕ → List Event
    next = with_book (book_for code.cells q) v.book books

    abbrev x : Actor
    x = u.actors k

    abbrev es : List Entry
    es = x.entries

    -- the turn whose ask is served so
    turn_served : play code.cells threads (code_of code) (TakesTurn k) u ≡ placed k (moved (replied kd c q v.reply (length home) x) (shared_after code.cells q v (shared_of before))) u
    turn_served =
        turn_is u c (Asking (record (state_of a) { wants = Some q })) at unstopped awaits.asks
        ∙ ap (λ (sh : Shared). placed k (turned_so code.cells threads kd k c (Asking (record (state_of a) { wants = Some q })) x sh) u) (sym same)
        ∙ ap (λ b. placed k (asked b code.cells kd k c q x (shared_of before)) u) lawful

    books_are : IsAfter before q v t → books_of t ≡ next
    books_are g = ap (λ (sh : Shared). sh.books) g.shared

    -- the turn at the ask: it is served, or the actor was stopped for memory
    pub record Comes (b : PlainActor) : Type 0 where
      pub last : Play
      pub is : (last ≡ TakesTurn k) ⊎ (last ≡ IsStopped k run.Memory)
      pub shared : shared_of t ≡ (after_turns code (last ∷ []) u).shared
      pub player : IsPlayerOf code k (books_of t) b new ((after_turns code (last ∷ []) u).actors k)

    came : (b : PlainActor) (y : Play) (m : Moved) → (y ≡ TakesTurn k) ⊎ (y ≡ IsStopped k run.Memory) → play code.cells threads (code_of code) y u ≡ placed k m u → shared_of t ≡ m.shared → IsPlayerOf code k (books_of t) b new m.actor → Comes b
    came b y m e p s h = record {
      last = y;
      is = e;
      shared = s ∙ sym (ap (λ (w : State). w.shared) p);
      player = subst (IsPlayerOf code k (books_of t) b new) (sym (ap (λ (w : State). w.actors k) p ∙ own_actor m u)) h;
    }

    -- where the place is noted, if an event was added
    noted_so : (g : IsAfter before q v t) (p : Place) → IsNext before q p → new ≡ with_place (nat_lt (length home) (length (books_of t (book_for code.cells q)))) tr p
        → places_of new ≡ places_of tr ++ over.added code k books taken q lawful
    noted_so g p n e =
        ap places_of e ∙ noted_places _ tr p (book_for code.cells q) (length home) n.book n.at
        ∙ ap (λ (l : List Event). places_of tr ++ (if nat_lt (length home) (length l) then record { book = book_for code.cells q; at = length home } ∷ [] else []))
        (ap (λ (b : ℕ → List Event). b (book_for code.cells q)) (books_are g) ∙ ap (λ b. if b then v.book else books (book_for code.cells q)) (number-itself (book_for code.cells q)))

    -- where nothing was added, none is
    not_less : (n : ℕ) → nat_lt n n ≡ false
    not_less n = grind (arith, nat_tests)

    as_before : (g : IsAfter before q v t) (p : Place) → v.book ≡ home → new ≡ with_place (nat_lt (length home) (length (books_of t (book_for code.cells q)))) tr p → new ≡ tr
    as_before g p e placed_so =
        placed_so ∙ ap (λ (l : List Event). with_place (nat_lt (length home) (length l)) tr p)
        (ap (λ (b : ℕ → List Event). b (book_for code.cells q)) (books_are g) ∙ over.left_as code k books taken q lawful e (book_for code.cells q))
        ∙ ap (λ b. with_place b tr p) (not_less (length home))

    -- the trace over books that are as they were
    traced_same : v.book ≡ home → trace_of code.cells next k es ≡ trace_of code.cells books k es
    traced_same e = trace_stays code.cells threads k k books next (over.served_grows code k books taken q lawful) es hold

    heard : (r : Reply) → unanswered (answered a r) ≡ None → MayAnswer q r → (Stops r → ⊥) → IsExchanged r → r ≡ v.reply → (g : IsAfter before q v t) (p : Place) → IsNext before q p
        → new ≡ with_place (nat_lt (length home) (length (books_of t (book_for code.cells q)))) tr p → replied kd c q r (length home) x ≡ hears kd c q r (length home) x → Comes (answered a r)
    heard r free may on ex e g p n placed_so goes =
        came (answered a r) (TakesTurn k) (moved (replied kd c q v.reply (length home) x) (shared_after code.cells q v (shared_of before))) (inl refl) turn_served g.shared
        (subst (λ s. IsPlayerOf code k (books_of t) (answered a r) new (replied kd c q s (length home) x)) e
        (subst (IsPlayerOf code k (books_of t) (answered a r) new) (sym goes)
        (subst (λ b. IsPlayerOf code k b (answered a r) new (hears kd c q r (length home) x)) (sym (books_are g))
        (record {
          number = leaves.number ∙ number;
          waits = free;
          placed = placed_unstopped (answered a r) (answered a r).outcome _ _ (unstopped_if a going a.pending r on) (awaits.leads r may on) unstopped;
          ran = subst (λ ys. HasRun code ys (answered a r)) (sym (map_append es (entry q r (length home)))) (laws.answers code (map exchange_of es) a q r going asks may on unless ran);
          counted = leaves.steps ∙ counts ∙ ap (λ w. steps_by w (suc x.turns)) (sym unstopped);
          traced = noted_so g p n placed_so ∙ ap (λ ps. ps ++ over.added code k books taken q lawful) traced ∙ sym (over.trace_grows code k books taken q lawful es hold)
              ∙ ap (λ y. trace_of code.cells next k (es ++ entry q y (length home) ∷ [])) (sym e);
          full = λ y. absurd (subst Unfilled y (unfilled_of (answered a r).outcome (unstopped_if a going a.pending r on)));
          stops = λ y. absurd (subst Unfilled y (unfilled_of (answered a r).outcome (unstopped_if a going a.pending r on)));
        }))))
      where
        unless : r ≡ reply.Idle → ⊥
        unless i = subst IsExchanged i ex

        leaves : Leaves a (answered a r)
        leaves = answer_leaves a q r asks may unless

    -- a reply that is no exchange leaves the book
    kept : (r : Reply) → (IsExchanged r → ⊥) → r ≡ v.reply → v.book ≡ home
    kept r n e = s.grown ∙ ap (λ l. home ++ l) (s.stays (λ ex. n (subst IsExchanged (sym e) ex))) ∙ append_nil home
      where
        s : Serves k home v
        s = serves k home code.cells q

    filled : MayAnswer q reply.Full → unanswered (answered a reply.Full) ≡ None → reply.Full ≡ v.reply → (g : IsAfter before q v t) (p : Place) → new ≡ with_place (nat_lt (length home) (length (books_of t (book_for code.cells q)))) tr p → Comes (answered a reply.Full)
    filled may free e g p placed_so =
        came (answered a reply.Full) (TakesTurn k) (moved (replied kd c q v.reply (length home) x) (shared_after code.cells q v (shared_of before))) (inl refl) turn_served g.shared
        (subst (λ s. IsPlayerOf code k (books_of t) (answered a reply.Full) new (replied kd c q s (length home) x)) e
        (subst (λ b. IsPlayerOf code k b (answered a reply.Full) new (stop run.JournalFull x)) (sym (books_are g))
        (record {
          number = leaves.number ∙ number;
          waits = free;
          placed = subst (λ o. IsPlacedAs (answered a reply.Full) o x.at (Some run.JournalFull)) (sym (full_stops a q asks)) (c, at, subst (SameBut c.state) (sym stays) awaits.here, refl);
          ran = laws.stops code (map exchange_of es) a q reply.Full going asks may tt ran;
          counted = leaves.steps ∙ counts;
          traced = ap places_of (as_before g p left placed_so) ∙ traced ∙ sym (traced_same left);
          full = λ y. (let m = full_at laws code k books (map exchange_of es) a q number going asks may past ran in
              record { ask = m.ask; asked = m.asked; full = subst (λ (l : List Event). most_events ≤ length l) (sym (over.left_as code k books taken q lawful left (book_for code.cells m.ask))) m.full });
          stops = λ y. record {
            place = c;
            at = at;
            ask = q;
            asks = (record (state_of a) { wants = Some q }, awaits.asks, refl);
            adds = adds_event q may;
            full = subst (λ (l : List Event). most_events ≤ length l) (sym (over.left_as code k books taken q lawful left (book_for code.cells q))) past;
          };
        })))
      where
        left : v.book ≡ home
        left = kept reply.Full (λ ex. ex) e

        past : most_events ≤ length home
        past = (serves k home code.cells q).full (subst IsFull e tt)

        leaves : Leaves a (answered a reply.Full)
        leaves = answer_leaves a q reply.Full asks may (λ i. cc)

        stays : state_of (answered a reply.Full) ≡ state_of a
        stays = full_state a q asks

    undone : MayAnswer q reply.Memory → unanswered (answered a reply.Memory) ≡ None → t ≡ before → new ≡ tr → Comes (answered a reply.Memory)
    undone may free e placed_so =
        came (answered a reply.Memory) (IsStopped k run.Memory) (moved (stop run.Memory x) u.shared) (inr refl) (stop_is u run.Memory c at unstopped) (ap shared_of e ∙ same)
        (subst (λ (s : PlainShared). IsPlayerOf code k (books_of s) (answered a reply.Memory) new (stop run.Memory x)) (sym e)
        (record {
          number = leaves.number ∙ number;
          waits = free;
          placed = subst (λ o. IsPlacedAs (answered a reply.Memory) o x.at (Some run.Memory)) (sym (memory_stops a q asks)) (c, at, subst (SameBut c.state) (sym stays) awaits.here, refl);
          ran = laws.stops code (map exchange_of es) a q reply.Memory going asks may tt ran;
          counted = leaves.steps ∙ counts;
          traced = ap places_of placed_so ∙ traced;
          full = λ y. absurd (subst Unfilled y (subst Unfilled (sym (memory_stops a q asks)) tt));
          stops = λ y. absurd (subst Unfilled y (subst Unfilled (sym (memory_stops a q asks)) tt));
        }))
      where
        leaves : Leaves a (answered a reply.Memory)
        leaves = answer_leaves a q reply.Memory asks may (λ i. cc)

        stays : state_of (answered a reply.Memory) ≡ state_of a
        stays = memory_state a q asks

    -- an agent without an action is where it was
    idled : MayAnswer q reply.Idle → unanswered (answered a reply.Idle) ≡ None → reply.Idle ≡ v.reply → (g : IsAfter before q v t) (p : Place)
        → new ≡ with_place (nat_lt (length home) (length (books_of t (book_for code.cells q)))) tr p → Comes (answered a reply.Idle)
    idled may free e g p placed_so =
        came (answered a reply.Idle) (TakesTurn k) (moved (replied kd c q v.reply (length home) x) (shared_after code.cells q v (shared_of before))) (inl refl) turn_served g.shared
        (subst (λ s. IsPlayerOf code k (books_of t) (answered a reply.Idle) new (replied kd c q s (length home) x)) e
        (subst (λ b. IsPlayerOf code k b (answered a reply.Idle) new x) (sym (books_are g))
        (record {
          number = idle_number a ∙ number;
          waits = free;
          placed = subst (λ o. IsPlacedAs (answered a reply.Idle) o x.at x.stopped) (sym out) (at ∙ ap (λ d. Unfinished d) (awaits.rests may), unstopped);
          ran = laws.idles code (map exchange_of es) a q going asks may ran;
          counted = (let less = idle_steps a q asks may in omega (arith, less, counts)) ∙ ap (λ w. steps_by w x.turns) (sym unstopped);
          traced = ap places_of (as_before g p left placed_so) ∙ traced ∙ sym (traced_same left);
          full = λ y. absurd (subst Unfilled y (subst Unfilled (sym out) tt));
          stops = λ y. absurd (subst Unfilled y (subst Unfilled (sym out) tt));
        })))
      where
        left : v.book ≡ home
        left = kept reply.Idle (λ ex. ex) e

        out : (answered a reply.Idle).outcome ≡ None
        out = idle_outcome a ∙ going

    unmoved : t ≡ before → (p : Place) → new ≡ with_place (nat_lt (length home) (length (books_of t (book_for code.cells q)))) tr p → new ≡ tr
    unmoved e p placed_so =
        placed_so ∙ ap (λ (s : PlainShared). with_place (nat_lt (length home) (length (books_of s (book_for code.cells q)))) tr p) e ∙ ap (λ b. with_place b tr p) (not_less (length home))

    noted_comes : (r : Reply) → unanswered (answered a r) ≡ None → MayAnswer q r → shared.Answers before q v r t → (p : Place) → IsNext before q p
        → new ≡ with_place (nat_lt (length home) (length (books_of t (book_for code.cells q)))) tr p → Comes (answered a r)
    noted_comes (reply.At i) free may g p n e = heard (reply.At i) free may (λ s. s) tt g.0 g.1 p n e refl
    noted_comes (reply.Is w) free may g p n e = heard (reply.Is w) free may (λ s. s) tt g.0 g.1 p n e refl
    noted_comes (reply.Views i vs) free may g p n e = heard (reply.Views i vs) free may (λ s. s) tt g.0 g.1 p n e refl
    noted_comes reply.Done free may g p n e = heard reply.Done free may (λ s. s) tt g.0 g.1 p n e refl
    noted_comes (reply.Retry d) free may g p n e = heard (reply.Retry d) free may (λ s. s) tt g.0 g.1 p n e refl
    noted_comes (reply.Changed d) free may g p n e = heard (reply.Changed d) free may (λ s. s) tt g.0 g.1 p n e refl
    noted_comes (reply.AgentIsFailed d) free may g p n e = heard (reply.AgentIsFailed d) free may (λ s. s) tt g.0 g.1 p n e refl
    noted_comes (reply.Action i y w) free may g p n e = heard (reply.Action i y w) free may (λ s. s) tt g.0 g.1 p n e refl
    noted_comes (reply.Opened i w) free may g p n e = heard (reply.Opened i w) free may (λ s. s) tt g.0 g.1 p n e refl
    noted_comes reply.Idle free may g p n e = idled may free g.0 g.1 p e
    noted_comes reply.Full free may g p n e = filled may free g.0 g.1 p e
    noted_comes reply.Memory free may g p n e = undone may free g.1 (unmoved g.1 p e)

    pub served_comes : (r : Reply) → unanswered (answered a r) ≡ None → MayAnswer q r → IsServed before k q r t tr new → Comes (answered a r)
    served_comes r free may (inl g) = noted_comes r free may g.answered g.next g.is_next g.noted
    served_comes r free may (inr w) = subst (λ s. Comes (answered a s)) (sym w.replied) (undone (subst (MayAnswer q) w.replied may) (subst (λ s. unanswered (answered a s) ≡ None) w.replied free) w.state w.places)

-- so many turns keep what an actor has done
pub turns_run : ActorsRun → (code : PlainCode) (n : ℕ) (xs : List Exchange) (a b : PlainActor) (r : Turn) → unanswered a ≡ None → TurnsOf code n a r b → HasRun code xs a → HasRun code xs b
turns_run laws code zero xs a b r f t h = subst (HasRun code xs) (sym t.1) h
turns_run laws code (suc n) xs a b r f t h = go (λ c g x y. turns_run laws code n xs c b r g x y) t.0 t.1 t.2 t.3
  where
    go : ((c : PlainActor) → unanswered c ≡ None → TurnsOf code n c r b → HasRun code xs c → HasRun code xs b) → (s : Turn) (c : PlainActor) → Turns code a s c → GoesOnAfter s (TurnsOf code n c r b) ((r ≡ s) × (b ≡ c)) → HasRun code xs b
    go more turned.Went c u g = more c (turn_says code a c turned.Went a.outcome refl u) g (laws.turns code xs a c turned.Went f h u)
    go more (turned.Asks q) c u g = subst (HasRun code xs) (sym g.1) (laws.turns code xs a c (turned.Asks q) f h u)
    go more (turned.Ended o) c u g = subst (HasRun code xs) (sym g.1) (laws.turns code xs a c (turned.Ended o) f h u)

-- where turns that end, or ask nothing, leave an actor, it is placed
stands_placed : (code : PlainCode) (k limit : ℕ) (b : PlainActor) (r : Turn) (y : Actor) → NoAsk r → Stands code k limit b r y → IsPlacedAs b b.outcome y.at y.stopped
stands_placed code k limit b turned.Went y q h = subst (λ o. IsPlacedAs b o y.at y.stopped) (sym h.0) (h.1, h.2)
stands_placed code k limit b (turned.Asks x) y q h = absurd q
stands_placed code k limit b (turned.Ended o) y q h = subst (λ o. IsPlacedAs b o y.at y.stopped) (sym h.0) h.1

-- turns fill no book
pub full_never : (code : PlainCode) (n : ℕ) (a b : PlainActor) (r : Turn) → a.outcome ≡ None → TurnsOf code n a r b → b.outcome ≡ Some outcome.JournalFull → ⊥
full_never code zero a b r e t f = absurd (subst Unfilled (sym (ap (λ (x : PlainActor). x.outcome) t.1 ∙ e) ∙ f) tt)
full_never code (suc n) a b r e t f = go (λ c o x. full_never code n c b r o x f) t.0 t.1 (subst (λ o. TurnsFrom code a o t.0 t.1) e t.2) t.3
  where
    unfilled : (c : PlainActor) (s : Turn) → Moves code a (nat_lt a.steps a.limit) s c → Unfilled c.outcome
    unfilled c s u = move_unfilled code a c s (nat_lt a.steps a.limit) u

    went : (c : PlainActor) (may : Bool) → Moves code a may turned.Went c → c.outcome ≡ None
    went c true u = u.1.outcome
    went c false u = absurd (subst NotWent (sym u.0) tt)
      where
        NotWent : Turn → Type 0
        NotWent turned.Went = ⊥
        NotWent (turned.Asks q) = ⊥
        NotWent (turned.Ended o) = Unit {0}

    go : ((c : PlainActor) → c.outcome ≡ None → TurnsOf code n c r b → ⊥) → (s : Turn) (c : PlainActor) → Moves code a (nat_lt a.steps a.limit) s c → GoesOnAfter s (TurnsOf code n c r b) ((r ≡ s) × (b ≡ c)) → ⊥
    go more turned.Went c u g = more c (went c (nat_lt a.steps a.limit) u) g
    go more (turned.Asks q) c u g = absurd (subst Unfilled (sym (ap (λ (x : PlainActor). x.outcome) g.1) ∙ f) (unfilled c (turned.Asks q) u))
    go more (turned.Ended o) c u g = absurd (subst Unfilled (sym (ap (λ (x : PlainActor). x.outcome) g.1) ∙ f) (unfilled c (turned.Ended o) u))

-- what a play needs of an actor and of a run's: they are where they are
pub record Stood (k : ℕ) (a : PlainActor) (y : Actor) : Type 0 where
  pub at : y.at ≡ Unfinished (configuration_of a)
  pub free : y.stopped ≡ None
  pub counted : a.steps ≡ y.turns

pub stood : (code : PlainCode) (k : ℕ) (books : ℕ → List Event) (a : PlainActor) (tr : List Place) (y : Actor) → a.outcome ≡ None → IsPlayerOf code k books a tr y → Stood k a y
stood code k books a tr y going h =
    let place = subst (λ o. IsPlacedAs a o y.at y.stopped) going h.placed in
    record { at = place.0; free = place.1; counted = h.counted ∙ ap (λ w. steps_by w y.turns) place.1 }

-- the turns up to an ask, and that with the ask
with_last : (code : PlainCode) (limit k n : ℕ) (st : State) (us : List Play) (y : Play) → own_turns code limit k n st ≡ us ++ TakesTurn k ∷ [] → (y ≡ TakesTurn k) ⊎ (y ≡ IsStopped k run.Memory) → AreTurnsOf code limit k n st (us ++ y ∷ [])
with_last code limit k n st us y e (inl h) = inl (ap (λ z. us ++ z ∷ []) h ∙ sym e)
with_last code limit k n st us y e (inr h) = inr (us, TakesTurn k, [], e, ap (λ z. us ++ z ∷ []) h)

-- a play: some turns, and the answer to the ask that the last of them brought
pub played_goes : ActorsRun → (code : PlainCode) (k n : ℕ) (s t : PlainShared) (a b : PlainActor) (q : Ask) (r : Reply) (tr new : List Place) → IsStateOf code s → is_lawful s k q ≡ true → unanswered a ≡ None → a.outcome ≡ None → b.outcome ≡ None → unanswered b ≡ Some q
    → TurnsOf code n a (turned.Asks q) b → unanswered (answered b r) ≡ None → MayAnswer q r → IsServed s k q r t tr new → GoesAs code k n s a tr t (answered b r) new
played_goes laws code k n s t a b q r tr new of lawful idle going on asks turns free may served before same hold h =
    let st = run_of code before in
    let p = stood code k (books_of s) a tr (st.actors k) going h in
    let l = turns_lead code k a.limit n a b (turned.Asks q) st h.number going refl p.counted p.at p.free turns in
    let u = after_turns code l.turns st in
    let ran : HasRun code (map exchange_of (st.actors k).entries) b = turns_run laws code n (map exchange_of (st.actors k).entries) a b (turned.Asks q) idle turns h.ran in
    let is = as_state code s of in
    let e = l.entries in
    let c = served_comes code k a.limit laws s.books s.taken t b q tr new u
    (subst (λ (x : PlainShared). is_lawful x k q ≡ true) is lawful) l.number on asks
    (sym (ap shared_of is) ∙ same ∙ sym l.shared)
    (subst (λ es. AllHold code.cells (length code.threads) (λ i. get_or s.books i []) k es) (sym e) hold)
    (subst (λ es. places_of tr ≡ trace_of code.cells (λ i. get_or s.books i []) k es) (sym e) h.traced)
    (subst (λ es. HasRun code (map exchange_of es) b) (sym e) ran)
    l.stands.0 l.stands.1 l.stands.2 l.stands.3 l.counted r free may
    (subst (λ (x : PlainShared). IsServed x k q r t tr new) is served) in
    record {
      turns = l.turns ++ c.last ∷ [];
      made = with_last code a.limit k n st l.turns c.last l.made c.is;
      shared = c.shared ∙ sym (ap (λ (w : State). w.shared) (turns_append code l.turns (c.last ∷ []) st));
      player = subst (λ (w : State). IsPlayerOf code k (books_of t) (answered b r) new (w.actors k)) (sym (turns_append code l.turns (c.last ∷ []) st)) c.player;
    }

made_so : (code : PlainCode) (k limit n : ℕ) (st : State) (r : Turn) (us : List Play) → NoAsk r → Made code k limit n st r us → AreTurnsOf code limit k n st us
made_so code k limit n st turned.Went us q h = inl (sym h)
made_so code k limit n st (turned.Asks x) us q h = absurd q
made_so code k limit n st (turned.Ended o) us q h = h

counts_so : (code : PlainCode) (k limit : ℕ) (b : PlainActor) (r : Turn) (y : Actor) → NoAsk r → Stands code k limit b r y → Counts code k limit b r y → b.steps ≡ steps_by y.stopped y.turns
counts_so code k limit b turned.Went y q h e = e ∙ ap (λ w. steps_by w y.turns) (sym h.2)
counts_so code k limit b (turned.Asks x) y q h e = absurd q
counts_so code k limit b (turned.Ended o) y q h e = e

-- turns alone, which leave what is shared as it was
pub turned_goes : ActorsRun → (code : PlainCode) (k n : ℕ) (s : PlainShared) (a b : PlainActor) (r : Turn) (tr : List Place) → unanswered a ≡ None → unanswered b ≡ None → NoAsk r → a.outcome ≡ None → TurnsOf code n a r b → GoesAs code k n s a tr s b tr
turned_goes laws code k n s a b r tr idle free quiet going turns before same hold h =
    let st = run_of code before in
    let p = stood code k (books_of s) a tr (st.actors k) going h in
    let l = turns_lead code k a.limit n a b r st h.number going refl p.counted p.at p.free turns in
    let ran : HasRun code (map exchange_of (st.actors k).entries) b = turns_run laws code n (map exchange_of (st.actors k).entries) a b r idle turns h.ran in
    let e = l.entries in
    record {
      turns = l.turns;
      made = made_so code k a.limit n st r l.turns quiet l.made;
      shared = same ∙ sym l.shared;
      player = record {
        number = l.number;
        waits = free;
        placed = stands_placed code k a.limit b r ((after_turns code l.turns st).actors k) quiet l.stands;
        ran = subst (λ es. HasRun code (map exchange_of es) b) (sym e) ran;
        counted = counts_so code k a.limit b r ((after_turns code l.turns st).actors k) quiet l.stands l.counted;
        traced = h.traced ∙ ap (trace_of code.cells (books_of s) k) (sym e);
        full = λ y. absurd (full_never code n a b r going turns y);
        stops = λ y. absurd (full_never code n a b r going turns y);
      };
    }

-- a play whose ask was answered so
pub asked_goes : ActorsRun → (code : PlainCode) (k n : ℕ) (s t : PlainShared) (a b z : PlainActor) (q : Ask) (tr new : List Place) → IsStateOf code s → unanswered a ≡ None → a.outcome ≡ None → b.outcome ≡ None → unanswered b ≡ Some q
    → TurnsOf code n a (turned.Asks q) b → IsAnswered k s b tr q t z new → GoesAs code k n s a tr t z new
asked_goes laws code k n s t a b z q tr new of idle going on asks turns h =
    subst (λ x. GoesAs code k n s a tr t x new) (sym h.is) (played_goes laws code k n s t a b q h.reply tr new of h.lawful idle going on asks turns h.free h.may h.served)

-- one that has ended makes no turn
pub stays : (code : PlainCode) (k n : ℕ) (s : PlainShared) (a : PlainActor) (tr : List Place) → (a.outcome ≡ None → ⊥) → GoesAs code k n s a tr s a tr
stays code k n s a tr ended before same hold p = go a.outcome refl
  where
    go : (o : Option Outcome) → a.outcome ≡ o → ComesTo code k a.limit n (run_of code before) s a tr
    go None e = absurd (ended e)
    go (Some o) e = record { turns = []; made = inl (sym (ended_turns code a.limit k n (run_of code before) a o e p.placed)); shared = same; player = p }
