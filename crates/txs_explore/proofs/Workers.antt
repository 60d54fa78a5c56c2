-- A run by workers that came to its end below the limit is one by turns alone, in which nobody is stopped: so its end is listed.
use Rattle.std.proofs.Common.{◌≡◌, ◌⊎◌, inl, inr, ◌<◌, ◌≤◌, ◌+◌, ◌==◌, ℕ, suc, Bool, true, false, nat_lt, List, [], ◌∷◌, length, map, Option, Some, None, if◌then◌else◌, refl, sym, ap, subst, ◌∙◌, arith}
use Rattle.std.proofs.lemmas.Bool.{false≢true}
use Rattle.std.proofs.lemmas.Bool.Decides.{nat_tests}
use Rattle.std.proofs.lemmas.List.{length-append}
use Rattle.txs_world_protocol.specs.declared.ask.Ask.TheVariants as ask
use Rattle.txs_world_protocol.specs.declared.event.Outcome.{Outcome}
use Rattle.txs_world_protocol.specs.declared.event.Outcome.TheVariants as outcome
use Rattle.txs_world_protocol.specs.declared.report.ActorReport.{ActorReport}
use Rattle.txs_value_data.specs.Places.{nth}
use Rattle.txs_value_cell.specs.declared.cell.CellDefinition.{CellDefinition}
use Rattle.txs_value_data.specs.declared.value.CellId.{CellId}
use Rattle.txs_value_data.proofs.SameLemmas.{numbers, number-itself}
use Rattle.txs_code_meaning.specs.Machine.{ThreadCode, Configuration, Turned, Ended, Failed, Asking, Unfinished, Stuck, turn}
use Rattle.txs_code_meaning.specs.PlainCode.{PlainCode}
use Rattle.txs_machine_actor.specs.PlainActor.{code_of}
use Rattle.txs_world.specs.Laws.{ServeKeeps}
use Rattle.txs_world.specs.Store.{next_action}
use Rattle.txs_world_book.specs.Book.{actors, has_agent}
use Rattle.txs_world_book.specs.Book as world
use Rattle.txs_world_book.specs.Served.{cells_of}
use Rattle.txs_theorem_runs.specs.Invariant.{OpeningHolds, PlayHolds}
use Rattle.txs_theorem_runs.specs.Run.{Stop, JournalFull, Memory, TurnsSpent, Unlawful, Actor, State, Play, TakesTurn, IsStopped, actor_of, moved, moves, placed, play, stops_from, turns_from}
use Rattle.txs_theorem_runs.specs.Shared.{Shared}
use Rattle.txs_theorem_serial.proofs.Together.{agents_many}
use Rattle.txs_explore.specs.Actors.{Rests, settled}
use Rattle.txs_explore.specs.Ends.{IsScript, HasEnded}
use Rattle.txs_explore.specs.SearchLaws.{BelowIsWithin, EndsAreOver}
use Rattle.txs_explore.specs.Runners as runs
use Rattle.txs_explore.specs.Runners.{Explored, Runner, runner_of, AreTurns, goes_on, many, next_from, next_turned, played, runners, told_of}
use Rattle.txs_explore.proofs.Calming.{IsCalm, settled_there}
use Rattle.txs_explore.proofs.Running.{falls}
use Rattle.txs_world_shared.specs.Parts.{values_from, faults_from, values_of, faults_of}
use Rattle.txs_world_shared.specs.SharedState.{PlainShared, shared_of}
use Rattle.txs_machine.specs.Agents.{agents_of, actors_of}
use Rattle.txs_machine.specs.RunOver.{books_of}
use Rattle.txs_machine.specs.Scheduled.{AreTurnsBelow, IsEntryOf, outcome_of, run_of, steps_by}
use Rattle.txs_machine.specs.declared.schedule.Entries.{Entries}
use Rattle.txs_machine.proofs.Together.{agent_acts, agent_at}
use Rattle.txs_explore.specs.declared.ways.Way.{Way}
use Rattle.txs_explore.specs.Laws.{EndedItself, HasWorked, IsNotStopped, WorkersAreListed}
use Rattle.txs_explore.specs.Reported.{entries_of, entry_end, reported}
use Rattle.txs_explore.specs.Told.{begins, each_of, end_of, explored, fault_in, value_in}
use Rattle.txs_explore.specs.Ways.{AreAll, IsListed}
use Rattle.txs_explore.proofs.Lists.{nth_below, nth_either, nth_there}
use Rattle.txs_explore.proofs.Waiting.{asks_one}

-- ---- an actor that was stopped stays so

record IsHeld (x : Actor) : Type 0 where
  here : Configuration
  why : Stop
  at : x.at ≡ Unfinished here
  stopped : x.stopped ≡ Some why

same_state : (s t : State) → s.shared ≡ t.shared → ((k : ℕ) → s.actors k ≡ t.actors k) → s ≡ t
same_state s t e f = λ i. record { shared = e i; actors = λ k. f k i }

-- an actor put in its own place
placed_same : (k : ℕ) (y : Actor) (st : State) → y ≡ st.actors k → placed k (moved y st.shared) st ≡ st
placed_same k y st e = same_state (placed k (moved y st.shared) st) st refl (λ j. at j (k == j) refl)
  where
    at : (j : ℕ) (b : Bool) → (k == j) ≡ b → (if b then y else st.actors j) ≡ st.actors j
    at j true q = e ∙ ap st.actors (numbers k j q)
    at j false q = refl

module _ (x : Explored) where
  abbrev one : Play → State → State
  one y st = play x.cells x.threads x.codes y st

  moves_held : (y : Play) (st : State) → IsHeld (st.actors (actor_of y)) → (moves x.cells x.threads x.codes y st).actor ≡ st.actors (actor_of y)
  moves_held (TakesTurn k) st h =
      ap (λ t. (turns_from x.cells x.threads (x.codes k) k t (st.actors k).stopped (st.actors k) st.shared).actor) h.at
      ∙ ap (λ w. (turns_from x.cells x.threads (x.codes k) k (Unfinished h.here) w (st.actors k) st.shared).actor) h.stopped
  moves_held (IsStopped k w) st h = ap (λ t. stops_from w t (st.actors k).stopped (st.actors k)) h.at ∙ ap (λ v. stops_from w (Unfinished h.here) v (st.actors k)) h.stopped

  play_held : (y : Play) (k : ℕ) (st : State) → IsHeld (st.actors k) → IsHeld ((one y st).actors k)
  play_held y k st h = go (actor_of y == k) refl
    where
      go : (b : Bool) → (actor_of y == k) ≡ b → IsHeld (if b then (moves x.cells x.threads x.codes y st).actor else st.actors k)
      go true e =
          let i = numbers (actor_of y) k e in
          let mine = subst (λ j. IsHeld (st.actors j)) (sym i) h in
          subst IsHeld (sym (moves_held y st mine)) mine
      go false e = h

  stays_held : (ys : List Play) (k : ℕ) (st : State) → IsHeld (st.actors k) → IsHeld ((played x ys st).actors k)
  stays_held [] k st h = h
  stays_held (y ∷ ys) k st h = stays_held ys k (one y st) (play_held y k st h)

  -- where it doesn't, a stop changed nothing
  stop_same : (k : ℕ) (why : Stop) (st : State) → (IsHeld ((one (IsStopped k why) st).actors k) → ⊥) → one (IsStopped k why) st ≡ st
  stop_same k why st never = by (st.actors k).at (st.actors k).stopped refl refl
    where
      here : (one (IsStopped k why) st).actors k ≡ stops_from why (st.actors k).at (st.actors k).stopped (st.actors k)
      here = ap (λ b. if b then stops_from why (st.actors k).at (st.actors k).stopped (st.actors k) else st.actors k) (number-itself k)

      is : (at : Turned Configuration) (o : Option Stop) → (st.actors k).at ≡ at → (st.actors k).stopped ≡ o → stops_from why (st.actors k).at (st.actors k).stopped (st.actors k) ≡ stops_from why at o (st.actors k)
      is at o e f = ap (λ t. stops_from why t (st.actors k).stopped (st.actors k)) e ∙ ap (λ w. stops_from why at w (st.actors k)) f

      by : (at : Turned Configuration) (o : Option Stop) → (st.actors k).at ≡ at → (st.actors k).stopped ≡ o → one (IsStopped k why) st ≡ st
      by (Ended s) o e f = placed_same k (stops_from why (st.actors k).at (st.actors k).stopped (st.actors k)) st (is (Ended s) o e f)
      by (Failed g s) o e f = placed_same k (stops_from why (st.actors k).at (st.actors k).stopped (st.actors k)) st (is (Failed g s) o e f)
      by (Asking s) o e f = placed_same k (stops_from why (st.actors k).at (st.actors k).stopped (st.actors k)) st (is (Asking s) o e f)
      by (Unfinished c) None e f = absurd (never (subst IsHeld (sym (here ∙ is (Unfinished c) None e f)) (record { here = c; why = why; at = e; stopped = refl })))
      by (Unfinished c) (Some w) e f = placed_same k (stops_from why (st.actors k).at (st.actors k).stopped (st.actors k)) st (is (Unfinished c) (Some w) e f)
      by Stuck o e f = placed_same k (stops_from why (st.actors k).at (st.actors k).stopped (st.actors k)) st (is Stuck o e f)

  -- the turns without the stops between them
  abbrev turns_of : List Play → List Play
  turns_of [] = []
  turns_of (TakesTurn k ∷ ys) = TakesTurn k ∷ turns_of ys
  turns_of (IsStopped k why ∷ ys) = turns_of ys

  turns_same : (n : ℕ) (ys : List Play) (st : State) → AreTurnsBelow n ys → ((k : ℕ) → k < n → IsHeld ((played x ys st).actors k) → ⊥) → played x (turns_of ys) st ≡ played x ys st
  turns_same n [] st b never = refl
  turns_same n (TakesTurn k ∷ ys) st b never = turns_same n ys (one (TakesTurn k) st) b.1 never
  turns_same n (IsStopped k why ∷ ys) st b never =
      let same : one (IsStopped k why) st ≡ st = stop_same k why st (λ h. never k b.0 (stays_held ys k (one (IsStopped k why) st) h)) in
      turns_same n ys st b.1 (λ j l h. never j l (subst (λ s. IsHeld ((played x ys s).actors j)) (sym same) h)) ∙ ap (played x ys) (sym same)

  turns_below : (n : ℕ) (ys : List Play) → AreTurnsBelow n ys → AreTurns n (turns_of ys)
  turns_below n [] b = tt
  turns_below n (TakesTurn k ∷ ys) b = (b.0, turns_below n ys b.1)
  turns_below n (IsStopped k why ∷ ys) b = turns_below n ys b.1

-- ---- what an entry says of its actor

steps_least : (o : Option Stop) (n : ℕ) → n ≤ steps_by o n
steps_least None n = omega arith
steps_least (Some JournalFull) n = omega arith
steps_least (Some Memory) n = omega arith
steps_least (Some TurnsSpent) n = omega arith
steps_least (Some Unlawful) n = omega arith

not_stopped : (o : Option Outcome) → EndedItself o → IsNotStopped o
not_stopped None h = absurd h
not_stopped (Some outcome.Done) h = tt
not_stopped (Some (outcome.Failed f)) h = tt
not_stopped (Some outcome.StepsSpent) h = absurd h
not_stopped (Some outcome.JournalFull) h = absurd h
not_stopped (Some outcome.Memory) h = absurd h

ended_rests : (at : Turned Configuration) (o : Option Stop) → EndedItself (outcome_of at o) → goes_on at o ≡ false
ended_rests (Ended s) o h = refl
ended_rests (Failed f s) o h = refl
ended_rests (Asking s) o h = refl
ended_rests (Unfinished c) None h = absurd h
ended_rests (Unfinished c) (Some w) h = refl
ended_rests Stuck o h = refl

going_none : (at : Turned Configuration) (o : Option Stop) → goes_on at o ≡ true → outcome_of at o ≡ None
going_none (Ended s) o h = absurd (false≢true h)
going_none (Failed f s) o h = absurd (false≢true h)
going_none (Asking s) o h = refl
going_none (Unfinished c) None h = refl
going_none (Unfinished c) (Some w) h = absurd (false≢true h)
going_none Stuck o h = refl

-- one that doesn't go on rests
stays_from : (kd : ThreadCode) (b : Bool) (at : Turned Configuration) (o : Option Stop) (l : Runner) → goes_on at o ≡ false → IsCalm (next_from kd b at o l)
stays_from kd b (Ended s) o l h = tt
stays_from kd b (Failed f s) o l h = tt
stays_from kd b (Asking s) o l h = tt
stays_from kd b (Unfinished c) None l h = absurd (false≢true (sym h))
stays_from kd b (Unfinished c) (Some w) l h = tt
stays_from kd b Stuck o l h = tt

-- one that goes on waits, where its instruction asks
waits_from : (kd : ThreadCode) (at : Turned Configuration) (o : Option Stop) (l : Runner) → goes_on at o ≡ true
    → ((c : Configuration) → at ≡ Unfinished c → IsCalm (next_turned (turn kd c) l)) → IsCalm (next_from kd true at o l)
waits_from kd (Ended s) o l h asks = tt
waits_from kd (Failed f s) o l h asks = tt
waits_from kd (Asking s) o l h asks = tt
waits_from kd (Unfinished c) None l h asks = asks c refl
waits_from kd (Unfinished c) (Some w) l h asks = tt
waits_from kd Stuck o l h asks = tt

is_below : (m n : ℕ) → m < n → nat_lt m n ≡ true
is_below m n h = grind (arith, nat_tests, h)

-- what is said of each of these is what is told of actors from the k-th on
each_said : (f : ℕ → runs.End) (k : ℕ) (rans : List ActorReport) → ((i : ℕ) (ran : ActorReport) → nth rans i ≡ Some ran → entry_end ran ≡ f (k + i)) → map entry_end rans ≡ each_of f k (length rans)
each_said f k [] h = refl
each_said f k (ran ∷ rans) h =
    let first : k + 0 ≡ k = omega arith in
    ap (λ e. e ∷ map entry_end rans) (h 0 ran refl ∙ ap f first) ∙ ap (λ es. f k ∷ es) (each_said f (suc k) rans (λ i m e. h (suc i) m e ∙ ap f (next i)))
  where
    next : (i : ℕ) → k + suc i ≡ suc k + i
    next i = omega arith

-- ---- a run by workers

module _ (below_within : BelowIsWithin) (ends_over : EndsAreOver) (keeps : ServeKeeps) (opened : OpeningHolds) (kept : PlayHolds)
    (code : PlainCode) (limit : ℕ) (ws : List Way) (script : IsScript (explored code limit)) (all : AreAll code limit ws) (s : PlainShared) (report : Entries) (h : HasWorked code limit s report) where
  abbrev x : Explored
  x = explored code limit

  abbrev st : State
  st = run_of code h.run.turns

  -- the entry of an actor
  record IsOf (k : ℕ) (ran : ActorReport) : Type 0 where
    entry : IsEntryOf code (books_of s) k (st.actors k) ran
    lasts : IsNotStopped ran.outcome

  entry_of : (k : ℕ) (ran : ActorReport) → nth (entries_of report) k ≡ Some ran → IsOf k ran
  entry_of k ran e = by (nth_either report.threads.items report.agents.items k ran e)
    where
      by : (nth report.threads.items k ≡ Some ran) ⊎ ((i : ℕ) × (k ≡ length report.threads.items + i) × (nth report.agents.items i ≡ Some ran)) → IsOf k ran
      by (inl f) = record { entry = h.run.threads_are k ran f; lasts = not_stopped ran.outcome (h.ended k ran f) }
      by (inr f) =
          let place : length code.threads + f.0 ≡ k = ap (λ n. n + f.0) (sym h.each_thread) ∙ sym f.1 in
          record { entry = subst (λ n. IsEntryOf code (books_of s) n (st.actors n) ran) place (h.run.agents_are f.0 ran f.2); lasts = h.lasts f.0 ran f.2 }

  all_many : length (entries_of report) ≡ many x
  all_many =
      let a = length-append report.threads.items report.agents.items in
      let b = h.each_thread in
      let c = h.each_agent in
      let d = agents_many 0 code.cells in
      omega (arith, a, b, c, d)

  -- there is one
  entry_at : (k : ℕ) → k < many x → (ran : ActorReport) × (nth (entries_of report) k ≡ Some ran)
  entry_at k less = let m = all_many in nth_there (entries_of report) k (omega (arith, less, m))

  -- nobody was stopped
  held_never : (y : Actor) (ran : ActorReport) (k : ℕ) → IsEntryOf code (books_of s) k y ran → IsNotStopped ran.outcome → IsHeld y → ⊥
  held_never y ran k e n held = by held.why held.stopped
    where
      said : (why : Stop) → y.stopped ≡ Some why → ran.outcome ≡ outcome_of (Unfinished held.here) (Some why)
      said why f = e.ended ∙ ap (λ t. outcome_of t y.stopped) held.at ∙ ap (λ w. outcome_of (Unfinished held.here) w) f

      by : (why : Stop) → y.stopped ≡ Some why → ⊥
      by JournalFull f = subst IsNotStopped (said JournalFull f) n
      by Memory f = subst IsNotStopped (said Memory f) n
      by TurnsSpent f = subst IsNotStopped (said TurnsSpent f) n
      by Unlawful f = e.lawful f

  -- so the turns alone come there
  abbrev zs : List Play
  zs = turns_of x h.run.turns

  many_same : actors_of code ≡ many x
  many_same = ap (λ n. length code.threads + n) (agents_many 0 code.cells)

  same : played x zs (begins code) ≡ st
  same =
      turns_same x (actors_of code) h.run.turns (begins code) h.run.below
      (λ k less held. (let t = entry_at k (subst (λ n. k < n) many_same less) in let e = entry_of k t.0 t.1 in held_never (st.actors k) t.0 k e.entry e.lasts held))

  turns_less : (k : ℕ) → k < many x → (st.actors k).turns < limit
  turns_less k less =
      let t = entry_at k less in
      let counted = (entry_of k t.0 t.1).entry.counted in
      let least = steps_least (st.actors k).stopped (st.actors k).turns in
      let below = h.below k t.0 t.1 in
      omega (arith, counted, least, below)

  within : runs.AreWithin x zs (begins code)
  within =
      below_within x zs (begins code) (subst (λ n. AreTurns n zs) many_same (turns_below x (actors_of code) h.run.turns h.run.below))
      (λ k less. subst (λ (u : State). (u.actors k).turns < limit) (sym same) (turns_less k less))

  shared_same : shared_of s ≡ st.shared
  shared_same = h.run.shared

  -- ---- it has ended

  thread_rests : (k : ℕ) → k < length code.threads → goes_on (st.actors k).at (st.actors k).stopped ≡ false
  thread_rests k less =
      let n = h.each_thread in
      let t = nth_there report.threads.items k (omega (arith, less, n)) in
      ended_rests (st.actors k).at (st.actors k).stopped (subst EndedItself (h.run.threads_are k t.0 t.1).ended (h.ended k t.0 t.1))

  agent_drained : (g : CellId) → has_agent (cells_of code.cells) g ≡ true
      → goes_on (st.actors (world.actor_of (length code.threads) (cells_of code.cells) g)).at (st.actors (world.actor_of (length code.threads) (cells_of code.cells) g)).stopped ≡ true
      → next_action (cells_of code.cells) (st.shared.books 0) g ≡ None
  agent_drained g has goes =
      let a = agent_acts code g has in
      let n = h.each_agent in
      let less = nth_below (agents_of code) a.0 g a.1 in
      let t = nth_there report.agents.items a.0 (omega (arith, less, n)) in
      let going = subst (λ k. goes_on (st.actors k).at (st.actors k).stopped ≡ true) a.2 goes in
      let none : t.0.outcome ≡ None =
      (h.run.agents_are a.0 t.0 t.1).ended ∙ going_none (st.actors (length code.threads + a.0)).at (st.actors (length code.threads + a.0)).stopped going
      in
      subst (λ (sh : Shared). next_action (cells_of code.cells) (sh.books 0) g ≡ None) shared_same (h.drained a.0 g t.0 a.1 t.1 none)

  has_ended : HasEnded x st
  has_ended = record { threads = thread_rests; agents = agent_drained }

  listed : IsListed code limit (told_of x st) ws
  listed =
      subst (λ u. IsListed code limit (told_of x u) ws) same
      (all zs within (ends_over x script zs (subst (HasEnded x) (sym same) has_ended)))

  -- ---- where each actor is it stays

  abbrev CalmAt : ℕ → Type 0
  CalmAt k = IsCalm (next_from (code_of code k) (nat_lt (st.actors k).turns limit) (st.actors k).at (st.actors k).stopped (runner_of (st.actors k)))

  next_calm : (k : ℕ) → k < many x → CalmAt k → IsCalm ((runners x).next k (runner_of (st.actors k)))
  next_calm k less calm =
      subst (λ b. IsCalm (if b then next_from (code_of code k) (nat_lt (st.actors k).turns limit) (st.actors k).at (st.actors k).stopped (runner_of (st.actors k)) else Rests)) (sym (is_below k (many x) less)) calm

  thread_calm : (k : ℕ) → k < length code.threads → CalmAt k
  thread_calm k less = stays_from (code_of code k) (nat_lt (st.actors k).turns limit) (st.actors k).at (st.actors k).stopped (runner_of (st.actors k)) (thread_rests k less)

  -- an agent's that goes on asks for an action
  agent_calm : (g : CellId) (k : ℕ) → has_agent (cells_of code.cells) g ≡ true → k ≡ world.actor_of (length code.threads) (cells_of code.cells) g → k < many x → CalmAt k
  agent_calm g k has place less = by (goes_on (st.actors k).at (st.actors k).stopped) refl
    where
      waits : goes_on (st.actors k).at (st.actors k).stopped ≡ true → (c : Configuration) → (st.actors k).at ≡ Unfinished c → IsCalm (next_turned (turn (code_of code k) c) (runner_of (st.actors k)))
      waits goes c at =
          let none = agent_drained g has (subst (λ n. goes_on (st.actors n).at (st.actors n).stopped ≡ true) place goes) in
          let asks = asks_one x script keeps opened kept h.run.turns g has none c (subst (λ n. (st.actors n).at ≡ Unfinished c) place at) in
          subst (λ t. IsCalm (next_turned t (runner_of (st.actors k)))) (sym (subst (λ n. turn (code_of code n) c ≡ Asking (record c.state { wants = Some (ask.Take asks.0) })) (sym place) asks.1)) tt

      by : (b : Bool) → goes_on (st.actors k).at (st.actors k).stopped ≡ b → CalmAt k
      by false e = stays_from (code_of code k) (nat_lt (st.actors k).turns limit) (st.actors k).at (st.actors k).stopped (runner_of (st.actors k)) e
      by true e =
          subst (λ b. IsCalm (next_from (code_of code k) b (st.actors k).at (st.actors k).stopped (runner_of (st.actors k)))) (sym (is_below (st.actors k).turns limit (turns_less k less)))
          (waits_from (code_of code k) (st.actors k).at (st.actors k).stopped (runner_of (st.actors k)) e (waits e))

  each_calm : (k : ℕ) (ran : ActorReport) → nth (entries_of report) k ≡ Some ran → k < many x → CalmAt k
  each_calm k ran e less = by (nth_either report.threads.items report.agents.items k ran e)
    where
      by : (nth report.threads.items k ≡ Some ran) ⊎ ((i : ℕ) × (k ≡ length report.threads.items + i) × (nth report.agents.items i ≡ Some ran)) → CalmAt k
      by (inl f) = let n = h.each_thread in let l = nth_below report.threads.items k ran f in thread_calm k (omega (arith, n, l))
      by (inr f) =
          let n = h.each_agent in
          let l = nth_below report.agents.items f.0 ran f.2 in
          let t = nth_there (agents_of code) f.0 (omega (arith, n, l)) in
          let at = agent_at code f.0 t.0 t.1 in
          let place : k ≡ length code.threads + f.0 = f.1 ∙ ap (λ m. m + f.0) h.each_thread in
          agent_calm t.0 k at.has (place ∙ at.place) less

  -- ---- what is told of it

  abbrev said : Option Outcome → List ℕ → runs.End
  said o ps = record { ended = o; printed = ps }

  abbrev there : ℕ → runs.End
  there k = end_of (settled (runners x) k (runner_of (st.actors k)))

  end_said : (k : ℕ) (ran : ActorReport) → nth (entries_of report) k ≡ Some ran → entry_end ran ≡ there k
  end_said k ran e =
      let m = all_many in
      let l = nth_below (entries_of report) k ran e in
      let less : k < many x = omega (arith, m, l) in
      let entry = (entry_of k ran e).entry in
      ap (λ o. said o ran.printed.items) entry.ended
      ∙ ap (said (outcome_of (st.actors k).at (st.actors k).stopped)) entry.printed
      ∙ sym (ap end_of (settled_there (runners x) (falls x) k (runner_of (st.actors k)) (next_calm k less (each_calm k ran e less))))

  actors_said : each_of there 0 (many x) ≡ map entry_end (entries_of report)
  actors_said = sym (each_said there 0 (entries_of report) (λ i ran e. end_said i ran e ∙ ap there (from i)) ∙ ap (each_of there 0) all_many)
    where
      from : (i : ℕ) → i ≡ 0 + i
      from i = omega arith

  cells_said : values_from (value_in code.cells st.shared) 0 code.cells ≡ values_of s
  cells_said = sym (ap (λ (c : List CellDefinition). values_from (value_in c (shared_of s)) 0 c) h.of.cells ∙ ap (λ (z : Shared). values_from (value_in code.cells z) 0 code.cells) shared_same)

  faults_said : faults_from (fault_in code.cells st.shared) 0 code.cells ≡ faults_of s
  faults_said = sym (ap (λ (c : List CellDefinition). faults_from (fault_in c (shared_of s)) 0 c) h.of.cells ∙ ap (λ (z : Shared). faults_from (fault_in code.cells z) 0 code.cells) shared_same)

  told_is : told_of x st ≡ reported s report
  told_is = λ i. record { actors = actors_said i; cells = cells_said i; failed = faults_said i }

  pub is_listed : IsListed code limit (reported s report) ws
  is_listed = subst (λ e. IsListed code limit e ws) told_is listed

pub workers_listed : BelowIsWithin → EndsAreOver → ServeKeeps → OpeningHolds → PlayHolds → WorkersAreListed
workers_listed below_within ends_over keeps opened kept code limit ws script all s report h = is_listed below_within ends_over keeps opened kept code limit ws script all s report h
