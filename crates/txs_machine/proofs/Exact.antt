-- A schedule has one run: where nothing was stopped for memory its turns are all determined.
use Rattle.std.proofs.Common.{◌≡◌, ◌==◌, ◌<◌, ◌+◌, ℕ, zero, suc, Bool, true, false, ◌&&◌, nat_lt, List, [], ◌∷◌, ◌++◌, length, Option, Some, None, refl, sym, ap, subst, ◌∙◌, ◌⊎◌, inl, inr, if◌then◌else◌, arith}
use Rattle.std.proofs.lemmas.Bool.Decides.{nat_tests}
use Rattle.txs_world_protocol.specs.declared.event.Event.{Event}
use Rattle.txs_world_protocol.specs.declared.event.Outcome.TheVariants as outcome
use Rattle.txs_world_protocol.specs.declared.report.ActorReport.{ActorReport}
use Rattle.txs_value_data.specs.Places.{nth}
use Rattle.txs_value_data.proofs.SameLemmas.{and_both, numbers, number-itself}
use Rattle.txs_code_meaning.specs.Machine.{ThreadCode, Configuration, Turned, Ended, Failed, Asking, Unfinished, Stuck, turn}
use Rattle.txs_code_meaning.specs.PlainCode.{PlainCode}
use Rattle.txs_machine_actor.specs.PlainActor.{code_of}
use Rattle.txs_theorem_runs.specs.Run as run
use Rattle.txs_theorem_runs.specs.Run.{Stop, JournalFull, Memory, TurnsSpent, Unlawful, Actor, State, Play, Moved, TakesTurn, IsStopped, actor_of, moves, turns_from, stops_from}
use Rattle.txs_theorem_runs.specs.Shared.{Shared}
use Rattle.txs_world_shared.specs.SharedState.{PlainShared, shared_of}
use Rattle.txs_machine.specs.Agents.{actors_of}
use Rattle.txs_machine.specs.RunOver.{books_of}
use Rattle.txs_machine.specs.Schedule.{player, all_named}
use Rattle.txs_machine.specs.Scheduled.{after_turns, run_of, most_turns, is_quiet, turns_next, turns_at, own_turns, outcome_of, AreTurnsOf, ArePlays, AreRounds, AreRoundsIf, AreScheduled, IsEntryOf, IsUndisturbedRun, IsSameEntry, SchedulesAreExact, asks_from}
use Rattle.txs_machine.specs.declared.schedule.Play.{Play as AnyPlay}
use Rattle.txs_machine.proofs.Going.{turns_append}

abbrev is_some : {A : Type 0} → Option A → Type 0
is_some None = ⊥
is_some (Some x) = Unit {0}

abbrev is_true : Bool → Type 0
is_true true = Unit {0}
is_true false = ⊥

-- ---- turns of which none stops for memory

abbrev pub IsOther : Stop → Type 0
IsOther JournalFull = Unit {0}
IsOther Memory = ⊥
IsOther TurnsSpent = Unit {0}
IsOther Unlawful = Unit {0}

abbrev pub LacksMemory : List Play → Type 0
LacksMemory [] = Unit {0}
LacksMemory (TakesTurn k ∷ us) = LacksMemory us
LacksMemory (IsStopped k why ∷ us) = IsOther why × LacksMemory us

lacks_first : (us vs : List Play) → LacksMemory (us ++ vs) → LacksMemory us
lacks_first [] vs h = tt
lacks_first (TakesTurn k ∷ us) vs h = lacks_first us vs h
lacks_first (IsStopped k why ∷ us) vs h = (h.0, lacks_first us vs h.1)

lacks_last : (us vs : List Play) → LacksMemory (us ++ vs) → LacksMemory vs
lacks_last [] vs h = h
lacks_last (TakesTurn k ∷ us) vs h = lacks_last us vs h
lacks_last (IsStopped k why ∷ us) vs h = lacks_last us vs h.1

lacks_both : (us vs : List Play) → LacksMemory us → LacksMemory vs → LacksMemory (us ++ vs)
lacks_both [] vs h g = g
lacks_both (TakesTurn k ∷ us) vs h g = lacks_both us vs h g
lacks_both (IsStopped k why ∷ us) vs h g = (h.0, lacks_both us vs h.1 g)

next_lacks : (kd : ThreadCode) (k : ℕ) (may : Bool) (c : Configuration) (more : List Play) → LacksMemory more → LacksMemory (turns_next kd k may c more)
next_lacks kd k true c more h = go (is_quiet (turn kd c))
  where
    go : (b : Bool) → LacksMemory (if b then more else [])
    go true = h
    go false = tt
next_lacks kd k false c more h = (tt, tt)

at_lacks : (kd : ThreadCode) (k : ℕ) (may : Bool) (o : Turned Configuration) (why : Option Stop) (more : List Play) → LacksMemory more → LacksMemory (turns_at kd k may o why more)
at_lacks kd k may (Ended s) why more h = tt
at_lacks kd k may (Failed f s) why more h = tt
at_lacks kd k may (Asking s) why more h = tt
at_lacks kd k may (Unfinished c) None more h = next_lacks kd k may c more h
at_lacks kd k may (Unfinished c) (Some why) more h = tt
at_lacks kd k may Stuck why more h = tt

own_lacks : (code : PlainCode) (limit k n : ℕ) (st : State) → LacksMemory (own_turns code limit k n st)
unfolding own_turns
own_lacks code limit k zero st = tt
own_lacks code limit k (suc n) st = at_lacks (code_of code k) k (nat_lt (st.actors k).turns limit) (st.actors k).at (st.actors k).stopped _ (own_lacks code limit k n (after_turns code (TakesTurn k ∷ []) st))

-- ---- two runs without such a stop

pub turns_one : (code : PlainCode) (limit k n : ℕ) (st : State) (us : List Play) → AreTurnsOf code limit k n st us → LacksMemory us → us ≡ own_turns code limit k n st
turns_one code limit k n st us (inl e) h = e
turns_one code limit k n st us (inr w) h = absurd (lacks_last w.0 (IsStopped k Memory ∷ []) (subst LacksMemory w.4 h)).0

plays_one : (code : PlainCode) (limit : ℕ) (ys : List AnyPlay) (st : State) (us vs : List Play) → ArePlays code limit ys st us → ArePlays code limit ys st vs → LacksMemory us → LacksMemory vs → us ≡ vs
plays_one code limit [] st us vs h g a b = h ∙ sym g
plays_one code limit (y ∷ ys) st us vs h g a b =
    let la = subst LacksMemory h.2 a in
    let lb = subst LacksMemory g.2 b in
    let e : h.0 ≡ g.0 = turns_one code limit (player y) (most_turns y) st h.0 h.3 (lacks_first h.0 h.1 la) ∙ sym (turns_one code limit (player y) (most_turns y) st g.0 g.3 (lacks_first g.0 g.1 lb)) in
    let r = plays_one code limit ys (after_turns code h.0 st) h.1 g.1 h.4 (subst (λ l. ArePlays code limit ys (after_turns code l st) g.1) (sym e) g.4) (lacks_last h.0 h.1 la) (lacks_last g.0 g.1 lb) in
    h.2 ∙ ap (λ l. l ++ h.1) e ∙ ap (λ l. g.0 ++ l) r ∙ sym g.2

rounds_one : (code : PlainCode) (limit n m : ℕ) (st : State) (us vs : List Play) → AreRounds code limit n st us → AreRounds code limit m st vs → LacksMemory us → LacksMemory vs → us ≡ vs
rounds_one code limit zero zero st us vs h g a b = h.1 ∙ sym g.1
rounds_one code limit zero (suc m) st us vs h g a b = absurd (g.0 h.0)
rounds_one code limit (suc n) zero st us vs h g a b = absurd (h.0 g.0)
rounds_one code limit (suc n) (suc m) st us vs h g a b =
    let la = subst LacksMemory h.3 a in
    let lb = subst LacksMemory g.3 b in
    let e : h.1 ≡ g.1 = plays_one code limit (asks_from 0 (actors_of code)) st h.1 g.1 h.4 g.4 (lacks_first h.1 h.2 la) (lacks_first g.1 g.2 lb) in
    let r = rounds_one code limit n m (after_turns code h.1 st) h.2 g.2 h.5 (subst (λ l. AreRounds code limit m (after_turns code l st) g.2) (sym e) g.5) (lacks_last h.1 h.2 la) (lacks_last g.1 g.2 lb) in
    h.3 ∙ ap (λ l. l ++ h.2) e ∙ ap (λ l. g.1 ++ l) r ∙ sym g.3

if_one : (code : PlainCode) (limit : ℕ) (rounds : Bool) (st : State) (us vs : List Play) → AreRoundsIf code limit rounds st us → AreRoundsIf code limit rounds st vs → LacksMemory us → LacksMemory vs → us ≡ vs
if_one code limit false st us vs h g a b = h ∙ sym g
if_one code limit true st us vs h g a b = rounds_one code limit h.0 g.0 st us vs h.1 g.1 a b

scheduled_one : (code : PlainCode) (limit : ℕ) (ys : List AnyPlay) (rounds : Bool) (us vs : List Play) → AreScheduled code limit ys rounds us → AreScheduled code limit ys rounds vs → LacksMemory us → LacksMemory vs → us ≡ vs
scheduled_one code limit ys rounds us vs h g a b =
    let la = subst LacksMemory h.2 a in
    let lb = subst LacksMemory g.2 b in
    let e : h.0 ≡ g.0 = plays_one code limit ys (run_of code []) h.0 g.0 h.3 g.3 (lacks_first h.0 h.1 la) (lacks_first g.0 g.1 lb) in
    let r = if_one code limit rounds (after_turns code h.0 (run_of code [])) h.1 g.1 h.4 (subst (λ l. AreRoundsIf code limit rounds (after_turns code l (run_of code [])) g.1) (sym e) g.4) (lacks_last h.0 h.1 la) (lacks_last g.0 g.1 lb) in
    h.2 ∙ ap (λ l. l ++ h.1) e ∙ ap (λ l. g.0 ++ l) r ∙ sym g.2

-- ---- an actor that was stopped for memory stays so

pub record IsOut (x : Actor) : Type 0 where
  pub here : Configuration
  pub at : x.at ≡ Unfinished here
  pub why : x.stopped ≡ Some Memory

record Goes (x : Actor) : Type 0 where
  here : Configuration
  at : x.at ≡ Unfinished here
  free : x.stopped ≡ None

moves_out : (code : PlainCode) (y : Play) (st : State) → IsOut (st.actors (actor_of y)) → (moves code.cells (length code.threads) (code_of code) y st).actor ≡ st.actors (actor_of y)
moves_out code (TakesTurn k) st h =
    ap (λ (m : Moved). m.actor)
    (ap (λ t. turns_from code.cells (length code.threads) (code_of code k) k t (st.actors k).stopped (st.actors k) st.shared) h.at
    ∙ ap (λ w. turns_from code.cells (length code.threads) (code_of code k) k (Unfinished h.here) w (st.actors k) st.shared) h.why)
moves_out code (IsStopped k w) st h = ap (λ t. stops_from w t (st.actors k).stopped (st.actors k)) h.at ∙ ap (λ v. stops_from w (Unfinished h.here) v (st.actors k)) h.why

play_out : (code : PlainCode) (y : Play) (k : ℕ) (st : State) → IsOut (st.actors k) → IsOut ((after_turns code (y ∷ []) st).actors k)
play_out code y k st h = go (actor_of y == k) refl
  where
    go : (b : Bool) → (actor_of y == k) ≡ b → IsOut (if b then (moves code.cells (length code.threads) (code_of code) y st).actor else st.actors k)
    go true e =
        let i = numbers (actor_of y) k e in
        subst IsOut (sym (moves_out code y st (subst (λ j. IsOut (st.actors j)) (sym i) h))) (subst (λ j. IsOut (st.actors j)) (sym i) h)
    go false e = h

stays_out : (code : PlainCode) (ys : List Play) (k : ℕ) (st : State) → IsOut (st.actors k) → IsOut ((after_turns code ys st).actors k)
stays_out code [] k st h = h
stays_out code (y ∷ ys) k st h = stays_out code ys k (after_turns code (y ∷ []) st) (play_out code y k st h)

-- an actor that goes on is stopped so
stop_out : (code : PlainCode) (k : ℕ) (st : State) → Goes (st.actors k) → IsOut ((after_turns code (IsStopped k Memory ∷ []) st).actors k)
stop_out code k st h = subst IsOut (sym is) (record { here = h.here; at = h.at; why = refl })
  where
    is : (after_turns code (IsStopped k Memory ∷ []) st).actors k ≡ run.stop Memory (st.actors k)
    is =
        ap (λ b. if b then stops_from Memory (st.actors k).at (st.actors k).stopped (st.actors k) else st.actors k) (number-itself k)
        ∙ ap (λ t. stops_from Memory t (st.actors k).stopped (st.actors k)) h.at ∙ ap (λ v. stops_from Memory (Unfinished h.here) v (st.actors k)) h.free

-- where an actor has a turn to make it goes on
abbrev IsCons : List Play → Type 0
IsCons [] = ⊥
IsCons (y ∷ ys) = Unit {0}

abbrev tail_of : List Play → List Play
tail_of [] = []
tail_of (y ∷ ys) = ys

abbrev head_of : Play → List Play → Play
head_of d [] = d
head_of d (y ∷ ys) = y

at_goes : (kd : ThreadCode) (k : ℕ) (may : Bool) (x : Actor) (more : List Play) (o : Turned Configuration) (why : Option Stop) → x.at ≡ o → x.stopped ≡ why → IsCons (turns_at kd k may o why more) → Goes x
at_goes kd k may x more (Ended s) why e f h = absurd h
at_goes kd k may x more (Failed g s) why e f h = absurd h
at_goes kd k may x more (Asking s) why e f h = absurd h
at_goes kd k may x more (Unfinished c) None e f h = record { here = c; at = e; free = f }
at_goes kd k may x more (Unfinished c) (Some w) e f h = absurd h
at_goes kd k may x more Stuck why e f h = absurd h

-- behind the first turn are those that are made behind it
next_tail : (kd : ThreadCode) (k : ℕ) (may : Bool) (c : Configuration) (more : List Play) (y : Play) (ws : List Play) → turns_next kd k may c more ≡ y ∷ ws → IsCons ws → (y ≡ TakesTurn k) × (more ≡ ws)
next_tail kd k true c more y ws e h = (sym (ap (head_of y) e), go (is_quiet (turn kd c)) (ap tail_of e))
  where
    go : (b : Bool) → (if b then more else []) ≡ ws → more ≡ ws
    go true f = f
    go false f = absurd (subst IsCons (sym f) h)
next_tail kd k false c more y ws e h = absurd (subst IsCons (sym (ap tail_of e)) h)

at_tail : (kd : ThreadCode) (k : ℕ) (may : Bool) (o : Turned Configuration) (why : Option Stop) (more : List Play) (y : Play) (ws : List Play) → turns_at kd k may o why more ≡ y ∷ ws → IsCons ws → (y ≡ TakesTurn k) × (more ≡ ws)
at_tail kd k may (Ended s) why more y ws e h = absurd (subst IsCons (sym e) tt)
at_tail kd k may (Failed g s) why more y ws e h = absurd (subst IsCons (sym e) tt)
at_tail kd k may (Asking s) why more y ws e h = absurd (subst IsCons (sym e) tt)
at_tail kd k may (Unfinished c) None more y ws e h = next_tail kd k may c more y ws e h
at_tail kd k may (Unfinished c) (Some w) more y ws e h = absurd (subst IsCons (sym e) tt)
at_tail kd k may Stuck why more y ws e h = absurd (subst IsCons (sym e) tt)

append_cons : (ws : List Play) (y : Play) (more : List Play) → IsCons (ws ++ y ∷ more)
append_cons [] y more = tt
append_cons (w ∷ ws) y more = tt

own_goes : (code : PlainCode) (limit k n : ℕ) (st : State) (ws : List Play) (y : Play) (more : List Play) → own_turns code limit k n st ≡ ws ++ y ∷ more → Goes ((after_turns code ws st).actors k)
unfolding own_turns
own_goes code limit k zero st [] y more e = absurd (subst IsCons (sym e) tt)
own_goes code limit k zero st (w ∷ ws) y more e = absurd (subst IsCons (sym e) tt)
own_goes code limit k (suc n) st [] y more e =
    at_goes (code_of code k) k (nat_lt (st.actors k).turns limit) (st.actors k) _ (st.actors k).at (st.actors k).stopped refl refl (subst IsCons (sym e) tt)
own_goes code limit k (suc n) st (w ∷ ws) y more e =
    let t = at_tail (code_of code k) k (nat_lt (st.actors k).turns limit) (st.actors k).at (st.actors k).stopped _ w (ws ++ y ∷ more) e (append_cons ws y more) in
    subst (λ z. Goes ((after_turns code (z ∷ ws) st).actors k)) (sym t.0) (own_goes code limit k n (after_turns code (TakesTurn k ∷ []) st) ws y more t.1)

-- so where it isn't at the end it never was
pub turns_lack : (code : PlainCode) (limit k n : ℕ) (st : State) (us : List Play) → AreTurnsOf code limit k n st us → (IsOut ((after_turns code us st).actors k) → ⊥) → LacksMemory us
turns_lack code limit k n st us (inl e) out = subst LacksMemory (sym e) (own_lacks code limit k n st)
turns_lack code limit k n st us (inr w) out =
    absurd (out (subst (λ l. IsOut ((after_turns code l st).actors k)) (sym w.4)
    (subst (λ (u : State). IsOut (u.actors k)) (sym (turns_append code w.0 (IsStopped k Memory ∷ []) st)) (stop_out code k (after_turns code w.0 st) (own_goes code limit k n st w.0 w.1 w.2 w.3)))))

-- none of so many actors was stopped for memory
abbrev NoneOut : ℕ → State → Type 0
NoneOut n st = (k : ℕ) → k < n → IsOut (st.actors k) → ⊥

none_before : (code : PlainCode) (n : ℕ) (us : List Play) (st : State) → NoneOut n (after_turns code us st) → NoneOut n st
none_before code n us st h k below out = h k below (stays_out code us k st out)

less_of : (i n : ℕ) → nat_lt i n ≡ true → i < n
less_of i n e = grind (arith, nat_tests, e)

plays_lack : (code : PlainCode) (limit n : ℕ) (ys : List AnyPlay) (st : State) (us : List Play) → all_named n ys ≡ true → ArePlays code limit ys st us → NoneOut n (after_turns code us st) → LacksMemory us
plays_lack code limit n [] st us named h out = subst LacksMemory (sym h) tt
plays_lack code limit n (y ∷ ys) st us named h out =
    let both = and_both (nat_lt (player y) n) (all_named n ys) named in
    let end : NoneOut n (after_turns code h.1 (after_turns code h.0 st)) = subst (NoneOut n) (turns_append code h.0 h.1 st) (subst (λ l. NoneOut n (after_turns code l st)) h.2 out) in
    subst LacksMemory (sym h.2)
    (lacks_both h.0 h.1 (turns_lack code limit (player y) (most_turns y) st h.0 h.3 (λ o. none_before code n h.1 (after_turns code h.0 st) end (player y) (less_of (player y) n both.0) o))
    (plays_lack code limit n ys (after_turns code h.0 st) h.1 both.1 h.4 end))

asks_named : (n k m : ℕ) → k + m ≡ n → all_named n (asks_from k m) ≡ true
asks_named n k zero e = refl
asks_named n k (suc m) e = let l : nat_lt k n ≡ true = below k n (omega (arith, e)) in ap (λ b. b && all_named n (asks_from (suc k) m)) l ∙ asks_named n (suc k) m (omega (arith, e))
  where
    below : (i j : ℕ) → i < j → nat_lt i j ≡ true
    below i j h = grind (arith, nat_tests, h)

rounds_lack : (code : PlainCode) (limit n : ℕ) (st : State) (us : List Play) → AreRounds code limit n st us → NoneOut (actors_of code) (after_turns code us st) → LacksMemory us
rounds_lack code limit zero st us h out = subst LacksMemory (sym h.1) tt
rounds_lack code limit (suc n) st us h out =
    let end : NoneOut (actors_of code) (after_turns code h.2 (after_turns code h.1 st)) = subst (NoneOut (actors_of code)) (turns_append code h.1 h.2 st) (subst (λ l. NoneOut (actors_of code) (after_turns code l st)) h.3 out) in
    subst LacksMemory (sym h.3)
    (lacks_both h.1 h.2 (plays_lack code limit (actors_of code) (asks_from 0 (actors_of code)) st h.1 (asks_named (actors_of code) 0 (actors_of code) (omega arith)) h.4 (none_before code (actors_of code) h.2 (after_turns code h.1 st) end))
    (rounds_lack code limit n (after_turns code h.1 st) h.2 h.5 end))

if_lack : (code : PlainCode) (limit : ℕ) (rounds : Bool) (st : State) (us : List Play) → AreRoundsIf code limit rounds st us → NoneOut (actors_of code) (after_turns code us st) → LacksMemory us
if_lack code limit false st us h out = subst LacksMemory (sym h) tt
if_lack code limit true st us h out = rounds_lack code limit h.0 st us h.1 out

scheduled_lack : (code : PlainCode) (limit : ℕ) (ys : List AnyPlay) (rounds : Bool) (us : List Play) → all_named (actors_of code) ys ≡ true → AreScheduled code limit ys rounds us → NoneOut (actors_of code) (run_of code us) → LacksMemory us
scheduled_lack code limit ys rounds us named h out =
    let st = run_of code [] in
    let end : NoneOut (actors_of code) (after_turns code h.1 (after_turns code h.0 st)) = subst (NoneOut (actors_of code)) (turns_append code h.0 h.1 st) (subst (λ l. NoneOut (actors_of code) (after_turns code l st)) h.2 out) in
    subst LacksMemory (sym h.2)
    (lacks_both h.0 h.1 (plays_lack code limit (actors_of code) ys st h.0 named h.3 (none_before code (actors_of code) h.1 (after_turns code h.0 st) end))
    (if_lack code limit rounds (after_turns code h.0 st) h.1 h.4 end))

-- ---- reports

there_at : {A : Type 0} (xs : List A) (k : ℕ) → k < length xs → (x : A) × (nth xs k ≡ Some x)
there_at [] k h = absurd (omega (arith, h))
there_at (x ∷ xs) zero h = (x, refl)
there_at (x ∷ xs) (suc k) h = there_at xs k (omega (arith, h))

out_outcome : (x : Actor) → IsOut x → outcome_of x.at x.stopped ≡ Some outcome.Memory
out_outcome x h = ap (λ t. outcome_of t x.stopped) h.at ∙ ap (λ w. outcome_of (Unfinished h.here) w) h.why

below_or : (k n : ℕ) → (k < n) ⊎ ((i : ℕ) × (k ≡ n + i))
below_or k zero = inr (k, omega arith)
below_or zero (suc n) = inl (omega arith)
below_or (suc k) (suc n) = go (below_or k n)
  where
    go : (k < n) ⊎ ((i : ℕ) × (k ≡ n + i)) → (suc k < suc n) ⊎ ((i : ℕ) × (suc k ≡ suc n + i))
    go (inl l) = inl (omega (arith, l))
    go (inr e) = inr (e.0, (let f = e.1 in omega (arith, f)))

none_out : (code : PlainCode) (limit : ℕ) (ys : List AnyPlay) (rounds : Bool) (s : PlainShared) (xs gs : List ActorReport) → (a : IsUndisturbedRun code limit ys rounds s xs gs) → NoneOut (actors_of code) (run_of code a.run.turns)
none_out code limit ys rounds s xs gs a k below out = go (below_or k (length code.threads))
  where
    st : State
    st = run_of code a.run.turns

    go : (k < length code.threads) ⊎ ((i : ℕ) × (k ≡ length code.threads + i)) → ⊥
    go (inl l) =
        let r = there_at xs k (let m = a.each_thread in omega (arith, l, m)) in
        a.threads_memory k r.0 r.1 ((a.run.threads_are k r.0 r.1).ended ∙ out_outcome (st.actors k) out)
    go (inr e) =
        let i = e.0 in
        let f = e.1 in
        let r = there_at gs i (let m = a.each_agent in omega (arith, f, below, m)) in
        a.agents_memory i r.0 r.1 ((a.run.agents_are i r.0 r.1).ended ∙ out_outcome (st.actors (length code.threads + i)) (subst (λ j. IsOut (st.actors j)) f out))

pub undisturbed_lacks : (code : PlainCode) (limit : ℕ) (ys : List AnyPlay) (rounds : Bool) (s : PlainShared) (xs gs : List ActorReport) → (a : IsUndisturbedRun code limit ys rounds s xs gs) → LacksMemory a.run.turns
undisturbed_lacks code limit ys rounds s xs gs a = scheduled_lack code limit ys rounds a.run.turns a.named a.run.scheduled (none_out code limit ys rounds s xs gs a)

entries_same : (code : PlainCode) (books more : ℕ → List Event) (k : ℕ) (x y : Actor) (a b : ActorReport) → books ≡ more → x ≡ y → IsEntryOf code books k x a → IsEntryOf code more k y b → IsSameEntry a b
entries_same code books more k x y a b e f h g0 =
    let g = subst (λ z. IsEntryOf code books k z b) (sym f) (subst (λ l. IsEntryOf code l k y b) (sym e) g0) in
    record { ended = h.ended ∙ sym g.ended; printed = h.printed ∙ sym g.printed; counted = h.counted ∙ sym g.counted; traced = h.traced ∙ sym g.traced }

pub schedules_exact : SchedulesAreExact
schedules_exact code limit ys rounds s t xs gs xs1 gs1 a b =
    let e : a.run.turns ≡ b.run.turns = scheduled_one code limit ys rounds a.run.turns b.run.turns a.run.scheduled b.run.scheduled (undisturbed_lacks code limit ys rounds s xs gs a) (undisturbed_lacks code limit ys rounds t xs1 gs1 b) in
    let same : shared_of s ≡ shared_of t = a.run.shared ∙ ap (λ us. (run_of code us).shared) e ∙ sym b.run.shared in
    let books : books_of s ≡ books_of t = ap (λ (sh : Shared). sh.books) same in (
      e,
      same,
      (λ k x y h g. entries_same code (books_of s) (books_of t) k ((run_of code a.run.turns).actors k) ((run_of code b.run.turns).actors k) x y books (ap (λ us. (run_of code us).actors k) e) (a.run.threads_are k x h) (b.run.threads_are k y g)),
      (λ i x y h g. entries_same code (books_of s) (books_of t) (length code.threads + i) ((run_of code a.run.turns).actors (length code.threads + i)) ((run_of code b.run.turns).actors (length code.threads + i)) x y books (ap (λ us. (run_of code us).actors (length code.threads + i)) e) (a.run.agents_are i x h) (b.run.agents_are i y g)),
    )
