-- What a play of a thread's or of an agent's actor makes of all actors.
use Rattle.std.proofs.Common.{◌≡◌, ◌≤◌, ◌<◌, ◌+◌, ℕ, zero, suc, List, [], ◌∷◌, ◌++◌, length, set, Option, Some, None, refl, sym, ap, subst, ◌∙◌, ◌⊎◌, inl, inr, arith}
use Rattle.txs_world_protocol.specs.declared.event.Event.{Event}
use Rattle.txs_world_protocol.specs.declared.event.Outcome.{Outcome}
use Rattle.txs_value_data.specs.Places.{nth}
use Rattle.txs_value_data.specs.declared.value.CellId.{CellId}
use Rattle.txs_code_meaning.specs.PlainCode.{PlainCode}
use Rattle.txs_machine_actor.specs.PlainActor.{PlainActor}
use Rattle.txs_theorem_runs.specs.Report.{RunTraced}
use Rattle.txs_theorem_runs.proofs.Growing.{Grown}
use Rattle.txs_world_shared.specs.SharedState.{PlainShared}
use Rattle.txs_machine.specs.Agents.{agents_of}
use Rattle.txs_machine.specs.Playing.{IsBetween, AreBetween, ArePlayedAt}
use Rattle.txs_machine.specs.RunOver.{IsLimited, books_of}
use Rattle.txs_machine.specs.Running.{GoesAs, HasWork, IsAttending, AreAttending, IsLive, IsPlayerOf, IsRunBy, ArePlayingBy, attendants, left_for, left_of, left_all}
use Rattle.txs_theorem_runs.specs.Run.{Play}
use Rattle.txs_machine.specs.Scheduled.{run_of, AreTurnsOf}
use Rattle.txs_machine.specs.declared.player.AgentPlayer.{AgentPlayer}
use Rattle.txs_machine.specs.declared.player.Player.{Player}
use Rattle.txs_machine.specs.declared.player.Players.{Players}
use Rattle.txs_machine.proofs.Limits.{rounds_left}
use Rattle.txs_machine.proofs.Playing as playing
use Rattle.txs_machine.proofs.Playing.{between_of, left_in, left_less, played_later, placed_between, unended_at}
use Rattle.txs_machine.proofs.RunOver.{ValuesKnown, over_others}
use Rattle.txs_machine.proofs.Together.{run_goes, attending_at}

abbrev is_some : {A : Type 0} → Option A → Type 0
is_some None = ⊥
is_some (Some x) = Unit {0}

abbrev or_else : {A : Type 0} → A → Option A → A
or_else d None = d
or_else d (Some x) = x

-- an item of a list in which one was replaced
pub set_at : {A : Type 0} (xs : List A) (k : ℕ) (y : A) (j : ℕ) (x : A) → nth (set xs k y) j ≡ Some x → ((j ≡ k) × (x ≡ y)) ⊎ ((k ≡ j → ⊥) × (nth xs j ≡ Some x))
set_at [] k y j x e = absurd (subst is_some (sym e) tt)
set_at (z ∷ xs) zero y zero x e = inl (refl, sym (ap (or_else x) e))
set_at (z ∷ xs) zero y (suc j) x e = inr (λ d. absurd (omega (arith, d)), e)
set_at (z ∷ xs) (suc k) y zero x e = inr (λ d. absurd (omega (arith, d)), e)
set_at (z ∷ xs) (suc k) y (suc j) x e = go (set_at xs k y j x e)
  where
    go : ((j ≡ k) × (x ≡ y)) ⊎ ((k ≡ j → ⊥) × (nth xs j ≡ Some x)) → ((suc j ≡ suc k) × (x ≡ y)) ⊎ ((suc k ≡ suc j → ⊥) × (nth xs j ≡ Some x))
    go (inl h) = inl (ap suc h.0, h.1)
    go (inr h) = inr (λ d. h.0 (omega (arith, d)), h.1)

pub attendants_set : (gs : List AgentPlayer) (i : ℕ) (y : AgentPlayer) → attendants (set gs i y) ≡ set (attendants gs) i y.player
attendants_set [] i y = refl
attendants_set (x ∷ gs) zero y = refl
attendants_set (x ∷ gs) (suc i) y = ap (λ l. x.player ∷ l) (attendants_set gs i y)

pub attendant_there : (gs : List AgentPlayer) (i : ℕ) (x : AgentPlayer) → nth gs i ≡ Some x → nth (attendants gs) i ≡ Some x.player
attendant_there [] i x e = absurd (subst is_some (sym e) tt)
attendant_there (y ∷ gs) zero x e = ap (λ (z : AgentPlayer). Some z.player) (ap (or_else y) e)
attendant_there (y ∷ gs) (suc i) x e = attendant_there gs i x e

-- ---- rounds that are left

left_same : (xs : List Player) → left_of xs ≡ left_in xs
left_same [] = refl
left_same (x ∷ xs) = let e = left_same xs in let f = same x.actor.outcome x.actor in omega (arith, e, f)
  where
    same : (o : Option Outcome) (a : PlainActor) → left_for o a ≡ rounds_left o a
    same None a = refl
    same (Some o) a = refl

fewer : (limit : ℕ) (a b : PlainActor) (o p : Option Outcome) → a.outcome ≡ o → b.outcome ≡ p → IsLimited limit a → IsLimited limit b → (b.outcome ≡ None → (a.outcome ≡ None) × (a.steps ≤ b.steps)) → left_for p b ≤ left_for o a
fewer limit a b o (Some x) e f h g l = omega arith
fewer limit a b None None e f h g l = let x = l f in omega (arith, x.1, h.limited, g.limited)
fewer limit a b (Some y) None e f h g l = absurd (subst is_some (sym (sym (l f).0 ∙ e)) tt)

less : (limit : ℕ) (a b : PlainActor) (p : Option Outcome) → a.outcome ≡ None → b.outcome ≡ p → IsLimited limit a → IsLimited limit b → (b.outcome ≡ None → a.steps < b.steps) → left_for p b < left_for None a
less limit a b (Some x) e f h g l = omega arith
less limit a b None e f h g l = let x = l f in omega (arith, x, h.limited, g.limited, g.within)

left_set : (xs : List Player) (i : ℕ) (a b : Player) → nth xs i ≡ Some a → left_for b.actor.outcome b.actor ≤ left_for a.actor.outcome a.actor → left_of (set xs i b) ≤ left_of xs
left_set [] i a b e h = absurd (subst is_some (sym e) tt)
left_set (x ∷ xs) zero a b e h = let s = ap (λ (z : Player). left_for z.actor.outcome z.actor) (ap (or_else x) e) in omega (arith, h, s)
left_set (x ∷ xs) (suc i) a b e h = let r = left_set xs i a b e h in omega (arith, r)

left_set_less : (xs : List Player) (i : ℕ) (a b : Player) → nth xs i ≡ Some a → left_for b.actor.outcome b.actor < left_for a.actor.outcome a.actor → left_of (set xs i b) < left_of xs
left_set_less [] i a b e h = absurd (subst is_some (sym e) tt)
left_set_less (x ∷ xs) zero a b e h = let s = ap (λ (z : Player). left_for z.actor.outcome z.actor) (ap (or_else x) e) in omega (arith, h, s)
left_set_less (x ∷ xs) (suc i) a b e h = let r = left_set_less xs i a b e h in omega (arith, r)

-- ---- a thread's play

module _ (law : RunTraced) (code : PlainCode) (limit : ℕ) (s t : PlainShared) (xs : List Player) (gs : List AgentPlayer) (all next : Players) (old : all.threads.items ≡ xs) (olds : all.agents.items ≡ gs) (turns : List Play) (h : ArePlayingBy code limit s all turns) (k n : ℕ) (x y : Player)
    (there : nth xs k ≡ Some x) (below : k < length xs) (between : IsBetween code k limit (books_of t) y) (grown : Grown k (books_of s) (books_of t))
    (goes : GoesAs code k n s x.actor x.trace.items t y.actor y.trace.items) (new : next.threads.items ≡ set xs k y) (news : next.agents.items ≡ gs) where
  threads_h : AreBetween code limit (books_of s) 0 xs
  threads_h = subst (AreBetween code limit (books_of s) 0) old h.threads

  many_h : length xs ≡ length code.threads
  many_h = ap length (sym old) ∙ h.many

  threads_later : AreBetween code limit (books_of t) 0 (set xs k y)
  threads_later = let e : k ≡ 0 + k = omega arith in placed_between code k limit (books_of s) (books_of t) 0 k xs y e grown between threads_h

  set_length : {A : Type 0} (l : List A) (i : ℕ) (z : A) → length (set l i z) ≡ length l
  set_length [] i z = refl
  set_length (w ∷ l) zero z = refl
  set_length (w ∷ l) (suc i) z = ap suc (set_length l i z)

  run_h : IsRunBy code s xs gs turns
  run_h = subst (λ l. IsRunBy code s l gs turns) old (subst (λ l. IsRunBy code s all.threads.items l turns) olds h.run)

  run_later : (us : List Play) × AreTurnsOf code x.actor.limit k n (run_of code turns) us × IsRunBy code t (set xs k y) gs (turns ++ us)
  run_later =
      run_goes law code k n s t xs (set xs k y) gs gs x.actor y.actor x.trace.items y.trace.items turns run_h (run_h.threads k x there) grown goes
      (λ j z e. of_thread j z (set_at xs k y j z e)) (λ i z e. inr (λ d. absurd (omega (arith, d, below, many_h)), e))
    where
      of_thread : (j : ℕ) (z : Player) → ((j ≡ k) × (z ≡ y)) ⊎ ((k ≡ j → ⊥) × (nth xs j ≡ Some z)) → ((j ≡ k) × (z.actor ≡ y.actor) × (z.trace.items ≡ y.trace.items)) ⊎ ((k ≡ j → ⊥) × (nth xs j ≡ Some z))
      of_thread j z (inl d) = inl (d.0, ap (λ (w : Player). w.actor) d.1, ap (λ (w : Player). w.trace.items) d.1)
      of_thread j z (inr d) = inr d

  -- the actor's limit is the run's
  thread_limit : x.actor.limit ≡ limit
  thread_limit = (between_of code limit (books_of s) k xs x there threads_h).limited.limited

  pub thread_playing : (us : List Play) × AreTurnsOf code limit k n (run_of code turns) us × ArePlayingBy code limit t next (turns ++ us)
  thread_playing = (
    run_later.0,
    subst (λ m. AreTurnsOf code m k n (run_of code turns) run_later.0) thread_limit run_later.1,
    record {
      many = ap length new ∙ set_length xs k y ∙ many_h;
      threads = subst (AreBetween code limit (books_of t) 0) (sym new) threads_later;
      agents = subst (AreAttending code limit (length code.threads) (agents_of code)) (sym news) (subst (AreAttending code limit (length code.threads) (agents_of code)) olds h.agents);
      run = subst (λ l. IsRunBy code t l next.agents.items (turns ++ run_later.0)) (sym new) (subst (λ l. IsRunBy code t (set xs k y) l (turns ++ run_later.0)) (sym news) run_later.2);
    },
  )

  module _ (played : ArePlayedAt k xs (set xs k y)) where
    pub thread_left : left_all next ≤ left_all all
    thread_left =
        let l = playing.left_all code limit (books_of s) (books_of t) 0 xs (set xs k y) threads_h threads_later (played_later k xs (set xs k y) played) in
        let a = ap left_of new ∙ left_same (set xs k y) in
        let b = ap left_of old ∙ left_same xs in
        let c = ap (λ u. left_of (attendants u)) (news ∙ sym olds) in
        omega (arith, l, a, b, c)

    pub thread_live : IsLive code s all k → left_all next < left_all all
    thread_live (inl u) =
        let unended = unended_at xs k u.0 (subst (λ l. nth l k ≡ Some u.0) old u.1) u.2 in
        let l = left_less code limit (books_of s) (books_of t) 0 k xs (set xs k y) threads_h threads_later unended played in
        let a = ap left_of new ∙ left_same (set xs k y) in
        let b = ap left_of old ∙ left_same xs in
        let c = ap (λ w. left_of (attendants w)) (news ∙ sym olds) in
        omega (arith, l, a, b, c)
    thread_live (inr u) = absurd (omega (arith, u.1, ap length old, below))

-- ---- an agent's play

-- what an agent's play adds leaves the threads
others_between : (code : PlainCode) (k limit : ℕ) (books later : ℕ → List Event) (j : ℕ) (xs : List Player) → j + length xs ≤ k → Grown k books later → ValuesKnown code later → AreBetween code limit books j xs → AreBetween code limit later j xs
others_between code k limit books later j [] n g v h = tt
others_between code k limit books later j (x ∷ xs) n g v h = (
  record { lives = h.0.lives; free = h.0.free; limited = h.0.limited; over = over_others code k j books later x.trace.items x.actor (λ e. absurd (omega (arith, e, n))) g v h.0.over },
  others_between code k limit books later (suc j) xs (omega (arith, n)) g v h.1,
)

-- and the other agents
others_attend : (code : PlainCode) (limit : ℕ) (g : CellId) (k j i : ℕ) (ids : List CellId) (gs : List AgentPlayer) (y : AgentPlayer) → k ≡ j + i → IsAttending code g k limit y → nth ids i ≡ Some g → AreAttending code limit j ids gs → AreAttending code limit j ids (set gs i y)
others_attend code limit g k j i [] [] y e a n h = tt
others_attend code limit g k j i [] (x ∷ gs) y e a n h = absurd h
others_attend code limit g k j i (d ∷ ids) [] y e a n h = absurd h
others_attend code limit g k j zero (d ∷ ids) (x ∷ gs) y e a n h = (subst (λ c. IsAttending code c j limit y) (sym (ap (or_else d) n)) (subst (λ m. IsAttending code g m limit y) (omega (arith, e)) a), h.1)
others_attend code limit g k j (suc i) (d ∷ ids) (x ∷ gs) y e a n h = (h.0, others_attend code limit g k (suc j) i ids gs y (omega (arith, e)) a n h.1)

module _ (law : RunTraced) (code : PlainCode) (limit : ℕ) (s t : PlainShared) (xs : List Player) (gs : List AgentPlayer) (all next : Players) (old : all.threads.items ≡ xs) (olds : all.agents.items ≡ gs) (turns : List Play) (h : ArePlayingBy code limit s all turns) (k i n : ℕ) (x y : AgentPlayer)
    (place : k ≡ length xs + i) (there : nth gs i ≡ Some x) (attends : IsAttending code x.agent k limit y) (grown : Grown k (books_of s) (books_of t))
    (goes : GoesAs code k n s x.player.actor x.player.trace.items t y.player.actor y.player.trace.items) (new : next.threads.items ≡ xs) (news : next.agents.items ≡ set gs i y) where
  many_a : length xs ≡ length code.threads
  many_a = ap length (sym old) ∙ h.many

  run_a : IsRunBy code s xs gs turns
  run_a = subst (λ l. IsRunBy code s l gs turns) old (subst (λ l. IsRunBy code s all.threads.items l turns) olds h.run)

  here : k ≡ length code.threads + i
  here = omega (arith, place, many_a)

  pub run_after : (us : List Play) × AreTurnsOf code x.player.actor.limit k n (run_of code turns) us × IsRunBy code t xs (set gs i y) (turns ++ us)
  run_after =
      run_goes law code k n s t xs xs gs (set gs i y) x.player.actor y.player.actor x.player.trace.items y.player.trace.items turns run_a
      (subst (λ m. IsPlayerOf code m (books_of s) x.player.actor x.player.trace.items ((run_of code turns).actors m)) (sym here) (run_a.agents i x there)) grown goes
      (λ j z e. inr (λ d. absurd (within xs j z e (omega (arith, d, place))), e)) (λ j z e. of_agent j z (set_at gs i y j z e))
    where
      within : (l : List Player) (j : ℕ) (z : Player) → nth l j ≡ Some z → length l ≤ j → ⊥
      within [] j z e n = subst is_some (sym e) tt
      within (w ∷ l) zero z e n = absurd (omega (arith, n))
      within (w ∷ l) (suc j) z e n = within l j z e (omega (arith, n))

      of_agent : (j : ℕ) (z : AgentPlayer) → ((j ≡ i) × (z ≡ y)) ⊎ ((i ≡ j → ⊥) × (nth gs j ≡ Some z)) → ((length code.threads + j ≡ k) × (z.player.actor ≡ y.player.actor) × (z.player.trace.items ≡ y.player.trace.items)) ⊎ ((k ≡ length code.threads + j → ⊥) × (nth gs j ≡ Some z))
      of_agent j z (inl d) = inl (omega (arith, d.0, here), ap (λ (w : AgentPlayer). w.player.actor) d.1, ap (λ (w : AgentPlayer). w.player.trace.items) d.1)
      of_agent j z (inr d) = inr (λ q. d.0 (omega (arith, q, here)), d.1)

  pub agent_playing : ValuesKnown code (books_of t) → (us : List Play) × AreTurnsOf code limit k n (run_of code turns) us × ArePlayingBy code limit t next (turns ++ us)
  agent_playing known =
      let a = attending_at code limit (length code.threads) i (agents_of code) gs x (subst (AreAttending code limit (length code.threads) (agents_of code)) olds h.agents) there in (
        run_after.0,
        subst (λ m. AreTurnsOf code m k n (run_of code turns) run_after.0) a.2.limited.limited run_after.1,
        record {
          many = ap length new ∙ many_a;
          threads = subst (AreBetween code limit (books_of t) 0) (sym new)
              (others_between code k limit (books_of s) (books_of t) 0 xs (omega (arith, place)) grown known (subst (AreBetween code limit (books_of s) 0) old h.threads));
          agents = subst (AreAttending code limit (length code.threads) (agents_of code)) (sym news)
              (others_attend code limit x.agent k (length code.threads) i (agents_of code) gs y here attends (a.1 ∙ ap (λ c. Some c) (sym a.2.agent))
              (subst (AreAttending code limit (length code.threads) (agents_of code)) olds h.agents));
          run = subst (λ l. IsRunBy code t l next.agents.items (turns ++ run_after.0)) (sym new) (subst (λ l. IsRunBy code t xs l (turns ++ run_after.0)) (sym news) run_after.2);
        },
      )

  module _ (limited : IsLimited limit x.player.actor) (later : y.player.actor.outcome ≡ None → (x.player.actor.outcome ≡ None) × (x.player.actor.steps ≤ y.player.actor.steps)) where
    pub agent_left : left_all next ≤ left_all all
    agent_left =
        let f = fewer limit x.player.actor y.player.actor x.player.actor.outcome y.player.actor.outcome refl refl limited attends.limited later in
        let l = left_set (attendants gs) i x.player y.player (attendant_there gs i x there) f in
        let a = ap left_of (new ∙ sym old) in
        let b = ap (λ u. left_of (attendants u)) news ∙ ap left_of (attendants_set gs i y) in
        let c = ap (λ u. left_of (attendants u)) olds in
        omega (arith, l, a, b, c)

    -- an actor that has made a step, or has ended
    pub agent_less : x.player.actor.outcome ≡ None → (y.player.actor.outcome ≡ None → x.player.actor.steps < y.player.actor.steps) → left_all next < left_all all
    agent_less none more =
        let f : left_for y.player.actor.outcome y.player.actor < left_for x.player.actor.outcome x.player.actor = subst (λ o. left_for y.player.actor.outcome y.player.actor < left_for o x.player.actor) (sym none)
        (less limit x.player.actor y.player.actor y.player.actor.outcome none refl limited attends.limited more) in
        let l = left_set_less (attendants gs) i x.player y.player (attendant_there gs i x there) f in
        let a = ap left_of (new ∙ sym old) in
        let b = ap (λ w. left_of (attendants w)) news ∙ ap left_of (attendants_set gs i y) in
        let c = ap (λ w. left_of (attendants w)) olds in
        omega (arith, l, a, b, c)

    pub agent_live : (y.player.actor.outcome ≡ None → HasWork code s x.agent → x.player.actor.steps < y.player.actor.steps) → IsLive code s all k → left_all next < left_all all
    agent_live progress (inl u) = absurd (past xs k u.0 (subst (λ l. nth l k ≡ Some u.0) old u.1) (omega (arith, place)))
      where
        past : (l : List Player) (j : ℕ) (z : Player) → nth l j ≡ Some z → length l ≤ j → ⊥
        past [] j z e n = subst is_some (sym e) tt
        past (w ∷ l) zero z e n = absurd (omega (arith, n))
        past (w ∷ l) (suc j) z e n = past l j z e (omega (arith, n))
    agent_live progress (inr u) =
        let same : u.0 ≡ i = omega (arith, u.1, place, ap length old) in
        let is : u.2 ≡ x = ap (or_else x) (sym (subst (λ l. nth l u.0 ≡ Some u.2) olds u.3) ∙ ap (nth gs) same ∙ there) in
        let none : x.player.actor.outcome ≡ None = subst (λ (z : AgentPlayer). z.player.actor.outcome ≡ None) is u.4 in
        let work : HasWork code s x.agent = subst (λ (z : AgentPlayer). HasWork code s z.agent) is u.5 in
        agent_less none (λ o. progress o work)
