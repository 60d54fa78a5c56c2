-- A turn by asks is the actor's plays up to and with its next ask.
use Rattle.std.proofs.Common.{◌≡◌, ◌<◌, ◌≤◌, ◌+◌, ◌-◌, ℕ, zero, suc, Bool, true, false, ◌==◌, nat_lt, List, [], ◌∷◌, ◌++◌, Option, Some, None, if◌then◌else◌, refl, sym, ap, subst, ◌∙◌, arith}
use Rattle.std.proofs.lemmas.Bool.{false≢true}
use Rattle.std.proofs.lemmas.Bool.Decides.{nat_tests}
use Rattle.txs_world_protocol.specs.declared.ask.Ask.{Ask}
use Rattle.txs_code_meaning.specs.Machine.{Configuration, Turned, Ended, Failed, Asking, Unfinished, Stuck, turn}
use Rattle.txs_theorem_runs.specs.Run.{Stop, TurnsSpent, Play, TakesTurn, IsStopped, actor_of, play, State}
use Rattle.txs_explore.specs.System.{has, MayGo, turns}
use Rattle.txs_explore.specs.Actors.{Quiet, Asks, Rests, All, does, instruction}
use Rattle.txs_explore.specs.Runners.{Runner, runner_of, comes_to, next_wait, next_turned, next_from, may_stop, those, Explored, many, runners, asking, seen, IsWithin, AreWithin, played, goes_alone, plays_from_here, plays_at, next_plays, plays_by}
use Rattle.txs_explore.specs.SearchLaws.{TurnsArePlays}
use Rattle.txs_explore.proofs.Calming.{IsCalm, put_itself, calm_turn, quiet_turn, quiet_end}
use Rattle.txs_explore.proofs.Running.{falls, play_is_instruction}

is_below : (m n : ℕ) → nat_lt m n ≡ true → m < n
is_below m n h = grind (arith, nat_tests, h)

below : (m n : ℕ) → m < n → nat_lt m n ≡ true
below m n h = grind (arith, nat_tests, h)

is_not_below : (m n : ℕ) → nat_lt m n ≡ false → n ≤ m
is_not_below m n h = grind (arith, nat_tests, h)

module _ (x : Explored) where
  abbrev left : Runner → ℕ
  left l = (x.limit - l.turns) + may_stop l.stopped

  -- these plays of an actor are its turn
  pub record AreTurn (a : ℕ) (ys : List Play) (st : State) : Type 0 where
    pub within : AreWithin x ys st
    pub same : seen x (played x ys st) ≡ (asking x).turn a (seen x st)

  module _ (a : ℕ) (one : a < many x) (st : State) where
    abbrev mine : Runner
    mine = runner_of (st.actors a)

    next_is : (b : Bool) (at : Turned Configuration) (o : Option Stop) → nat_lt mine.turns x.limit ≡ b → mine.at ≡ at → mine.stopped ≡ o → (runners x).next a mine ≡ next_from (x.codes a) b at o mine
    next_is b at o e f g =
        ap (λ z. if z then next_from (x.codes a) (nat_lt mine.turns x.limit) mine.at mine.stopped mine else Rests) (below a (many x) one)
        ∙ ap (λ z. next_from (x.codes a) z mine.at mine.stopped mine) e
        ∙ ap (λ z. next_from (x.codes a) b z mine.stopped mine) f
        ∙ ap (λ z. next_from (x.codes a) b at z mine) g

    -- where it rests
    none : (runners x).next a mine ≡ Rests → AreTurn a [] st
    none e = record {
      within = tt;
      same = sym (calm_turn (runners x) (falls x) a (seen x st) (subst IsCalm (sym e) tt) ∙ ap (λ n. does (runners x) a n (seen x st)) e);
    }

    -- one play
    one_play : (y : Play) → actor_of y ≡ a → IsWithin x.limit y st → (asking x).turn a (seen x st) ≡ instruction (runners x) a (seen x st) → AreTurn a (y ∷ []) st
    one_play y o w e = record {
      within = (subst (λ z. z < many x) (sym o) one, w, tt);
      same = play_is_instruction x y st (subst (λ z. z < many x) (sym o) one) w ∙ ap (λ z. instruction (runners x) z (seen x st)) o ∙ sym e;
    }

    by_ask : (w : IsWithin x.limit (TakesTurn a) st) → (runners x).next a mine ≡ Asks → AreTurn a (TakesTurn a ∷ []) st
    by_ask w e = one_play (TakesTurn a) refl w (calm_turn (runners x) (falls x) a (seen x st) (subst IsCalm (sym e) tt))

    by_end : (m : Runner) (y : Play) → actor_of y ≡ a → IsWithin x.limit y st → (runners x).next a mine ≡ Quiet m → (runners x).next a m ≡ Rests → AreTurn a (y ∷ []) st
    by_end m y o w e r = one_play y o w (quiet_end (runners x) (falls x) a (seen x st) m e r)

    -- a play alone, and those behind it
    abbrev after : State
    after = play x.cells x.threads x.codes (TakesTurn a) st

    after_is : (w : IsWithin x.limit (TakesTurn a) st) → seen x after ≡ instruction (runners x) a (seen x st)
    after_is w = play_is_instruction x (TakesTurn a) st one w

    there : (m : Runner) → IsWithin x.limit (TakesTurn a) st → (runners x).next a mine ≡ Quiet m → runner_of (after.actors a) ≡ m
    there m w e = ap (λ (s : All (runners x)). s.actors a) (after_is w) ∙ ap (λ n. (does (runners x) a n (seen x st)).actors a) e ∙ put_itself a m (seen x st).actors

    by_more : (m : Runner) (ys : List Play) → IsWithin x.limit (TakesTurn a) st → (runners x).next a mine ≡ Quiet m → AreTurn a ys after → AreTurn a (TakesTurn a ∷ ys) st
    by_more m ys w e h = record {
      within = (one, w, h.within);
      same = h.same ∙ ap ((asking x).turn a) (after_is w) ∙ quiet_turn (runners x) (falls x) a (seen x st) m e;
    }

    -- a next place where the actor rests
    resting : (m : Runner) → ((b : Bool) → next_from (x.codes a) b m.at m.stopped m ≡ Rests) → (runners x).next a m ≡ Rests
    resting m h = by (nat_lt a (many x))
      where
        by : (b : Bool) → (if b then next_from (x.codes a) (nat_lt m.turns x.limit) m.at m.stopped m else Rests) ≡ Rests
        by true = h (nat_lt m.turns x.limit)
        by false = refl

    module _ (n : ℕ) (ys : List Play) (more : left (runner_of (after.actors a)) < n → AreTurn a ys after) (room : left mine < suc n) where
      by_turned : (c : Configuration) → IsWithin x.limit (TakesTurn a) st → (t : Turned Configuration) → (runners x).next a mine ≡ next_turned t mine
          → AreTurn a (TakesTurn a ∷ (if goes_alone t then ys else [])) st
      by_turned c w (Ended s) e = by_end (comes_to (Ended s) mine) (TakesTurn a) refl w e (resting (comes_to (Ended s) mine) (λ b. refl))
      by_turned c w (Failed f s) e = by_end (comes_to (Failed f s) mine) (TakesTurn a) refl w e (resting (comes_to (Failed f s) mine) (λ b. refl))
      by_turned c w (Asking s) e = by_wait s.wants e
        where
          by_wait : (o : Option Ask) → (runners x).next a mine ≡ next_wait s o mine → AreTurn a (TakesTurn a ∷ []) st
          by_wait None e = by_end (comes_to (Asking s) mine) (TakesTurn a) refl w e (resting (comes_to (Asking s) mine) (λ b. refl))
          by_wait (Some q) e = by_ask w e
      by_turned c w (Unfinished d) e =
          by_more (comes_to (Unfinished d) mine) ys w e
          (more (subst (λ l. left l < n) (sym (there (comes_to (Unfinished d) mine) w e)) (let f = falls x a mine (comes_to (Unfinished d) mine) e in omega (arith, f, room))))
      by_turned c w Stuck e = by_end (comes_to Stuck mine) (TakesTurn a) refl w e (resting (comes_to Stuck mine) (λ b. refl))

      by_limit : (b : Bool) (c : Configuration) → nat_lt mine.turns x.limit ≡ b → mine.at ≡ Unfinished c → mine.stopped ≡ None → AreTurn a (plays_from_here (x.codes a) a b c ys) st
      by_limit true c e f g = by_turned c (λ u. is_below mine.turns x.limit e) (turn (x.codes a) c) (next_is true (Unfinished c) None e f g)
      by_limit false c e f g =
          by_end (record mine { stopped = Some TurnsSpent }) (IsStopped a TurnsSpent) refl (λ u. (is_not_below mine.turns x.limit e, refl)) (next_is false (Unfinished c) None e f g)
          (resting (record mine { stopped = Some TurnsSpent }) (λ b. ap (λ z. next_from (x.codes a) b z (Some TurnsSpent) (record mine { stopped = Some TurnsSpent })) f))

      by_place : (at : Turned Configuration) (o : Option Stop) → mine.at ≡ at → mine.stopped ≡ o → AreTurn a (plays_at (x.codes a) a (nat_lt mine.turns x.limit) at o ys) st
      by_place (Ended s) o f g = none (next_is (nat_lt mine.turns x.limit) (Ended s) o refl f g)
      by_place (Failed e s) o f g = none (next_is (nat_lt mine.turns x.limit) (Failed e s) o refl f g)
      by_place (Asking s) o f g = none (next_is (nat_lt mine.turns x.limit) (Asking s) o refl f g)
      by_place (Unfinished c) None f g = by_limit (nat_lt mine.turns x.limit) c refl f g
      by_place (Unfinished c) (Some why) f g = none (next_is (nat_lt mine.turns x.limit) (Unfinished c) (Some why) refl f g)
      by_place Stuck o f g = none (next_is (nat_lt mine.turns x.limit) Stuck o refl f g)

  pub one_turn : (a : ℕ) → a < many x → (n : ℕ) (st : State) → left (runner_of (st.actors a)) < n → AreTurn a (next_plays x a n st) st
  unfolding next_plays
  one_turn a one zero st room = absurd (omega (arith, room))
  one_turn a one (suc n) st room =
      by_place a one st n (next_plays x a n (play x.cells x.threads x.codes (TakesTurn a) st)) (one_turn a one n (play x.cells x.threads x.codes (TakesTurn a) st)) room
      (st.actors a).at (st.actors a).stopped refl refl

  -- ---- turns, one after another

  pub enough : (l : Runner) (m : ℕ) → x.limit + 1 < m → left l < m
  enough l m h = let s = stops l.stopped in omega (arith, h, s)
    where
      stops : (o : Option Stop) → may_stop o ≤ 1
      stops None = omega arith
      stops (Some why) = omega arith

  played_after : (ys zs : List Play) (st : State) → played x (ys ++ zs) st ≡ played x zs (played x ys st)
  played_after [] zs st = refl
  played_after (y ∷ ys) zs st = played_after ys zs (play x.cells x.threads x.codes y st)

  within_after : (ys zs : List Play) (st : State) → AreWithin x ys st → AreWithin x zs (played x ys st) → AreWithin x (ys ++ zs) st
  within_after [] zs st u v = v
  within_after (y ∷ ys) zs st u v = (u.0, u.1, within_after ys zs (play x.cells x.threads x.codes y st) u.2 v)

  -- one of those that may go on is one that there is
  pub those_below : (f : ℕ → Bool) (k n m : ℕ) → has m (those f k n) ≡ true → m < k + n
  those_below f k zero m h = absurd (false≢true h)
  those_below f k (suc n) m h = by (λ g. those_below f (suc k) n m g) (f k) h
    where
      first : (has m (those f (suc k) n) ≡ true → m < suc k + n) → (b : Bool) → (m == k) ≡ b → (if b then true else has m (those f (suc k) n)) ≡ true → m < k + suc n
      first again true e h = grind (arith, nat_tests, e)
      first again false e h = omega (arith, again h)

      by : (has m (those f (suc k) n) ≡ true → m < suc k + n) → (b : Bool) → has m (if b then k ∷ those f (suc k) n else those f (suc k) n) ≡ true → m < k + suc n
      by again true h = first again (m == k) refl h
      by again false h = omega (arith, again h)

  pub enabled_below : (a : ℕ) (st : State) → has a ((asking x).enabled (seen x st)) ≡ true → a < many x
  enabled_below a st h = let l = those_below _ 0 (many x) a h in omega (arith, l)

  pub all_turns : (m : ℕ) → x.limit + 1 < m → (ks : List ℕ) (st : State) → MayGo (asking x) ks (seen x st)
      → AreWithin x (plays_by x m ks st) st × (seen x (played x (plays_by x m ks st) st) ≡ turns (asking x) ks (seen x st))
  unfolding plays_by
  all_turns m few [] st may = (tt, refl)
  all_turns m few (a ∷ ks) st may =
      let t = one_turn a (enabled_below a st may.0) m st (enough (runner_of (st.actors a)) m few) in
      let r = all_turns m few ks (played x (next_plays x a m st) st) (subst (MayGo (asking x) ks) (sym t.same) may.1) in (
        within_after (next_plays x a m st) (plays_by x m ks (played x (next_plays x a m st) st)) st t.within r.0,
        ap (seen x) (played_after (next_plays x a m st) (plays_by x m ks (played x (next_plays x a m st) st)) st) ∙ r.1 ∙ ap (turns (asking x) ks) t.same,
      )

pub turns_are_plays : TurnsArePlays
turns_are_plays x m ks st few may = all_turns x m few ks st may
