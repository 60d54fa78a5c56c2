-- A play of a run is an instruction of the actor that a search goes through.
use Rattle.std.proofs.Common.{◌≡◌, ◌<◌, ◌≤◌, ◌+◌, ◌-◌, ℕ, suc, Bool, true, false, ◌==◌, nat_lt, List, [], ◌∷◌, length, map, Option, Some, None, if◌then◌else◌, refl, sym, ap, subst, ◌∙◌, arith}
use Rattle.std.proofs.lemmas.Bool.Decides.{nat_tests}
use Rattle.txs_world_protocol.specs.declared.ask.Ask.{Ask}
use Rattle.txs_world_protocol.specs.declared.ask.Reply.{Reply}
use Rattle.txs_world_protocol.specs.declared.ask.Reply.TheVariants as reply
use Rattle.txs_value_data.proofs.SameLemmas.{numbers}
use Rattle.txs_value_cell.specs.declared.cell.CellDefinition.{CellDefinition}
use Rattle.txs_code_meaning.specs.ActorState.{ActorState}
use Rattle.txs_code_meaning.specs.Machine.{ThreadCode, Configuration, Turned, Ended, Failed, Asking, Unfinished, Stuck, turn}
use Rattle.txs_theorem_runs.specs.Shared.{Shared, book_for, serve_on, may_ask, shared_after}
use Rattle.txs_theorem_runs.specs.Run.{Stop, TurnsSpent, Actor, Moved, replied, asked, asks_for, turned, turns_from, stops_from, stop, Play, TakesTurn, IsStopped, actor_of, moves, play, placed, State}
use Rattle.txs_explore.specs.Actors.{Next, Quiet, Asks, Rests, Answered, put, does, instruction, instructions}
use Rattle.txs_explore.specs.Runners.{Runner, runner_of, as_actor, next_wait, next_turned, next_within, next_from, next_of, may_stop, answered_of, Explored, many, runners, seen, goes_on, IsWithin, AreWithin, played, AreTurns}
use Rattle.txs_explore.proofs.Calming.{Falls, same_all}

below : (m n : ℕ) → m < n → nat_lt m n ≡ true
below m n h = grind (arith, nat_tests, h)

is_below : (m n : ℕ) → nat_lt m n ≡ true → m < n
is_below m n h = grind (arith, nat_tests, h)

not_below : (m n : ℕ) → n ≤ m → nat_lt m n ≡ false
not_below m n h = grind (arith, nat_tests, h)

is_not_below : (m n : ℕ) → nat_lt m n ≡ false → n ≤ m
is_not_below m n h = grind (arith, nat_tests, h)

-- ---- an instruction alone leaves fewer

module _ (limit : ℕ) where
  abbrev left : Runner → ℕ
  left l = (limit - l.turns) + may_stop l.stopped

  abbrev IsFewer : Runner → Next Runner → Type 0
  IsFewer l (Quiet m) = left m < left l
  IsFewer l Asks = Unit {0}
  IsFewer l Rests = Unit {0}

  less : (m n : ℕ) → m < limit → (limit - suc m) + n < (limit - m) + n
  less m n h = omega (arith, h)

  fewer_wait : (s : ActorState) (o : Option Ask) (l : Runner) → l.turns < limit → IsFewer l (next_wait s o l)
  fewer_wait s None l h = less l.turns (may_stop l.stopped) h
  fewer_wait s (Some q) l h = tt

  fewer_turned : (o : Turned Configuration) (l : Runner) → l.turns < limit → IsFewer l (next_turned o l)
  fewer_turned (Ended s) l h = less l.turns (may_stop l.stopped) h
  fewer_turned (Failed f s) l h = less l.turns (may_stop l.stopped) h
  fewer_turned (Asking s) l h = fewer_wait s s.wants l h
  fewer_turned (Unfinished d) l h = less l.turns (may_stop l.stopped) h
  fewer_turned Stuck l h = less l.turns (may_stop l.stopped) h

  fewer_within : (code : ThreadCode) (b : Bool) (c : Configuration) (l : Runner) → nat_lt l.turns limit ≡ b → l.stopped ≡ None → IsFewer l (next_within code b c l)
  fewer_within code true c l h e = fewer_turned (turn code c) l (is_below l.turns limit h)
  fewer_within code false c l h e =
      let one : may_stop l.stopped ≡ 1 = ap may_stop e in
      omega (arith, one)

  fewer_from : (code : ThreadCode) (at : Turned Configuration) (o : Option Stop) (l : Runner) → l.stopped ≡ o → IsFewer l (next_from code (nat_lt l.turns limit) at o l)
  fewer_from code (Ended s) o l e = tt
  fewer_from code (Failed f s) o l e = tt
  fewer_from code (Asking s) o l e = tt
  fewer_from code (Unfinished c) None l e = fewer_within code (nat_lt l.turns limit) c l refl e
  fewer_from code (Unfinished c) (Some why) l e = tt
  fewer_from code Stuck o l e = tt

  fewer : (n : ℕ) (codes : ℕ → ThreadCode) (k : ℕ) (l : Runner) → IsFewer l (next_of n limit codes k l)
  fewer n codes k l = by (nat_lt k n)
    where
      by : (b : Bool) → IsFewer l (if b then next_from (codes k) (nat_lt l.turns limit) l.at l.stopped l else Rests)
      by true = fewer_from (codes k) l.at l.stopped l refl
      by false = tt

pub falls : (x : Explored) → Falls (runners x)
falls x k l m e = subst (IsFewer x.limit l) e (fewer x.limit (many x) x.codes k l)

-- ---- what an actor was answered before is no matter

module _ (cells : List CellDefinition) (threads : ℕ) (code : ThreadCode) (a : ℕ) (x : Actor) (sh : Shared) where
  -- the same actor, that was answered nothing
  abbrev bare : Actor
  bare = as_actor (runner_of x)

  replied_bare : (c : Configuration) (q : Ask) (r : Reply) (k : ℕ) → runner_of (replied code c q r k x) ≡ runner_of (replied code c q r k bare)
  replied_bare c q (reply.At p) k = refl
  replied_bare c q (reply.Is v) k = refl
  replied_bare c q (reply.Views p vs) k = refl
  replied_bare c q reply.Done k = refl
  replied_bare c q (reply.Retry d) k = refl
  replied_bare c q (reply.Changed d) k = refl
  replied_bare c q (reply.AgentIsFailed g) k = refl
  replied_bare c q (reply.Action n y v) k = refl
  replied_bare c q (reply.Opened p v) k = refl
  replied_bare c q reply.Idle k = refl
  replied_bare c q reply.Full k = refl
  replied_bare c q reply.Memory k = refl

  asked_bare : (b : Bool) (c : Configuration) (q : Ask) → answered_of (asked b cells code a c q x sh) ≡ answered_of (asked b cells code a c q bare sh)
  asked_bare true c q =
      ap (λ l. record { actor = l; shared = shared_after cells q (serve_on cells a q (sh.books (book_for cells q))) sh })
      (replied_bare c q (serve_on cells a q (sh.books (book_for cells q))).reply (length (sh.books (book_for cells q))))
  asked_bare false c q = refl

  -- what an instruction does, by its kind
  abbrev done_by : Next Runner → Answered Runner Shared → Answered Runner Shared
  done_by (Quiet m) v = record { actor = m; shared = sh }
  done_by Asks v = v
  done_by Rests v = record { actor = runner_of x; shared = sh }

  by_wait : (c : Configuration) (s : ActorState) (o : Option Ask)
      → answered_of (asks_for cells threads code a c s o x sh) ≡ done_by (next_wait s o (runner_of x)) (answered_of (asks_for cells threads code a c s o bare sh))
  by_wait c s None = refl
  by_wait c s (Some q) = asked_bare (may_ask cells threads sh.taken a q (sh.books (book_for cells q))) c q

  by_turned : (c : Configuration) (o : Turned Configuration)
      → answered_of (turned cells threads code a c o x sh) ≡ done_by (next_turned o (runner_of x)) (answered_of (turned cells threads code a c o bare sh))
  by_turned c (Ended s) = refl
  by_turned c (Failed f s) = refl
  by_turned c (Asking s) = by_wait c s s.wants
  by_turned c (Unfinished d) = refl
  by_turned c Stuck = refl

  by_from : (b : Bool) (at : Turned Configuration) (o : Option Stop) → (goes_on at o ≡ true → b ≡ true)
      → answered_of (turns_from cells threads code a at o x sh) ≡ done_by (next_from code b at o (runner_of x)) (answered_of (turns_from cells threads code a at o bare sh))
  by_from b (Ended s) o h = refl
  by_from b (Failed f s) o h = refl
  by_from b (Asking s) o h = refl
  by_from b (Unfinished c) None h =
      by_turned c (turn code c) ∙ ap (λ m. done_by (next_within code m c (runner_of x)) (answered_of (turned cells threads code a c (turn code c) bare sh))) (sym (h refl))
  by_from b (Unfinished c) (Some why) h = refl
  by_from b Stuck o h = refl

  by_stop : (b : Bool) (why : Stop) (at : Turned Configuration) (o : Option Stop) → (goes_on at o ≡ true → (b ≡ false) × (why ≡ TurnsSpent))
      → record { actor = runner_of (stops_from why at o x); shared = sh } ≡ done_by (next_from code b at o (runner_of x)) (answered_of (turns_from cells threads code a at o bare sh))
  by_stop b why (Ended s) o h = refl
  by_stop b why (Failed f s) o h = refl
  by_stop b why (Asking s) o h = refl
  by_stop b why (Unfinished c) None h =
      ap (λ w. record { actor = runner_of (stop w x); shared = sh }) (h refl).1
      ∙ ap (λ m. done_by (next_within code m c (runner_of x)) (answered_of (turned cells threads code a c (turn code c) bare sh))) (sym (h refl).0)
  by_stop b why (Unfinished c) (Some w) h = refl
  by_stop b why Stuck o h = refl

-- ---- a play is an instruction

module _ (x : Explored) where
  abbrev answer : ℕ → Runner → Shared → Answered Runner Shared
  answer a l sh = answered_of (turns_from x.cells x.threads (x.codes a) a l.at l.stopped (as_actor l) sh)

  -- what an instruction does to the state
  done_so : (a : ℕ) (n : Next Runner) (st : State)
      → does (runners x) a n (seen x st)
      ≡ record {
        shared = (done_by x.cells x.threads (x.codes a) a (st.actors a) st.shared n (answer a (runner_of (st.actors a)) st.shared)).shared;
        actors = put a (done_by x.cells x.threads (x.codes a) a (st.actors a) st.shared n (answer a (runner_of (st.actors a)) st.shared)).actor (λ b. runner_of (st.actors b));
      }
  done_so a (Quiet m) st = refl
  done_so a Asks st = refl
  done_so a Rests st = same_all (runners x) (seen x st) (record { shared = st.shared; actors = put a (runner_of (st.actors a)) (λ b. runner_of (st.actors b)) }) refl (λ k. at k (a == k) refl)
    where
      at : (k : ℕ) (b : Bool) → (a == k) ≡ b → runner_of (st.actors k) ≡ (if b then runner_of (st.actors a) else runner_of (st.actors k))
      at k true q = ap (λ z. runner_of (st.actors z)) (sym (numbers a k q))
      at k false q = refl

  -- a state in which an actor has moved, as it is seen
  seen_placed : (a : ℕ) (m : Moved) (st : State) → seen x (placed a m st) ≡ record { shared = m.shared; actors = put a (runner_of m.actor) (λ b. runner_of (st.actors b)) }
  seen_placed a m st = same_all (runners x) (seen x (placed a m st)) (record { shared = m.shared; actors = put a (runner_of m.actor) (λ b. runner_of (st.actors b)) }) refl (λ k. at k (a == k))
    where
      at : (k : ℕ) (b : Bool) → runner_of (if b then m.actor else st.actors k) ≡ (if b then runner_of m.actor else runner_of (st.actors k))
      at k true = refl
      at k false = refl

  -- what a play makes of its actor and of what is shared
  move_is : (y : Play) (st : State) → IsWithin x.limit y st
      → answered_of (moves x.cells x.threads x.codes y st)
      ≡ done_by x.cells x.threads (x.codes (actor_of y)) (actor_of y) (st.actors (actor_of y)) st.shared
      (next_from (x.codes (actor_of y)) (nat_lt (st.actors (actor_of y)).turns x.limit) (st.actors (actor_of y)).at (st.actors (actor_of y)).stopped (runner_of (st.actors (actor_of y))))
      (answer (actor_of y) (runner_of (st.actors (actor_of y))) st.shared)
  move_is (TakesTurn a) st h =
      by_from x.cells x.threads (x.codes a) a (st.actors a) st.shared (nat_lt (st.actors a).turns x.limit) (st.actors a).at (st.actors a).stopped
      (λ g. below (st.actors a).turns x.limit (h g))
  move_is (IsStopped a why) st h =
      by_stop x.cells x.threads (x.codes a) a (st.actors a) st.shared (nat_lt (st.actors a).turns x.limit) why (st.actors a).at (st.actors a).stopped
      (λ g. (not_below (st.actors a).turns x.limit (h g).0, (h g).1))

  pub play_is_instruction : (y : Play) (st : State) → actor_of y < many x → IsWithin x.limit y st → seen x (play x.cells x.threads x.codes y st) ≡ instruction (runners x) (actor_of y) (seen x st)
  play_is_instruction y st b h =
      seen_placed (actor_of y) (moves x.cells x.threads x.codes y st) st
      ∙ ap (λ v. record { shared = v.shared; actors = put (actor_of y) v.actor (λ b. runner_of (st.actors b)) }) (move_is y st h)
      ∙ sym (done_so (actor_of y) (next_from (x.codes (actor_of y)) (nat_lt (st.actors (actor_of y)).turns x.limit) (st.actors (actor_of y)).at (st.actors (actor_of y)).stopped (runner_of (st.actors (actor_of y)))) st)
      ∙ ap (λ t. does (runners x) (actor_of y) (if t then next_from (x.codes (actor_of y)) (nat_lt (st.actors (actor_of y)).turns x.limit) (st.actors (actor_of y)).at (st.actors (actor_of y)).stopped (runner_of (st.actors (actor_of y))) else Rests) (seen x st))
      (sym (below (actor_of y) (many x) b))

  -- a list of plays is a list of instructions
  pub plays_are_instructions : (ys : List Play) (st : State) → AreWithin x ys st → seen x (played x ys st) ≡ instructions (runners x) (map actor_of ys) (seen x st)
  plays_are_instructions [] st w = refl
  plays_are_instructions (y ∷ ys) st w =
      plays_are_instructions ys (play x.cells x.threads x.codes y st) w.2 ∙ ap (instructions (runners x) (map actor_of ys)) (play_is_instruction y st w.0 w.1)

  -- ---- and an instruction is a play

  -- plays within the limit that come to where these instructions come to
  pub record ArePlayed (ks : List ℕ) (st : State) : Type 0 where
    pub plays : List Play
    pub within : AreWithin x plays st
    pub same : seen x (played x plays st) ≡ instructions (runners x) ks (seen x st)

  abbrev next_play : Bool → ℕ → Play
  next_play true a = TakesTurn a
  next_play false a = IsStopped a TurnsSpent

  owner : (b : Bool) (a : ℕ) → actor_of (next_play b a) ≡ a
  owner true a = refl
  owner false a = refl

  is_within : (b : Bool) (a : ℕ) (st : State) → nat_lt (st.actors a).turns x.limit ≡ b → IsWithin x.limit (next_play b a) st
  is_within true a st e = λ g. is_below (st.actors a).turns x.limit e
  is_within false a st e = λ g. (is_not_below (st.actors a).turns x.limit e, refl)

  -- an instruction of an actor that there is, before others
  one_more : (b : Bool) (a : ℕ) (ks : List ℕ) (st : State) → a < many x → nat_lt (st.actors a).turns x.limit ≡ b → ArePlayed ks (play x.cells x.threads x.codes (next_play b a) st) → ArePlayed (a ∷ ks) st
  one_more b a ks st m e r = record {
    plays = next_play b a ∷ r.plays;
    within = (subst (λ z. z < many x) (sym (owner b a)) m, is_within b a st e, r.within);
    same = r.same ∙ ap (instructions (runners x) ks) (play_is_instruction (next_play b a) st (subst (λ z. z < many x) (sym (owner b a)) m) (is_within b a st e) ∙ ap (λ z. instruction (runners x) z (seen x st)) (owner b a));
  }

  -- and of one that there isn't
  none_more : (a : ℕ) (ks : List ℕ) (st : State) → nat_lt a (many x) ≡ false → ArePlayed ks st → ArePlayed (a ∷ ks) st
  none_more a ks st e r = record {
    plays = r.plays;
    within = r.within;
    same = r.same ∙ ap (instructions (runners x) ks) (sym (ap (λ b. does (runners x) a (if b then next_from (x.codes a) (nat_lt (st.actors a).turns x.limit) (st.actors a).at (st.actors a).stopped (runner_of (st.actors a)) else Rests) (seen x st)) e));
  }

  pub instructions_are_plays : (ks : List ℕ) (st : State) → ArePlayed ks st
  instructions_are_plays [] st = record { plays = []; within = tt; same = refl }
  instructions_are_plays (a ∷ ks) st = by (λ t. instructions_are_plays ks t) (nat_lt a (many x)) refl
    where
      by : ((t : State) → ArePlayed ks t) → (b : Bool) → nat_lt a (many x) ≡ b → ArePlayed (a ∷ ks) st
      by again true e =
          one_more (nat_lt (st.actors a).turns x.limit) a ks st (is_below a (many x) e) refl (again (play x.cells x.threads x.codes (next_play (nat_lt (st.actors a).turns x.limit) a) st))
      by again false e = none_more a ks st e (again st)

-- ---- turns alone

module _ (cells : List CellDefinition) (threads : ℕ) (code : ThreadCode) (a : ℕ) (x : Actor) (sh : Shared) where
  more_replied : (c : Configuration) (q : Ask) (r : Reply) (k : ℕ) → x.turns ≤ (replied code c q r k x).turns
  more_replied c q (reply.At p) k = omega arith
  more_replied c q (reply.Is v) k = omega arith
  more_replied c q (reply.Views p vs) k = omega arith
  more_replied c q reply.Done k = omega arith
  more_replied c q (reply.Retry d) k = omega arith
  more_replied c q (reply.Changed d) k = omega arith
  more_replied c q (reply.AgentIsFailed g) k = omega arith
  more_replied c q (reply.Action n y v) k = omega arith
  more_replied c q (reply.Opened p v) k = omega arith
  more_replied c q reply.Idle k = omega arith
  more_replied c q reply.Full k = omega arith
  more_replied c q reply.Memory k = omega arith

  more_asked : (b : Bool) (c : Configuration) (q : Ask) → x.turns ≤ (asked b cells code a c q x sh).actor.turns
  more_asked true c q = more_replied c q (serve_on cells a q (sh.books (book_for cells q))).reply (length (sh.books (book_for cells q)))
  more_asked false c q = omega arith

  more_asks : (c : Configuration) (s : ActorState) (o : Option Ask) → x.turns ≤ (asks_for cells threads code a c s o x sh).actor.turns
  more_asks c s None = omega arith
  more_asks c s (Some q) = more_asked (may_ask cells threads sh.taken a q (sh.books (book_for cells q))) c q

  more_turned : (c : Configuration) (o : Turned Configuration) → x.turns ≤ (turned cells threads code a c o x sh).actor.turns
  more_turned c (Ended s) = omega arith
  more_turned c (Failed f s) = omega arith
  more_turned c (Asking s) = more_asks c s s.wants
  more_turned c (Unfinished d) = omega arith
  more_turned c Stuck = omega arith

  more_from : (at : Turned Configuration) (o : Option Stop) → x.turns ≤ (turns_from cells threads code a at o x sh).actor.turns
  more_from (Ended s) o = omega arith
  more_from (Failed f s) o = omega arith
  more_from (Asking s) o = omega arith
  more_from (Unfinished c) None = more_turned c (turn code c)
  more_from (Unfinished c) (Some why) = omega arith
  more_from Stuck o = omega arith

module _ (x : Explored) where
  more_play : (a k : ℕ) (st : State) → (st.actors k).turns ≤ ((play x.cells x.threads x.codes (TakesTurn a) st).actors k).turns
  more_play a k st = at (a == k) refl
    where
      at : (b : Bool) → (a == k) ≡ b → (st.actors k).turns ≤ (if b then (moves x.cells x.threads x.codes (TakesTurn a) st).actor else st.actors k).turns
      at true q =
          subst (λ z. (st.actors z).turns ≤ (moves x.cells x.threads x.codes (TakesTurn a) st).actor.turns) (numbers a k q)
          (more_from x.cells x.threads (x.codes a) a (st.actors a) st.shared (st.actors a).at (st.actors a).stopped)
      at false q = omega arith

  more_plays : (ys : List Play) (k : ℕ) (st : State) → AreTurns (many x) ys → (st.actors k).turns ≤ ((played x ys st).actors k).turns
  more_plays [] k st t = omega arith
  more_plays (TakesTurn a ∷ ys) k st t = omega (arith, more_play a k st, more_plays ys k (play x.cells x.threads x.codes (TakesTurn a) st) t.1)
  more_plays (IsStopped a why ∷ ys) k st t = absurd t

  -- turns alone, behind which each actor is below its limit
  pub below_within : (ys : List Play) (st : State) → AreTurns (many x) ys → ((a : ℕ) → a < many x → ((played x ys st).actors a).turns < x.limit) → AreWithin x ys st
  below_within [] st t h = tt
  below_within (TakesTurn a ∷ ys) st t h =
      (t.0, (λ g. omega (arith, more_plays (TakesTurn a ∷ ys) a st t, h a t.0)), below_within ys (play x.cells x.threads x.codes (TakesTurn a) st) t.1 h)
  below_within (IsStopped a why ∷ ys) st t h = absurd t
