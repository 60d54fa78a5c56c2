-- Turns that nobody notices may be left out.
use Rattle.std.proofs.Common.{◌≡◌, ℕ, Bool, true, false, ◌==◌, List, [], ◌∷◌, Option, Some, None, if◌then◌else◌, refl, sym, ap, ◌∙◌, subst}
use Rattle.std.proofs.lemmas.Bool.{true≢false}
use Rattle.txs_world_protocol.specs.declared.ask.Ask.{Ask}
use Rattle.txs_value_cell.specs.declared.cell.CellDefinition.{CellDefinition}
use Rattle.txs_value_data.proofs.SameLemmas.{numbers, number-itself}
use Rattle.txs_code_meaning.specs.ActorState.{ActorState}
use Rattle.txs_code_meaning.specs.Machine.{ThreadCode, Configuration, Turned, Ended, Failed, Asking, Unfinished, Stuck, turn}
use Rattle.txs_theorem_runs.specs.Invariant.{PlayHolds, RunInvariant}
use Rattle.txs_theorem_runs.specs.Run.{Stop, TakesTurn, Actor, Moved, State, asked, asks_for, turned, turns_from, play}
use Rattle.txs_theorem_runs.specs.Shared.{Shared, book_for, may_ask}
use Rattle.txs_theorem_runs.specs.Staged.{StagedActor, IsStaged}
use Rattle.txs_theorem_runs.specs.Stages.{Stage}
use Rattle.txs_theorem_alike.specs.Actors.{ActorsAlike, AsksNext}
use Rattle.txs_theorem_alike.specs.Commits.{reply_to}
use Rattle.txs_theorem_alike.specs.Stages.{SameStage, AllAlike}
use Rattle.txs_theorem_alike.specs.States.{holds, GoesFreely, after_turns}
use Rattle.txs_theorem_alike.specs.Tries.{kept_if, without, if_own}
use Rattle.txs_theorem_alike.specs.Turns.{StayAlikeIn}
use Rattle.txs_theorem_alike.specs.Unnoticed.{LooksOnly, LooksAmong, LooksAreLeftOut}
use Rattle.txs_theorem_alike.specs.Unseen.{is_unseen}
use Rattle.txs_theorem_alike.proofs.Leaving.{still_alike}
use Rattle.txs_theorem_alike.proofs.Relating as relating
use Rattle.txs_theorem_alike.proofs.Stages.{steps}
use Rattle.txs_theorem_alike.proofs.States.{able, staged_holds, both_idle}
use Rattle.txs_theorem_alike.proofs.Turns.{turn_keeps_alike}
use Rattle.txs_theorem_alike.proofs.Within.{places_are_within}

-- what is shared is alike, and all actors but this one
record Beside (cells : List CellDefinition) (agent : ℕ → Bool) (a : ℕ) (st other : State) : Type 0 where
  first : ℕ → Stage
  second : ℕ → Stage
  all : AllAlike cells st.shared other.shared first second
  actors : (b : ℕ) → (a == b) ≡ false → ActorsAlike (st.actors b) (other.actors b)
  in_first : (b : ℕ) → (a == b) ≡ false → (st.actors b).stopped ≡ None → IsStaged (agent b) (first b) (st.actors b).at
  in_other : (b : ℕ) → (a == b) ≡ false → (other.actors b).stopped ≡ None → IsStaged (agent b) (second b) (other.actors b).at

module _ (cells : List CellDefinition) (threads : ℕ) (codes : ℕ → ThreadCode) (agent : ℕ → Bool) (a : ℕ) where
  -- ---- a turn in which it only looks

  module _ (x : Actor) (sh th : Shared) (u v : ℕ → Stage) (all : AllAlike cells sh th u v) (quiet : (q : Ask) → AsksNext (codes a) x.at q → is_unseen q (reply_to cells a q sh) ≡ true) where
    asked_unseen : (t : Bool) (c : Configuration) (q : Ask) → AsksNext (codes a) x.at q → AllAlike cells (asked t cells (codes a) a c q x sh).shared th u v
    asked_unseen true c q n = still_alike cells a q sh th u v all (quiet q n)
    asked_unseen false c q n = all

    waits_unseen : (c : Configuration) (s : ActorState) (o : Option Ask) → x.at ≡ Unfinished c → turn (codes a) c ≡ Asking s → s.wants ≡ o → AllAlike cells (asks_for cells threads (codes a) a c s o x sh).shared th u v
    waits_unseen c s None i e w = all
    waits_unseen c s (Some q) i e w = asked_unseen (may_ask cells threads sh.taken a q (sh.books (book_for cells q))) c q (c, i, (s, e, w))

    turned_unseen : (c : Configuration) (o : Turned Configuration) → x.at ≡ Unfinished c → turn (codes a) c ≡ o → AllAlike cells (turned cells threads (codes a) a c o x sh).shared th u v
    turned_unseen c (Ended s) i e = all
    turned_unseen c (Failed f s) i e = all
    turned_unseen c (Asking s) i e = waits_unseen c s s.wants i e refl
    turned_unseen c (Unfinished d) i e = all
    turned_unseen c Stuck i e = all

    turns_unseen : (o : Turned Configuration) (w : Option Stop) → x.at ≡ o → AllAlike cells (turns_from cells threads (codes a) a o w x sh).shared th u v
    turns_unseen (Ended s) w i = all
    turns_unseen (Failed f s) w i = all
    turns_unseen (Asking s) w i = all
    turns_unseen (Unfinished c) None i = turned_unseen c (turn (codes a) c) i refl
    turns_unseen (Unfinished c) (Some why) i = all
    turns_unseen Stuck w i = all

  own_turn : (st other : State) → Beside cells agent a st other → LooksOnly cells codes a st → Beside cells agent a (play cells threads codes (TakesTurn a) st) other
  own_turn st other h quiet = record {
    first = h.first;
    second = h.second;
    all = turns_unseen (st.actors a) st.shared other.shared h.first h.second h.all quiet (st.actors a).at (st.actors a).stopped refl;
    actors = λ b e. subst (λ i. ActorsAlike (if i then m.actor else st.actors b) (other.actors b)) (sym e) (h.actors b e);
    in_first = λ b e. subst (λ i. (if i then m.actor else st.actors b).stopped ≡ None → IsStaged (agent b) (h.first b) (if i then m.actor else st.actors b).at) (sym e) (h.in_first b e);
    in_other = h.in_other;
  }
    where
      m : Moved
      m = turns_from cells threads (codes a) a (st.actors a).at (st.actors a).stopped (st.actors a) st.shared

  -- ---- a turn of another

  others_turn : (b : ℕ) (st other : State) → (a == b) ≡ false → StagedActor (agent b) (codes b) → RunInvariant cells threads codes st → RunInvariant cells threads codes other
      → Beside cells agent a st other → GoesFreely cells threads codes b st → GoesFreely cells threads codes b other
      → Beside cells agent a (play cells threads codes (TakesTurn b) st) (play cells threads codes (TakesTurn b) other)
  others_turn b st other differs asks h g alike free loose = record {
    first = λ d. if b == d then r.1.first else alike.first d;
    second = λ d. if b == d then r.1.other else alike.second d;
    all = r.1.all;
    actors = λ d e. acts d (b == d) e;
    in_first = λ d e. stands d (b == d) refl e;
    in_other = λ d e. stand d (b == d) refl e;
  }
    where
      k : Actor
      k = st.actors b

      l : Actor
      l = other.actors b

      m : Moved
      m = turns_from cells threads (codes b) b k.at k.stopped k st.shared

      n : Moved
      n = turns_from cells threads (codes b) b l.at l.stopped l other.shared

      r : ActorsAlike m.actor n.actor × StayAlikeIn cells (agent b) b alike.first alike.second m n
      r =
          turn_keeps_alike steps cells threads (codes b) (agent b) b k l st.shared other.shared alike.first alike.second alike.all (alike.actors b differs)
          (λ z. (alike.in_first b differs z, able cells threads (agent b) (codes b) st.shared.books b k asks (h.actors (agent b) b asks) free.tries))
          (λ z. (alike.in_other b differs z, able cells threads (agent b) (codes b) other.shared.books b l asks (g.actors (agent b) b asks) loose.tries))
          free.asks loose.asks

      acts : (d : ℕ) (i : Bool) → (a == d) ≡ false → ActorsAlike (if i then m.actor else st.actors d) (if i then n.actor else other.actors d)
      acts d true e = r.0
      acts d false e = alike.actors d e

      stands : (d : ℕ) (i : Bool) → (b == d) ≡ i → (a == d) ≡ false → (if i then m.actor else st.actors d).stopped ≡ None → IsStaged (agent d) (if i then r.1.first else alike.first d) (if i then m.actor else st.actors d).at
      stands d true e f z = subst (λ c. IsStaged (agent c) r.1.first m.actor.at) (numbers b d e) (r.1.in_first z)
      stands d false e f z = alike.in_first d f z

      stand : (d : ℕ) (i : Bool) → (b == d) ≡ i → (a == d) ≡ false → (if i then n.actor else other.actors d).stopped ≡ None → IsStaged (agent d) (if i then r.1.other else alike.second d) (if i then n.actor else other.actors d).at
      stand d true e f z = subst (λ c. IsStaged (agent c) r.1.other n.actor.at) (numbers b d e) (r.1.in_other z)
      stand d false e f z = alike.in_other d f z

  -- ---- lists of turns

  among : PlayHolds → (turns : List ℕ) (st other : State) → RunInvariant cells threads codes st → RunInvariant cells threads codes other → Beside cells agent a st other → LooksAmong cells threads codes agent a turns st other
      → Beside cells agent a (after_turns cells threads codes turns st) (after_turns cells threads codes (without a turns) other)
  among holds [] st other h g alike looks = alike
  among holds (b ∷ turns) st other h g alike looks =
      by (a == b) refl
      (λ k w. among holds turns after other (holds cells threads codes (TakesTurn b) st h) g k w)
      (λ k w. among holds turns after next (holds cells threads codes (TakesTurn b) st h) (holds cells threads codes (TakesTurn b) other g) k w)
      looks
    where
      after : State
      after = play cells threads codes (TakesTurn b) st

      next : State
      next = play cells threads codes (TakesTurn b) other

      by : (i : Bool) → (a == b) ≡ i
          → (Beside cells agent a after other → LooksAmong cells threads codes agent a turns after other → Beside cells agent a (after_turns cells threads codes turns after) (after_turns cells threads codes (without a turns) other))
          → (Beside cells agent a after next → LooksAmong cells threads codes agent a turns after next → Beside cells agent a (after_turns cells threads codes turns after) (after_turns cells threads codes (without a turns) next))
          → if_own i (LooksOnly cells codes a st × LooksAmong cells threads codes agent a turns after other)
          (StagedActor (agent b) (codes b) × GoesFreely cells threads codes b st × GoesFreely cells threads codes b other × LooksAmong cells threads codes agent a turns after next)
          → Beside cells agent a (after_turns cells threads codes turns after) (after_turns cells threads codes (kept_if i b (without a turns)) other)
      by true e own others w = own (subst (λ d. Beside cells agent a (play cells threads codes (TakesTurn d) st) other) (numbers a b e) (own_turn st other alike w.0)) w.1
      by false e own others w = others (others_turn b st other e w.0 h g alike w.1 w.2) w.3

  -- without its turns the actor stays where it is
  pub stays : (turns : List ℕ) (st : State) → (after_turns cells threads codes (without a turns) st).actors a ≡ st.actors a
  stays [] st = refl
  stays (b ∷ turns) st = by (a == b) refl (stays turns st) (stays turns (play cells threads codes (TakesTurn b) st))
    where
      by : (i : Bool) → (a == b) ≡ i → (after_turns cells threads codes (without a turns) st).actors a ≡ st.actors a
          → (after_turns cells threads codes (without a turns) (play cells threads codes (TakesTurn b) st)).actors a ≡ (play cells threads codes (TakesTurn b) st).actors a
          → (after_turns cells threads codes (kept_if i b (without a turns)) st).actors a ≡ st.actors a
      by true e here later = here
      by false e here later =
          later ∙ ap (λ t. if t then (turns_from cells threads (codes b) b (st.actors b).at (st.actors b).stopped (st.actors b) st.shared).actor else st.actors a) (apart (b == a) refl)
        where
          apart : (t : Bool) → (b == a) ≡ t → (b == a) ≡ false
          apart true f = absurd (true≢false (sym (subst (λ c. (a == c) ≡ true) (sym (numbers b a f)) (number-itself a)) ∙ e))
          apart false f = f

pub looks_are_left_out : PlayHolds → LooksAreLeftOut
looks_are_left_out holding cells threads codes agent a turns st h asks looks back before later = record {
  shared = end.all.shared;
  actors = λ b. acts b (a == b) refl;
  places = λ b. keep b (a == b) refl;
}
  where
    one : State
    one = after_turns cells threads codes turns st

    two : State
    two = after_turns cells threads codes (without a turns) st

    start : Beside cells agent a st st
    start = record {
      first = λ b. (h.actors (agent b) b (asks b)).stage;
      second = λ b. (h.actors (agent b) b (asks b)).stage;
      all = relating.itself cells st.shared (λ b. (h.actors (agent b) b (asks b)).stage) (λ b. places_are_within cells threads codes st h (agent b) b (asks b));
      actors = λ b e. (refl, refl);
      in_first = λ b e z. (h.actors (agent b) b (asks b)).staged;
      in_other = λ b e z. (h.actors (agent b) b (asks b)).staged;
    }

    end : Beside cells agent a one two
    end = among cells threads codes agent a holding turns st st h h start looks

    still : two.actors a ≡ st.actors a
    still = stays cells threads codes agent a turns st

    own : ActorsAlike (one.actors a) (two.actors a)
    own = subst (λ k. ActorsAlike (one.actors a) k) (sym still) back

    acts : (b : ℕ) (i : Bool) → (a == b) ≡ i → ActorsAlike (one.actors b) (two.actors b)
    acts b true e = subst (λ c. ActorsAlike (one.actors c) (two.actors c)) (numbers a b e) own
    acts b false e = end.actors b e

    keep : (b : ℕ) (i : Bool) → (a == b) ≡ i → SameStage cells one.shared two.shared (holds (agent b) (one.actors b)) (holds (agent b) (two.actors b))
    keep b true e = subst (λ c. SameStage cells one.shared two.shared (holds (agent c) (one.actors c)) (holds (agent c) (two.actors c))) (numbers a b e)
        (both_idle cells one.shared two.shared (holds (agent a) (one.actors a)) (holds (agent a) (two.actors a)) later (ap (holds (agent a)) still ∙ before))
    keep b false e = staged_holds cells one.shared two.shared (agent b) (end.first b) (end.second b) (one.actors b) (two.actors b) (end.actors b e) (end.in_first b e) (end.in_other b e) (end.all.stages b)
