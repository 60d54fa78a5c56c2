-- Alike states go on alike, from one request to the next.
use Rattle.std.proofs.Common.{◌≡◌, ◌<◌, ℕ, zero, suc, Bool, true, false, not, ◌&&◌, List, [], ◌∷◌, map, Option, Some, None, refl, sym, ap, subst, ◌∙◌, if◌then◌else◌}
use Rattle.std.proofs.lemmas.Bool.{true≢false, false≢true}
use Rattle.txs_world_protocol.specs.declared.ask.Ask.{Ask}
use Rattle.txs_value_cell.specs.declared.cell.CellDefinition.{CellDefinition}
use Rattle.txs_value_data.proofs.SameLemmas.{number-itself}
use Rattle.txs_value_data.specs.Limits.{reruns}
use Rattle.txs_world_book.proofs.Outcomes.{both}
use Rattle.txs_world_book.specs.Book.{is_there}
use Rattle.txs_code_meaning.specs.ActorState.{ActorState}
use Rattle.txs_code_meaning.specs.Machine.{ThreadCode, Configuration, Turned, Ended, Failed, Asking, Unfinished, Stuck, turn}
use Rattle.txs_theorem_runs.specs.Invariant.{PlayHolds, RunInvariant}
use Rattle.txs_theorem_runs.specs.Run.{Stop, TakesTurn, Actor, Moved, moved, State, comes_to, asks_for, turned, turns_from, play}
use Rattle.txs_theorem_runs.specs.Shared.{Shared}
use Rattle.txs_theorem_runs.specs.Staged.{StagedActor, IsStaged}
use Rattle.txs_theorem_runs.specs.Told.{exchange_of}
use Rattle.txs_theorem_alike.specs.Actors.{none, SameButPlaces, IsClear, wanted_in}
use Rattle.txs_theorem_alike.specs.Books.{Alike}
use Rattle.txs_theorem_alike.specs.Failures.{failures}
use Rattle.txs_theorem_alike.specs.Renaming.{wants_with}
use Rattle.txs_theorem_alike.specs.Stages.{EqualBut}
use Rattle.txs_theorem_alike.specs.Stages as but
use Rattle.txs_theorem_alike.specs.States.{StatesAlike}
use Rattle.txs_theorem_alike.specs.Turns.{IsAble, AsksFreely}
use Rattle.txs_theorem_alike.specs.Walks.{next_ask, goes_on, goes_alone, walks, steps_on, walk, Own, IsOwnWalk, WalksAreOwn, asks_on, is_idle, is_due, HasTries, GoesOnAlike, AlikeGoOnAlike, AsksKeepStates}
use Rattle.txs_theorem_alike.proofs.Actors.{rests, absurdly, at_or, turns_alike, told_alike}
use Rattle.txs_theorem_alike.proofs.Relating.{due}
use Rattle.txs_theorem_alike.proofs.States.{able, other_rests, turns_keep_states}
use Rattle.txs_theorem_alike.proofs.Turns.{equal_but}

-- ---- an instruction that asks nothing

-- what it is for an actor to go on alone
record Alone (code : ThreadCode) (x : Actor) : Type 0 where
  here : Configuration
  is_here : x.at ≡ Unfinished here
  goes : x.stopped ≡ None
  quiet : is_there (wanted_in (turn code here)) ≡ false

not_true : (t : Bool) → not t ≡ true → t ≡ false
not_true true e = absurd (false≢true e)
not_true false e = refl

alone : (code : ThreadCode) (x : Actor) → goes_alone code x ≡ true → Alone code x
alone code x e = by x.at x.stopped refl refl (both (goes_on x.at x.stopped) (not (is_there (next_ask code x.at x.stopped))) e)
  where
    by : (o : Turned Configuration) (w : Option Stop) → x.at ≡ o → x.stopped ≡ w → (goes_on o w ≡ true) × (not (is_there (next_ask code o w)) ≡ true) → Alone code x
    by (Ended s) w i j h = absurd (false≢true h.0)
    by (Failed f s) w i j h = absurd (false≢true h.0)
    by (Asking s) w i j h = absurd (false≢true h.0)
    by (Unfinished c) None i j h = record { here = c; is_here = i; goes = j; quiet = not_true (is_there (wanted_in (turn code c))) h.1 }
    by (Unfinished c) (Some why) i j h = absurd (false≢true h.0)
    by Stuck w i j h = absurd (false≢true h.0)

module _ (cells : List CellDefinition) (threads : ℕ) (code : ThreadCode) (a : ℕ) (x : Actor) (sh : Shared) (h : Alone code x) where
  -- it comes to where its instruction does, and nothing else happens
  comes : turns_from cells threads code a x.at x.stopped x sh ≡ moved (comes_to (turn code h.here) x) sh
  comes = start ∙ by (turn code h.here) refl
    where
      start : turns_from cells threads code a x.at x.stopped x sh ≡ turned cells threads code a h.here (turn code h.here) x sh
      start = ap (λ o. turns_from cells threads code a o x.stopped x sh) h.is_here ∙ ap (λ w. turns_from cells threads code a (Unfinished h.here) w x sh) h.goes

      waiting : (s : ActorState) (o : Option Ask) → s.wants ≡ o → is_there o ≡ false → asks_for cells threads code a h.here s s.wants x sh ≡ moved (comes_to (Asking s) x) sh
      waiting s None e f = ap (λ o. asks_for cells threads code a h.here s o x sh) e
      waiting s (Some q) e f = absurd (true≢false f)

      by : (o : Turned Configuration) → turn code h.here ≡ o → turned cells threads code a h.here o x sh ≡ moved (comes_to o x) sh
      by (Ended s) e = refl
      by (Failed f s) e = refl
      by (Asking s) e = waiting s s.wants refl (sym (ap (λ o. is_there (wanted_in o)) e) ∙ h.quiet)
      by (Unfinished d) e = refl
      by Stuck e = refl

  -- it asks nothing
  asks_none : AsksFreely cells threads code a x.at sh
  asks_none q n =
      let same : n.0 ≡ h.here = ap (at_or h.here) (sym n.1 ∙ h.is_here) in
      absurd (true≢false (sym (ap is_there (ap wanted_in n.2.1 ∙ n.2.2)) ∙ ap (λ c. is_there (wanted_in (turn code c))) same ∙ h.quiet))

-- ---- requests that are the same but for places

there_with : (o : Option Ask) → is_there (wants_with none o) ≡ is_there o
there_with None = refl
there_with (Some q) = refl

abbrev ask_or : Ask → Option Ask → Ask
ask_or q None = q
ask_or q (Some p) = p

-- so both are answered Idle, or neither
idle_same : (cells : List CellDefinition) (threads : ℕ) (sh th : Shared) (a : ℕ) → Alike cells sh th → (q p : Ask) → EqualBut q p → is_idle cells threads sh a q ≡ is_idle cells threads th a p
idle_same cells threads sh th a h _ _ but.Begins = refl
idle_same cells threads sh th a h _ _ (but.Looks c p q) = refl
idle_same cells threads sh th a h _ _ (but.Views cs) = refl
idle_same cells threads sh th a h _ _ (but.Commits sets commuted ensured sends p q v w) = refl
idle_same cells threads sh th a h _ _ (but.Fails p q v w) = refl
idle_same cells threads sh th a h _ _ (but.Peeks c) = refl
idle_same cells threads sh th a h _ _ (but.Sends x) = refl
idle_same cells threads sh th a h _ _ (but.Takes g) = (due cells threads a g sh th h).idle
idle_same cells threads sh th a h _ _ (but.Finishes g new sends) = refl
idle_same cells threads sh th a h _ _ (but.Opens c) = refl
idle_same cells threads sh th a h _ _ (but.Closes c p q v) = refl
idle_same cells threads sh th a h _ _ (but.Resets c v) = refl
idle_same cells threads sh th a h _ _ (but.Breaks c p q) = refl

-- who rests asks nothing
rest_asks : (code : ThreadCode) (p : Turned Configuration) (w : Option Stop) → rests p ≡ true → (goes_on p w ≡ false) × (next_ask code p w ≡ None)
rest_asks code (Ended s) w e = (refl, refl)
rest_asks code (Failed f s) w e = (refl, refl)
rest_asks code (Asking s) w e = (refl, refl)
rest_asks code (Unfinished c) w e = absurdly (sym e)
rest_asks code Stuck w e = (refl, refl)

resting : (code : ThreadCode) (p : Turned Configuration) (w : Option Stop) → rests p ≡ true → (false ≡ goes_on p w) × (None ≡ wants_with none (next_ask code p w))
resting code p w e = let r = rest_asks code p w e in (sym r.0, sym (ap (wants_with none) r.1))

-- ---- walks

module _ (holds : PlayHolds) (cells : List CellDefinition) (threads : ℕ) (codes : ℕ → ThreadCode) (agent : ℕ → Bool) (a : ℕ) (asks : StagedActor (agent a) (codes a)) where
  abbrev step : State → State
  step st = play cells threads codes (TakesTurn a) st

  entries_stay : (st : State) → Alone (codes a) (st.actors a) → HasTries a st → HasTries a (step st)
  entries_stay st h few =
      subst (λ (k : Actor). failures (map exchange_of k.entries) < reruns) (sym (ap (λ t. if t then m.actor else st.actors a) (number-itself a) ∙ ap (λ w. w.actor) (comes cells threads (codes a) a (st.actors a) st.shared h))) few
    where
      m : Moved
      m = turns_from cells threads (codes a) a (st.actors a).at (st.actors a).stopped (st.actors a) st.shared

  module _ (st other : State) (h : RunInvariant cells threads codes st) (g : RunInvariant cells threads codes other) (alike : StatesAlike cells agent st other) (few : HasTries a st) (fewer : HasTries a other) where
    clear_at : (u : State) (i : RunInvariant cells threads codes u) → HasTries a u → (c : Configuration) → (u.actors a).at ≡ Unfinished c → IsClear c
    clear_at u i t c e =
        let inv = i.actors (agent a) a asks in
        let staged : IsStaged (agent a) inv.stage (Unfinished c) = subst (λ o. IsStaged (agent a) inv.stage o) e inv.staged in
        let can : IsAble (agent a) (codes a) (Unfinished c) = subst (λ o. IsAble (agent a) (codes a) o) e (able cells threads (agent a) (codes a) u.shared.books a (u.actors a) asks inv t) in
        (staged.0, can.0)

    -- what the next instruction asks is the same but for places
    next_same : (o p : Turned Configuration) (w : Option Stop) → (st.actors a).at ≡ o → (other.actors a).at ≡ p → SameButPlaces o p
        → (goes_on o w ≡ goes_on p w) × (wants_with none (next_ask (codes a) o w) ≡ wants_with none (next_ask (codes a) p w))
    next_same (Unfinished c) (Unfinished d) None e f n = (refl, (told_alike (turn (codes a) c) (turn (codes a) d) (turns_alike (codes a) c d (clear_at st h few c e) (clear_at other g fewer d f) (ap (at_or c) n))).2)
    next_same (Unfinished c) (Unfinished d) (Some why) e f n = (refl, refl)
    next_same (Unfinished c) (Ended s) w e f n = absurdly (sym (ap rests n))
    next_same (Unfinished c) (Failed b s) w e f n = absurdly (sym (ap rests n))
    next_same (Unfinished c) (Asking s) w e f n = absurdly (sym (ap rests n))
    next_same (Unfinished c) Stuck w e f n = absurdly (sym (ap rests n))
    next_same (Ended s) p w e f n = resting (codes a) p w (other_rests (Ended s) p n refl)
    next_same (Failed b s) p w e f n = resting (codes a) p w (other_rests (Failed b s) p n refl)
    next_same (Asking s) p w e f n = resting (codes a) p w (other_rests (Asking s) p n refl)
    next_same Stuck p w e f n = resting (codes a) p w (other_rests Stuck p n refl)

    abbrev ask_in : State → Option Ask
    ask_in u = next_ask (codes a) (u.actors a).at (u.actors a).stopped

    both_same : (goes_on (st.actors a).at (st.actors a).stopped ≡ goes_on (other.actors a).at (other.actors a).stopped) × (wants_with none (ask_in st) ≡ wants_with none (ask_in other))
    both_same =
        subst (λ w. (goes_on (st.actors a).at (st.actors a).stopped ≡ goes_on (other.actors a).at w) × (wants_with none (ask_in st) ≡ wants_with none (next_ask (codes a) (other.actors a).at w))) (alike.actors a).1
        (next_same (st.actors a).at (other.actors a).at (st.actors a).stopped refl refl (alike.actors a).0)

    alone_same : goes_alone (codes a) (st.actors a) ≡ goes_alone (codes a) (other.actors a)
    alone_same =
        ap (λ t. t && not (is_there (ask_in st))) both_same.0
        ∙ ap (λ t. goes_on (other.actors a).at (other.actors a).stopped && not t) (sym (there_with (ask_in st)) ∙ ap is_there both_same.1 ∙ there_with (ask_in other))

    due_same : is_due cells threads st.shared a (ask_in st) ≡ is_due cells threads other.shared a (ask_in other)
    due_same = dues (ask_in st) (ask_in other) both_same.1
      where
        dues : (o p : Option Ask) → wants_with none o ≡ wants_with none p → is_due cells threads st.shared a o ≡ is_due cells threads other.shared a p
        dues None None e = refl
        dues (Some q) (Some p) e = ap not (idle_same cells threads st.shared other.shared a alike.shared q p (equal_but q p (ap (ask_or q) e)))
        dues None (Some p) e = absurd (false≢true (ap is_there e))
        dues (Some q) None e = absurd (true≢false (ap is_there e))

    -- a play where it goes on alone
    steps_alike : goes_alone (codes a) (st.actors a) ≡ true → StatesAlike cells agent (step st) (step other)
    steps_alike e =
        turns_keep_states cells threads codes agent a st other asks h g alike
        (record { tries = few; asks = asks_none cells threads (codes a) a (st.actors a) st.shared (alone (codes a) (st.actors a) e) })
        (record { tries = fewer; asks = asks_none cells threads (codes a) a (other.actors a) other.shared (alone (codes a) (other.actors a) (sym alone_same ∙ e)) })

  -- both where they have gone on alone
  record Walked (st other : State) : Type 0 where
    alike : StatesAlike cells agent st other
    one : RunInvariant cells threads codes st
    two : RunInvariant cells threads codes other
    few : HasTries a st
    fewer : HasTries a other

  walked : (n : ℕ) (st other : State) → Walked st other → Walked (walks cells threads codes a n st) (walks cells threads codes a n other)
  walked zero st other w = w
  walked (suc n) st other w = by (goes_alone (codes a) (st.actors a)) (goes_alone (codes a) (other.actors a)) refl (alone_same st other w.one w.two w.alike w.few w.fewer) (walked n (step st) (step other))
    where
      by : (i j : Bool) → goes_alone (codes a) (st.actors a) ≡ i → i ≡ j → (Walked (step st) (step other) → Walked (walks cells threads codes a n (step st)) (walks cells threads codes a n (step other)))
          → Walked (if i then walks cells threads codes a n (step st) else st) (if j then walks cells threads codes a n (step other) else other)
      by true true e f more = more (record {
        alike = steps_alike st other w.one w.two w.alike w.few w.fewer e;
        one = holds cells threads codes (TakesTurn a) st w.one;
        two = holds cells threads codes (TakesTurn a) other w.two;
        few = entries_stay st (alone (codes a) (st.actors a) e) w.few;
        fewer = entries_stay other (alone (codes a) (other.actors a) (sym (alone_same st other w.one w.two w.alike w.few w.fewer) ∙ e)) w.fewer;
      })
      by false false e f more = w
      by true false e f more = absurd (true≢false f)
      by false true e f more = absurd (false≢true f)

  -- a walk leaves what is shared
  walk_shares : (n : ℕ) (st : State) → (walks cells threads codes a n st).shared ≡ st.shared
  walk_shares zero st = refl
  walk_shares (suc n) st = by (goes_alone (codes a) (st.actors a)) refl (walk_shares n (step st))
    where
      by : (i : Bool) → goes_alone (codes a) (st.actors a) ≡ i → (walks cells threads codes a n (step st)).shared ≡ (step st).shared → (if i then walks cells threads codes a n (step st) else st).shared ≡ st.shared
      by true e more = more ∙ ap (λ m. m.shared) (comes cells threads (codes a) a (st.actors a) st.shared (alone (codes a) (st.actors a) e))
      by false e more = refl

  goes_on_alike : (n : ℕ) (st other : State) → Walked st other → GoesOnAlike cells threads codes agent n a st other
  goes_on_alike n st other w =
      let z = walked n st other w in
      let o = walks cells threads codes a n st in
      let p = walks cells threads codes a n other in
      let told = told_alike (o.actors a).at (p.actors a).at (z.alike.actors a).0 in
      record {
        walk = z.alike;
        walked = alone_same o p z.one z.two z.alike z.few z.fewer;
        enabled =
            ap (λ sh. is_due cells threads sh a (next_ask (codes a) (o.actors a).at (o.actors a).stopped)) (sym (walk_shares n st))
            ∙ due_same o p z.one z.two z.alike z.few z.fewer
            ∙ ap (λ sh. is_due cells threads sh a (next_ask (codes a) (p.actors a).at (p.actors a).stopped)) (walk_shares n other);
        printed = told.0;
        ended = told.1;
        turn = λ free loose. turns_keep_states cells threads codes agent a o p asks z.one z.two z.alike free loose;
      }

-- ---- a walk is the actor's own

module _ (cells : List CellDefinition) (threads : ℕ) (codes : ℕ → ThreadCode) (a : ℕ) where
  steps_so : (x : Actor) (h : Alone (codes a) x) → steps_on (codes a) x.at x.stopped x ≡ comes_to (turn (codes a) h.here) x
  steps_so x h = ap (λ o. steps_on (codes a) o x.stopped x) h.is_here ∙ ap (λ w. steps_on (codes a) (Unfinished h.here) w x) h.goes

  own_walk : (n : ℕ) (st : State) → IsOwnWalk cells threads codes n a st
  own_walk zero st = record { shared = refl; actor = refl; others = λ b e. refl }
  own_walk (suc n) st = by (goes_alone (codes a) (st.actors a)) refl (own_walk n after)
    where
      after : State
      after = play cells threads codes (TakesTurn a) st

      m : Moved
      m = turns_from cells threads (codes a) a (st.actors a).at (st.actors a).stopped (st.actors a) st.shared

      by : (i : Bool) → goes_alone (codes a) (st.actors a) ≡ i → IsOwnWalk cells threads codes n a after
          → Own cells threads codes a st (if i then walks cells threads codes a n after else st) (if i then walk (codes a) n (steps_on (codes a) (st.actors a).at (st.actors a).stopped (st.actors a)) else st.actors a)
      by true e more =
          let h = alone (codes a) (st.actors a) e in
          let here : after.actors a ≡ steps_on (codes a) (st.actors a).at (st.actors a).stopped (st.actors a) =
          ap (λ t. if t then m.actor else st.actors a) (number-itself a) ∙ ap (λ w. w.actor) (comes cells threads (codes a) a (st.actors a) st.shared h) ∙ sym (steps_so (st.actors a) h) in
          record {
            shared = more.shared ∙ ap (λ w. w.shared) (comes cells threads (codes a) a (st.actors a) st.shared h);
            actor = more.actor ∙ ap (walk (codes a) n) here;
            others = λ b f. more.others b f ∙ ap (λ t. if t then m.actor else st.actors b) f;
          }
      by false e more = record { shared = refl; actor = refl; others = λ b f. refl }

pub walks_are_own : WalksAreOwn
walks_are_own cells threads codes n a st = own_walk cells threads codes a n st

pub alike_go_on_alike : PlayHolds → AlikeGoOnAlike
alike_go_on_alike holds cells threads codes agent n a st other asks h g alike few fewer =
    goes_on_alike holds cells threads codes agent a asks n st other (record { alike = alike; one = h; two = g; few = few; fewer = fewer })

pub asks_keep_states : PlayHolds → AsksKeepStates
asks_keep_states holds cells threads codes agent n [] st other h g alike free loose = alike
asks_keep_states holds cells threads codes agent n (a ∷ ks) st other h g alike free loose =
    let z = walked holds cells threads codes agent a free.0 n st other (record { alike = alike; one = h; two = g; few = free.1; fewer = loose.1 }) in
    asks_keep_states holds cells threads codes agent n ks (asks_on cells threads codes n a st) (asks_on cells threads codes n a other)
    (holds cells threads codes (TakesTurn a) (walks cells threads codes a n st) z.one) (holds cells threads codes (TakesTurn a) (walks cells threads codes a n other) z.two)
    (turns_keep_states cells threads codes agent a (walks cells threads codes a n st) (walks cells threads codes a n other) free.0 z.one z.two z.alike free.2 loose.2)
    free.3 loose.3
