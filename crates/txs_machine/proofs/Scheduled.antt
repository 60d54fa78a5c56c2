-- Plays and rounds, one after the other: which turns they are.
use Rattle.std.proofs.Common.{◌≡◌, ◌<◌, ◌≤◌, ◌+◌, ◌-◌, ℕ, zero, suc, Bool, true, false, List, [], ◌∷◌, ◌++◌, length, take, Option, Some, None, refl, sym, ap, subst, ◌∙◌, append_assoc, append-nil, ◌⊎◌, inl, inr, arith}
use Rattle.std.specs.Prelude.{◌^◌}
use Rattle.txs_world_protocol.specs.declared.event.Event.{Event}
use Rattle.txs_world_protocol.specs.declared.event.Outcome.{Outcome}
use Rattle.txs_world_protocol.specs.declared.event.Outcome.TheVariants as outcome
use Rattle.txs_value_data.specs.Places.{nth}
use Rattle.txs_code_meaning.specs.ActorState.{ActorState}
use Rattle.txs_code_meaning.specs.Machine.{Configuration, Turned, Unfinished}
use Rattle.txs_code_meaning.specs.PlainCode.{PlainCode}
use Rattle.txs_machine_actor.specs.PlainActor.{PlainActor, configuration_of}
use Rattle.txs_theorem_runs.specs.Run.{Actor, Play, State, Stop}
use Rattle.txs_theorem_runs.specs.Run.{JournalFull, Memory, TurnsSpent, Unlawful}
use Rattle.txs_theorem_runs.specs.Shared.{Shared}
use Rattle.txs_value_cell.specs.declared.action.Action.{Action}
use Rattle.txs_value_data.specs.declared.value.CellId.{CellId}
use Rattle.txs_world.specs.Store.{next_action}
use Rattle.txs_world_book.specs.Served.{cells_of}
use Rattle.txs_world_protocol.specs.declared.report.ActorReport.{ActorReport}
use Rattle.txs_world_shared.specs.SharedState.{PlainShared}
use Rattle.txs_machine.specs.Agents.{agents_of, actors_of}
use Rattle.txs_machine.specs.Playing.{AllEnded, AreReported, HaveEndedBefore, IsReported}
use Rattle.txs_machine.specs.RunOver.{books_of, places_of}
use Rattle.txs_machine.specs.Running.{AreIdle, ArePlaying, ArePlayingBy, GoOnBy, HasWork, IsLive, IsPlacedAs, IsPlayerOf, attendants, left_all}
use Rattle.txs_machine.specs.Scheduled.{after_turns, run_of, most_turns, own_turns, outcome_of, printed_at, IsPlay, ArePlays, GoesOn, IsGoing, IsOver, AreRounds, AreRoundsIf, AreScheduled, IsEntryOf, IsScheduledRun, asks_from}
use Rattle.txs_machine.specs.declared.player.AgentPlayer.{AgentPlayer}
use Rattle.txs_machine.specs.declared.player.Player.{Player}
use Rattle.txs_machine.specs.declared.player.Players.{Players}
use Rattle.txs_machine.specs.declared.schedule.Play.{Play as AnyPlay}
use Rattle.txs_machine.specs.declared.schedule.Play.TheVariants as play
use Rattle.txs_machine.proofs.Explaining.{reported_at}
use Rattle.txs_machine.proofs.Going.{turns_append, ended_turns}
use Rattle.txs_machine.proofs.Together.{as_attending, attendant_at, attending_at}

-- ---- plays

-- where all go on there is a run
pub still : (code : PlainCode) (limit : ℕ) (P : State → List Play → Type 0) (s t : PlainShared) (all next : Players) → GoOnBy code limit P s all t next → ArePlaying code limit s all → ArePlaying code limit t next
still code limit P s t all next g h = let r = g h.0 h.1 in (h.0 ++ r.0, r.2)

-- all go on by turns after others
pub then_on : (code : PlainCode) (limit : ℕ) (P Q R : State → List Play → Type 0) (s t u : PlainShared) (all next last : Players) → ((st : State) (us vs : List Play) → P st us → Q (after_turns code us st) vs → R st (us ++ vs))
    → GoOnBy code limit P s all t next → GoOnBy code limit Q t next u last → GoOnBy code limit R s all u last
then_on code limit P Q R s t u all next last f g h turns playing =
    let a = g turns playing in
    let b = h (turns ++ a.0) a.2 in
    (a.0 ++ b.0, f (run_of code turns) a.0 b.0 a.1 (subst (λ (w : State). Q w b.0) (turns_append code turns a.0 _) b.1), subst (ArePlayingBy code limit u last) (append_assoc turns a.0 b.0) b.2)

-- none at all
pub none_on : (code : PlainCode) (limit : ℕ) (P : State → List Play → Type 0) (s : PlainShared) (all : Players) → ((st : State) → P st []) → GoOnBy code limit P s all s all
none_on code limit P s all h turns playing = ([], h (run_of code turns), subst (ArePlayingBy code limit s all) (sym (append-nil turns)) playing)

-- plays behind others
pub plays_append : (code : PlainCode) (limit : ℕ) (xs ys : List AnyPlay) (st : State) (us vs : List Play) → ArePlays code limit xs st us → ArePlays code limit ys (after_turns code us st) vs → ArePlays code limit (xs ++ ys) st (us ++ vs)
plays_append code limit [] ys st us vs e h = subst (λ l. ArePlays code limit ys st (l ++ vs)) (sym e) (subst (λ l. ArePlays code limit ys (after_turns code l st) vs) e h)
plays_append code limit (x ∷ xs) ys st us vs h g = (
  h.0,
  h.1 ++ vs,
  ap (λ l. l ++ vs) h.2 ∙ append_assoc h.0 h.1 vs,
  h.3,
  plays_append code limit xs ys (after_turns code h.0 st) h.1 vs h.4 (subst (λ (w : State). ArePlays code limit ys w vs) (ap (λ l. after_turns code l st) h.2 ∙ turns_append code h.0 h.1 st) g),
)

-- one play
pub one_play : (code : PlainCode) (limit : ℕ) (y : AnyPlay) (st : State) (us : List Play) → IsPlay code limit y st us → ArePlays code limit (y ∷ []) st us
one_play code limit y st us h = (us, [], sym (append-nil us), h, refl)

pub plays_more : (code : PlainCode) (limit : ℕ) (xs : List AnyPlay) (y : AnyPlay) (st : State) (us vs : List Play) → ArePlays code limit xs st us → IsPlay code limit y (after_turns code us st) vs → ArePlays code limit (xs ++ y ∷ []) st (us ++ vs)
plays_more code limit xs y st us vs h g = plays_append code limit xs (y ∷ []) st us vs h (one_play code limit y (after_turns code us st) vs g)

-- a play has a turn at least
pub some_turns : (y : AnyPlay) (n : ℕ) → n ≡ most_turns y → 0 < n
some_turns (play.Turn k) n e = omega (arith, e)
some_turns (play.Ask k) n e = omega (arith, e)

-- ---- asks

-- one ask more
pub asks_more : (k n : ℕ) → asks_from k n ++ play.Ask (k + n) ∷ [] ≡ asks_from k (suc n)
asks_more k zero = ap (λ i. play.Ask i ∷ []) (omega arith)
asks_more k (suc n) = ap (λ l. play.Ask k ∷ l) (ap (λ i. asks_from (suc k) n ++ play.Ask i ∷ []) (omega arith) ∙ asks_more (suc k) n)

pub asks_split : (k m n : ℕ) → asks_from k (m + n) ≡ asks_from k m ++ asks_from (k + m) n
asks_split k zero n = let e : 0 + n ≡ n = omega arith in let f : k ≡ k + 0 = omega arith in ap (asks_from k) e ∙ ap (λ i. asks_from i n) f
asks_split k (suc m) n = let e : suc m + n ≡ suc (m + n) = omega arith in ap (asks_from k) e ∙ ap (λ l. play.Ask k ∷ l) (asks_split (suc k) m n ∙ ap (λ i. asks_from (suc k) m ++ asks_from i n) (omega arith))

-- asks of actors that have ended are no turns
pub asks_none : (code : PlainCode) (limit k n : ℕ) (st : State) → ((j : ℕ) → k ≤ j → j < k + n → own_turns code limit j (2 ^ 64 - 1) st ≡ []) → ArePlays code limit (asks_from k n) st []
asks_none code limit k zero st h = refl
asks_none code limit k (suc n) st h = ([], [], refl, inl (sym (h k (omega arith) (omega arith))), asks_none code limit (suc k) n st (λ j p q. h j (omega (arith, p)) (omega (arith, q))))

pub asks_at : (code : PlainCode) (limit from : ℕ) (st : State) → ArePlays code limit (asks_from from (from - from)) st []
asks_at code limit from st = let e : from - from ≡ 0 = omega arith in subst (λ n. ArePlays code limit (asks_from from n) st []) (sym e) refl

pub asks_next : (from k : ℕ) → from ≤ k → asks_from from (k - from) ++ play.Ask k ∷ [] ≡ asks_from from (k + 1 - from)
asks_next from k h =
    let e : from + (k - from) ≡ k = omega (arith, h) in
    let f : suc (k - from) ≡ k + 1 - from = omega (arith, h) in
    ap (λ i. asks_from from (k - from) ++ play.Ask i ∷ []) (sym e) ∙ asks_more from (k - from) ∙ ap (asks_from from) f

-- ---- rounds

-- these are the turns of some rounds, behind which there are others: those of the others follow them
abbrev pub LeadRounds : PlainCode → ℕ → State → List Play → Type 0
LeadRounds code limit st us = (n : ℕ) (ws : List Play) → AreRounds code limit n (after_turns code us st) ws → (m : ℕ) × AreRounds code limit m st (us ++ ws)

-- so many rounds behind turns that lead to them
pub rounds_lead : (code : PlainCode) (limit : ℕ) (st : State) (us vs : List Play) → LeadRounds code limit st us → LeadRounds code limit (after_turns code us st) vs → LeadRounds code limit st (us ++ vs)
rounds_lead code limit st us vs f g n ws h =
    let r = g n ws (subst (λ (w : State). AreRounds code limit n w ws) (turns_append code us vs st) h) in
    let q = f r.0 (vs ++ ws) r.1 in
    (q.0, subst (AreRounds code limit q.0 st) (sym (append_assoc us vs ws)) q.1)

pub no_rounds : (code : PlainCode) (limit : ℕ) (st : State) → LeadRounds code limit st []
no_rounds code limit st n ws h = (n, h)

-- one round leads to others
pub round_leads : (code : PlainCode) (limit actors : ℕ) (st : State) (us : List Play) → actors ≡ actors_of code → (IsOver code st → ⊥) → ArePlays code limit (asks_from 0 actors) st us → LeadRounds code limit st us
round_leads code limit actors st us e going h n ws r = (suc n, (going, us, ws, refl, subst (λ m. ArePlays code limit (asks_from 0 m) st us) e h, r))

-- they end where the run is over
pub rounds_end : (code : PlainCode) (limit : ℕ) (st : State) (us : List Play) → LeadRounds code limit st us → IsOver code (after_turns code us st) → AreRoundsIf code limit true st us
rounds_end code limit st us f over = let r = f 0 [] (over, refl) in (r.0, subst (AreRounds code limit r.0 st) (append-nil us) r.1)

-- ---- who goes on

abbrev is_some : {A : Type 0} → Option A → Type 0
is_some None = ⊥
is_some (Some x) = Unit {0}

abbrev or_else : {A : Type 0} → A → Option A → A
or_else d None = d
or_else d (Some x) = x

within_of : {A : Type 0} (xs : List A) (k : ℕ) (x : A) → nth xs k ≡ Some x → k < length xs
within_of [] k x e = absurd (subst is_some (sym e) tt)
within_of (y ∷ xs) zero x e = omega arith
within_of (y ∷ xs) (suc k) x e = let r = within_of xs k x e in omega (arith, r)

there_at : {A : Type 0} (xs : List A) (k : ℕ) → k < length xs → (x : A) × (nth xs k ≡ Some x)
there_at [] k h = absurd (omega (arith, h))
there_at (x ∷ xs) zero h = (x, refl)
there_at (x ∷ xs) (suc k) h = there_at xs k (omega (arith, h))

-- an actor that goes on hasn't ended
going_none : (a : PlainActor) (o : Option Outcome) (at : Turned Configuration) (why : Option Stop) → IsPlacedAs a o at why → GoesOn at why → o ≡ None
going_none a None at why h g = refl
going_none a (Some outcome.Done) at why h g = absurd (subst (λ t. GoesOn t why) h.0 g)
going_none a (Some (outcome.Failed f)) at why h g = absurd (subst (λ t. GoesOn t why) h.0 g)
going_none a (Some outcome.StepsSpent) at why h g = absurd (subst (λ w. GoesOn (Unfinished (configuration_of a)) w) h.1 (subst (λ t. GoesOn t why) h.0 g))
going_none a (Some outcome.JournalFull) at why h g = absurd (subst (λ w. GoesOn (Unfinished h.0) w) h.3 (subst (λ t. GoesOn t why) h.1 g))
going_none a (Some outcome.Memory) at why h g = absurd (subst (λ w. GoesOn (Unfinished h.0) w) h.3 (subst (λ t. GoesOn t why) h.1 g))

-- and one that hasn't ended goes on
none_going : (a : PlainActor) (at : Turned Configuration) (why : Option Stop) → a.outcome ≡ None → IsPlacedAs a a.outcome at why → GoesOn at why
none_going a at why e h =
    let p = subst (λ o. IsPlacedAs a o at why) e h in
    subst (λ t. GoesOn t why) (sym p.0) (subst (λ w. GoesOn (Unfinished (configuration_of a)) w) (sym p.1) tt)

ended_there : (xs : List Player) (k : ℕ) (x : Player) → AllEnded xs → nth xs k ≡ Some x → x.actor.outcome ≡ None → ⊥
ended_there [] k x h e = absurd (subst is_some (sym e) tt)
ended_there (y ∷ xs) zero x h e = subst (λ (z : Player). z.actor.outcome ≡ None → ⊥) (ap (or_else y) e) h.0
ended_there (y ∷ xs) (suc k) x h e = ended_there xs k x h.1 e

idle_there : (code : PlainCode) (s : PlainShared) (xs : List AgentPlayer) (i : ℕ) (x : AgentPlayer) → AreIdle code s xs → nth xs i ≡ Some x → x.player.actor.outcome ≡ None → HasWork code s x.agent → ⊥
idle_there code s [] i x h e = absurd (subst is_some (sym e) tt)
idle_there code s (y ∷ xs) zero x h e = subst (λ (z : AgentPlayer). z.player.actor.outcome ≡ None → HasWork code s z.agent → ⊥) (ap (or_else y) e) h.0
idle_there code s (y ∷ xs) (suc i) x h e = idle_there code s xs i x h.1 e

before_there : (k : ℕ) (xs : List Player) (j : ℕ) (x : Player) → HaveEndedBefore k xs → j < k → nth xs j ≡ Some x → x.actor.outcome ≡ None → ⊥
before_there zero xs j x h l e = absurd (omega (arith, l))
before_there (suc k) [] j x h l e = absurd (subst is_some (sym e) tt)
before_there (suc k) (y ∷ xs) zero x h l e = subst (λ (z : Player). z.actor.outcome ≡ None → ⊥) (ap (or_else y) e) h.0
before_there (suc k) (y ∷ xs) (suc j) x h l e = before_there k xs j x h.1 (omega (arith, l)) e

module _ (code : PlainCode) (limit : ℕ) (s : PlainShared) (all : Players) (turns : List Play) (h : ArePlayingBy code limit s all turns) where
  abbrev st : State
  st = run_of code turns

  next_in : (g : CellId) → next_action (cells_of code.cells) (books_of s 0) g ≡ next_action (cells_of code.cells) (st.shared.books 0) g
  next_in g = ap (λ (sh : Shared). next_action (cells_of code.cells) (sh.books 0) g) h.run.shared

  -- where all threads have ended and no agent has something to do the run is over
  pub over_is : AllEnded all.threads.items → AreIdle code s all.agents.items → IsOver code st
  over_is ended idle = record { threads = λ k within going. of_thread k within going; agents = λ i g named going. of_agent i g named going }
    where
      of_thread : (k : ℕ) → k < length code.threads → IsGoing (st.actors k) → ⊥
      of_thread k within going =
          let x = there_at all.threads.items k (let m = h.many in omega (arith, within, m)) in
          let p = h.run.threads k x.0 x.1 in
          ended_there all.threads.items k x.0 ended x.1 (going_none x.0.actor x.0.actor.outcome (st.actors k).at (st.actors k).stopped p.placed going)

      no_next : (i : ℕ) (g : CellId) (x : AgentPlayer) → nth all.agents.items i ≡ Some x → x.agent ≡ g → x.player.actor.outcome ≡ None → (o : Option Action) → next_action (cells_of code.cells) (books_of s 0) g ≡ o → o ≡ None
      no_next i g x e same none None f = refl
      no_next i g x e same none (Some y) f = absurd (idle_there code s all.agents.items i x idle e none (subst (HasWork code s) (sym same) (y, f)))

      of_agent : (i : ℕ) (g : CellId) → nth (agents_of code) i ≡ Some g → IsGoing (st.actors (length code.threads + i)) → next_action (cells_of code.cells) (st.shared.books 0) g ≡ None
      of_agent i g named going =
          let x = there_at all.agents.items i (let m = as_attending code limit (length code.threads) (agents_of code) all.agents.items h.agents in let l = within_of (agents_of code) i g named in omega (arith, m, l)) in
          let a = attending_at code limit (length code.threads) i (agents_of code) all.agents.items x.0 h.agents x.1 in
          let p = h.run.agents i x.0 x.1 in
          let none = going_none x.0.player.actor x.0.player.actor.outcome (st.actors (length code.threads + i)).at (st.actors (length code.threads + i)).stopped p.placed going in
          sym (next_in g) ∙ no_next i g x.0 x.1 (a.2.agent ∙ ap (or_else g) (sym a.1 ∙ named)) none (next_action (cells_of code.cells) (books_of s 0) g) refl

  -- where one goes on that has something to do it isn't
  pub not_over : (k : ℕ) → IsLive code s all k → IsOver code st → ⊥
  not_over k (inl u) over =
      let m = h.many in
      let l = within_of all.threads.items k u.0 u.1 in
      over.threads k (omega (arith, m, l)) (none_going u.0.actor (st.actors k).at (st.actors k).stopped u.2 (h.run.threads k u.0 u.1).placed)
  not_over k (inr u) over =
      let x = u.2 in
      let a = attending_at code limit (length code.threads) u.0 (agents_of code) all.agents.items x h.agents u.3 in
      let going = none_going x.player.actor (st.actors (length code.threads + u.0)).at (st.actors (length code.threads + u.0)).stopped u.4 (h.run.agents u.0 x u.3).placed in
      subst is_some (sym (ap (next_action (cells_of code.cells) (books_of s 0)) (sym a.2.agent) ∙ u.5.1) ∙ (next_in a.0 ∙ over.agents u.0 a.0 a.1 going)) tt

  -- asks of the threads before one, which have ended, are no turns
  pub before_none : (k : ℕ) → k ≤ length all.threads.items → HaveEndedBefore k all.threads.items → ArePlays code limit (asks_from 0 k) st []
  before_none k within ended = asks_none code limit 0 k st (λ j p q. at j (omega (arith, q)))
    where
      at : (j : ℕ) → j < k → own_turns code limit j (2 ^ 64 - 1) st ≡ []
      at j below =
          let x = there_at all.threads.items j (omega (arith, below, within)) in
          by x.0 (before_there k all.threads.items j x.0 ended below x.1) (h.run.threads j x.0 x.1) x.0.actor.outcome refl
        where
          by : (x : Player) → (x.actor.outcome ≡ None → ⊥) → IsPlayerOf code j (books_of s) x.actor x.trace.items (st.actors j) → (o : Option Outcome) → x.actor.outcome ≡ o → own_turns code limit j (2 ^ 64 - 1) st ≡ []
          by x n p None e = absurd (n e)
          by x n p (Some o) e = ended_turns code limit j (2 ^ 64 - 1) st x.actor o e p.placed

-- ---- reports

-- how an actor ended is how a run's did
outcome_so : (a : PlainActor) (o : Option Outcome) (at : Turned Configuration) (why : Option Stop) → IsPlacedAs a o at why → o ≡ outcome_of at why
outcome_so a None at why h = sym (ap (λ t. outcome_of t why) h.0 ∙ ap (λ w. outcome_of (Unfinished (configuration_of a)) w) h.1)
outcome_so a (Some outcome.Done) at why h = sym (ap (λ t. outcome_of t why) h.0)
outcome_so a (Some (outcome.Failed f)) at why h = sym (ap (λ t. outcome_of t why) h.0)
outcome_so a (Some outcome.StepsSpent) at why h = sym (ap (λ t. outcome_of t why) h.0 ∙ ap (λ w. outcome_of (Unfinished (configuration_of a)) w) h.1)
outcome_so a (Some outcome.JournalFull) at why h = sym (ap (λ t. outcome_of t why) h.1 ∙ ap (λ w. outcome_of (Unfinished h.0) w) h.3)
outcome_so a (Some outcome.Memory) at why h = sym (ap (λ t. outcome_of t why) h.1 ∙ ap (λ w. outcome_of (Unfinished h.0) w) h.3)

-- and so is what it has printed
printed_so : (a : PlainActor) (o : Option Outcome) (at : Turned Configuration) (why : Option Stop) → IsPlacedAs a o at why → a.printed ≡ printed_at at
printed_so a None at why h = sym (ap printed_at h.0)
printed_so a (Some outcome.Done) at why h = sym (ap printed_at h.0)
printed_so a (Some (outcome.Failed f)) at why h = sym (ap printed_at h.0)
printed_so a (Some outcome.StepsSpent) at why h = sym (ap printed_at h.0)
printed_so a (Some outcome.JournalFull) at why h = sym (ap printed_at h.1 ∙ ap (λ (u : ActorState). u.printed) h.2)
printed_so a (Some outcome.Memory) at why h = sym (ap printed_at h.1 ∙ ap (λ (u : ActorState). u.printed) h.2)

-- it wasn't stopped since an ask was unlawful
abbrev is_lawful : Option Stop → Type 0
is_lawful None = Unit {0}
is_lawful (Some JournalFull) = Unit {0}
is_lawful (Some Memory) = Unit {0}
is_lawful (Some TurnsSpent) = Unit {0}
is_lawful (Some Unlawful) = ⊥

lawful_so : (a : PlainActor) (o : Option Outcome) (at : Turned Configuration) (why : Option Stop) → IsPlacedAs a o at why → is_lawful why
lawful_so a None at why h = subst is_lawful (sym h.1) tt
lawful_so a (Some outcome.Done) at why h = subst is_lawful (sym h.1) tt
lawful_so a (Some (outcome.Failed f)) at why h = subst is_lawful (sym h.1) tt
lawful_so a (Some outcome.StepsSpent) at why h = subst is_lawful (sym h.1) tt
lawful_so a (Some outcome.JournalFull) at why h = subst is_lawful (sym h.3) tt
lawful_so a (Some outcome.Memory) at why h = subst is_lawful (sym h.3) tt

-- an entry is that of its actor in the run
pub entry_so : (code : PlainCode) (books : ℕ → List Event) (k : ℕ) (x : Player) (y : Actor) (r : ActorReport) → IsPlayerOf code k books x.actor x.trace.items y → IsReported code x r → IsEntryOf code books k y r
entry_so code books k x y r p rep = record {
  ended = sym rep.ended ∙ outcome_so x.actor x.actor.outcome y.at y.stopped p.placed;
  printed = sym rep.printed ∙ printed_so x.actor x.actor.outcome y.at y.stopped p.placed;
  counted = sym rep.counted ∙ p.counted;
  traced = ap places_of (sym rep.traced) ∙ p.traced;
  lawful = λ e. subst is_lawful e (lawful_so x.actor x.actor.outcome y.at y.stopped p.placed);
}

-- a report of players is that of the run by their turns
pub scheduled_so : (code : PlainCode) (limit : ℕ) (ys : List AnyPlay) (rounds : Bool) (s : PlainShared) (all : Players) (turns : List Play) (ts rs : List ActorReport) → AreScheduled code limit ys rounds turns → ArePlayingBy code limit s all turns
    → AreReported code all.threads.items ts → AreReported code (attendants all.agents.items) rs → IsScheduledRun code limit ys rounds s ts rs
scheduled_so code limit ys rounds s all turns ts rs made h threads agents = record {
  turns = turns;
  scheduled = made;
  shared = h.run.shared;
  threads_are = λ k r e. (let x = reported_at code all.threads.items ts k r threads e in entry_so code (books_of s) k x.0 ((run_of code turns).actors k) r (h.run.threads k x.0 x.1) x.2);
  agents_are = λ i r e. (
      let x = reported_at code (attendants all.agents.items) rs i r agents e in
      let y = attendant_at all.agents.items i x.0 x.1 in
      entry_so code (books_of s) (length code.threads + i) y.0.player ((run_of code turns).actors (length code.threads + i)) r (h.run.agents i y.0 y.1) (subst (λ z. IsReported code z r) (sym y.2) x.2));
}

-- ---- what a round leaves

at_or_past : (k j : ℕ) → k ≤ j → (k ≡ j) ⊎ (k + 1 ≤ j)
at_or_past zero zero h = inl refl
at_or_past zero (suc j) h = inr (omega arith)
at_or_past (suc k) zero h = absurd (omega (arith, h))
at_or_past (suc k) (suc j) h = go (at_or_past k j (omega (arith, h)))
  where
    go : (k ≡ j) ⊎ (k + 1 ≤ j) → (suc k ≡ suc j) ⊎ (suc k + 1 ≤ suc j)
    go (inl e) = inl (ap suc e)
    go (inr l) = inr (omega (arith, l))

live_same : (code : PlainCode) (s t : PlainShared) (all next : Players) (j : ℕ) → next.threads.items ≡ all.threads.items → next.agents.items ≡ all.agents.items → t ≡ s → IsLive code s all j → IsLive code t next j
live_same code s t all next j e f g (inl u) = inl (u.0, subst (λ xs. nth xs j ≡ Some u.0) (sym e) u.1, u.2)
live_same code s t all next j e f g (inr u) =
    inr (u.0, u.1 ∙ ap (λ (xs : List Player). length xs + u.0) (sym e), u.2, subst (λ xs. nth xs u.0 ≡ Some u.2) (sym f) u.3, u.4, subst (λ x. HasWork code x u.2.agent) (sym g) u.5)

-- one that goes on and has something to do is before the next play, or a play has left less to do
pub live_still : (code : PlainCode) (k j : ℕ) (s t : PlainShared) (first all next : Players) → left_all all ≤ left_all first → left_all next ≤ left_all all → (IsLive code s all k → left_all next < left_all all)
    → (left_all next < left_all all) ⊎ ((next.threads.items ≡ all.threads.items) × (next.agents.items ≡ all.agents.items) × (t ≡ s))
    → (left_all all < left_all first) ⊎ ((k ≤ j) × IsLive code s all j) → (left_all next < left_all first) ⊎ ((k + 1 ≤ j) × IsLive code t next j)
live_still code k j s t first all next before left live still (inl l) = inl (omega (arith, left, l))
live_still code k j s t first all next before left live still (inr h) = go still (at_or_past k j h.0)
  where
    go : (left_all next < left_all all) ⊎ ((next.threads.items ≡ all.threads.items) × (next.agents.items ≡ all.agents.items) × (t ≡ s)) → (k ≡ j) ⊎ (k + 1 ≤ j) → (left_all next < left_all first) ⊎ ((k + 1 ≤ j) × IsLive code t next j)
    go (inl l) p = inl (omega (arith, before, l))
    go (inr e) (inl p) = let l = live (subst (IsLive code s all) (sym p) h.1) in inl (omega (arith, before, l))
    go (inr e) (inr p) = inr (p, live_same code s t all next j e.0 e.1 e.2 h.1)

live_within : (code : PlainCode) (s : PlainShared) (all : Players) (j : ℕ) → IsLive code s all j → j < length all.threads.items + length all.agents.items
live_within code s all j (inl u) = let l = within_of all.threads.items j u.0 u.1 in omega (arith, l)
live_within code s all j (inr u) = let l = within_of all.agents.items u.0 u.2 u.3 in let e = u.1 in omega (arith, l, e)

-- behind the last there is none
pub live_below : (code : PlainCode) (k j : ℕ) (all : Players) (first : ℕ) (s : PlainShared) → length all.threads.items + length all.agents.items ≤ k → (left_all all < first) ⊎ ((k ≤ j) × IsLive code s all j) → left_all all < first
live_below code k j all first s past (inl l) = l
live_below code k j all first s past (inr h) = let w = live_within code s all j h.1 in let p = h.0 in absurd (omega (arith, w, p, past))

-- a round from an actor on before which all have ended
pub first_round : (code : PlainCode) (limit k j n : ℕ) (s : PlainShared) (all : Players) (turns us : List Play) → ArePlayingBy code limit s all turns → n ≡ actors_of code → k ≤ n → k ≤ length all.threads.items → HaveEndedBefore k all.threads.items → IsLive code s all j
    → ArePlays code limit (asks_from k (n - k)) (run_of code turns) us → LeadRounds code limit (run_of code turns) us
first_round code limit k j n s all turns us h many within below ended live made =
    let e : k + (n - k) ≡ n = omega (arith, within) in
    let z : 0 + k ≡ k = omega arith in
    round_leads code limit n (run_of code turns) us many (not_over code limit s all turns h j live)
    (subst (λ m. ArePlays code limit (asks_from 0 m) (run_of code turns) us) e
    (subst (λ ys. ArePlays code limit ys (run_of code turns) us) (sym (asks_split 0 k (n - k)))
    (plays_append code limit (asks_from 0 k) (asks_from (0 + k) (n - k)) (run_of code turns) [] us (before_none code limit s all turns h k below ended) (subst (λ i. ArePlays code limit (asks_from i (n - k)) (run_of code turns) us) (sym z) made))))

-- rounds that aren't made
pub stays : (code : PlainCode) (limit : ℕ) (s : PlainShared) (all : Players) → GoOnBy code limit (LeadRounds code limit) s all s all
stays code limit s all = none_on code limit (LeadRounds code limit) s all (λ st. no_rounds code limit st)

-- how many actors there are
pub actors_all : (code : PlainCode) (limit : ℕ) (s : PlainShared) (all : Players) (turns : List Play) → ArePlayingBy code limit s all turns → (n : ℕ) → n ≡ length all.threads.items + length all.agents.items → n ≡ actors_of code
actors_all code limit s all turns h n e = let m = h.many in let l = as_attending code limit (length code.threads) (agents_of code) all.agents.items h.agents in omega (arith, e, m, l)

-- where no rounds are wanted there is none
pub unwanted : (code : PlainCode) (limit : ℕ) (wanted : Bool) (st : State) → wanted ≡ false → AreRoundsIf code limit wanted st []
unwanted code limit wanted st e = subst (λ b. AreRoundsIf code limit b st []) (sym e) refl

-- where they are, they end where the run is over
pub rounds_made : (code : PlainCode) (limit : ℕ) (wanted : Bool) (s t : PlainShared) (all next : Players) → GoOnBy code limit (LeadRounds code limit) s all t next → wanted ≡ true → AllEnded next.threads.items → AreIdle code t next.agents.items → GoOnBy code limit (AreRoundsIf code limit wanted) s all t next
rounds_made code limit wanted s t all next g w ended idle = subst (λ b. GoOnBy code limit (AreRoundsIf code limit b) s all t next) (sym w) (λ turns h. made turns (g turns h))
  where
    made : (turns : List Play) → (us : List Play) × LeadRounds code limit (run_of code turns) us × ArePlayingBy code limit t next (turns ++ us) → (us : List Play) × AreRoundsIf code limit true (run_of code turns) us × ArePlayingBy code limit t next (turns ++ us)
    made turns a = (a.0, rounds_end code limit (run_of code turns) a.0 a.1 (subst (IsOver code) (turns_append code turns a.0 _) (over_is code limit t next (turns ++ a.0) a.2 ended idle)), a.2)

pub all_before : (k : ℕ) (xs : List Player) → AllEnded xs → HaveEndedBefore k xs
all_before zero xs h = tt
all_before (suc k) [] h = tt
all_before (suc k) (x ∷ xs) h = (h.0, all_before k xs h.1)

pub before_take : (k : ℕ) (xs : List Player) → AllEnded (take k xs) → HaveEndedBefore k xs
before_take zero xs h = tt
before_take (suc k) [] h = tt
before_take (suc k) (x ∷ xs) h = (h.0, before_take k xs h.1)
