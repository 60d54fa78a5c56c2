-- Turns of an actor that follows a history.
use Rattle.std.proofs.Common.{◌≡◌, ◌+◌, ◌⊎◌, ℕ, zero, suc, Bool, true, false, nat_lt, List, [], length, Option, Some, None, refl, sym, ap, subst, ◌∙◌, inl, inr, arith}
use Rattle.txs_world_protocol.specs.declared.event.Outcome.{Outcome}
use Rattle.txs_world_protocol.specs.declared.event.Outcome.TheVariants as outcome
use Rattle.txs_world_protocol.specs.declared.event.Place.{Place}
use Rattle.txs_code_meaning.specs.Machine.{ThreadCode, Configuration, Turned, Ended, Failed, Unfinished, turn}
use Rattle.txs_code_meaning.specs.Opening.{opening}
use Rattle.txs_code_meaning.specs.PlainCode.{PlainCode}
use Rattle.txs_machine_actor.specs.Laws.{ActorsRun}
use Rattle.txs_machine_actor.specs.PlainActor.{PlainActor, Lives, configuration_of, state_of, code_of, unanswered, Awaits}
use Rattle.txs_machine_actor.specs.Turns.{Answers, Moves, Says, TurnsFrom, GoesOnAfter, TurnsOf, IsNew}
use Rattle.txs_machine_actor.specs.declared.outcome.Turn.{Turn}
use Rattle.txs_machine_actor.specs.declared.outcome.Turn.TheVariants as turned
use Rattle.txs_theorem_runs.specs.Goes.{AsksNothing}
use Rattle.txs_theorem_runs.specs.Lawful.{TypedStands}
use Rattle.txs_theorem_runs.specs.Run as run
use Rattle.txs_theorem_runs.specs.Run.{Actor, comes_to, new_actor, stop}
use Rattle.txs_theorem_runs.specs.Told.{AllHold, trace_of}
use Rattle.txs_code_meaning.specs.WellTyped.{WellTyped}
use Rattle.txs_history.specs.Following.{FollowsAll, IsAt, IsLeft, Strolls}
use Rattle.txs_history.specs.Asked.{History, shared_by}
use Rattle.txs_history.proofs.Following.{new_follows, follows_strolls, follows_stops, strolls_join}
use Rattle.txs_machine.specs.Running.{IsPlacedAs}
use Rattle.txs_machine.specs.RunOver.{places_of}
use Rattle.txs_machine.specs.Scheduled.{steps_by}
use Rattle.txs_machine.proofs.Going.{full_never}
use Rattle.txs_machine.proofs.RunOver.{Unfilled}
use Rattle.txs_history_run.specs.Actor.{IsFollowing, IsOn, IsWaiting}
use Rattle.txs_history_run.proofs.On.{new_on, turns_on, ended_free}

-- ---- where turns lead

module _ (code : PlainCode) (k : ℕ) where
  abbrev kd : ThreadCode
  kd = code_of code k

  -- where the answer of a turn leaves a run's actor, which made turns that ask nothing: one that ended may have been stopped there
  abbrev Lands : PlainActor → Turn → Actor → Type 0
  Lands b turned.Went w = (w.at ≡ Unfinished (configuration_of b)) × (w.stopped ≡ None) × (b.outcome ≡ None) × (b.steps ≡ w.turns)
  Lands b (turned.Asks q) w = (c : Configuration) × IsAt w c × Awaits kd c b q × (b.steps ≡ suc w.turns)
  Lands b (turned.Ended o) w = (y : Actor) × IsLeft w y × (y.entries ≡ w.entries) × (b.outcome ≡ Some o) × IsPlacedAs b (Some o) y.at y.stopped × (b.steps ≡ steps_by y.stopped y.turns)

  -- turns that ask nothing lead a run's actor to where the last of these turns leaves it
  record Led (x : Actor) (r : Turn) (b : PlainActor) : Type 0 where
    many : ℕ
    to : Actor
    strolls : Strolls kd many x to
    entries : to.entries ≡ x.entries
    number : b.number ≡ k
    lands : Lands b r to

  -- what is known of an actor and a run's before a turn
  record Begins (a : PlainActor) (x : Actor) : Type 0 where
    number : a.number ≡ k
    counted : a.steps ≡ x.turns
    at : x.at ≡ Unfinished (configuration_of a)
    free : x.stopped ≡ None

  step_more : (a b : PlainActor) (x : Actor) → Begins a x → b.steps ≡ a.steps + 1 → b.steps ≡ suc x.turns
  step_more a b x h e = let c = h.counted in omega (arith, e, c)

  -- one turn that asks nothing
  one_on : (a b : PlainActor) (r : Turn) (x : Actor) (o : Turned Configuration) → Begins a x → turn kd (configuration_of a) ≡ o → AsksNothing o → b.number ≡ k → Lands b r (comes_to (turn kd (configuration_of a)) x) → Led x r b
  one_on a b r x o h is nothing n l = record {
    many = 1;
    to = comes_to (turn kd (configuration_of a)) x;
    strolls = (configuration_of a, record { at = h.at; going = h.free }, subst AsksNothing (sym is) nothing, refl);
    entries = refl;
    number = n;
    lands = l;
  }

  -- an end that the code came to
  ended_on : (a b : PlainActor) (x : Actor) (oc : Outcome) (o : Turned Configuration) → Begins a x → turn kd (configuration_of a) ≡ o → AsksNothing o → b.number ≡ k → b.outcome ≡ Some oc → b.steps ≡ a.steps + 1 → IsPlacedAs b (Some oc) o None → Led x (turned.Ended oc) b
  ended_on a b x oc o h is nothing n out steps placed =
      one_on a b (turned.Ended oc) x o h is nothing n (
        comes_to (turn kd (configuration_of a)) x,
        inl refl,
        refl,
        out,
        subst (λ t. IsPlacedAs b (Some oc) t x.stopped) (sym is) (subst (IsPlacedAs b (Some oc) o) (sym h.free) placed),
        step_more a b x h steps ∙ ap (λ w. steps_by w (suc x.turns)) (sym h.free),
      )

  -- where an actor was stopped
  stopped_on : (a b : PlainActor) (x : Actor) (oc : Outcome) (why : run.Stop) → Begins a x → b.number ≡ k → b.outcome ≡ Some oc → IsPlacedAs b (Some oc) (Unfinished (configuration_of a)) (Some why) → b.steps ≡ steps_by (Some why) x.turns → Led x (turned.Ended oc) b
  stopped_on a b x oc why h n out placed counts = record {
    many = 0;
    to = x;
    strolls = refl;
    entries = refl;
    number = n;
    lands = (stop why x, inr (why, configuration_of a, record { at = h.at; going = h.free }, refl), refl, out, subst (λ t. IsPlacedAs b (Some oc) t (Some why)) (sym h.at) placed, counts);
  }

  step_led : (a b : PlainActor) (r : Turn) (x : Actor) → Begins a x → Answers code a r b → Led x r b
  step_led a b turned.Went x h t =
      let is = subst (λ i. turn (code_of code i) (configuration_of a) ≡ Unfinished (configuration_of b)) h.number t.0 in
      one_on a b turned.Went x (Unfinished (configuration_of b)) h is tt (t.1.number ∙ h.number) (is, h.free, t.1.outcome, step_more a b x h t.1.counted)
  step_led a b (turned.Asks q) x h t =
      let w = subst (λ i. Awaits (code_of code i) (configuration_of a) b q) h.number t.0 in
      record {
        many = 0;
        to = x;
        strolls = refl;
        entries = refl;
        number = t.1.number ∙ h.number;
        lands = (configuration_of a, record { at = h.at; going = h.free }, w, step_more a b x h t.1.counted);
      }
  step_led a b (turned.Ended outcome.Done) x h t =
      let is = subst (λ i. turn (code_of code i) (configuration_of a) ≡ Ended (state_of b)) h.number t.0 in
      ended_on a b x outcome.Done (Ended (state_of b)) h is tt (t.1.number ∙ h.number) t.1.outcome t.1.counted (refl, refl)
  step_led a b (turned.Ended (outcome.Failed f)) x h t =
      let is = subst (λ i. turn (code_of code i) (configuration_of a) ≡ Failed f (state_of b)) h.number t.0 in
      ended_on a b x (outcome.Failed f) (Failed f (state_of b)) h is tt (t.1.number ∙ h.number) t.1.outcome t.1.counted (refl, refl)
  step_led a b (turned.Ended outcome.StepsSpent) x h t = absurd t
  step_led a b (turned.Ended outcome.JournalFull) x h t = absurd t
  step_led a b (turned.Ended outcome.Memory) x h t =
      stopped_on a b x outcome.Memory run.Memory h (t.1.number ∙ h.number) t.1.outcome (configuration_of a, refl, t.0, refl) (step_more a b x h t.1.counted)

  move_led : (a b : PlainActor) (r : Turn) (may : Bool) (x : Actor) → Begins a x → Moves code a may r b → Led x r b
  move_led a b r true x h t = step_led a b r x h t
  move_led a b r false x h t =
      subst (λ s. Led x s b) (sym t.0) (subst (λ y. Led x (turned.Ended outcome.StepsSpent) y) (sym t.1)
      (stopped_on a (record a { outcome = Some outcome.StepsSpent }) x outcome.StepsSpent run.TurnsSpent h h.number refl (refl, refl) h.counted))

  then_led : (x : Actor) (c b : PlainActor) (r : Turn) → (l : Led x turned.Went c) → Led l.to r b → Led x r b
  then_led x c b r l h =
      let s = strolls_join kd l.many h.many x l.to h.to l.strolls h.strolls in
      record {
        many = s.0;
        to = h.to;
        strolls = s.1;
        entries = h.entries ∙ l.entries;
        number = h.number;
        lands = h.lands;
      }

  -- so many turns lead a run's actor to where the last leads
  turns_led : (n : ℕ) (a b : PlainActor) (r : Turn) (x : Actor) → a.outcome ≡ None → Begins a x → TurnsOf code n a r b → Led x r b
  turns_led zero a b r x e h t =
      subst (λ s. Led x s b) (sym t.0) (subst (λ y. Led x turned.Went y) (sym t.1)
      (record { many = 0; to = x; strolls = refl; entries = refl; number = h.number; lands = (h.at, h.free, e, h.counted) }))
  turns_led (suc m) a b r x e h t =
      let moves = subst (λ o. TurnsFrom code a o t.0 t.1) e t.2 in
      go (λ c u i o x. turns_led m c b r u i o x) t.0 t.1 (move_led a t.1 t.0 (nat_lt a.steps a.limit) x h moves) t.3
    where
      go : ((c : PlainActor) (u : Actor) → c.outcome ≡ None → Begins c u → TurnsOf code m c r b → Led u r b)
          → (s : Turn) (c : PlainActor) → Led x s c → GoesOnAfter s (TurnsOf code m c r b) ((r ≡ s) × (b ≡ c)) → Led x r b
      go more turned.Went c l g = then_led x c b r l (more c l.to l.lands.2 (record { number = l.number; counted = l.lands.3; at = l.lands.0; free = l.lands.1 }) g)
      go more (turned.Asks q) c l g = subst (λ s. Led x s b) (sym g.0) (subst (λ y. Led x (turned.Asks q) y) (sym g.1) l)
      go more (turned.Ended o) c l g = subst (λ s. Led x s b) (sym g.0) (subst (λ y. Led x (turned.Ended o) y) (sym g.1) l)

-- ---- an actor and its history

-- what an actor is after turns, by what the last of them came to
abbrev pub IsTurned : PlainCode → Turn → PlainActor → List Place → ℕ → History → Type 0
IsTurned code turned.Went b tr m h = IsFollowing code b tr m h
IsTurned code (turned.Asks q) b tr m h = IsWaiting code b q tr m h
IsTurned code (turned.Ended o) b tr m h = IsFollowing code b tr m h

-- a new actor follows any history, of which it made no ask
pub new_following : ActorsRun → TypedStands → (code : PlainCode) (function_rooms thread_rooms : List ℕ) (limit : ℕ) (a : PlainActor) (tr : List Place) (h : History) → WellTyped code function_rooms thread_rooms → Lives code a → IsNew code a.number limit a → tr ≡ [] → IsFollowing code a tr 0 h
new_following laws law code function_rooms thread_rooms limit a tr h well lives n none =
    let on = new_on laws law code function_rooms thread_rooms limit a well n in
    record {
      lives = lives;
      place = new_actor (code_of code a.number);
      follows = new_follows code.cells (length code.threads) (code_of code a.number) a.number h;
      hold = tt;
      is = record {
        number = refl;
        waits = n.unasking;
        placed = subst (λ o. IsPlacedAs a o (Unfinished (opening (code_of code a.number) [])) None) (sym n.unended) (ap (λ c. Unfinished c) (sym n.opens), refl);
        ran = on.ran;
        counted = n.unused;
        traced = ap places_of none;
        full = λ x. absurd (subst Unfilled x (subst Unfilled (sym n.unended) tt));
        stops = λ x. absurd (subst Unfilled x (subst Unfilled (sym n.unended) tt));
      };
      on = on;
    }

module _ (laws : ActorsRun) (code : PlainCode) (n : ℕ) (a b : PlainActor) (r : Turn) (tr : List Place) (m : ℕ) (h : History) (idle : unanswered a ≡ None) (turns : TurnsOf code n a r b) (says : Says r b) (lives : Lives code b) (f : IsFollowing code a tr m h) where
  abbrev x : Actor
  x = f.place

  on_b : (b.number ≡ a.number) × IsOn code x.entries b
  on_b = turns_on laws code x.entries n a b r idle turns f.on

  -- the actor's number after the turns
  abbrev FollowsAs : ℕ → Actor → Type 0
  FollowsAs i y = FollowsAll code.cells (length code.threads) (code_of code i) i m h y

  module _ (going : a.outcome ≡ None) where
    begun : Begins code a.number a x
    begun =
        let p = subst (λ o. IsPlacedAs a o x.at x.stopped) going f.is.placed in
        record { number = refl; counted = f.is.counted ∙ ap (λ w. steps_by w x.turns) p.1; at = p.0; free = p.1 }

    led : Led code a.number x r b
    led = turns_led code a.number n a b r x going begun turns

    walked : (y : Actor) → FollowsAs a.number y → FollowsAs b.number y
    walked y g = subst (λ i. FollowsAs i y) (sym on_b.0) g

    strolled : FollowsAs a.number led.to
    strolled = follows_strolls code.cells (length code.threads) (code_of code a.number) a.number [] (new_actor (code_of code a.number)) m h x led.many led.to f.follows led.strolls

    left_so : (w y : Actor) → FollowsAs a.number w → IsLeft w y → FollowsAs a.number y
    left_so w y g (inl e) = subst (FollowsAs a.number) e g
    left_so w y g (inr s) = subst (FollowsAs a.number) (sym s.3) (follows_stops code.cells (length code.threads) (code_of code a.number) a.number [] (new_actor (code_of code a.number)) m h w s.1 s.0 g s.2)

    -- one that asks nothing, or has ended
    at_place : (y : Actor) → FollowsAs a.number y → y.entries ≡ x.entries → unanswered b ≡ None → IsPlacedAs b b.outcome y.at y.stopped → b.steps ≡ steps_by y.stopped y.turns → IsFollowing code b tr m h
    at_place y g e free placed counts =
        let on = subst (λ es. IsOn code es b) (sym e) on_b.1 in
        record {
          lives = lives;
          place = y;
          follows = walked y g;
          hold = subst (λ i. AllHold code.cells (length code.threads) (shared_by code.cells h).books i y.entries) (sym on_b.0) (subst (AllHold code.cells (length code.threads) (shared_by code.cells h).books a.number) (sym e) f.hold);
          is = record {
            number = refl;
            waits = free;
            placed = placed;
            ran = on.ran;
            counted = counts;
            traced = f.is.traced ∙ ap (trace_of code.cells (shared_by code.cells h).books a.number) (sym e) ∙ ap (λ i. trace_of code.cells (shared_by code.cells h).books i y.entries) (sym on_b.0);
            full = λ z. absurd (full_never code n a b r going turns z);
            stops = λ z. absurd (full_never code n a b r going turns z);
          };
          on = on;
        }

    turned_on : (s : Turn) → r ≡ s → Says s b → Lands code a.number b s led.to → IsTurned code s b tr m h
    turned_on turned.Went is free l =
        at_place led.to strolled led.entries free (subst (λ o. IsPlacedAs b o led.to.at led.to.stopped) (sym l.2) (l.0, l.1)) (l.3 ∙ ap (λ w. steps_by w led.to.turns) (sym l.1))
    turned_on (turned.Asks q) is waits l = record {
      lives = lives;
      going = waits.0;
      waits = waits.1;
      place = led.to;
      from = l.0;
      follows = walked led.to strolled;
      at = l.1;
      awaits = subst (λ i. Awaits (code_of code i) l.0 b q) (sym on_b.0) l.2;
      hold = subst (λ i. AllHold code.cells (length code.threads) (shared_by code.cells h).books i led.to.entries) (sym on_b.0) (subst (AllHold code.cells (length code.threads) (shared_by code.cells h).books a.number) (sym led.entries) f.hold);
      counted = l.3;
      traced = f.is.traced ∙ ap (trace_of code.cells (shared_by code.cells h).books a.number) (sym led.entries) ∙ ap (λ i. trace_of code.cells (shared_by code.cells h).books i led.to.entries) (sym on_b.0);
      on = subst (λ es. IsOn code es b) (sym led.entries) on_b.1;
    }
    turned_on (turned.Ended o) is out l =
        at_place l.0 (left_so led.to l.0 strolled l.1) (l.2 ∙ led.entries) (ended_free code b o lives out) (subst (λ p. IsPlacedAs b p l.0.at l.0.stopped) (sym l.3) l.4) l.5

  -- turns of an actor that goes on
  pub turned_so : a.outcome ≡ None → IsTurned code r b tr m h
  turned_so going = turned_on going r refl says (led going).lands

-- a turn of one that has ended leaves it, and asks nothing
ended_same : (code : PlainCode) (n : ℕ) (a b : PlainActor) (r : Turn) (o : Outcome) → a.outcome ≡ Some o → TurnsOf code n a r b → (b ≡ a) × ((r ≡ turned.Went) ⊎ (r ≡ turned.Ended o))
ended_same code zero a b r o e t = (t.1, inl t.0)
ended_same code (suc n) a b r o e t =
    let u = subst (λ p. TurnsFrom code a p t.0 t.1) e t.2 in
    let g = subst (λ s. GoesOnAfter s (TurnsOf code n t.1 r b) ((r ≡ s) × (b ≡ t.1))) u.0 t.3 in
    (g.1 ∙ u.1, inr g.0)

module _ (laws : ActorsRun) (code : PlainCode) (n : ℕ) (a b : PlainActor) (r : Turn) (tr : List Place) (m : ℕ) (h : History) (idle : unanswered a ≡ None) (turns : TurnsOf code n a r b) (says : Says r b) (lives : Lives code b) (f : IsFollowing code a tr m h) where
  rests : (o : Outcome) → (b ≡ a) × ((r ≡ turned.Went) ⊎ (r ≡ turned.Ended o)) → IsTurned code r b tr m h
  rests o (e, inl s) = subst (λ t. IsTurned code t b tr m h) (sym s) (subst (λ y. IsFollowing code y tr m h) (sym e) f)
  rests o (e, inr s) = subst (λ t. IsTurned code t b tr m h) (sym s) (subst (λ y. IsFollowing code y tr m h) (sym e) f)

  -- turns of any actor
  pub turns_follow : IsTurned code r b tr m h
  turns_follow = go a.outcome refl
    where
      go : (o : Option Outcome) → a.outcome ≡ o → IsTurned code r b tr m h
      go None e = turned_so laws code n a b r tr m h idle turns says lives f e
      go (Some o) e = rests o (ended_same code n a b r o e turns)
