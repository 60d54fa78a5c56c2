-- An actor that goes on alone comes to where the searches have it wait, or to its end.
use Rattle.std.proofs.Common.{◌≡◌, ◌<◌, ◌≤◌, ◌+◌, ◌-◌, ℕ, zero, suc, Bool, true, false, nat_lt, List, Option, Some, None, if◌then◌else◌, refl, sym, ap, subst, ◌∙◌, arith}
use Rattle.std.specs.Prelude.{◌^◌}
use Rattle.std.proofs.lemmas.Bool.Decides.{nat_tests}
use Rattle.txs_world_protocol.specs.declared.ask.Ask.{Ask}
use Rattle.txs_world_protocol.specs.declared.event.Outcome.{Outcome}
use Rattle.txs_world_protocol.specs.declared.event.Outcome.TheVariants as outcome
use Rattle.txs_code_meaning.specs.ActorState.{ActorState}
use Rattle.txs_code_meaning.specs.Machine.{ThreadCode, Configuration, Turned, Ended, Failed, Unfinished, turn}
use Rattle.txs_code_meaning.specs.PlainCode.{PlainCode}
use Rattle.txs_machine_actor.specs.PlainActor.{PlainActor, Awaits, code_of, configuration_of, state_of}
use Rattle.txs_machine_actor.specs.Turns.{Answers, Moves, TurnsFrom, GoesOnAfter, TurnsOf}
use Rattle.txs_machine_actor.specs.declared.outcome.Turn.{Turn}
use Rattle.txs_machine_actor.specs.declared.outcome.Turn.TheVariants as turned
use Rattle.txs_theorem_runs.specs.Run.{Stop, JournalFull, TurnsSpent}
use Rattle.txs_explore.specs.Actors.{Quiet, Rests, settled}
use Rattle.txs_explore.specs.Runners.{Runner, comes_to, next_from, next_turned, next_ask, End, many, runners, wanted}
use Rattle.txs_explore.proofs.Calming.{IsCalm, settled_there, settled_next}
use Rattle.txs_explore.proofs.Running.{falls}
use Rattle.txs_machine.specs.Running.{IsPlacedAs}
use Rattle.txs_machine.specs.Scheduled.{outcome_of, printed_at, steps_by}
use Rattle.txs_explore.specs.Told.{end_of, explored}
use Rattle.txs_explore.specs.Looked.{IsKnown, HasLooked}

-- turns that aren't over came to no ask and no end
abbrev NotWent : Turn → Type 0
NotWent turned.Went = ⊥
NotWent (turned.Asks q) = Unit {0}
NotWent (turned.Ended o) = Unit {0}

abbrev IsEnd : Turn → Type 0
IsEnd turned.Went = ⊥
IsEnd (turned.Asks q) = ⊥
IsEnd (turned.Ended o) = Unit {0}

abbrev is_some : {A : Type 0} → Option A → Type 0
is_some None = ⊥
is_some (Some x) = Unit {0}

-- what is told of an actor that ended so, if it has, and printed this
abbrev pub told : Option Outcome → List ℕ → End
told o ps = record { ended = o; printed = ps }

module _ (code : PlainCode) (limit k : ℕ) (one : nat_lt k (many (explored code limit)) ≡ true) where
  abbrev kd : ThreadCode
  kd = code_of code k

  abbrev place_of : Runner → Runner
  place_of l = settled (runners (explored code limit)) k l

  -- what is asked and told where it waits
  pub record Waits (l : Runner) (q : Option Ask) (b : PlainActor) : Type 0 where
    pub ask : next_ask kd (place_of l).at (place_of l).stopped ≡ q
    pub end : end_of (place_of l) ≡ told b.outcome b.printed

  -- what turns came to
  abbrev Comes : Runner → Turn → PlainActor → Type 0
  Comes l turned.Went b = Unit {0}
  Comes l (turned.Asks q) b = Waits l (Some q) b
  Comes l (turned.Ended o) b = IsKnown o → Waits l None b

  next_is : (l : Runner) (b : Bool) (at : Turned Configuration) (o : Option Stop) → nat_lt l.turns limit ≡ b → l.at ≡ at → l.stopped ≡ o → (runners (explored code limit)).next k l ≡ next_from kd b at o l
  next_is l b at o e f g =
      ap (λ z. if z then next_from kd (nat_lt l.turns limit) l.at l.stopped l else Rests) one
      ∙ ap (λ z. next_from kd z l.at l.stopped l) e
      ∙ ap (λ z. next_from kd b z l.stopped l) f
      ∙ ap (λ z. next_from kd b at z l) g

  -- where it waits it stays
  waits_here : (l : Runner) (q : Option Ask) (b : PlainActor) → IsCalm ((runners (explored code limit)).next k l) → next_ask kd l.at l.stopped ≡ q → outcome_of l.at l.stopped ≡ b.outcome → printed_at l.at ≡ b.printed → Waits l q b
  waits_here l q b calm asks ended printed =
      let e = settled_there (runners (explored code limit)) (falls (explored code limit)) k l calm in
      record {
        ask = ap (λ (m : Runner). next_ask kd m.at m.stopped) e ∙ asks;
        end = ap end_of e ∙ ap (λ o. told o (printed_at l.at)) ended ∙ ap (told b.outcome) printed;
      }

  -- an instruction alone leads on
  waits_next : (l m : Runner) (q : Option Ask) (b : PlainActor) → (runners (explored code limit)).next k l ≡ Quiet m → Waits m q b → Waits l q b
  waits_next l m q b e w =
      let s = settled_next (runners (explored code limit)) (falls (explored code limit)) k l m e in
      record { ask = subst (λ (n : Runner). next_ask kd n.at n.stopped ≡ q) s w.ask; end = subst (λ (n : Runner). end_of n ≡ told b.outcome b.printed) s w.end }

  -- one that has ended, or was stopped, rests
  rests : (l : Runner) (at : Turned Configuration) (o : Option Stop) → l.at ≡ at → l.stopped ≡ o → ((b : Bool) → next_from kd b at o l ≡ Rests) → IsCalm ((runners (explored code limit)).next k l)
  rests l at o f g h = subst IsCalm (sym (next_is l (nat_lt l.turns limit) at o refl f g ∙ h (nat_lt l.turns limit))) tt

  -- ---- one that has ended

  ended_waits : (a : PlainActor) (l : Runner) (o : Outcome) → a.outcome ≡ Some o → IsKnown o → IsPlacedAs a (Some o) l.at l.stopped → Waits l None a
  ended_waits a l outcome.Done e n h =
      waits_here l None a (rests l (Ended (state_of a)) None h.0 h.1 (λ b. refl)) (ap (λ t. next_ask kd t l.stopped) h.0) (ap (λ t. outcome_of t l.stopped) h.0 ∙ sym e) (ap printed_at h.0)
  ended_waits a l (outcome.Failed f) e n h =
      waits_here l None a (rests l (Failed f (state_of a)) None h.0 h.1 (λ b. refl)) (ap (λ t. next_ask kd t l.stopped) h.0) (ap (λ t. outcome_of t l.stopped) h.0 ∙ sym e) (ap printed_at h.0)
  ended_waits a l outcome.StepsSpent e n h =
      waits_here l None a (rests l (Unfinished (configuration_of a)) (Some TurnsSpent) h.0 h.1 (λ b. refl))
      (ap (λ t. next_ask kd t l.stopped) h.0 ∙ ap (λ w. next_ask kd (Unfinished (configuration_of a)) w) h.1)
      (ap (λ t. outcome_of t l.stopped) h.0 ∙ ap (λ w. outcome_of (Unfinished (configuration_of a)) w) h.1 ∙ sym e) (ap printed_at h.0)
  ended_waits a l outcome.JournalFull e n h =
      waits_here l None a (rests l (Unfinished h.0) (Some JournalFull) h.1 h.3 (λ b. refl))
      (ap (λ t. next_ask kd t l.stopped) h.1 ∙ ap (λ w. next_ask kd (Unfinished h.0) w) h.3)
      (ap (λ t. outcome_of t l.stopped) h.1 ∙ ap (λ w. outcome_of (Unfinished h.0) w) h.3 ∙ sym e) (ap printed_at h.1 ∙ ap (λ (u : ActorState). u.printed) h.2)
  ended_waits a l outcome.Memory e n h = absurd n

  -- ---- turns

  -- an actor that may make turns, and where searches have it
  record Begins (a : PlainActor) (l : Runner) : Type 0 where
    number : a.number ≡ k
    limited : a.limit ≡ limit
    counted : a.steps ≡ l.turns
    at : l.at ≡ Unfinished (configuration_of a)
    free : l.stopped ≡ None

  may_same : (a : PlainActor) (l : Runner) (may : Bool) → Begins a l → nat_lt a.steps a.limit ≡ may → nat_lt l.turns limit ≡ may
  may_same a l may h e = ap (λ n. nat_lt n limit) (sym h.counted) ∙ ap (nat_lt a.steps) (sym h.limited) ∙ e

  turn_here : (a : PlainActor) (t : Turned Configuration) → a.number ≡ k → turn (code_of code a.number) (configuration_of a) ≡ t → turn kd (configuration_of a) ≡ t
  turn_here a t n e = subst (λ i. turn (code_of code i) (configuration_of a) ≡ t) n e

  -- the next instruction, by what it comes to
  first_is : (a : PlainActor) (l : Runner) → Begins a l → nat_lt a.steps a.limit ≡ true → (runners (explored code limit)).next k l ≡ next_from kd true (Unfinished (configuration_of a)) None l
  first_is a l h may = next_is l true (Unfinished (configuration_of a)) None (may_same a l true h may) h.at h.free

  went_begins : (a b : PlainActor) (l : Runner) → Begins a l → Answers code a turned.Went b → Begins b (comes_to (Unfinished (configuration_of b)) l)
  went_begins a b l h t = record {
    number = t.1.number ∙ h.number;
    limited = t.1.limited ∙ h.limited;
    counted = (let c = h.counted in let d = t.1.counted in omega (arith, c, d));
    at = refl;
    free = h.free;
  }

  went_next : (a b : PlainActor) (l : Runner) → Begins a l → nat_lt a.steps a.limit ≡ true → Answers code a turned.Went b → (runners (explored code limit)).next k l ≡ Quiet (comes_to (Unfinished (configuration_of b)) l)
  went_next a b l h may t = first_is a l h may ∙ ap (λ z. next_turned z l) (turn_here a (Unfinished (configuration_of b)) h.number t.0)

  step_waits : (a b : PlainActor) (r : Turn) (l : Runner) → Begins a l → nat_lt a.steps a.limit ≡ true → Answers code a r b → Comes l r b
  step_waits a b turned.Went l h may t = tt
  step_waits a b (turned.Asks q) l h may t =
      let w = subst (λ i. Awaits (code_of code i) (configuration_of a) b q) h.number t.0 in
      waits_here l (Some q) b
      (subst IsCalm (sym (first_is a l h may ∙ ap (λ z. next_turned z l) w.asks)) tt)
      (ap (λ z. next_ask kd z l.stopped) h.at ∙ ap (λ o. next_ask kd (Unfinished (configuration_of a)) o) h.free ∙ ap wanted w.asks)
      (ap (λ z. outcome_of z l.stopped) h.at ∙ ap (λ o. outcome_of (Unfinished (configuration_of a)) o) h.free ∙ sym t.1.outcome)
      (ap printed_at h.at ∙ ap (λ (u : ActorState). u.printed) w.here)
  step_waits a b (turned.Ended outcome.Done) l h may t = λ n.
      waits_next l (comes_to (Ended (state_of b)) l) None b (first_is a l h may ∙ ap (λ z. next_turned z l) (turn_here a (Ended (state_of b)) h.number t.0))
      (ended_waits b (comes_to (Ended (state_of b)) l) outcome.Done t.1.outcome tt (refl, h.free))
  step_waits a b (turned.Ended (outcome.Failed f)) l h may t = λ n.
      waits_next l (comes_to (Failed f (state_of b)) l) None b (first_is a l h may ∙ ap (λ z. next_turned z l) (turn_here a (Failed f (state_of b)) h.number t.0))
      (ended_waits b (comes_to (Failed f (state_of b)) l) (outcome.Failed f) t.1.outcome tt (refl, h.free))
  step_waits a b (turned.Ended outcome.StepsSpent) l h may t = absurd t
  step_waits a b (turned.Ended outcome.JournalFull) l h may t = absurd t
  step_waits a b (turned.Ended outcome.Memory) l h may t = λ n. absurd n

  spent_waits : (a : PlainActor) (l : Runner) → Begins a l → nat_lt a.steps a.limit ≡ false → Waits l None (record a { outcome = Some outcome.StepsSpent })
  spent_waits a l h may =
      waits_next l (record l { stopped = Some TurnsSpent }) None (record a { outcome = Some outcome.StepsSpent })
      (next_is l false (Unfinished (configuration_of a)) None (may_same a l false h may) h.at h.free)
      (ended_waits (record a { outcome = Some outcome.StepsSpent }) (record l { stopped = Some TurnsSpent }) outcome.StepsSpent refl tt (h.at, refl))

  move_waits : (a b : PlainActor) (r : Turn) (may : Bool) (l : Runner) → Begins a l → nat_lt a.steps a.limit ≡ may → Moves code a may r b → Comes l r b
  move_waits a b r true l h e t = step_waits a b r l h e t
  move_waits a b r false l h e t =
      subst (λ s. Comes l s b) (sym t.0) (subst (λ (z : PlainActor). Comes l (turned.Ended outcome.StepsSpent) z) (sym t.1) (λ n. spent_waits a l h e))

  came_next : (l m : Runner) (r : Turn) (b : PlainActor) → (runners (explored code limit)).next k l ≡ Quiet m → Comes m r b → Comes l r b
  came_next l m turned.Went b e c = tt
  came_next l m (turned.Asks q) b e c = waits_next l m (Some q) b e c
  came_next l m (turned.Ended o) b e c = λ n. waits_next l m None b e (c n)

  went_or : (a b : PlainActor) (may : Bool) → Moves code a may turned.Went b → (may ≡ true) × Answers code a turned.Went b
  went_or a b true t = (refl, t)
  went_or a b false t = absurd (subst NotWent (sym t.0) tt)

  -- so many turns
  turns_wait : (n : ℕ) (a b : PlainActor) (r : Turn) (l : Runner) → a.outcome ≡ None → Begins a l → TurnsOf code n a r b → Comes l r b
  turns_wait zero a b r l e h t = subst (λ s. Comes l s b) (sym t.0) tt
  turns_wait (suc n) a b r l e h t =
      go (λ c m o z x. turns_wait n c b r m o z x) t.0 t.1 (nat_lt a.steps a.limit) refl (subst (λ o. TurnsFrom code a o t.0 t.1) e t.2) t.3
    where
      go : ((c : PlainActor) (m : Runner) → c.outcome ≡ None → Begins c m → TurnsOf code n c r b → Comes m r b) → (s : Turn) (c : PlainActor) (may : Bool) → nat_lt a.steps a.limit ≡ may → Moves code a may s c
          → GoesOnAfter s (TurnsOf code n c r b) ((r ≡ s) × (b ≡ c)) → Comes l r b
      go more turned.Went c may q u g =
          let w = went_or a c may u in
          let m = q ∙ w.0 in
          came_next l (comes_to (Unfinished (configuration_of c)) l) r b (went_next a c l h m w.1) (more c (comes_to (Unfinished (configuration_of c)) l) w.1.1.outcome (went_begins a c l h w.1) g)
      go more (turned.Asks x) c may q u g = subst (λ s. Comes l s b) (sym g.0) (subst (λ (z : PlainActor). Comes l (turned.Asks x) z) (sym g.1) (move_waits a c (turned.Asks x) may l h q u))
      go more (turned.Ended o) c may q u g = subst (λ s. Comes l s b) (sym g.0) (subst (λ (z : PlainActor). Comes l (turned.Ended o) z) (sym g.1) (move_waits a c (turned.Ended o) may l h q u))

  -- an actor that has ended stays as it is
  turns_still : (n : ℕ) (a b : PlainActor) (r : Turn) (l : Runner) (o : Outcome) → a.outcome ≡ Some o → IsPlacedAs a (Some o) l.at l.stopped → TurnsOf code n a r b → Comes l r b
  turns_still zero a b r l o e h t = subst (λ s. Comes l s b) (sym t.0) tt
  turns_still (suc n) a b r l o e h t = let u = subst (λ p. TurnsFrom code a p t.0 t.1) e t.2 in go t.0 u.0 t.1 u.1 t.3
    where
      go : (s : Turn) → s ≡ turned.Ended o → (c : PlainActor) → c ≡ a → GoesOnAfter s (TurnsOf code n c r b) ((r ≡ s) × (b ≡ c)) → Comes l r b
      go s q c w g =
          let f : (r ≡ turned.Ended o) × (b ≡ c) = subst (λ z. GoesOnAfter z (TurnsOf code n c r b) ((r ≡ z) × (b ≡ c))) q g in
          subst (λ z. Comes l z b) (sym f.0) (subst (λ (z : PlainActor). Comes l (turned.Ended o) z) (sym (f.1 ∙ w)) (λ i. ended_waits a l o e i h))

  all_come : (n : ℕ) (a b : PlainActor) (r : Turn) (l : Runner) → a.number ≡ k → a.limit ≡ limit → IsPlacedAs a a.outcome l.at l.stopped → a.steps ≡ steps_by l.stopped l.turns → TurnsOf code n a r b → Comes l r b
  all_come n a b r l number limited placed counted t = by a.outcome refl
    where
      by : (o : Option Outcome) → a.outcome ≡ o → Comes l r b
      by None e =
          let p = subst (λ o. IsPlacedAs a o l.at l.stopped) e placed in
          turns_wait n a b r l e (record { number = number; limited = limited; counted = counted ∙ ap (λ w. steps_by w l.turns) p.1; at = p.0; free = p.1 }) t
      by (Some o) e = turns_still n a b r l o e (subst (λ q. IsPlacedAs a q l.at l.stopped) e placed) t

  -- an actor that went on alone is where the searches have it wait
  pub looked_waits : (a b : PlainActor) (l : Runner) (q : Option Ask) → a.number ≡ k → a.limit ≡ limit → IsPlacedAs a a.outcome l.at l.stopped → a.steps ≡ steps_by l.stopped l.turns → HasLooked code a q b → Waits l q b
  looked_waits a b l None number limited placed counted h = all_come (2 ^ 64 - 1) a b (turned.Ended h.0) l number limited placed counted h.2 h.1
  looked_waits a b l (Some q) number limited placed counted h = all_come (2 ^ 64 - 1) a b (turned.Asks q) l number limited placed counted h.0

-- turns that are all made are within the limit
pub went_within : (code : PlainCode) (n : ℕ) (a b : PlainActor) → TurnsOf code n a turned.Went b → a.steps ≤ a.limit → a.steps + n ≤ a.limit
went_within code zero a b t h = omega (arith, h)
went_within code (suc n) a b t h = go (λ c g l. went_within code n c b g l) t.0 t.1 a.outcome t.2 t.3
  where
    moved : ((c : PlainActor) → TurnsOf code n c turned.Went b → c.steps ≤ c.limit → c.steps + n ≤ c.limit) → (c : PlainActor) (may : Bool) → nat_lt a.steps a.limit ≡ may → Moves code a may turned.Went c → TurnsOf code n c turned.Went b
        → a.steps + suc n ≤ a.limit
    moved more c true e u g =
        let less : a.steps < a.limit = grind (arith, nat_tests, e) in
        let s = u.1.counted in
        let m = u.1.limited in
        let f = more c g (omega (arith, less, s, m)) in
        omega (arith, f, s, m)
    moved more c false e u g = absurd (subst NotWent (sym u.0) tt)

    go : ((c : PlainActor) → TurnsOf code n c turned.Went b → c.steps ≤ c.limit → c.steps + n ≤ c.limit) → (s : Turn) (c : PlainActor) (o : Option Outcome) → TurnsFrom code a o s c
        → GoesOnAfter s (TurnsOf code n c turned.Went b) ((turned.Went ≡ s) × (b ≡ c)) → a.steps + suc n ≤ a.limit
    go more turned.Went c None u g = moved more c (nat_lt a.steps a.limit) refl u g
    go more turned.Went c (Some o) u g = absurd (subst NotWent (sym u.0) tt)
    go more (turned.Asks q) c o u g = absurd (subst NotWent (sym g.0) tt)
    go more (turned.Ended e) c o u g = absurd (subst NotWent (sym g.0) tt)
