-- Where no thread goes on, and no agent has an action to take, nobody may go on.
use Rattle.std.proofs.Common.{◌≡◌, ◌<◌, ◌+◌, ℕ, zero, suc, Bool, true, false, not, ◌&&◌, ◌==◌, nat_lt, List, [], ◌∷◌, ◌++◌, map, Option, Some, None, if◌then◌else◌, refl, sym, ap, subst, ◌∙◌, arith}
use Rattle.std.proofs.lemmas.Bool.{false≢true}
use Rattle.std.proofs.lemmas.Bool.Decides.{nat_tests}
use Rattle.txs_world_protocol.specs.declared.ask.Ask.{Ask}
use Rattle.txs_world_protocol.specs.declared.ask.Ask.TheVariants as ask
use Rattle.txs_value_data.proofs.SameLemmas.{and_both, numbers}
use Rattle.txs_value_cell.specs.declared.action.Action.{Action}
use Rattle.txs_value_data.specs.declared.value.CellId.{CellId}
use Rattle.txs_code_meaning.specs.Machine.{ThreadCode, Configuration, Turned, Ended, Failed, Asking, Unfinished, Stuck, turn}
use Rattle.txs_code_meaning.specs.Opening.{given}
use Rattle.txs_world_book.specs.Book.{is_there, is_failed, mail_after, waits, has_agent}
use Rattle.txs_world_book.specs.Book as world
use Rattle.txs_world_book.specs.Served.{cells_of}
use Rattle.txs_world.specs.Laws.{ServeKeeps}
use Rattle.txs_world.specs.Store.{first_action, next_action, is_taken}
use Rattle.txs_theorem_runs.specs.Invariant.{ActorInvariant, RunInvariant, OpeningHolds, PlayHolds}
use Rattle.txs_theorem_runs.specs.Lawful.{RunAsksLawful}
use Rattle.txs_theorem_runs.specs.Run.{Stop, Play, play, State, opens, exchange}
use Rattle.txs_theorem_runs.specs.Shared.{may_ask}
use Rattle.txs_theorem_runs.specs.Staged.{StagedActor, IsStaged, StagedFrom}
use Rattle.txs_theorem_runs.specs.Stages.{Stage, Resting, Idle, Open, Viewing, Swapping, AsksIn}
use Rattle.txs_theorem_runs.specs.Standing.{StandingActor}
use Rattle.txs_theorem_runs.specs.Told.{exchange_of}
use Rattle.txs_theorem_runs.proofs.Acting.{one_agent}
use Rattle.txs_theorem_runs.proofs.Asker.{AgentOf, agent_of}
use Rattle.txs_theorem_runs.proofs.Known.{standing_staged}
use Rattle.txs_theorem_runs.proofs.Taken.{is_busy, stage_is, taken_so}
use Rattle.txs_theorem_runs.proofs.Told.{fresh_stands}
use Rattle.txs_explore.specs.Actors.{Rests, All, settled, settle}
use Rattle.txs_explore.specs.Ends.{IsScript, HasEnded}
use Rattle.txs_explore.specs.SearchLaws.{EndsAreOver}
use Rattle.txs_explore.specs.Runners.{Runner, runner_of, next_from, next_ask, is_idle, is_due, those, Explored, many, runners, seen, goes_on, played, IsOver}
use Rattle.txs_explore.proofs.Asking.{AsksNow, asks_now}
use Rattle.txs_explore.proofs.Calming.{IsCalm, put_itself, settled_there}
use Rattle.txs_explore.proofs.Running.{falls, instructions_are_plays}
use Rattle.txs_explore.proofs.Walking.{settle_walks}

-- ---- of an agent

-- an action that waits is next, unless the agent has failed
waits_next : (b : Bool) (xs : List Action) → b ≡ false → waits xs ≡ true → first_action b xs ≡ None → ⊥
waits_next true xs e w n = false≢true (sym e)
waits_next false [] e w n = false≢true w
waits_next false (y ∷ xs) e w n = false≢true (sym (ap is_there n))

idle_stage : (st : Stage) → is_busy st ≡ false → st ≡ Resting
idle_stage Resting h = refl
idle_stage Idle h = absurd (false≢true (sym h))
idle_stage (Open at) h = absurd (false≢true (sym h))
idle_stage (Viewing at view) h = absurd (false≢true (sym h))
idle_stage (Swapping c at) h = absurd (false≢true (sym h))

abbrev ask_or : Ask → Option Ask → Ask
ask_or d None = d
ask_or d (Some q) = q

same_ask : (p q : Ask) → Some p ≡ Some q → p ≡ q
same_ask p q e = ap (ask_or p) e

-- an agent that runs no action takes one
record Takes (q : Ask) : Type 0 where
  agent : CellId
  same : q ≡ ask.Take agent

takes_one : (q : Ask) → AsksIn true Resting q → Takes q
takes_one ask.Begin h = absurd h
takes_one (ask.Look c at) h = absurd h
takes_one (ask.View cs) h = absurd h
takes_one (ask.Commit at sets ensured view commuted sends) h = absurd h
takes_one (ask.Fail at view) h = absurd h
takes_one (ask.Peek c) h = absurd h
takes_one (ask.Send y) h = absurd h
takes_one (ask.Take g) h = record { agent = g; same = refl }
takes_one (ask.Finish g new sends) h = absurd h
takes_one (ask.OpenAt c) h = absurd h
takes_one (ask.CloseAt c at new) h = absurd h
takes_one (ask.Broke c at) h = absurd h

both_true : (b c : Bool) → b ≡ true → c ≡ true → (b && c) ≡ true
both_true b c h g = ap (λ z. z && c) h ∙ g

module _ (x : Explored) (script : IsScript x) (keeps : ServeKeeps) (lawful : RunAsksLawful) (opened : OpeningHolds) (kept : PlayHolds) where
  -- the state of a run from its beginning
  abbrev run : List Play → State
  run ys = played x ys (opens x.cells x.codes)

  abbrev actor_of : CellId → ℕ
  actor_of g = world.actor_of x.threads (cells_of x.cells) g

  holds_from : (ys : List Play) (st : State) → RunInvariant x.cells x.threads x.codes st → RunInvariant x.cells x.threads x.codes (played x ys st)
  holds_from [] st h = h
  holds_from (y ∷ ys) st h = holds_from ys (play x.cells x.threads x.codes y st) (kept x.cells x.threads x.codes y st h)

  holds : (ys : List Play) → RunInvariant x.cells x.threads x.codes (run ys)
  holds ys = holds_from ys (opens x.cells x.codes) (opened x.cells x.threads x.codes)

  -- an agent's actor that asks, while there is no action for it, is answered Idle
  module _ (ys : List Play) (g : CellId) (has : has_agent (cells_of x.cells) g ≡ true) (isnt : nat_lt (actor_of g) x.threads ≡ false) (one : nat_lt (actor_of g) (many x) ≡ true)
      (none : next_action (cells_of x.cells) ((run ys).shared.books 0) g ≡ None) where
    abbrev mine : ℕ
    mine = actor_of g

    code_staged : StagedActor true (x.codes mine)
    code_staged = standing_staged true (x.codes mine) (script.stands g has)

    invariant : ActorInvariant x.cells x.threads true (x.codes mine) (run ys).shared.books mine ((run ys).actors mine)
    invariant = (holds ys).actors true mine code_staged

    not_taken : (b : Bool) → is_taken (run ys).shared.taken g ≡ b → b ≡ false
    not_taken true e =
        let w = (holds ys).shared.store.taken g.number e in
        absurd (waits_next (is_failed (cells_of x.cells) ((run ys).shared.books 0) g) (mail_after (cells_of x.cells) ((run ys).shared.books 0) g.number).actions w.0 w.1 none)
    not_taken false e = refl

    rests : (k : ActorInvariant x.cells x.threads true (x.codes mine) (run ys).shared.books mine ((run ys).actors mine)) → k.stage ≡ Resting
    rests k =
        idle_stage k.stage
        (ap is_busy (sym (stage_is true Resting ((run ys).actors mine).entries k.stage k.told.staged))
        ∙ sym (taken_so x.cells x.threads x.codes keeps fresh_stands ys g has code_staged)
        ∙ not_taken (is_taken (run ys).shared.taken g) refl)

    -- what it asks is to take one
    asks_in : (k : ActorInvariant x.cells x.threads true (x.codes mine) (run ys).shared.books mine ((run ys).actors mine)) (q : Ask) → AsksNow (x.codes mine) (runner_of ((run ys).actors mine)) q → AsksIn true Resting q
    asks_in k q n =
        let s = subst (IsStaged true k.stage) n.here k.staged in
        let f = code_staged ((run ys).actors mine).turns (map exchange_of ((run ys).actors mine).entries) n.place (k.ran ∙ n.here) s.0 k.stage s.1 in
        let a = subst (λ t. StagedFrom true k.stage t (λ p r. turn (x.codes mine) (given (exchange p r ∷ []) n.place))) n.comes f in
        subst (AsksIn true Resting) (same_ask a.0 q (sym a.1 ∙ n.wants)) (subst (λ i. AsksIn true i a.0) (rests k) a.2)

    -- of its own agent
    idle_take : (h : CellId) → may_ask x.cells x.threads (run ys).shared.taken mine (ask.Take h) ((run ys).shared.books 0) ≡ true → is_idle x.cells x.threads (run ys).shared mine (ask.Take h) ≡ true
    idle_take h may =
        let parts = and_both (mine == actor_of h) (has_agent (cells_of x.cells) h && not (is_taken (run ys).shared.taken h)) may in
        let there = and_both (has_agent (cells_of x.cells) h) (not (is_taken (run ys).shared.taken h)) parts.1 in
        let same : g ≡ h = one_agent (cells_of x.cells) x.threads g h has there.0 (numbers mine (actor_of h) parts.0) in
        both_true (may_ask x.cells x.threads (run ys).shared.taken mine (ask.Take h) ((run ys).shared.books 0)) (not (is_there (next_action (cells_of x.cells) ((run ys).shared.books 0) h))) may
        (ap (λ o. not (is_there o)) (subst (λ c. next_action (cells_of x.cells) ((run ys).shared.books 0) c ≡ None) same none))

    asks_idle : (q : Ask) → next_ask (x.codes mine) ((run ys).actors mine).at ((run ys).actors mine).stopped ≡ Some q → is_idle x.cells x.threads (run ys).shared mine q ≡ true
    asks_idle q e =
        let n = asks_now (x.codes mine) (runner_of ((run ys).actors mine)) q e in
        let t = takes_one q (asks_in invariant q n) in
        let stands = subst (λ b. StandingActor (not b) (x.codes mine)) (sym isnt) (script.stands g has) in
        let may = lawful x.cells x.threads x.codes ys script.opened script.known script.names mine n.place n.state (ask.Take t.agent) one stands n.here n.comes (n.wants ∙ ap Some t.same) in
        subst (λ a. is_idle x.cells x.threads (run ys).shared mine a ≡ true) (sym t.same) (idle_take t.agent may)

    not_due : is_due x.cells x.threads (run ys).shared mine (next_ask (x.codes mine) ((run ys).actors mine).at ((run ys).actors mine).stopped) ≡ false
    not_due = by (next_ask (x.codes mine) ((run ys).actors mine).at ((run ys).actors mine).stopped) asks_idle
      where
        by : (o : Option Ask) → ((q : Ask) → o ≡ Some q → is_idle x.cells x.threads (run ys).shared mine q ≡ true) → is_due x.cells x.threads (run ys).shared mine o ≡ false
        by None h = refl
        by (Some q) h = ap not (h q refl)

  -- ---- all of them

  after_more : (ys zs : List Play) (st : State) → played x (ys ++ zs) st ≡ played x zs (played x ys st)
  after_more [] zs st = refl
  after_more (y ∷ ys) zs st = after_more ys zs (play x.cells x.threads x.codes y st)

  none_asked : (code : ThreadCode) (at : Turned Configuration) (o : Option Stop) → goes_on at o ≡ false → next_ask code at o ≡ None
  none_asked code (Ended s) o h = refl
  none_asked code (Failed f s) o h = refl
  none_asked code (Asking s) o h = refl
  none_asked code (Unfinished c) None h = absurd (false≢true (sym h))
  none_asked code (Unfinished c) (Some why) h = refl
  none_asked code Stuck o h = refl

  stays_from : (code : ThreadCode) (b : Bool) (at : Turned Configuration) (o : Option Stop) (l : Runner) → goes_on at o ≡ false → IsCalm (next_from code b at o l)
  stays_from code b (Ended s) o l h = tt
  stays_from code b (Failed f s) o l h = tt
  stays_from code b (Asking s) o l h = tt
  stays_from code b (Unfinished c) None l h = absurd (false≢true (sym h))
  stays_from code b (Unfinished c) (Some why) l h = tt
  stays_from code b Stuck o l h = tt

  those_none : (f : ℕ → Bool) (k n : ℕ) → ((m : ℕ) → m < k + n → f m ≡ false) → those f k n ≡ []
  those_none f k zero h = refl
  those_none f k (suc n) h =
      ap (λ b. if b then k ∷ those f (suc k) n else those f (suc k) n) (h k (omega arith)) ∙ those_none f (suc k) n (λ m l. h m (omega (arith, l)))

  below : (m n : ℕ) → m < n → nat_lt m n ≡ true
  below m n h = grind (arith, nat_tests, h)

  is_below : (m n : ℕ) → nat_lt m n ≡ true → m < n
  is_below m n h = grind (arith, nat_tests, h)

  module _ (ys : List Play) (h : HasEnded x (run ys)) where
    abbrev there : ℕ → Runner
    there a = settled (runners x) a (runner_of ((run ys).actors a))

    abbrev due : ℕ → Bool
    due a = is_due x.cells x.threads (run ys).shared a (next_ask (x.codes a) (there a).at (there a).stopped)

    -- one that doesn't go on
    ended_is : (a : ℕ) → goes_on ((run ys).actors a).at ((run ys).actors a).stopped ≡ false → due a ≡ false
    ended_is a e =
        ap (λ (l : Runner). is_due x.cells x.threads (run ys).shared a (next_ask (x.codes a) l.at l.stopped)) (settled_there (runners x) (falls x) a (runner_of ((run ys).actors a)) (calm_here (nat_lt a (many x))))
        ∙ ap (is_due x.cells x.threads (run ys).shared a) (none_asked (x.codes a) ((run ys).actors a).at ((run ys).actors a).stopped e)
      where
        calm_here : (b : Bool) → IsCalm (if b then next_from (x.codes a) (nat_lt ((run ys).actors a).turns x.limit) ((run ys).actors a).at ((run ys).actors a).stopped (runner_of ((run ys).actors a)) else Rests)
        calm_here true = stays_from (x.codes a) (nat_lt ((run ys).actors a).turns x.limit) ((run ys).actors a).at ((run ys).actors a).stopped (runner_of ((run ys).actors a)) e
        calm_here false = tt

    -- an agent's that does
    agent_is : (g : CellId) → has_agent (cells_of x.cells) g ≡ true → nat_lt (actor_of g) x.threads ≡ false → nat_lt (actor_of g) (many x) ≡ true
        → next_action (cells_of x.cells) ((run ys).shared.books 0) g ≡ None → due (actor_of g) ≡ false
    agent_is g has isnt one none =
        let w = settle_walks (runners x) (actor_of g) (seen x (run ys)) in
        let p = instructions_are_plays x w.0 (run ys) in
        let same : seen x (run (ys ++ p.plays)) ≡ settle (runners x) (actor_of g) (seen x (run ys)) = ap (seen x) (after_more ys p.plays (opens x.cells x.codes)) ∙ p.same ∙ w.1 in
        let shared : (run (ys ++ p.plays)).shared ≡ (run ys).shared = ap (λ (s : All (runners x)). s.shared) same in
        let actor : runner_of ((run (ys ++ p.plays)).actors (actor_of g)) ≡ there (actor_of g) =
        ap (λ (s : All (runners x)). s.actors (actor_of g)) same ∙ put_itself (actor_of g) (there (actor_of g)) (seen x (run ys)).actors in
        sym (ap (λ (l : Runner). is_due x.cells x.threads (run ys).shared (actor_of g) (next_ask (x.codes (actor_of g)) l.at l.stopped)) actor)
        ∙ sym (ap (λ sh. is_due x.cells x.threads sh (actor_of g) (next_ask (x.codes (actor_of g)) ((run (ys ++ p.plays)).actors (actor_of g)).at ((run (ys ++ p.plays)).actors (actor_of g)).stopped)) shared)
        ∙ not_due (ys ++ p.plays) g has isnt one (subst (λ sh. next_action (cells_of x.cells) (sh.books 0) g ≡ None) (sym shared) none)

    each : (a : ℕ) → a < many x → due a ≡ false
    each a lt = by (goes_on ((run ys).actors a).at ((run ys).actors a).stopped) refl (nat_lt a x.threads) refl
      where
        of_agent : (g : AgentOf x.cells x.threads a) → nat_lt a x.threads ≡ false → goes_on ((run ys).actors a).at ((run ys).actors a).stopped ≡ true → due a ≡ false
        of_agent g isnt goes =
            subst (λ b. due b ≡ false) (sym g.is)
            (agent_is g.agent g.has (subst (λ b. nat_lt b x.threads ≡ false) g.is isnt) (subst (λ b. nat_lt b (many x) ≡ true) g.is (below a (many x) lt))
            (h.agents g.agent g.has (subst (λ b. goes_on ((run ys).actors b).at ((run ys).actors b).stopped ≡ true) g.is goes)))

        by : (b : Bool) → goes_on ((run ys).actors a).at ((run ys).actors a).stopped ≡ b → (c : Bool) → nat_lt a x.threads ≡ c → due a ≡ false
        by false e c t = ended_is a e
        by true e true t = absurd (false≢true (sym (h.threads a (is_below a x.threads t)) ∙ e))
        by true e false t = of_agent (agent_of x.cells x.threads a t (below a (many x) lt)) t e

    over : IsOver x (run ys)
    over = those_none due 0 (many x) (λ m l. each m (omega (arith, l)))

pub ends_over : ServeKeeps → RunAsksLawful → OpeningHolds → PlayHolds → EndsAreOver
ends_over keeps lawful opened kept x script ys h = over x script keeps lawful opened kept ys h
