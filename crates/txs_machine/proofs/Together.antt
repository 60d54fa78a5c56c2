-- All actors of a run together: which agents there are, runs that go on by a play, what a report says of agents, and what a program means of them.
use Rattle.std.proofs.Common.{◌≡◌, ◌+◌, ◌-◌, ℕ, zero, suc, Bool, true, false, ◌&&◌, List, [], ◌∷◌, ◌++◌, length, map, Option, Some, None, refl, sym, ap, subst, ◌∙◌, ◌⊎◌, inl, inr, arith, if◌then◌else◌}
use Rattle.txs_world_protocol.specs.declared.event.Event.{Event}
use Rattle.txs_world_protocol.specs.declared.event.Outcome.{Outcome}
use Rattle.txs_world_protocol.specs.declared.event.Outcome.TheVariants as outcome
use Rattle.txs_value_cell.specs.Forms.{same_kind}
use Rattle.txs_value_data.specs.Places.{nth}
use Rattle.txs_value_cell.specs.declared.action.Action.{Action}
use Rattle.txs_value_cell.specs.declared.cell.CellDefinition.{CellDefinition}
use Rattle.txs_value_data.specs.declared.value.CellId.{CellId}
use Rattle.txs_value_data.specs.declared.value.CellKind.{CellKind}
use Rattle.txs_value_data.specs.declared.value.CellKind.TheVariants.{Ref, Atom, Agent}
use Rattle.txs_tree_meaning.specs.Tree.{PlainProgram}
use Rattle.txs_code_meaning.specs.ActorState.{ActorState}
use Rattle.txs_code_meaning.specs.Machine.{PlainBody, ThreadCode, Configuration, Turned, agent_code}
use Rattle.txs_code_meaning.specs.PlainCode.{CodeBody, PlainCode, thread_code, function_codes, library_of}
use Rattle.txs_machine_actor.specs.PlainActor.{PlainActor, agent_or_none, code_of, own_body}
use Rattle.txs_value_cell.specs.Agents.{agents_from, with_agent}
use Rattle.txs_world.proofs.Merging.{joined}
use Rattle.txs_world_book.specs.Book.{agents_below, is_of_kind, has_agent}
use Rattle.txs_world_book.specs.Book as world
use Rattle.txs_world_book.specs.Served.{cells_of}
use Rattle.txs_world.specs.Store.{next_action}
use Rattle.txs_theorem_runs.specs.Agents.{AllSound, AgentsStaged, ActionDid, AtEnd, StillActs, StandsAt, ActsUpTo, HasPrintedJust}
use Rattle.txs_theorem_runs.specs.Full.{FullStop, EndsFull}
use Rattle.txs_theorem_runs.specs.Goes.{AsksAt}
use Rattle.txs_theorem_runs.specs.Report.{ActorTraced, RunTraced, RunsProgram, ReportExplained, CodesStaged, RunReported}
use Rattle.txs_theorem_runs.specs.Run as run
use Rattle.txs_theorem_runs.specs.Run.{Stop, Actor, State, Play, plays}
use Rattle.txs_theorem_runs.specs.Shared.{Shared, book_for}
use Rattle.txs_theorem_runs.specs.Told.{AllHold, TraceHolds, trace_of}
use Rattle.txs_theorem_runs.proofs.Growing.{Grown, differ, trace_stays}
use Rattle.txs_theorem_runs.proofs.Rounds.{acts_map}
use Rattle.txs_theorem_runs.proofs.Whole.{all_undisturbed}
use Rattle.txs_world.specs.Laws.{DoneIsUndisturbed}
use Rattle.txs_world_shared.specs.SharedState.{PlainShared, shared_of}
use Rattle.txs_machine.specs.Agents.{agents_of, AgentHasDone, AgentsAreDone, AreExplainedBy, AreDrained}
use Rattle.txs_machine.specs.Playing.{IsReported, AreReported}
use Rattle.txs_machine.specs.RunOver.{books_of, places_of}
use Rattle.txs_machine.specs.RunTheorem.{NeverEnds, ExplainsAgent}
use Rattle.txs_machine.specs.Running.{IsPlacedAs, IsPlayerOf, IsRunBy, ComesTo, GoesAs, IsAgentAt, IsAttending, AreAttending, AreIdle, HasWork, attendants}
use Rattle.txs_machine.specs.Scheduled.{run_of, after_turns, AreTurnsOf}
use Rattle.txs_machine.specs.Schedule.{IsExplainedBy}
use Rattle.txs_machine.specs.declared.player.AgentPlayer.{AgentPlayer}
use Rattle.txs_world_protocol.specs.declared.event.Place.{Place}
use Rattle.txs_machine.specs.declared.player.Player.{Player}
use Rattle.txs_world_protocol.specs.declared.report.ActorReport.{ActorReport}
use Rattle.txs_machine.proofs.Explaining.{reported_at, as_many, length_map}
use Rattle.txs_machine.proofs.Going.{turns_append, others_left, turns_of}
use Rattle.txs_machine.proofs.RunOver.{longer}
use Rattle.txs_theorem_runs.proofs.FullStops.{ends_full}
use Rattle.txs_value_cell.specs.Cells.{validators_of}

abbrev is_some : {A : Type 0} → Option A → Type 0
is_some None = ⊥
is_some (Some x) = Unit {0}

abbrev or_else : {A : Type 0} → A → Option A → A
or_else d None = d
or_else d (Some x) = x

-- ---- which agents there are

-- an agent by its place among the agents: its cell, and how many agents come before it
pub record IsPlacedAgent (n : ℕ) (ds : List CellDefinition) (i : ℕ) (g : CellId) : Type 0 where
  pub cell : ℕ
  pub kind : g.kind ≡ Agent
  pub number : g.number ≡ n + cell
  pub there : is_of_kind Agent (nth (cells_of ds) cell) ≡ true
  pub before : agents_below (cells_of ds) cell ≡ i

counted : CellKind → ℕ → ℕ
counted Ref n = n
counted Atom n = n
counted Agent n = suc n

below_more : (d : CellDefinition) (ds : List CellDefinition) (j : ℕ) (k : CellKind) → d.kind ≡ k → agents_below (cells_of (d ∷ ds)) (suc j) ≡ counted k (agents_below (cells_of ds) j)
unfolding counted
below_more d ds j Ref e = ap (λ k. if same_kind k Agent then suc (agents_below (cells_of ds) j) else agents_below (cells_of ds) j) e
below_more d ds j Atom e = ap (λ k. if same_kind k Agent then suc (agents_below (cells_of ds) j) else agents_below (cells_of ds) j) e
below_more d ds j Agent e = ap (λ k. if same_kind k Agent then suc (agents_below (cells_of ds) j) else agents_below (cells_of ds) j) e

pub agents_placed : (n : ℕ) (ds : List CellDefinition) (i : ℕ) (g : CellId) → nth (agents_from n ds) i ≡ Some g → IsPlacedAgent n ds i g
unfolding counted
agents_placed n [] i g e = absurd (subst is_some (sym e) tt)
agents_placed n (d ∷ ds) i g e = go (λ m h. agents_placed (suc n) ds m g h) d.kind refl i e
  where
    later : (k : CellKind) (i : ℕ) → d.kind ≡ k → IsPlacedAgent (suc n) ds i g → IsPlacedAgent n (d ∷ ds) (counted k i) g
    later k i f h = record {
      cell = suc h.cell;
      kind = h.kind;
      number = h.number ∙ omega arith;
      there = h.there;
      before = below_more d ds h.cell k f ∙ ap (counted k) h.before;
    }

    go : ((m : ℕ) → nth (agents_from (suc n) ds) m ≡ Some g → IsPlacedAgent (suc n) ds m g) → (k : CellKind) → d.kind ≡ k → (i : ℕ) → nth (with_agent k n (agents_from (suc n) ds)) i ≡ Some g → IsPlacedAgent n (d ∷ ds) i g
    go more Ref f i h = later Ref i f (more i h)
    go more Atom f i h = later Atom i f (more i h)
    go more Agent f zero h = record {
      cell = 0;
      kind = ap (λ (c : CellId). c.kind) (sym (ap (or_else g) h));
      number = ap (λ (c : CellId). c.number) (sym (ap (or_else g) h)) ∙ omega arith;
      there = ap (λ k. same_kind Agent k) f;
      before = refl;
    }
    go more Agent f (suc i) h = later Agent i f (more i h)

-- and an agent by its cell
pub agents_found : (n : ℕ) (ds : List CellDefinition) (j : ℕ) → is_of_kind Agent (nth (cells_of ds) j) ≡ true → (g : CellId) × (nth (agents_from n ds) (agents_below (cells_of ds) j) ≡ Some g) × (g.kind ≡ Agent) × (g.number ≡ n + j)
unfolding counted
agents_found n [] j h = absurd (subst is_true h tt)
  where
    is_true : Bool → Type 0
    is_true true = ⊥
    is_true false = Unit {0}
agents_found n (d ∷ ds) zero h = go d.kind refl
  where
    is_true : Bool → Type 0
    is_true true = ⊥
    is_true false = Unit {0}

    go : (k : CellKind) → d.kind ≡ k → (g : CellId) × (nth (agents_from n (d ∷ ds)) 0 ≡ Some g) × (g.kind ≡ Agent) × (g.number ≡ n + 0)
    go Ref e = absurd (subst is_true (sym (ap (λ k. same_kind Agent k) e) ∙ h) tt)
    go Atom e = absurd (subst is_true (sym (ap (λ k. same_kind Agent k) e) ∙ h) tt)
    go Agent e = (record { kind = Agent; number = n }, ap (λ k. nth (with_agent k n (agents_from (suc n) ds)) 0) e, refl, omega arith)
agents_found n (d ∷ ds) (suc j) h =
    let r = agents_found (suc n) ds j h in
    (r.0, found d.kind refl r.0 r.1, r.2, r.3 ∙ omega arith)
  where
    shifted : (k : CellKind) (m : ℕ) → nth (with_agent k n (agents_from (suc n) ds)) (counted k m) ≡ nth (agents_from (suc n) ds) m
    shifted Ref m = refl
    shifted Atom m = refl
    shifted Agent m = refl

    found : (k : CellKind) → d.kind ≡ k → (g : CellId) → nth (agents_from (suc n) ds) (agents_below (cells_of ds) j) ≡ Some g → nth (agents_from n (d ∷ ds)) (agents_below (cells_of (d ∷ ds)) (suc j)) ≡ Some g
    found k e g f =
        ap (λ m. nth (with_agent d.kind n (agents_from (suc n) ds)) m) (below_more d ds j k e) ∙ ap (λ y. nth (with_agent y n (agents_from (suc n) ds)) (counted k (agents_below (cells_of ds) j))) e
        ∙ shifted k (agents_below (cells_of ds) j) ∙ f

past_end : {A : Type 0} (xs : List A) (i : ℕ) → nth xs (length xs + i) ≡ None
past_end [] i = refl
past_end (x ∷ xs) i = let e : suc (length xs) + i ≡ suc (length xs + i) = omega arith in ap (nth (x ∷ xs)) e ∙ past_end xs i

-- the actor of the i-th agent
pub agent_at : (code : PlainCode) (i : ℕ) (g : CellId) → nth (agents_of code) i ≡ Some g → IsAgentAt code g (length code.threads + i)
agent_at code i g e = record {
  has = joined (same_kind g.kind Agent) (is_of_kind g.kind (nth (cells_of code.cells) g.number)) (ap (λ k. same_kind k Agent) p.kind)
      (subst (λ k. is_of_kind k (nth (cells_of code.cells) g.number) ≡ true) (sym p.kind) (subst (λ n. is_of_kind Agent (nth (cells_of code.cells) n) ≡ true) (sym same) p.there));
  place = ap (λ n. length code.threads + n) (sym p.before ∙ ap (agents_below (cells_of code.cells)) (sym same));
  acts = ap (λ (m : PlainBody). record { functions = function_codes code; validators = validators_of code.cells; main = m })
      (ap (own_body code (length code.threads + i)) (past_end code.threads i) ∙ ap (λ n. agent_or_none (nth (agents_from 0 code.cells) n)) minus ∙ ap agent_or_none e);
}
  where
    p : IsPlacedAgent 0 code.cells i g
    p = agents_placed 0 code.cells i g e

    same : g.number ≡ p.cell
    same = omega (arith, p.number)

    minus : (length code.threads + i) - length code.threads ≡ i
    minus = omega arith

-- each agent has an actor
pub agent_indexed : (cells : List CellDefinition) (threads : ℕ) (g : CellId) → has_agent (cells_of cells) g ≡ true → (i : ℕ) × (nth (agents_from 0 cells) i ≡ Some g) × (world.actor_of threads (cells_of cells) g ≡ threads + i)
agent_indexed cells threads g h =
    let b = both_of (same_kind g.kind Agent) (is_of_kind g.kind (nth (cells_of cells) g.number)) h in
    let kind = agent_kind g.kind b.0 in
    let r = agents_found 0 cells g.number (subst (λ k. is_of_kind k (nth (cells_of cells) g.number) ≡ true) kind b.1) in
    let n : r.0.number ≡ g.number = omega (arith, r.3) in
    (agents_below (cells_of cells) g.number, r.1 ∙ ap (λ (c : CellId). Some c) (rw (r.2, n, kind) refl), refl)
  where
    both_of : (a b : Bool) → (a && b) ≡ true → (a ≡ true) × (b ≡ true)
    both_of true true e = (refl, refl)
    both_of true false e = (refl, e)
    both_of false b e = (e, absurd (subst is_true e tt))
      where
        is_true : Bool → Type 0
        is_true true = ⊥
        is_true false = Unit {0}

    agent_kind : (k : CellKind) → same_kind k Agent ≡ true → k ≡ Agent
    agent_kind Agent e = refl
    agent_kind Ref e = absurd (subst is_true e tt)
      where
        is_true : Bool → Type 0
        is_true true = ⊥
        is_true false = Unit {0}
    agent_kind Atom e = absurd (subst is_true e tt)
      where
        is_true : Bool → Type 0
        is_true true = ⊥
        is_true false = Unit {0}

pub agent_acts : (code : PlainCode) (g : CellId) → has_agent (cells_of code.cells) g ≡ true → (i : ℕ) × (nth (agents_of code) i ≡ Some g) × (world.actor_of (length code.threads) (cells_of code.cells) g ≡ length code.threads + i)
agent_acts code g h = agent_indexed code.cells (length code.threads) g h

-- ---- a run goes on

-- what was told to an actor of a run holds
pub told_holds : RunTraced → (code : PlainCode) (s : PlainShared) (ys : List Play) (j : ℕ) → shared_of s ≡ (run_of code ys).shared → ActorTraced code.cells (length code.threads) (books_of s) j ((run_of code ys).actors j)
told_holds law code s ys j same = subst (λ (b : ℕ → List Event). ActorTraced code.cells (length code.threads) b j ((run_of code ys).actors j)) (sym (ap (λ (sh : Shared). sh.books) same)) (law code.cells (length code.threads) (code_of code) ys j)

-- what another adds leaves where a player is
other_stays : (code : PlainCode) (k j : ℕ) (books later : ℕ → List Event) (a : PlainActor) (tr : List Place) (y : Actor) → Grown k books later → AllHold code.cells (length code.threads) books j y.entries → IsPlayerOf code j books a tr y → IsPlayerOf code j later a tr y
other_stays code k j books later a tr y g hold h = record {
  number = h.number;
  waits = h.waits;
  placed = h.placed;
  ran = h.ran;
  counted = h.counted;
  traced = h.traced ∙ sym (trace_stays code.cells (length code.threads) k j books later g y.entries hold);
  full = λ e. (let m = h.full e in let l = longer k books later g (book_for code.cells m.ask) in record { ask = m.ask; asked = m.asked; full = omega (arith, m.full, l) });
  stops = λ e. (let m = h.stops e in let l = longer k books later g (book_for code.cells m.ask) in let most = m.full in record { place = m.place; at = m.at; ask = m.ask; asks = m.asks; adds = m.adds; full = omega (arith, most, l) });
}

-- the players of a run, after a play of one of them
pub run_goes : RunTraced → (code : PlainCode) (k n : ℕ) (s t : PlainShared) (xs ys : List Player) (gs hs : List AgentPlayer) (a b : PlainActor) (tr new : List Place) (turns : List Play) → IsRunBy code s xs gs turns → IsPlayerOf code k (books_of s) a tr ((run_of code turns).actors k)
    → Grown k (books_of s) (books_of t) → GoesAs code k n s a tr t b new
    → ((j : ℕ) (x : Player) → nth ys j ≡ Some x → ((j ≡ k) × (x.actor ≡ b) × (x.trace.items ≡ new)) ⊎ ((k ≡ j → ⊥) × (nth xs j ≡ Some x)))
    → ((i : ℕ) (x : AgentPlayer) → nth hs i ≡ Some x → ((length code.threads + i ≡ k) × (x.player.actor ≡ b) × (x.player.trace.items ≡ new)) ⊎ ((k ≡ length code.threads + i → ⊥) × (nth gs i ≡ Some x)))
    → (us : List Play) × AreTurnsOf code a.limit k n (run_of code turns) us × IsRunBy code t ys hs (turns ++ us)
run_goes law code k n s t xs ys gs hs a b tr new turns r p grown goes of_threads of_agents = (
  c.turns,
  c.made,
  record {
    shared = c.shared ∙ sym (ap (λ (u : State). u.shared) on);
    threads = λ j x e. by_thread j x (of_threads j x e);
    agents = λ i x e. by_agent i x (of_agents i x e);
  },
)
  where
    before : State
    before = run_of code turns

    c : ComesTo code k a.limit n (run_of code turns) t b new
    c = goes turns r.shared (told_holds law code s turns k r.shared).hold p

    on : run_of code (turns ++ c.turns) ≡ after_turns code c.turns (run_of code turns)
    on = turns_append code turns c.turns (run.opens code.cells (code_of code))

    own : (j : ℕ) (x : PlainActor) (ps : List Place) → j ≡ k → x ≡ b → ps ≡ new → IsPlayerOf code j (books_of t) x ps ((run_of code (turns ++ c.turns)).actors j)
    own j x ps e f g =
        subst (λ n. IsPlayerOf code n (books_of t) x ps ((run_of code (turns ++ c.turns)).actors n)) (sym e)
        (subst (λ y. IsPlayerOf code k (books_of t) y ps ((run_of code (turns ++ c.turns)).actors k)) (sym f)
        (subst (λ l. IsPlayerOf code k (books_of t) b l ((run_of code (turns ++ c.turns)).actors k)) (sym g)
        (subst (λ (u : State). IsPlayerOf code k (books_of t) b new (u.actors k)) (sym on) c.player)))

    other : (j : ℕ) (x : PlainActor) (ps : List Place) → (k ≡ j → ⊥) → IsPlayerOf code j (books_of s) x ps ((run_of code turns).actors j) → IsPlayerOf code j (books_of t) x ps ((run_of code (turns ++ c.turns)).actors j)
    other j x ps d h =
        subst (λ (y : Actor). IsPlayerOf code j (books_of t) x ps y) (sym (ap (λ (u : State). u.actors j) on ∙ others_left code k j c.turns (run_of code turns) (differ k j d) (turns_of code a.limit k n (run_of code turns) c.turns c.made)))
        (other_stays code k j (books_of s) (books_of t) x ps ((run_of code turns).actors j) grown (told_holds law code s turns j r.shared).hold h)

    by_thread : (j : ℕ) (x : Player) → ((j ≡ k) × (x.actor ≡ b) × (x.trace.items ≡ new)) ⊎ ((k ≡ j → ⊥) × (nth xs j ≡ Some x)) → IsPlayerOf code j (books_of t) x.actor x.trace.items ((run_of code (turns ++ c.turns)).actors j)
    by_thread j x (inl h) = own j x.actor x.trace.items h.0 h.1 h.2
    by_thread j x (inr h) = other j x.actor x.trace.items h.0 (r.threads j x h.1)

    by_agent : (i : ℕ) (x : AgentPlayer) → ((length code.threads + i ≡ k) × (x.player.actor ≡ b) × (x.player.trace.items ≡ new)) ⊎ ((k ≡ length code.threads + i → ⊥) × (nth gs i ≡ Some x)) → IsPlayerOf code (length code.threads + i) (books_of t) x.player.actor x.player.trace.items ((run_of code (turns ++ c.turns)).actors (length code.threads + i))
    by_agent i x (inl h) = own (length code.threads + i) x.player.actor x.player.trace.items h.0 h.1 h.2
    by_agent i x (inr h) = other (length code.threads + i) x.player.actor x.player.trace.items h.0 (r.agents i x h.1)

-- ---- the agents of a report

-- the actor of an agent by its place
pub attending_at : (code : PlainCode) (limit k i : ℕ) (gs : List CellId) (xs : List AgentPlayer) (x : AgentPlayer) → AreAttending code limit k gs xs → nth xs i ≡ Some x → (g : CellId) × (nth gs i ≡ Some g) × IsAttending code g (k + i) limit x
attending_at code limit k i [] [] x h e = absurd (subst is_some (sym e) tt)
attending_at code limit k i [] (y ∷ xs) x h e = absurd h
attending_at code limit k i (g ∷ gs) [] x h e = absurd h
attending_at code limit k zero (g ∷ gs) (y ∷ xs) x h e = (g, refl, subst (λ n. IsAttending code g n limit x) (omega arith) (subst (IsAttending code g k limit) (ap (or_else y) e) h.0))
attending_at code limit k (suc i) (g ∷ gs) (y ∷ xs) x h e =
    let r = attending_at code limit (suc k) i gs xs x h.1 e in
    (r.0, r.1, subst (λ n. IsAttending code r.0 n limit x) (omega arith) r.2)

pub as_attending : (code : PlainCode) (limit k : ℕ) (gs : List CellId) (xs : List AgentPlayer) → AreAttending code limit k gs xs → length xs ≡ length gs
as_attending code limit k [] [] h = refl
as_attending code limit k [] (y ∷ xs) h = absurd h
as_attending code limit k (g ∷ gs) [] h = absurd h
as_attending code limit k (g ∷ gs) (y ∷ xs) h = ap suc (as_attending code limit (suc k) gs xs h.1)

pub attendant_at : (xs : List AgentPlayer) (i : ℕ) (x : Player) → nth (attendants xs) i ≡ Some x → (y : AgentPlayer) × (nth xs i ≡ Some y) × (y.player ≡ x)
attendant_at [] i x e = absurd (subst is_some (sym e) tt)
attendant_at (y ∷ xs) zero x e = (y, refl, ap (or_else x) e)
attendant_at (y ∷ xs) (suc i) x e = attendant_at xs i x e

pub attendants_many : (xs : List AgentPlayer) → length (attendants xs) ≡ length xs
attendants_many [] = refl
attendants_many (x ∷ xs) = ap suc (attendants_many xs)

module _ (traced : RunTraced) (done : DoneIsUndisturbed) (code : PlainCode) (limit : ℕ) (s : PlainShared) (of_threads : List Player) (of_agents : List AgentPlayer) (rs : List ActorReport) (turns : List Play) (attend : AreAttending code limit (length code.threads) (agents_of code) of_agents) (by_turns : IsRunBy code s of_threads of_agents turns) (rep : AreReported code (attendants of_agents) rs) where
  -- an entry and its actor
  record IsEntry (i : ℕ) (r : ActorReport) : Type 0 where
    player : AgentPlayer
    there : nth of_agents i ≡ Some player
    reported : IsReported code player.player r
    agent : CellId
    named : nth (agents_of code) i ≡ Some agent
    attends : IsAttending code agent (length code.threads + i) limit player
    of : IsPlayerOf code (length code.threads + i) (books_of s) player.player.actor player.player.trace.items ((run_of code turns).actors (length code.threads + i))

  entry_at : (i : ℕ) (r : ActorReport) → nth rs i ≡ Some r → IsEntry i r
  entry_at i r e =
      let x = reported_at code (attendants of_agents) rs i r rep e in
      let y = attendant_at of_agents i x.0 x.1 in
      let a = attending_at code limit (length code.threads) i (agents_of code) of_agents y.0 attend y.1 in
      record {
        player = y.0;
        there = y.1;
        reported = subst (λ z. IsReported code z r) (sym y.2) x.2;
        agent = a.0;
        named = a.1;
        attends = a.2;
        of = by_turns.agents i y.0 y.1;
      }

  agent_done : (i : ℕ) (r : ActorReport) → IsEntry i r → AgentHasDone code (length code.threads + i) limit (books_of s) r
  agent_done i r x =
      let t = told_holds traced code s turns (length code.threads + i) by_turns.shared in
      let y = (run_of code turns).actors (length code.threads + i) in
      let trace : places_of r.trace.items ≡ trace_of code.cells (books_of s) (length code.threads + i) y.entries = ap places_of (sym x.reported.traced) ∙ x.of.traced in
      record {
        actor = x.player.player.actor;
        number = x.of.number;
        entries = y.entries;
        over = x.of.ran;
        hold = t.hold;
        waits = x.of.waits;
        limited = x.attends.limited;
        ended = x.reported.ended;
        printed = x.reported.printed;
        counted = x.reported.counted;
        placed = x.reported.placed;
        traced = trace;
        names = subst (TraceHolds (books_of s) (length code.threads + i)) (sym trace) t.traced;
        undisturbed = all_undisturbed done code.cells (length code.threads) (books_of s) (length code.threads + i) y.entries t.hold;
        full = x.of.full;
      }

  pub agents_done : AgentsAreDone code limit (books_of s) rs
  agents_done = record {
    one_each = as_many code (attendants of_agents) rs rep ∙ attendants_many of_agents ∙ as_attending code limit (length code.threads) (agents_of code) of_agents attend;
    each = λ i r e. agent_done i r (entry_at i r e);
  }

  -- nothing waits for an agent that is idle
  idle_at : (xs : List AgentPlayer) (i : ℕ) (x : AgentPlayer) → AreIdle code s xs → nth xs i ≡ Some x → x.player.actor.outcome ≡ None → HasWork code s x.agent → ⊥
  idle_at [] i x d e = absurd (subst is_some (sym e) tt)
  idle_at (y ∷ xs) zero x d e = subst (λ (z : AgentPlayer). z.player.actor.outcome ≡ None → HasWork code s z.agent → ⊥) (ap (or_else y) e) d.0
  idle_at (y ∷ xs) (suc i) x d e = idle_at xs i x d.1 e

  pub agents_drained : AreIdle code s of_agents → AreDrained code (shared_of s) rs
  agents_drained idle i g r named e out = go (next_action (cells_of code.cells) (books_of s 0) g) refl
    where
      x : IsEntry i r
      x = entry_at i r e

      same : x.player.agent ≡ g
      same = x.attends.agent ∙ ap (or_else g) (sym x.named ∙ named)

      go : (o : Option Action) → next_action (cells_of code.cells) (books_of s 0) g ≡ o → o ≡ None
      go None f = refl
      go (Some y) f = absurd (idle_at of_agents i x.player idle x.there (x.reported.ended ∙ out) (subst (HasWork code s) (sym same) (y, f)))

  -- ---- what a program means of agents

  -- an actor that goes on, or was stopped, has printed what its code has
  printed_so : (a : PlainActor) (o : Option Outcome) (at : Turned Configuration) (why : Option Stop) (out : List ℕ) → IsPlacedAs a o at why → HasPrintedJust out at → NeverEnds o × (a.printed ≡ out)
  printed_so a None at why out p g = (tt, subst (HasPrintedJust out) p.0 g)
  printed_so a (Some outcome.Done) at why out p g = absurd (subst (HasPrintedJust out) p.0 g)
  printed_so a (Some (outcome.Failed f)) at why out p g = absurd (subst (HasPrintedJust out) p.0 g)
  printed_so a (Some outcome.StepsSpent) at why out p g = (tt, subst (HasPrintedJust out) p.0 g)
  printed_so a (Some outcome.JournalFull) at why out p g = (tt, ap (λ (u : ActorState). u.printed) (sym p.2) ∙ subst (HasPrintedJust out) p.1 g)
  printed_so a (Some outcome.Memory) at why out p g = (tt, ap (λ (u : ActorState). u.printed) (sym p.2) ∙ subst (HasPrintedJust out) p.1 g)

  module _ (p : PlainProgram) (same : p.cells ≡ code.cells) (threads : length code.threads ≡ length p.threads) (whole : ReportExplained p (library_of code) (run_of code turns))
      (i : ℕ) (g : CellId) (r : ActorReport) (x : IsEntry i r) (named : nth (agents_from 0 p.cells) i ≡ Some g) where
    -- the actors of the run
    abbrev st : State
    st = run_of code turns

    -- the number of the agent's actor
    abbrev k : ℕ
    k = world.actor_of (length p.threads) (cells_of p.cells) x.agent

    -- the books of the run
    bs : books_of s ≡ st.shared.books
    bs = ap (λ (sh : Shared). sh.books) by_turns.shared

    is : x.agent ≡ g
    is = ap (or_else g) (sym x.named ∙ ap (λ cs. nth (agents_from 0 cs) i) (sym same) ∙ named)

    place : length code.threads + i ≡ k
    place =
        (agent_at code i x.agent x.named).place ∙ ap (λ n. world.actor_of n (cells_of code.cells) x.agent) threads
        ∙ ap (λ cs. world.actor_of (length p.threads) (cells_of cs) x.agent) (sym same)

    has : has_agent (cells_of p.cells) x.agent ≡ true
    has = subst (λ cs. has_agent (cells_of cs) x.agent ≡ true) (sym same) (agent_at code i x.agent x.named).has

    trace : places_of r.trace.items ≡ trace_of p.cells st.shared.books k (st.actors k).entries
    unfolding agent_done
    trace =
        (agent_done i r x).traced ∙ ap (λ cs. trace_of cs (books_of s) (length code.threads + i) (st.actors (length code.threads + i)).entries) (sym same)
        ∙ ap (λ b. trace_of p.cells b (length code.threads + i) (st.actors (length code.threads + i)).entries) bs
        ∙ ap (λ n. trace_of p.cells st.shared.books n (st.actors n).entries) place

    -- what was printed
    printed_here : (out : List ℕ) → HasPrintedJust out (st.actors k).at → NeverEnds x.player.player.actor.outcome × (x.player.player.actor.printed ≡ out)
    printed_here out h = printed_so x.player.player.actor x.player.player.actor.outcome _ _ out x.of.placed (subst (λ n. HasPrintedJust out (st.actors n).at) (sym place) h)

    -- what the actor did up to such an end, as its entry says
    acts_here : (End : (ℕ → List Event) → CellId → AtEnd) (out : List ℕ) (ds : List ActionDid) → x.player.player.actor.printed ≡ out
        → ActsUpTo p.cells p.functions st.shared.books x.agent (End st.shared.books x.agent) (trace_of p.cells st.shared.books k (st.actors k).entries) [] out ds
        → ActsUpTo p.cells p.functions (books_of s) g (End (books_of s) g) (places_of r.trace.items) [] r.printed.items ds
    acts_here End out ds e h =
        subst (λ b. ActsUpTo p.cells p.functions b g (End b g) (places_of r.trace.items) [] r.printed.items ds) (sym bs)
        (subst (λ l. ActsUpTo p.cells p.functions st.shared.books g (End st.shared.books g) (places_of r.trace.items) [] l ds) (sym e ∙ x.reported.printed)
        (subst (λ ps. ActsUpTo p.cells p.functions st.shared.books g (End st.shared.books g) ps [] out ds) (sym trace)
        (subst (λ j. ActsUpTo p.cells p.functions st.shared.books j (End st.shared.books j) (trace_of p.cells st.shared.books k (st.actors k).entries) [] out ds) is h)))

    -- one that was stopped for a full book is at an ask whose book is full
    full_here : x.player.player.actor.outcome ≡ Some outcome.JournalFull → FullStop p.cells (code_of code k) st.shared.books (st.actors k)
    full_here e =
        subst (λ n. FullStop p.cells (code_of code n) st.shared.books (st.actors n)) place
        (subst (λ b. FullStop p.cells (code_of code (length code.threads + i)) b (st.actors (length code.threads + i))) bs
        (subst (λ cs. FullStop cs (code_of code (length code.threads + i)) (books_of s) (st.actors (length code.threads + i))) (sym same) (x.of.stops e)))

    -- so its last action stands so
    stands_full : r.outcome ≡ Some outcome.JournalFull → ActsUpTo p.cells p.functions (books_of s) g (EndsFull p.cells p.functions (books_of s) g) (places_of r.trace.items) [] r.printed.items (whole.agents.agents x.agent has).did
    stands_full e =
        let f = full_here (x.reported.ended ∙ e) in
        let all = whole.agents.agents x.agent has in
        let own : code_of code k ≡ agent_code (library_of code) x.agent = subst (λ n. code_of code n ≡ agent_code (library_of code) x.agent) place (agent_at code i x.agent x.named).acts in
        let stands = all.stands f.place f.ask f.at (subst (λ c. AsksAt c f.place f.ask) own f.asks) f.adds in
        acts_here (EndsFull p.cells p.functions) all.printed all.did (printed_here all.printed all.goes_on).1
        (acts_map p.cells p.functions st.shared.books x.agent (StandsAt p.cells p.functions st.shared.books x.agent f.ask) (EndsFull p.cells p.functions st.shared.books x.agent)
        (ends_full p.cells p.functions st.shared.books x.agent f.ask f.full) (trace_of p.cells st.shared.books k (st.actors k).entries) [] all.printed all.did stands)

    agent_explained : ExplainsAgent p (length p.threads + i) g (books_of s) r
    agent_explained =
        let all = whole.agents.agents x.agent has in
        let so = printed_here all.printed all.goes_on in
        record {
          traced = subst (λ n. TraceHolds (books_of s) (n + i) (places_of r.trace.items)) threads (agent_done i r x).names;
          unended = subst NeverEnds x.reported.ended so.0;
          did = all.did;
          acts = acts_here (StillActs p.cells p.functions) all.printed all.did so.1 all.acts;
          full = stands_full;
        }

  pub all_explained_by : RunReported → CodesStaged (map (thread_code code) code.threads) × AgentsStaged (library_of code) → (ts : List ActorReport) → IsExplainedBy code (shared_of s) ts → AreExplainedBy code (shared_of s) ts rs
  all_explained_by law staged ts by p same follows agents sends agents_send = record {
    by_threads = by p same follows;
    one_each = agents_done.one_each ∙ ap (λ cs. length (agents_from 0 cs)) (sym same);
    sends = subst (AllSound p.functions) (sym book) whole.agents.sends;
    each = λ i g r named e. agent_explained p same threads whole i g r (entry_at i r e) named;
  }
    where
      threads : length code.threads ≡ length p.threads
      threads = sym (length_map (thread_code code) code.threads) ∙ follows.as_many

      book : books_of s 0 ≡ (run_of code turns).shared.books 0
      book = ap (λ (sh : Shared). sh.books 0) by_turns.shared

      mapped : (bs : List CodeBody) (i n : ℕ) (c : ThreadCode) → nth (map (thread_code code) bs) i ≡ Some c → record { functions = function_codes code; validators = validators_of code.cells; main = own_body code n (nth bs i) } ≡ c
      mapped [] i n c e = absurd (subst is_some (sym e) tt)
      mapped (b ∷ bs) zero n c e = ap (or_else c) e
      mapped (b ∷ bs) (suc i) n c e = mapped bs i n c e

      runs : RunsProgram p (map (thread_code code) code.threads) (library_of code) (code_of code)
      runs = record {
        threads_run = λ i c e. mapped code.threads i i c e;
        agents_run = λ g has. (
            let a = agent_acts code g (subst (λ cs. has_agent (cells_of cs) g ≡ true) same has) in
            ap (code_of code) (ap (λ n. world.actor_of n (cells_of p.cells) g) (sym threads) ∙ ap (λ cs. world.actor_of (length code.threads) (cells_of cs) g) same ∙ a.2) ∙ (agent_at code a.0 g a.1).acts);
        validators = ap validators_of (sym same);
      }

      whole : ReportExplained p (library_of code) (run_of code turns)
      whole =
          subst (ReportExplained p (library_of code)) (ap (λ cs. plays cs (length p.threads) (code_of code) turns) same ∙ ap (λ n. plays code.cells n (code_of code) turns) (sym threads))
          (law p (map (thread_code code) code.threads) (library_of code) (code_of code) turns follows agents staged.0 staged.1 sends agents_send runs)
