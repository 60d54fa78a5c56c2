-- Who may ask is an actor: a thread, or the actor of an agent.
use Rattle.std.proofs.Common.{◌≡◌, ◌<◌, ◌+◌, ◌-◌, ◌&&◌, ◌||◌, ◌==◌, ℕ, zero, suc, Bool, true, false, nat_lt, List, [], ◌∷◌, length, if◌then◌else◌, refl, sym, ap, ◌∙◌, subst, arith}
use Rattle.std.proofs.lemmas.Bool.{false≢true}
use Rattle.std.proofs.lemmas.Bool.Decides.{nat_tests}
use Rattle.txs_world_protocol.specs.declared.ask.Ask.{Ask}
use Rattle.txs_world_protocol.specs.declared.ask.Ask.TheVariants as ask
use Rattle.txs_world_protocol.specs.declared.event.Event.{Event}
use Rattle.txs_value_cell.specs.Forms.{same_kind}
use Rattle.txs_value_cell.specs.declared.cell.CellDefinition.{CellDefinition}
use Rattle.txs_value_data.proofs.SameLemmas.{and_both, numbers}
use Rattle.txs_value_data.specs.declared.value.CellId.{CellId}
use Rattle.txs_value_data.specs.declared.value.CellKind.{CellKind}
use Rattle.txs_value_data.specs.declared.value.CellKind.TheVariants.{Ref, Atom, Agent}
use Rattle.txs_world_book.specs.Book.{actors, agents_below, has_agent, is_empty}
use Rattle.txs_world_book.specs.Book as world
use Rattle.txs_world_book.specs.Served.{cells_of}
use Rattle.txs_world_book.specs.declared.cell.StoreCell.{StoreCell}
use Rattle.txs_theorem_runs.specs.Shared.{may_ask}
use Rattle.txs_theorem_runs.proofs.Acting.{agent_at, agent_there, agent_turned}

back_turned : (k : CellKind) → same_kind k Agent ≡ true → same_kind Agent k ≡ true
back_turned Ref h = absurd (false≢true h)
back_turned Atom h = absurd (false≢true h)
back_turned Agent h = refl

-- an agent has a number among the agents
fewer : (cells : List StoreCell) (k : ℕ) → agent_at cells k ≡ true → agents_below cells k < agents_below cells (length cells)
fewer [] k h = absurd (false≢true h)
fewer (c ∷ cells) zero h = go (same_kind c.kind Agent) (agent_turned c.kind h)
  where
    go : (b : Bool) → b ≡ true → 0 < (if b then suc (agents_below cells (length cells)) else agents_below cells (length cells))
    go true e = omega arith
    go false e = absurd (false≢true e)
fewer (c ∷ cells) (suc k) h = let r = fewer cells k h in go (same_kind c.kind Agent) r
  where
    go : (b : Bool) → agents_below cells k < agents_below cells (length cells)
        → (if b then suc (agents_below cells k) else agents_below cells k) < (if b then suc (agents_below cells (length cells)) else agents_below cells (length cells))
    go true r = omega (arith, r)
    go false r = r

-- the agent with this number among the agents
abbrev Found : List StoreCell → ℕ → Type 0
Found cells i = (k : ℕ) × (agent_at cells k ≡ true) × (agents_below cells k ≡ i)

nth_agent : (cells : List StoreCell) (i : ℕ) → i < agents_below cells (length cells) → Found cells i
nth_agent [] i h = absurd (omega (arith, h))
nth_agent (c ∷ cells) i h = go (λ j l. nth_agent cells j l) (same_kind c.kind Agent) refl i refl h
  where
    go : ((j : ℕ) → j < agents_below cells (length cells) → Found cells j) → (b : Bool) → same_kind c.kind Agent ≡ b → (j : ℕ) → i ≡ j
        → j < (if b then suc (agents_below cells (length cells)) else agents_below cells (length cells)) → Found (c ∷ cells) i
    go more true e zero k l = (0, back_turned c.kind e, sym k)
    go more true e (suc j) k l = let r = more j (omega (arith, l)) in (suc r.0, r.1, ap (λ b. if b then suc (agents_below cells r.0) else agents_below cells r.0) e ∙ ap suc r.2 ∙ sym k)
    go more false e j k l = let r = more j l in (suc r.0, r.1, ap (λ b. if b then suc (agents_below cells r.0) else agents_below cells r.0) e ∙ r.2 ∙ sym k)

-- an actor that is an agent's
pub record AgentOf (cells : List CellDefinition) (threads a : ℕ) : Type 0 where
  pub agent : CellId
  pub has : has_agent (cells_of cells) agent ≡ true
  pub is : a ≡ world.actor_of threads (cells_of cells) agent

-- an actor that is no thread is an agent's
pub agent_of : (cells : List CellDefinition) (threads a : ℕ) → nat_lt a threads ≡ false → nat_lt a (actors threads (cells_of cells)) ≡ true → AgentOf cells threads a
agent_of cells threads a isnt lt =
    let many = agents_below (cells_of cells) (length (cells_of cells)) in
    let r = nth_agent (cells_of cells) (a - threads) (grind (arith, nat_tests, isnt, lt)) in
    record { agent = record { kind = Agent; number = r.0 }; has = r.1; is = grind (arith, nat_tests, isnt, r.2) }

module _ (cells : List CellDefinition) (threads : ℕ) where
  abbrev many : ℕ
  many = actors threads (cells_of cells)

  -- an agent's actor is one
  pub agent_is : (g : CellId) → has_agent (cells_of cells) g ≡ true → nat_lt (world.actor_of threads (cells_of cells) g) many ≡ true
  agent_is g h = tested (agents_below (cells_of cells) g.number) (agents_below (cells_of cells) (length (cells_of cells))) (fewer (cells_of cells) g.number (agent_there (cells_of cells) g h).1)
    where
      tested : (i n : ℕ) → i < n → nat_lt (threads + i) (threads + n) ≡ true
      tested i n r = grind (arith, nat_tests, r)

  pub thread_is : (b : ℕ) → nat_lt b threads ≡ true → nat_lt b many ≡ true
  thread_is b h = within b (agents_below (cells_of cells) (length (cells_of cells))) h
    where
      within : (i n : ℕ) → nat_lt i threads ≡ true → nat_lt i (threads + n) ≡ true
      within i n h = grind (arith, nat_tests, h)

  of_agent : (b : ℕ) (g : CellId) → (b == world.actor_of threads (cells_of cells) g) ≡ true → has_agent (cells_of cells) g ≡ true → nat_lt b many ≡ true
  of_agent b g e h = subst (λ i. nat_lt i many ≡ true) (sym (numbers b (world.actor_of threads (cells_of cells) g) e)) (agent_is g h)

  -- whoever may ask is an actor
  pub asker_is : (taken : List Bool) (b : ℕ) (book : List Event) (q : Ask) → may_ask cells threads taken b q book ≡ true → nat_lt b many ≡ true
  asker_is taken b book ask.Begin may = (and_both (nat_lt b many) _ may).0
  asker_is taken b book (ask.Look c p) may = (and_both (nat_lt b many) _ may).0
  asker_is taken b book (ask.View cs) may = (and_both (nat_lt b many) _ may).0
  asker_is taken b book (ask.Commit p sets ensured q commuted sends) may = or_is (nat_lt b threads) (is_empty sends) refl (and_both (nat_lt b threads || (is_empty sends && nat_lt b many)) _ may).0
    where
      or_is : (t e : Bool) → nat_lt b threads ≡ t → (t || (e && nat_lt b many)) ≡ true → nat_lt b many ≡ true
      or_is true e h o = thread_is b h
      or_is false e h o = (and_both e (nat_lt b many) o).1
  asker_is taken b book (ask.Fail p q) may = (and_both (nat_lt b many) _ may).0
  asker_is taken b book (ask.Peek c) may = (and_both (nat_lt b many) _ may).0
  asker_is taken b book (ask.Send x) may = thread_is b (and_both (nat_lt b threads) _ may).0
  asker_is taken b book (ask.Take g) may = of_agent b g (and_both (b == world.actor_of threads (cells_of cells) g) _ may).0 (and_both (has_agent (cells_of cells) g) _ (and_both (b == world.actor_of threads (cells_of cells) g) _ may).1).0
  asker_is taken b book (ask.Finish g new sends) may = of_agent b g (and_both (b == world.actor_of threads (cells_of cells) g) _ may).0 (and_both (has_agent (cells_of cells) g) _ (and_both (b == world.actor_of threads (cells_of cells) g) _ may).1).0
  asker_is taken b book (ask.OpenAt c) may = (and_both (nat_lt b many) _ may).0
  asker_is taken b book (ask.CloseAt c p v) may = (and_both (nat_lt b many) _ may).0
  asker_is taken b book (ask.Broke c p) may = (and_both (nat_lt b many) _ may).0
