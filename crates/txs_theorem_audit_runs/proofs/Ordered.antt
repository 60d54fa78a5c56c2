-- Where each event came after what it had to come after, the links of all actors' traces are from lesser times to greater ones.
use Rattle.std.proofs.Common.{◌≡◌, ◌<◌, ◌≤◌, ◌+◌, ℕ, zero, suc, Bool, true, false, List, [], ◌∷◌, length, Option, Some, None, if◌then◌else◌, refl, sym, ap, ◌∙◌, subst, arith}
use Rattle.txs_value_data.specs.Places.{nth}
use Rattle.txs_value_cell.specs.Agents.{agents_from, with_agent}
use Rattle.txs_value_cell.specs.Forms.{same_kind}
use Rattle.txs_value_cell.specs.declared.cell.CellDefinition.{CellDefinition}
use Rattle.txs_value_data.specs.declared.value.CellId.{CellId}
use Rattle.txs_value_data.specs.declared.value.CellKind.{CellKind}
use Rattle.txs_value_data.specs.declared.value.CellKind.TheVariants.{Ref, Atom, Agent}
use Rattle.txs_world_book.specs.Book.{has_agent, agents_below, is_of_kind}
use Rattle.txs_world_book.specs.Book as world
use Rattle.txs_world_book.specs.Served.{cell_of, cells_of}
use Rattle.txs_world_book.specs.declared.cell.StoreCell.{StoreCell}
use Rattle.txs_code_meaning.specs.Machine.{ThreadCode}
use Rattle.txs_theorem_runs.specs.Run.{State, plays}
use Rattle.txs_theorem_runs.specs.Staged.{StagedActor}
use Rattle.txs_theorem_runs.specs.Told.{trace_of}
use Rattle.txs_theorem_serial.specs.Order.{actor_links, thread_links, agent_links, all_links, no_sender, sender_of}
use Rattle.txs_theorem_audit_runs.specs.OrderedRuns.{traces_from, StateIsOrdered, RunsAreOrdered}
use Rattle.txs_theorem_audit_runs.proofs.Keeping.{Role, Thread, AgentOf, is_agent, IsRole, number_of, sender_for, EndOf}
use Rattle.txs_theorem_audit_runs.proofs.Playing.{InOrder, run_in_order}
use Rattle.txs_theorem_audit_runs.proofs.Walk.{AllLinked, linked_append, linked_at, along_linked}

-- ---- agents by their numbers

cell_at : (cells : List CellDefinition) (n : ℕ) (d : CellDefinition) → nth cells n ≡ Some d → nth (cells_of cells) n ≡ Some (cell_of d)
cell_at [] n d e = absurd (subst is_some (sym e) tt)
  where
    is_some : Option CellDefinition → Type 0
    is_some None = ⊥
    is_some (Some x) = Unit {0}
cell_at (c ∷ cells) zero d e = ap of e
  where
    of : Option CellDefinition → Option StoreCell
    of None = None
    of (Some x) = Some (cell_of x)
cell_at (c ∷ cells) (suc n) d e = cell_at cells n d e

abbrev kind_or : CellKind → Option StoreCell → CellKind
kind_or k None = k
kind_or k (Some s) = s.kind

-- one cell more is counted where it is an agent
below_more : (cells : List StoreCell) (n : ℕ) (s : StoreCell) → nth cells n ≡ Some s → agents_below cells (suc n) ≡ (if same_kind s.kind Agent then suc (agents_below cells n) else agents_below cells n)
below_more [] n s e = absurd (subst is_some (sym e) tt)
  where
    is_some : Option StoreCell → Type 0
    is_some None = ⊥
    is_some (Some x) = Unit {0}
below_more (c ∷ cells) zero s e = first cells ∙ ap (λ k. if same_kind k Agent then 1 else 0) (ap (kind_or s.kind) e)
  where
    none_below : (ds : List StoreCell) → agents_below ds 0 ≡ 0
    none_below [] = refl
    none_below (d ∷ ds) = refl

    first : (ds : List StoreCell) → (if same_kind c.kind Agent then suc (agents_below ds 0) else agents_below ds 0) ≡ (if same_kind c.kind Agent then 1 else 0)
    first ds = ap (λ n. if same_kind c.kind Agent then suc n else n) (none_below ds)
below_more (c ∷ cells) (suc n) s e = over (same_kind c.kind Agent) (same_kind s.kind Agent) (below_more cells n s e)
  where
    over : (b t : Bool) → agents_below cells (suc n) ≡ (if t then suc (agents_below cells n) else agents_below cells n)
        → (if b then suc (agents_below cells (suc n)) else agents_below cells (suc n)) ≡ (if t then suc (if b then suc (agents_below cells n) else agents_below cells n) else (if b then suc (agents_below cells n) else agents_below cells n))
    over true true h = ap suc h
    over true false h = ap suc h
    over false true h = h
    over false false h = h

-- ---- the links of a state

module _ (cells : List CellDefinition) (threads : ℕ) (st : State) (o : InOrder cells threads st) where
  -- those of one actor
  role_linked : (r : Role) → IsRole cells threads r → AllLinked o.time (actor_links st.shared.books (sender_for r st.shared.books) (trace_of cells st.shared.books (number_of cells threads r) (st.actors (number_of cells threads r)).entries))
  role_linked r is =
      along_linked st.shared.books o.time (is_agent r) (sender_for r st.shared.books) (EndOf cells st.shared.books o.time o.now r (st.actors (number_of cells threads r)).entries) 0 [] (sender_for r st.shared.books 0)
      (trace_of cells st.shared.books (number_of cells threads r) (st.actors (number_of cells threads r)).entries) (o.walks r is)

  -- those of threads
  threads_linked : (a n : ℕ) → a + n ≤ threads → AllLinked o.time (thread_links st.shared.books (traces_from cells st.shared.books st.actors a n))
  threads_linked a zero le = tt
  threads_linked a (suc n) le =
      linked_append o.time (actor_links st.shared.books no_sender (trace_of cells st.shared.books a (st.actors a).entries)) (thread_links st.shared.books (traces_from cells st.shared.books st.actors (suc a) n))
      (role_linked (Thread a) (omega (arith, le))) (threads_linked (suc a) n (omega (arith, le)))

  abbrev LinkedFrom : ℕ → List CellId → Type 0
  LinkedFrom a gs = AllLinked o.time (agent_links st.shared.books gs (traces_from cells st.shared.books st.actors a (length gs)))

  -- those of agents
  agents_linked : (n : ℕ) (ds : List CellDefinition) → ((i : ℕ) (d : CellDefinition) → nth ds i ≡ Some d → nth cells (n + i) ≡ Some d) → LinkedFrom (threads + agents_below (cells_of cells) n) (agents_from n ds)
  agents_linked n [] h = tt
  agents_linked n (d ∷ ds) h =
      go d.kind refl (below_more (cells_of cells) n (cell_of d) here) (agents_linked (suc n) ds (λ i x e. let m : suc n + i ≡ n + suc i = omega arith in ap (nth cells) m ∙ h (suc i) x e))
    where
      here : nth (cells_of cells) n ≡ Some (cell_of d)
      here = cell_at cells n d (let m : n ≡ n + 0 = omega arith in ap (nth cells) m ∙ h 0 d refl)

      go : (k : CellKind) → d.kind ≡ k → agents_below (cells_of cells) (suc n) ≡ (if same_kind d.kind Agent then suc (agents_below (cells_of cells) n) else agents_below (cells_of cells) n)
          → LinkedFrom (threads + agents_below (cells_of cells) (suc n)) (agents_from (suc n) ds) → LinkedFrom (threads + agents_below (cells_of cells) n) (with_agent k n (agents_from (suc n) ds))
      go Ref e m rest = subst (λ i. LinkedFrom (threads + i) (agents_from (suc n) ds)) (m ∙ ap (λ k. if same_kind k Agent then suc (agents_below (cells_of cells) n) else agents_below (cells_of cells) n) e) rest
      go Atom e m rest = subst (λ i. LinkedFrom (threads + i) (agents_from (suc n) ds)) (m ∙ ap (λ k. if same_kind k Agent then suc (agents_below (cells_of cells) n) else agents_below (cells_of cells) n) e) rest
      go Agent e m rest =
          let g : CellId = record { kind = Agent; number = n } in
          let a = threads + agents_below (cells_of cells) n in
          let one_more : agents_below (cells_of cells) (suc n) ≡ suc (agents_below (cells_of cells) n) = m ∙ ap (λ k. if same_kind k Agent then suc (agents_below (cells_of cells) n) else agents_below (cells_of cells) n) e in
          let next : threads + agents_below (cells_of cells) (suc n) ≡ suc a = omega (arith, one_more) in
          let has : has_agent (cells_of cells) g ≡ true = ap (is_of_kind Agent) here ∙ ap (same_kind Agent) e in
          linked_append o.time (actor_links st.shared.books (sender_of n (st.shared.books 0)) (trace_of cells st.shared.books a (st.actors a).entries))
          (agent_links st.shared.books (agents_from (suc n) ds) (traces_from cells st.shared.books st.actors (suc a) (length (agents_from (suc n) ds))))
          (role_linked (AgentOf g) has) (subst (λ i. LinkedFrom i (agents_from (suc n) ds)) next rest)

  no_agent_below : (cs : List CellDefinition) → agents_below (cells_of cs) 0 ≡ 0
  no_agent_below [] = refl
  no_agent_below (c ∷ cs) = refl

  all_linked : AllLinked o.time (all_links st.shared.books (traces_from cells st.shared.books st.actors 0 threads) (agents_from 0 cells) (traces_from cells st.shared.books st.actors threads (length (agents_from 0 cells))))
  all_linked =
      let none = no_agent_below cells in
      let first : threads + agents_below (cells_of cells) 0 ≡ threads = omega (arith, none) in
      linked_append o.time (thread_links st.shared.books (traces_from cells st.shared.books st.actors 0 threads)) (agent_links st.shared.books (agents_from 0 cells) (traces_from cells st.shared.books st.actors threads (length (agents_from 0 cells))))
      (threads_linked 0 threads (omega arith))
      (subst (λ i. LinkedFrom i (agents_from 0 cells)) first (agents_linked 0 cells (λ i d e. let m : 0 + i ≡ i = omega arith in ap (nth cells) m ∙ e)))

  pub state_is_ordered : StateIsOrdered cells threads st
  state_is_ordered = record {
    time = o.time;
    ascends = o.times.ascends;
    linked = λ i l e. linked_at o.time (all_links st.shared.books (traces_from cells st.shared.books st.actors 0 threads) (agents_from 0 cells) (traces_from cells st.shared.books st.actors threads (length (agents_from 0 cells)))) all_linked i l e;
  }

-- the code of each actor asks in its stages
staged_roles : (cells : List CellDefinition) (threads : ℕ) (codes : ℕ → ThreadCode) → ((a : ℕ) → a < threads → StagedActor false (codes a))
    → ((g : CellId) → has_agent (cells_of cells) g ≡ true → StagedActor true (codes (world.actor_of threads (cells_of cells) g))) → (r : Role) → IsRole cells threads r → StagedActor (is_agent r) (codes (number_of cells threads r))
staged_roles cells threads codes own agents (Thread a) is = own a is
staged_roles cells threads codes own agents (AgentOf g) is = agents g is

pub runs_are_ordered : RunsAreOrdered
runs_are_ordered cells threads codes ys own agents =
    state_is_ordered cells threads (plays cells threads codes ys) (run_in_order cells threads codes (staged_roles cells threads codes own agents) ys)
