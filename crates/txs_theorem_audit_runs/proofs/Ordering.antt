-- The events of a run's report have an order: that of the turns of the run.
use Rattle.std.proofs.Common.{◌≡◌, ◌<◌, ℕ, zero, suc, ◌+◌, true, false, List, [], ◌∷◌, length, map, Some, refl, sym, ap, ◌∙◌, subst, arith}
use Rattle.txs_value_data.specs.Places.{nth}
use Rattle.txs_value_cell.specs.Agents.{agents_from}
use Rattle.txs_value_cell.specs.Cells.{validators_of}
use Rattle.txs_value_cell.specs.declared.cell.CellDefinition.{CellDefinition}
use Rattle.txs_value_data.specs.declared.value.CellId.{CellId}
use Rattle.txs_world_protocol.specs.declared.event.Event.{Event}
use Rattle.txs_world_protocol.specs.declared.report.ActorReport.{ActorReport}
use Rattle.txs_world_protocol.specs.declared.report.Report.{Report}
use Rattle.txs_world_book.specs.Book.{has_agent, actor_of}
use Rattle.txs_world_book.specs.Served.{cells_of}
use Rattle.txs_world_shared.specs.SharedState.{PlainShared, shared_of}
use Rattle.txs_code_meaning.specs.PlainCode.{CodeBody, PlainCode, thread_code, function_codes}
use Rattle.txs_tree_meaning.specs.Tree.{PlainProgram}
use Rattle.txs_theorem_runs.specs.Run.{Actor, State}
use Rattle.txs_theorem_runs.specs.Shared.{Shared}
use Rattle.txs_theorem_runs.specs.Staged.{StagedActor}
use Rattle.txs_theorem_runs.specs.Told.{Place, trace_of}
use Rattle.txs_theorem_serial.specs.Order.{IsOrdered, all_links}
use Rattle.txs_theorem_audit_runs.specs.OrderedRuns.{traces_from, StateIsOrdered, RunsAreOrdered}
use Rattle.txs_machine_actor.specs.PlainActor.{own_body, code_of}
use Rattle.txs_machine.specs.Scheduled.{run_of, IsEntryOf}
use Rattle.txs_machine.proofs.Together.{agent_at, agent_acts}
use Rattle.txs_theorem_audit.specs.Audited.{PlainActorReport, PlainReport, PlainTerms, place_of, ran_as, report_as, books_of}
use Rattle.txs_theorem_audit.specs.Verdict.{report_links}
use Rattle.txs_theorem_audit.proofs.Findings.{not_there}
use Rattle.txs_theorem_audit.proofs.Listing.{there_is}
use Rattle.txs_theorem_audit_runs.specs.Runs.{IsRunOf, IsStagedCode}
use Rattle.txs_theorem_audit_runs.proofs.Numbered.{places_same, same_books}

-- ---- traces

-- the places that an entry has
abbrev trace_in : PlainActorReport → List Place
trace_in x = x.trace

-- the traces of entries are those of the actors whose entries they are, from the a-th on
traces_same : (code : PlainCode) (books : ℕ → List Event) (actors : ℕ → Actor) (a : ℕ) (rans : List ActorReport) → ((i : ℕ) (ran : ActorReport) → nth rans i ≡ Some ran → IsEntryOf code books (a + i) (actors (a + i)) ran)
    → map trace_in (map ran_as rans) ≡ traces_from code.cells books actors a (length rans)
traces_same code books actors a [] h = refl
traces_same code books actors a (ran ∷ rans) h =
    let z : a + 0 ≡ a = omega arith in
    let first : map place_of ran.trace.items ≡ trace_of code.cells books a (actors a).entries = sym (places_same ran.trace.items) ∙ (subst (λ k. IsEntryOf code books k (actors k) ran) z (h 0 ran refl)).traced in
    let rest = traces_same code books actors (suc a) rans (λ i x e. (let n : a + suc i ≡ suc a + i = omega arith in subst (λ k. IsEntryOf code books k (actors k) x) n (h (suc i) x e))) in
    ap (λ t. t ∷ map trace_in (map ran_as rans)) first ∙ ap (λ ts. trace_of code.cells books a (actors a).entries ∷ ts) rest

-- ---- the code of the actors

-- the code of a thread asks in its stages
mapped_code : (code : PlainCode) (bs : List CodeBody) (i : ℕ) (b : CodeBody) → nth bs i ≡ Some b → nth (map (thread_code code) bs) i ≡ Some (thread_code code b)
mapped_code code [] i b h = not_there h
mapped_code code (c ∷ bs) zero b h = let same : c ≡ b = cc in ap (λ (y : CodeBody). Some (thread_code code y)) same
mapped_code code (c ∷ bs) (suc i) b h = mapped_code code bs i b h

thread_staged : (code : PlainCode) → IsStagedCode code → (a : ℕ) → a < length code.threads → StagedActor false (code_of code a)
thread_staged code staged a lt =
    let b = there_is code.threads a lt in
    subst (λ o. StagedActor false (record { functions = function_codes code; validators = validators_of code.cells; main = own_body code a o })) (sym b.1) (staged.threads a (thread_code code b.0) (mapped_code code code.threads a b.0 b.1))

-- so does that of an agent
agent_staged : (code : PlainCode) → IsStagedCode code → (g : CellId) → has_agent (cells_of code.cells) g ≡ true → StagedActor true (code_of code (actor_of (length code.threads) (cells_of code.cells) g))
agent_staged code staged g has =
    let a = agent_acts code g has in
    subst (StagedActor true) (sym (ap (code_of code) a.2 ∙ (agent_at code a.0 g a.1).acts)) (staged.agents g)

-- ---- the report

module _ (law : RunsAreOrdered) (p : PlainProgram) (code : PlainCode) (w : PlainTerms) (s : PlainShared) (r : Report) (cells : code.cells ≡ p.cells) (staged : IsStagedCode code) (run : IsRunOf code w s r) where
  abbrev rep : PlainReport
  rep = report_as r

  abbrev st : State
  st = run_of code run.interleaved.turns

  abbrev threads : ℕ
  threads = length code.threads

  -- in the order of the turns of the run
  by_turns : StateIsOrdered code.cells threads st
  by_turns = law code.cells threads (code_of code) run.interleaved.turns (thread_staged code staged) (agent_staged code staged)

  abbrev N : ℕ → List Event
  N = (shared_of s).books

  books_are : st.shared.books ≡ N
  books_are = ap (λ (sh : Shared). sh.books) (sym run.interleaved.shared)

  of_threads : map trace_in rep.threads ≡ traces_from code.cells N st.actors 0 threads
  of_threads =
      traces_same code N st.actors 0 r.threads.items (λ i ran h. (let z : i ≡ 0 + i = omega arith in subst (λ k. IsEntryOf code N k (st.actors k) ran) z (run.interleaved.threads_are i ran h)))
      ∙ ap (traces_from code.cells N st.actors 0) run.done.one_each

  of_agents : map trace_in rep.agents ≡ traces_from code.cells N st.actors threads (length (agents_from 0 code.cells))
  of_agents = traces_same code N st.actors threads r.agents.items run.interleaved.agents_are ∙ ap (traces_from code.cells N st.actors threads) run.agents_done.one_each

  -- the events of books have an order that fits these traces
  abbrev AreOrdered : (ℕ → List Event) → List (List Place) → List CellDefinition → List (List Place) → Type 0
  AreOrdered books ts ds gs = IsOrdered books (all_links books ts (agents_from 0 ds) gs)

  pub is_ordered : IsOrdered (books_of rep) (report_links p rep)
  is_ordered =
      let in_state : AreOrdered N (traces_from code.cells N st.actors 0 threads) code.cells (traces_from code.cells N st.actors threads (length (agents_from 0 code.cells))) =
      subst (λ b. AreOrdered b (traces_from code.cells b st.actors 0 threads) code.cells (traces_from code.cells b st.actors threads (length (agents_from 0 code.cells)))) books_are by_turns in
      let with_threads = subst (λ ts. AreOrdered N ts code.cells (traces_from code.cells N st.actors threads (length (agents_from 0 code.cells)))) (sym of_threads) in_state in
      let with_agents = subst (λ gs. AreOrdered N (map trace_in rep.threads) code.cells gs) (sym of_agents) with_threads in
      let of_program = subst (λ ds. AreOrdered N (map trace_in rep.threads) ds (map trace_in rep.agents)) cells with_agents in
      subst (λ b. AreOrdered b (map trace_in rep.threads) p.cells (map trace_in rep.agents)) (same_books s r run.of) of_program
