-- A program says of each actor that is at an ask whose book is full that it needs an event of a full book.
use Rattle.std.proofs.Common.{◌≡◌, ◌≤◌, ℕ, suc, true, List, [], ◌∷◌, length, Some, Ok, Err, refl, sym, subst}
use Rattle.txs_value_cell.specs.declared.cell.CellDefinition.{CellDefinition}
use Rattle.txs_value_data.specs.Limits.{most_events}
use Rattle.txs_value_data.specs.declared.value.CellId.{CellId}
use Rattle.txs_value_data.specs.declared.value.Value.{Value}
use Rattle.txs_world_protocol.specs.declared.ask.Ask.{Ask}
use Rattle.txs_world_protocol.specs.declared.ask.Ask.TheVariants as ask
use Rattle.txs_world_protocol.specs.declared.event.Event.{Event}
use Rattle.txs_tree_meaning.specs.Meaning.{Completion, Completes, Recurs, Faults, Retries, Waits, OutOfTurns, Invalid}
use Rattle.txs_tree_meaning.specs.Thread.{ThreadState}
use Rattle.txs_tree_meaning.specs.Tree.{PlainFunction}
use Rattle.txs_code_meaning.specs.Machine.{agent_code}
use Rattle.txs_theorem_threads.specs.FollowsAgent.{MeansAsked}
use Rattle.txs_theorem_threads.specs.FollowsAll.{source_of}
use Rattle.txs_theorem_threads.specs.RepliesFit.{book_asked, halted, HasWaitedFor}
use Rattle.txs_world.specs.Laws.{ServeKeeps, ActionStays, RefusedIsUndisturbed}
use Rattle.txs_world_book.specs.Book.{has_agent, actor_of}
use Rattle.txs_world_book.specs.Served.{cells_of}
use Rattle.txs_theorem_runs.specs.Agents.{meaning_after, ActionDid, ActsUpTo, StandsAt, HasPrintedJust, AgentsExplain}
use Rattle.txs_theorem_runs.specs.Full.{FullStop, StandsFull, EndsFull, RunFullStops}
use Rattle.txs_theorem_runs.specs.Goes.{AsksAt}
use Rattle.txs_theorem_runs.specs.Run.{State, plays}
use Rattle.txs_theorem_runs.specs.Shared.{book_for}
use Rattle.txs_theorem_runs.specs.Told.{Place, trace_of}
use Rattle.txs_theorem_runs.proofs.Agents.{run_acts_mean}
use Rattle.txs_theorem_runs.proofs.Full.{run_waits}
use Rattle.txs_theorem_runs.proofs.Report.{actors_send, thread_staged, thread_follows}
use Rattle.txs_theorem_runs.proofs.Rounds.{acts_map}
use Rattle.txs_theorem_runs.proofs.Whole.{Lower, FreshStands}

module _ (cells : List CellDefinition) (functions : List PlainFunction) (books : ℕ → List Event) (g : CellId) where
  -- what waits for an event of a full book stands so
  waits_full : (b : ℕ) (out : List ℕ) (m : Completion ThreadState Value) → most_events ≤ length (books b) → HasWaitedFor b out (halted m) → StandsFull books out m
  waits_full b out (Completes v t) full h = absurd h
  waits_full b out (Recurs vs t) full h = absurd h
  waits_full b out (Faults f t) full h = absurd h
  waits_full b out (Retries t) full h = absurd h
  waits_full b out (Waits t) full h = (b, full, h)
  waits_full b out (OutOfTurns t) full h = absurd h
  waits_full b out Invalid full h = absurd h

  -- so does what has come to an ask of one, or is handed in by it
  asked_full : (q : Ask) (out : List ℕ) (m : Completion ThreadState Value) → most_events ≤ length (books (book_for cells q)) → MeansAsked cells g (Some q) out m → StandsFull books out m
  asked_full (ask.Finish i (Ok v) sends) out m full h = subst (StandsFull books out) (sym h.1.1) (full, h.1.2, h.1.3)
  asked_full (ask.Finish i (Err f) sends) out m full h = subst (StandsFull books out) (sym h.1.1) (full, h.1.2, h.1.3)
  asked_full q out m full h = waits_full (book_asked cells q) out m full h

  -- where the book for the ask is full the last action stands so
  pub ends_full : (q : Ask) → most_events ≤ length (books (book_for cells q)) → (since : List Place) (out : List ℕ) (ds : List ActionDid) → StandsAt cells functions books g q since out ds → EndsFull cells functions books g since out ds
  ends_full q full since out [] h = absurd h
  ends_full q full since out (d ∷ []) h = (h.0, h.1, h.2, h.3, asked_full q out (meaning_after cells functions books (books 0) g h.3 h.1 since) full h.4)
  ends_full q full since out (d ∷ e ∷ ds) h = absurd h

pub run_full_stops : Lower → RefusedIsUndisturbed → ServeKeeps → ActionStays → FreshStands → RunFullStops
run_full_stops lower refused keeps stays fresh p threads functions codes ys f agents staged agents_staged sends agents_send run = record {
  threads = λ i t e stop. (
    stop.place.state.printed,
    subst (HasPrintedJust stop.place.state.printed) (sym stop.at) refl,
    suc (st.actors i).turns,
    (
      book_for p.cells stop.ask,
      stop.full,
      run_waits lower keeps fresh p.cells (length p.threads) codes ys i (thread_staged p threads functions codes ys f staged sends agents_send run i t e) (source_of p t) stop.place stop.ask refl
          (thread_follows p threads functions codes ys f staged sends agents_send run i t e) stop.at stop.asks,
    ),
  );
  agents = agent_stops;
}
  where
    st : State
    st = plays p.cells (length p.threads) codes ys

    means : AgentsExplain p.cells (length p.threads) functions p.functions st
    means = run_acts_mean lower refused keeps stays fresh p.cells (length p.threads) codes functions p.functions ys agents run.agents_run agents_staged (actors_send p threads functions codes ys f staged sends agents_send run)

    agent_stops : (g : CellId) → has_agent (cells_of p.cells) g ≡ true
        → FullStop p.cells (codes (actor_of (length p.threads) (cells_of p.cells) g)) st.shared.books (st.actors (actor_of (length p.threads) (cells_of p.cells) g))
        → (out : List ℕ) × HasPrintedJust out (st.actors (actor_of (length p.threads) (cells_of p.cells) g)).at × (did : List ActionDid)
        × ActsUpTo p.cells p.functions st.shared.books g (EndsFull p.cells p.functions st.shared.books g) (trace_of p.cells st.shared.books (actor_of (length p.threads) (cells_of p.cells) g) (st.actors (actor_of (length p.threads) (cells_of p.cells) g)).entries) [] out did
    agent_stops g has stop =
        let x = means.agents g has in
        let asks : AsksAt (agent_code functions g) stop.place stop.ask = subst (λ k. AsksAt k stop.place stop.ask) (run.agents_run g has) stop.asks in (
          x.printed,
          x.goes_on,
          x.did,
          acts_map p.cells p.functions st.shared.books g (StandsAt p.cells p.functions st.shared.books g stop.ask) (EndsFull p.cells p.functions st.shared.books g)
              (ends_full p.cells p.functions st.shared.books g stop.ask stop.full)
              (trace_of p.cells st.shared.books (actor_of (length p.threads) (cells_of p.cells) g) (st.actors (actor_of (length p.threads) (cells_of p.cells) g)).entries) [] x.printed x.did
              (x.stands stop.place stop.ask stop.at asks stop.adds),
        )
