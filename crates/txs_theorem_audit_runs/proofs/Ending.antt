-- The actors of a run's report have ended, or were stopped, truly.
use Rattle.std.proofs.Common.{◌≡◌, ℕ, true, List, Option, Some, None, refl, sym, ap, ◌∙◌, subst, arith, ⊎_elim}
use Rattle.txs_value_data.specs.Places.{nth}
use Rattle.txs_value_cell.specs.Agents.{agents_from}
use Rattle.txs_value_data.specs.declared.value.CellId.{CellId}
use Rattle.txs_world_protocol.specs.declared.event.Event.{Event}
use Rattle.txs_world_protocol.specs.declared.event.Outcome.{Outcome}
use Rattle.txs_world_protocol.specs.declared.event.Outcome.TheVariants.{Done, Failed, StepsSpent, JournalFull, Memory}
use Rattle.txs_world_protocol.specs.declared.report.ActorReport.{ActorReport}
use Rattle.txs_world_protocol.specs.declared.report.Report.{Report}
use Rattle.txs_world_book.specs.Served.{cells_of}
use Rattle.txs_world.specs.Store.{next_action}
use Rattle.txs_world_shared.specs.SharedState.{PlainShared}
use Rattle.txs_code_meaning.specs.PlainCode.{PlainCode}
use Rattle.txs_tree_meaning.specs.Tree.{PlainProgram}
use Rattle.txs_machine_actor.specs.PlainActor.{PlainActor}
use Rattle.txs_machine.specs.RunOver.{IsLimited}
use Rattle.txs_theorem_audit.specs.Audited.{PlainActorReport, PlainReport, PlainTerms, ran_as, report_as}
use Rattle.txs_theorem_audit.specs.Explained.{TrueStop, EndsTruly}
use Rattle.txs_theorem_audit_runs.specs.Runs.{IsRunOf}
use Rattle.txs_theorem_audit_runs.proofs.Numbered.{mapped, either, same_books}

-- a stop for steps is true, and any other end
stops_so : (limit : ℕ) (o : Option Outcome) (steps : ℕ) → (o ≡ Some StepsSpent → steps ≡ limit) → TrueStop limit o steps
stops_so limit None steps spent = tt
stops_so limit (Some Done) steps spent = tt
stops_so limit (Some (Failed f)) steps spent = tt
stops_so limit (Some StepsSpent) steps spent = spent refl
stops_so limit (Some JournalFull) steps spent = tt
stops_so limit (Some Memory) steps spent = tt

module _ (p : PlainProgram) (code : PlainCode) (w : PlainTerms) (s : PlainShared) (r : Report) (cells : code.cells ≡ p.cells) (run : IsRunOf code w s r) where
  abbrev rep : PlainReport
  rep = report_as r

  -- the stop of an actor that did this is true
  actor_stops : (a : PlainActor) (ran : ActorReport) → IsLimited w.limit a → a.outcome ≡ ran.outcome → a.steps ≡ ran.steps → TrueStop w.limit ran.outcome ran.steps
  actor_stops a ran limited ended counted = stops_so w.limit ran.outcome ran.steps (λ e. (let most = limited.within in let all = limited.spent (ended ∙ e) in omega (arith, counted, most, all)))

  abbrev IsTrue : PlainActorReport → Type 0
  IsTrue ran = TrueStop w.limit ran.outcome ran.steps

  thread_stops : (k : ℕ) (ran : PlainActorReport) → nth rep.threads k ≡ Some ran → IsTrue ran
  thread_stops k ran h =
      let m = mapped ran_as r.threads.items k ran h in
      let d = run.done.each k m.0 m.1 in
      subst IsTrue m.2 (actor_stops d.actor m.0 d.limited d.ended d.counted)

  agent_stops : (i : ℕ) (ran : PlainActorReport) → nth rep.agents i ≡ Some ran → IsTrue ran
  agent_stops i ran h =
      let m = mapped ran_as r.agents.items i ran h in
      let d = run.agents_done.each i m.0 m.1 in
      subst IsTrue m.2 (actor_stops d.actor m.0 d.limited d.ended d.counted)

  thread_ended : w.finishes ≡ true → (k : ℕ) (ran : PlainActorReport) → nth rep.threads k ≡ Some ran → ran.outcome ≡ None → ⊥
  thread_ended is k ran h none =
      let m = mapped ran_as r.threads.items k ran h in
      run.ended is k m.0 m.1 (ap (λ (z : PlainActorReport). z.outcome) m.2 ∙ none)

  agent_ended : w.finishes ≡ true → (i : ℕ) (g : CellId) (ran : PlainActorReport) → nth (agents_from 0 p.cells) i ≡ Some g → nth rep.agents i ≡ Some ran → ran.outcome ≡ None → next_action (cells_of p.cells) rep.book g ≡ None
  agent_ended is i g ran there h none =
      let m = mapped ran_as r.agents.items i ran h in
      let named : nth (agents_from 0 code.cells) i ≡ Some g = ap (λ ds. nth (agents_from 0 ds) i) cells ∙ there in
      let empty = run.drained is i g m.0 named m.1 (ap (λ (z : PlainActorReport). z.outcome) m.2 ∙ none) in
      ap (λ ds. next_action (cells_of ds) rep.book g) (sym cells) ∙ ap (λ (n : ℕ → List Event). next_action (cells_of code.cells) (n 0) g) (sym (same_books s r run.of)) ∙ empty

  pub ends_truly : EndsTruly p w rep
  ends_truly = record {
    threads = thread_ended;
    agents = agent_ended;
    stops = λ a ran h. ⊎_elim (λ l. thread_stops a ran l) (λ e. agent_stops e.0 ran e.2) (either rep.threads rep.agents a ran h);
  }
