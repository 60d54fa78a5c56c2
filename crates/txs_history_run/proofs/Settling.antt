-- Where all actors are back and follow one history, the report of them is that of a run by turns.
use Rattle.std.proofs.Common.{◌≡◌, ◌+◌, ◌<◌, ℕ, List, length, map, Some, sym, ap, subst, ◌∙◌}
use Rattle.txs_world_protocol.specs.declared.event.Event.{Event}
use Rattle.txs_world_protocol.specs.declared.report.ActorReport.{ActorReport}
use Rattle.txs_value_data.specs.Places.{nth}
use Rattle.txs_tree_meaning.specs.Tree.{PlainThread, PlainProgram}
use Rattle.txs_code_meaning.specs.PlainCode.{PlainCode, thread_code, library_of}
use Rattle.txs_theorem_threads.specs.Follows.{Follows}
use Rattle.txs_theorem_threads.specs.FollowsAll.{source_of, FollowsAll}
use Rattle.txs_machine_actor.specs.PlainActor.{code_of}
use Rattle.txs_world.specs.Laws.{RefusedIsUndisturbed}
use Rattle.txs_theorem_runs.specs.Agents.{AgentsStaged}
use Rattle.txs_theorem_runs.specs.Explains.{BooksStand}
use Rattle.txs_theorem_runs.specs.Invariant.{SharedStands}
use Rattle.txs_theorem_runs.specs.Report.{ActorTraced, CodesStaged, RunReported, RunTraced}
use Rattle.txs_theorem_runs.specs.Run.{Actor}
use Rattle.txs_theorem_runs.specs.Told.{TraceHolds}
use Rattle.txs_theorem_runs.proofs.Refused.{all_refused}
use Rattle.txs_theorem_runs.proofs.Whole.{all_undisturbed}
use Rattle.txs_history.specs.Following.{HistoryIsRun}
use Rattle.txs_history.specs.Asked.{History}
use Rattle.txs_world_shared.specs.SharedState.{PlainShared, shared_of}
use Rattle.txs_machine.specs.Playing.{AreReported, IsReported}
use Rattle.txs_machine.specs.RunOver.{AskedOn, RunOver, books_of, places_of}
use Rattle.txs_machine.specs.RunTheorem.{HasDone, ExplainsThread}
use Rattle.txs_machine.specs.Running.{attendants}
use Rattle.txs_machine.specs.Schedule.{AreDone, IsExplainedBy}
use Rattle.txs_machine.specs.Scheduled.{IsInterleaving, run_of}
use Rattle.txs_machine.specs.declared.player.Player.{Player}
use Rattle.txs_machine.specs.declared.player.Players.{Players}
use Rattle.txs_machine.specs.declared.schedule.Entries.{Entries}
use Rattle.txs_machine.proofs.Explaining.{Known, part_explained, part_printed, code_at, part_full, MeansSo, LeastSo, FullSo, entry_explained, reported_at, as_many, books_stand}
use Rattle.txs_machine.proofs.Scheduled.{entry_so}
use Rattle.txs_machine.proofs.Together.{agents_done, all_explained_by, attendant_at, told_holds}
use Rattle.txs_history_run.specs.Actor.{IsThreadOn, PlainLogged}
use Rattle.txs_history_run.specs.Settled.{AreSettled, ArePlayersOf, IsRunReport, SettledIsRun}
use Rattle.txs_history_run.proofs.Home.{IsHome, IsTheRun, the_run, thread_home, by_turns, all_attend}
use Rattle.txs_history_run.proofs.Lists.{within_of, length_map}

-- an entry that says what its actor did is explained by each source that the code follows
thread_explained : Known → (code : PlainCode) (k limit : ℕ) (books : ℕ → List Event) (r : ActorReport) → HasDone code k limit books r
    → (p : PlainProgram) (t : PlainThread) → p.cells ≡ code.cells → FollowsAll (map (thread_code code) code.threads) p → nth p.threads k ≡ Some t → ExplainsThread p k t books r
thread_explained by code k limit books r d p t same follows e =
    let a = d.actor in
    let tr = r.trace.items in
    let f : Follows (code_of code k) (source_of p t) = follows.each k (code_of code k) t (code_at code code.threads p.threads k k t follows.as_many e) e in
    let means : MeansSo p t books a.outcome a.printed tr code.cells = part_explained by code k books tr a d.waits d.over d.traced (source_of p t) same f d.undisturbed d.refused in
    let least : LeastSo p t books a.printed tr code.cells = part_printed by code k books tr a d.waits d.over d.traced (source_of p t) same f in
    let full : FullSo p t books a.outcome a.printed tr code.cells = part_full by code k books tr a d.waits d.over d.traced (source_of p t) same f in
    entry_explained p k t books r (subst (TraceHolds books k) (sym d.traced) d.over.told.traced)
    (subst (λ o. MeansSo p t books o r.printed.items tr p.cells) d.ended
    (subst (λ out. MeansSo p t books a.outcome out tr p.cells) d.printed (subst (MeansSo p t books a.outcome a.printed tr) (sym same) means)))
    (subst (λ out. LeastSo p t books out tr p.cells) d.printed (subst (LeastSo p t books a.printed tr) (sym same) least))
    (subst (λ o. FullSo p t books o r.printed.items tr p.cells) d.ended
    (subst (λ out. FullSo p t books a.outcome out tr p.cells) d.printed (subst (FullSo p t books a.outcome a.printed tr) (sym same) full)))

module _ (by : Known) (refused : RefusedIsUndisturbed) (traced : RunTraced) (code : PlainCode) (limit : ℕ) (s : PlainShared) where
  -- a thread's actor has done over the books what a run's has
  over_of : (k : ℕ) (x : Player) (y : Actor) → k < length code.threads → IsHome code limit k (books_of s) x y → ActorTraced code.cells (length code.threads) (books_of s) k y → RunOver code k (books_of s) x.actor
  over_of k x y below h told =
      let t : IsThreadOn code y.entries x.actor = h.on.thread (subst (λ n. n < length code.threads) (sym h.of.number) below) in
      record {
        number = h.of.number;
        entries = y.entries;
        stage = t.stage;
        ran = h.of.ran;
        told = record { hold = told.hold; staged = t.staged; traced = told.traced };
        here = t.here;
        asked = λ before e rest is. subst (λ n. AskedOn (code_of code n) before x.actor) h.of.number (t.asked before e rest is);
        full = h.of.full;
      }

  done_so : (k : ℕ) (x : Player) (y : Actor) (r : ActorReport) → k < length code.threads → IsHome code limit k (books_of s) x y → ActorTraced code.cells (length code.threads) (books_of s) k y → IsReported code x r → HasDone code k limit (books_of s) r
  unfolding over_of
  done_so k x y r below h told rep = record {
    actor = x.actor;
    over = over_of k x y below h told;
    waits = h.of.waits;
    limited = h.limited;
    ended = rep.ended;
    printed = rep.printed;
    counted = rep.counted;
    placed = rep.placed;
    traced = ap places_of (sym rep.traced) ∙ h.of.traced;
    undisturbed = all_undisturbed by.done code.cells (length code.threads) (books_of s) k y.entries told.hold;
    refused = all_refused refused code.cells (length code.threads) (books_of s) k y.entries told.hold;
  }

  -- each program that the code follows explains what its threads did
  explained_so : SharedStands code.cells (length code.threads) (shared_of s) → (rs : List ActorReport) → AreDone code limit (books_of s) rs → IsExplainedBy code (shared_of s) rs
  explained_so stands rs done p is follows = record {
    one_each = done.one_each ∙ threads;
    books = subst (λ cs. BooksStand cs (length p.threads) (shared_of s)) (sym is) (subst (λ n. BooksStand code.cells n (shared_of s)) threads (books_stand code.cells (length code.threads) (shared_of s) stands));
    each = λ k t r e f. thread_explained by code k limit (books_of s) r (done.each k r f) p t is follows e;
  }
    where
      threads : length code.threads ≡ length p.threads
      threads = sym (length_map (thread_code code) code.threads) ∙ follows.as_many

  module _ (law : HistoryIsRun) (reported : RunReported) (h : History) (ps : List PlainLogged) (all : Players) (report : Entries) (staged : CodesStaged (map (thread_code code) code.threads) × AgentsStaged (library_of code)) (stands : SharedStands s.cells s.threads (shared_of s)) (settled : AreSettled code limit s h ps) (players : ArePlayersOf code ps all)
      (of_threads : AreReported code all.threads.items report.threads.items) (of_agents : AreReported code (attendants all.agents.items) report.agents.items) (run : IsTheRun law code limit s h ps all settled players) where
    own_stands : SharedStands code.cells (length code.threads) (shared_of s)
    own_stands = subst (λ n. SharedStands code.cells n (shared_of s)) settled.of.threads (subst (λ cs. SharedStands cs s.threads (shared_of s)) settled.of.cells stands)

    all_done : AreDone code limit (books_of s) report.threads.items
    all_done = record {
      one_each = as_many code all.threads.items report.threads.items of_threads ∙ players.threads;
      each = λ k r e. (
          let x = reported_at code all.threads.items report.threads.items k r of_threads e in
          let below : k < length code.threads = subst (λ n. k < n) players.threads (within_of all.threads.items k x.0 x.1) in
          done_so k x.0 ((run_of code run.turns).actors k) r below (thread_home law code limit s h ps all settled players run k x.0 x.1) (told_holds traced code s run.turns k run.shared) x.2);
    }

    interleaved : IsInterleaving code s report.threads.items report.agents.items
    interleaved = record {
      turns = run.turns;
      below = run.below;
      shared = run.shared;
      threads_are = λ k r e. (
          let x = reported_at code all.threads.items report.threads.items k r of_threads e in
          entry_so code (books_of s) k x.0 ((run_of code run.turns).actors k) r ((by_turns law code limit s h ps all settled players run).threads k x.0 x.1) x.2);
      agents_are = λ i r e. (
          let x = reported_at code (attendants all.agents.items) report.agents.items i r of_agents e in
          let y = attendant_at all.agents.items i x.0 x.1 in
          entry_so code (books_of s) (length code.threads + i) y.0.player ((run_of code run.turns).actors (length code.threads + i)) r ((by_turns law code limit s h ps all settled players run).agents i y.0 y.1) (subst (λ z. IsReported code z r) (sym y.2) x.2));
    }

    pub report_so : IsRunReport code limit s report
    report_so =
        let attend = all_attend law code limit s h ps all settled players run in
        let runs = by_turns law code limit s h ps all settled players run in
        let explained : IsExplainedBy code (shared_of s) report.threads.items = explained_so own_stands report.threads.items all_done in
        record {
          done = all_done;
          agents_done = agents_done traced by.done code limit s all.threads.items all.agents.items report.agents.items run.turns attend runs of_agents;
          explained = explained;
          all_explained = all_explained_by traced by.done code limit s all.threads.items all.agents.items report.agents.items run.turns attend runs of_agents reported staged report.threads.items explained;
          interleaved = interleaved;
        }

pub settled_is_run : Known → RefusedIsUndisturbed → RunTraced → RunReported → HistoryIsRun → SettledIsRun
settled_is_run by refused traced reported law code limit s h ps all report staged agents_staged stands settled players of_threads of_agents =
    report_so by refused traced code limit s law reported h ps all report (staged, agents_staged) stands settled players of_threads of_agents (the_run law code limit s h ps all settled players)
