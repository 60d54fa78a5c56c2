-- What a report says, where it tells of all actors behind the last play.
use Rattle.std.proofs.Common.{ℕ, Bool, List, length, map, Result, Ok, Err, IfOk}
use Rattle.txs_code_meaning.specs.PlainCode.{PlainCode, thread_code, library_of}
use Rattle.txs_theorem_runs.specs.Invariant.{SharedStands}
use Rattle.txs_theorem_runs.specs.Agents.{AgentsStaged}
use Rattle.txs_theorem_runs.specs.Report.{CodesStaged}
use Rattle.txs_world_shared.specs.SharedState.{PlainShared, shared_of}
use Rattle.txs_machine.specs.Playing.{AreReported}
use Rattle.txs_machine.specs.Plays.{ArePlayedOut, SaysOf}
use Rattle.txs_machine.specs.RunOver.{books_of}
use Rattle.txs_machine.specs.Running.{attendants}
use Rattle.txs_machine.specs.Schedule.{IsExplainedBy}
use Rattle.txs_machine.specs.declared.player.Players.{Players}
use Rattle.txs_machine.specs.declared.schedule.Play.{Play}
use Rattle.txs_machine.specs.declared.schedule.Entries.{Entries}
use Rattle.txs_machine.proofs.Explaining.{all_done, all_played, all_ended, all_explained}
use Rattle.txs_machine.proofs.Laws.{known, refused, reported, traced}
use Rattle.txs_machine.proofs.Scheduled.{scheduled_so}
use Rattle.txs_machine.proofs.Together.{agents_done, agents_drained, all_explained_by}

module _ (code : PlainCode) (limit : ℕ) (ys : List Play) (rounds : Bool) (s : PlainShared) (all : Players) (out : ArePlayedOut code limit ys rounds s all) (stands : SharedStands code.cells (length code.threads) (shared_of s))
    (staged : CodesStaged (map (thread_code code) code.threads) × AgentsStaged (library_of code)) where
  says : (report : Entries) → AreReported code all.threads.items report.threads.items → AreReported code (attendants all.agents.items) report.agents.items → SaysOf code limit ys rounds s report
  says report threads agents =
      let xs = all.threads.items in
      let ts = report.threads.items in
      let rs = report.agents.items in
      let explained : IsExplainedBy code (shared_of s) ts = all_explained known refused code limit (shared_of s) xs ts out.playing.many stands out.playing.threads threads in
      record {
        done = all_done known.done refused code limit (books_of s) xs ts out.playing.many out.playing.threads threads;
        played = all_played code ys xs ts out.steps threads;
        ended = λ wanted. all_ended code xs ts (out.ended wanted) threads;
        explained = explained;
        agents = agents_done traced known.done code limit s xs all.agents.items rs out.turns out.playing.agents out.playing.run agents;
        drained = λ wanted. agents_drained traced known.done code limit s xs all.agents.items rs out.turns out.playing.agents out.playing.run agents (out.idle wanted);
        all_explained = all_explained_by traced known.done code limit s xs all.agents.items rs out.turns out.playing.agents out.playing.run agents reported staged ts explained;
        scheduled = scheduled_so code limit ys rounds s all out.turns ts rs out.scheduled out.playing threads agents;
      }

  -- so it does, where there is one
  pub says_of : {E : Type 0} (r : Result Entries E) → IfOk r (λ report. AreReported code all.threads.items report.threads.items) → IfOk r (λ report. AreReported code (attendants all.agents.items) report.agents.items) → IfOk r (λ report. SaysOf code limit ys rounds s report)
  says_of (Ok report) threads agents = says report threads agents
  says_of (Err e) threads agents = tt
