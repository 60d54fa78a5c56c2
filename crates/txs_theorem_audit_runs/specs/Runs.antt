-- Audits of reports of runs. That a report is of a state is what `into_report` of txs_machine promises.
use Rattle.std.specs.Prelude.{◌≡◌, ℕ, true, map}
use Rattle.txs_world_protocol.specs.declared.report.Report.{Report}
use Rattle.txs_tree_meaning.specs.Sound.{Sound}
use Rattle.txs_tree_meaning.specs.Tree.{PlainProgram}
use Rattle.txs_code_meaning.specs.PlainCode.{PlainCode, thread_code, library_of}
use Rattle.txs_theorem_runs.specs.Agents.{AgentsStaged}
use Rattle.txs_theorem_runs.specs.Report.{CodesStaged}
use Rattle.txs_world_shared.specs.SharedState.{PlainShared, shared_of}
use Rattle.txs_machine.specs.Agents.{AgentsAreDone, AreDrained}
use Rattle.txs_machine.specs.Reported.{IsReportOf}
use Rattle.txs_machine.specs.RunOver.{IsStateOf, books_of}
use Rattle.txs_machine.specs.RunTheorem.{ExplainsAll}
use Rattle.txs_machine.specs.Schedule.{AreDone, HaveEnded}
use Rattle.txs_machine.specs.Scheduled.{IsInterleaving}
use Rattle.txs_theorem_audit.specs.Audited.{PlainTerms, report_as, Differs}
use Rattle.txs_theorem_audit.specs.Explained.{IsExplained}
use Rattle.txs_theorem_audit.specs.Verdict.{verdict}

-- The report of a run of this code under these terms: it says what each actor did, it is that of a run by turns, and where the run was to go on up to its end, each thread has
-- ended, and no agent that goes on has something to do.
pub record IsRunOf (code : PlainCode) (w : PlainTerms) (s : PlainShared) (r : Report) : Type 0 where
  pub state : IsStateOf code s
  pub of : IsReportOf s r
  pub done : AreDone code w.limit (books_of s) r.threads.items
  pub agents_done : AgentsAreDone code w.limit (books_of s) r.agents.items
  pub interleaved : IsInterleaving code s r.threads.items r.agents.items
  pub ended : w.finishes ≡ true → HaveEnded r.threads.items
  pub drained : w.finishes ≡ true → AreDrained code (shared_of s) r.agents.items

-- the code asks in its stages, as well-typed code does
pub record IsStagedCode (code : PlainCode) : Type 0 where
  pub threads : CodesStaged (map (thread_code code) code.threads)
  pub agents : AgentsStaged (library_of code)

-- the report of a run that a sound program explains is explained as an audit asks
abbrev pub RunsAreExplained : Type 0
RunsAreExplained =
    (p : PlainProgram) (code : PlainCode) (w : PlainTerms) (s : PlainShared) (r : Report)
    → Sound p → code.cells ≡ p.cells → IsStagedCode code → IsRunOf code w s r → ExplainsAll p (shared_of s) r.threads.items r.agents.items → IsExplained p w (report_as r)

-- So an audit of it never differs, whatever the bound on loops.
abbrev pub RunsNeverDiffer : Type 0
RunsNeverDiffer =
    (p : PlainProgram) (code : PlainCode) (w : PlainTerms) (s : PlainShared) (r : Report) (n actor event : ℕ)
    → Sound p → code.cells ≡ p.cells → IsStagedCode code → IsRunOf code w s r → ExplainsAll p (shared_of s) r.threads.items r.agents.items
    → verdict p w (report_as r) n ≡ Differs actor event → ⊥
