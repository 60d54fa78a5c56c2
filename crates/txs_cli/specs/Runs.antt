-- How code runs, and what is told of its run and of the audit of its report.
use Rattle.std.specs.Prelude.{◌≡◌, ◌≢◌, ℕ, Bool, true, false, List, [], ◌∷◌, ◌++◌, codes, Option, Some, None}
use Rattle.std.specs.Borrow.{Bor}
use Rattle.std.proofs.Common.{Global, Result}
use Rattle.txs_audit_book.specs.Answered.{audit_turns, finishing, terms_as}
use Rattle.txs_audit_book.specs.declared.verdict.AuditError.{AuditError}
use Rattle.txs_audit_book.specs.declared.verdict.Terms.{Terms}
use Rattle.txs_audit_book.specs.declared.verdict.Verdict as answered
use Rattle.txs_cli_args.specs.declared.request.RunOptions.{RunOptions}
use Rattle.txs_cli_audit.specs.Audit.{AuditTells, HasNoAnswer}
use Rattle.txs_cli_report.specs.Lines.{Script}
use Rattle.txs_cli_report.specs.Told.{Told, IsTold, NoActorTells, ReportTells}
use Rattle.txs_code_meaning.specs.PlainCode.{PlainCode}
use Rattle.txs_machine.specs.Agents.{actors_of}
use Rattle.txs_machine.specs.ErrorName.{error_name}
use Rattle.txs_machine.specs.RunTheorem.{ExplainsAll}
use Rattle.txs_machine.specs.Schedule.{IsExplainedBy, all_named, spread}
use Rattle.txs_machine.specs.Scheduled.{IsScheduledRun}
use Rattle.txs_machine.specs.declared.run_error.RunError.{RunError}
use Rattle.txs_machine.specs.declared.run_error.RunError.TheVariants.{Memory}
use Rattle.txs_machine.specs.declared.schedule.Entries.{Entries}
use Rattle.txs_machine.specs.declared.schedule.Play.{Play}
use Rattle.txs_theorem_audit.specs.Audited.{report_as}
use Rattle.txs_theorem_audit.specs.Verdict.{verdict}
use Rattle.txs_tree_meaning.specs.View.{Parts, program_of}
use Rattle.txs_world_protocol.specs.declared.report.Report.{Report}
use Rattle.txs_world_shared.specs.Parts.{values_of, faults_of}
use Rattle.txs_world_shared.specs.SharedState.{PlainShared, shared_of}
use Rattle.txs_cli.specs.Runner.{FailsAs, HasFailed, IsWorked}
use Rattle.txs_cli.specs.declared.run.NoRun.{NoRun}
use Rattle.txs_cli.specs.declared.run.NoRun.TheVariants as none
use Rattle.txs_cli.specs.declared.run.Way as lent
use Rattle.txs_cli.specs.declared.run.Way.TheVariants as lent_way

-- ---- ways to run

-- How code runs: by these plays and then in rounds, or by so many workers.
pub data Way : Type 0 where
  Turns : (plays : List Play) → Way
  Workers : (count : ℕ) → Way

-- the same as it is lent
abbrev pub way_of : lent.Way → Way
way_of (lent_way.Turns list) = Turns (spread list.plays.now)
way_of (lent_way.Workers count) = Workers count

-- how many workers audit the report: as many as the run has, else four
abbrev pub auditors : Way → ℕ
auditors (Turns plays) = 4
auditors (Workers count) = count

-- A run by a schedule: its entries name actors, and the run is that by just its turns, in its order, and by those of the rounds behind them. Each program whose threads the code
-- follows explains its threads.
pub record IsPlayed (plays : List Play) (code : PlainCode) (steps : ℕ) (shared : PlainShared) (entries : Entries) : Type 0 where
  pub named : all_named (actors_of code) plays ≡ true
  pub scheduled : IsScheduledRun code steps plays true shared entries.threads.items entries.agents.items
  pub explained : IsExplainedBy code (shared_of shared) entries.threads.items

-- what is so of a run in this way, beside what is so of any
abbrev pub IsRunIn : Way → PlainCode → ℕ → PlainShared → Entries → Type 0
IsRunIn (Turns plays) code steps shared entries = IsPlayed plays code steps shared entries
IsRunIn (Workers count) code steps shared entries = Unit {0}

-- ---- no run, and no audit

-- How what is lent may fail: what runs code, with so many workers and so many steps of each actor; and who audits a report of a program, with so many workers.
pub record Failures : Type 1 where
  pub run : PlainCode → (workers steps : ℕ) → RunError → Type 0
  pub audit : Parts → Report → Terms → (workers : ℕ) → AuditError → Type 0

-- those of a runner and an auditor that answer so
abbrev pub failing :
    (Global → Bor PlainCode → ℕ → ℕ → Result (PlainShared × Entries) RunError → Type 0) → (Global → Bor Parts → Bor Report → Terms → ℕ → Result answered.Verdict AuditError → Type 0)
    → Failures
failing runs audits = record { run = HasFailed runs; audit = HasNoAnswer audits }

-- those of such a runner, where nobody audits
abbrev pub failing_run : (Global → Bor PlainCode → ℕ → ℕ → Result (PlainShared × Entries) RunError → Type 0) → Failures
failing_run runs = record { run = HasFailed runs; audit = λ parts report terms workers e. ⊥ }

-- there are no workers, and nobody audits
abbrev pub nobody : Failures
nobody = record { run = λ code workers steps e. ⊥; audit = λ parts report terms workers e. ⊥ }

-- why there is no run in this way: a play names no actor, or what runs the code has failed so, or memory ran out
abbrev pub HasNoRun : (PlainCode → ℕ → ℕ → RunError → Type 0) → Way → PlainCode → ℕ → NoRun → Type 0
HasNoRun failed (Turns plays) code steps (none.NoActor list) = all_named (actors_of code) plays ≡ false
HasNoRun failed (Turns plays) code steps (none.Failed e) = e ≡ Memory
HasNoRun failed (Workers count) code steps (none.NoActor list) = ⊥
HasNoRun failed (Workers count) code steps (none.Failed e) = FailsAs (failed code count steps) e

-- What is told of a run that has no report: why, which isn't want of memory.
pub record FailureTells (failure : RunError) (t : Told) : Type 0 where
  pub told : failure ≢ Memory
  pub is : IsTold [] ((codes "run failed: " ++ error_name failure) ++ codes "\n") 4 t

-- what is told of that
abbrev pub NoneTells : NoRun → Option (List ℕ) → Told → Type 0
NoneTells (none.NoActor list) file t = NoActorTells file t
NoneTells (none.Failed e) file t = FailureTells e t

-- what is told in place of a run: that a play names no actor, or why the run by workers has no report
abbrev pub NoRunTells : (PlainCode → ℕ → ℕ → RunError → Type 0) → Way → PlainCode → ℕ → Option (List ℕ) → Told → Type 0
NoRunTells failed (Turns plays) code steps file t = (all_named (actors_of code) plays ≡ false) × NoActorTells file t
NoRunTells failed (Workers count) code steps file t = (failure : RunError) × failed code count steps failure × FailureTells failure t

-- ---- what is told of a run

-- A report of a run that leaves this state, and that has these entries: with the state's books, and the values and faults that it leaves.
pub record IsRunReport (s : PlainShared) (entries : Entries) (r : Report) : Type 0 where
  pub threads : r.threads ≡ entries.threads
  pub agents : r.agents ≡ entries.agents
  pub books : r.book.items ∷ r.atom_books.items ≡ s.books
  pub cells : r.cells.items ≡ values_of s
  pub failed : r.failed.items ≡ faults_of s

-- What is told of a run of code, which leaves this state and has these entries, and of the audit of its report against a program: what the report tells, and
-- behind it the verdict on the report of a run that was to go on up to its end, or that who audits had no answer, which may be for such reasons.
pub record AuditedRunTells (unaudited : Report → AuditError → Type 0) (parts : Parts) (code : PlainCode) (script : Script) (o : RunOptions) (shared : PlainShared) (entries : Entries) (t : Told) : Type 0 where
  pub ran : Told
  pub told : ReportTells code script shared entries o.cells o.events ran
  pub report : Report
  pub of : IsRunReport shared entries report
  pub audited : AuditTells (unaudited report) script (verdict (program_of parts) (terms_as (finishing o.steps)) (report_as report) (audit_turns o.steps)) ran t

-- what is told of such a run: what the report tells, or also of its audit, where it is audited against a program
abbrev pub RanTells : Option Parts → (Parts → Report → AuditError → Type 0) → PlainCode → Script → RunOptions → PlainShared → Entries → Told → Type 0
RanTells None unaudited code script o shared entries t = ReportTells code script shared entries o.cells o.events t
RanTells (Some parts) unaudited code script o shared entries t = AuditedRunTells (unaudited parts) parts code script o shared entries t

-- the program against which a run is audited: that of the script, where an audit is asked for
abbrev pub against : Bool → Option Parts → Option Parts
against false program = None
against true program = program

-- the same as it is lent
abbrev pub parts_in : Option (Bor Parts) → Option Parts
parts_in None = None
parts_in (Some parts) = Some parts.now

-- the program of a script explains its run; of code in its byte form each program does that it follows
abbrev pub ProgramExplains : Option Parts → PlainShared → Entries → Type 0
ProgramExplains None shared entries = Unit {0}
ProgramExplains (Some parts) shared entries = ExplainsAll (program_of parts) (shared_of shared) entries.threads.items entries.agents.items

-- What is told of code that is to run in this way: of its run, in which each actor makes no more than so many steps, and which its program explains; or in place of a run.
pub data RunTells (f : Failures) (script : Script) (program : Option Parts) (code : PlainCode) (way : Way) (o : RunOptions) (t : Told) : Type 0 where
  of_run :
      (shared : PlainShared) (entries : Entries) (worked : IsWorked code o.steps shared entries) (ran : IsRunIn way code o.steps shared entries) (explained : ProgramExplains program shared entries)
      (told : RanTells (against o.audit program) (λ parts report e. f.audit parts report (finishing o.steps) (auditors way) e) code script o shared entries t)
      → RunTells f script program code way o t
  of_none : (told : NoRunTells f.run way code o.steps script.file t) → RunTells f script program code way o t
