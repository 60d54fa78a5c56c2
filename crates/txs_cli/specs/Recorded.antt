-- A run of a script by workers, and a list of plays by which a schedule makes it again.
use Rattle.std.specs.Prelude.{ℕ, true, false, List, string_bytes, Some}
use Rattle.txs_cli_args.specs.declared.request.RunOptions.{RunOptions}
use Rattle.txs_cli_report.specs.Lines.{Script}
use Rattle.txs_cli_report.specs.Told.{Told, ReportTells}
use Rattle.txs_code_meaning.specs.PlainCode.{PlainCode}
use Rattle.txs_machine.specs.declared.schedule.Entries.{Entries}
use Rattle.txs_tree_meaning.specs.View.{Parts}
use Rattle.txs_world_shared.specs.SharedState.{PlainShared}
use Rattle.txs_cli.specs.Runner.{IsWorked}
use Rattle.txs_cli.specs.Runs.{nobody}
use Rattle.txs_cli.specs.Source as source
use Rattle.txs_cli.specs.Source.{IsLoaded}
use Rattle.txs_cli.specs.Telling.{ScheduleTells}
use Rattle.txs_cli.specs.declared.record.Record.{Record}
use Rattle.txs_cli.specs.declared.record.Record.TheVariants.{NoRun, NoList, List as Listed}

-- the same run, of which all is told
abbrev pub whole : RunOptions → RunOptions
whole o = record { steps = o.steps; cells = true; events = true; audit = false }

-- A run of a code that is over tells this, and a schedule of the script by this list tells all that the run tells with its cells and events: the bytes of both streams,
-- and the status.
pub record IsRepeated (code : PlainCode) (script : Script) (o : RunOptions) (shared : PlainShared) (report : Entries) (t : Told) (list : List ℕ) : Type 0 where
  pub told : ReportTells code script shared report o.cells o.events t
  pub all : Told
  pub all_told : ReportTells code script shared report true true all
  pub again : ScheduleTells nobody (source.OfScript script.file) script.text list (whole o) all

-- The list of a run of a script by workers which tells this.
pub record IsRecorded (script : Script) (o : RunOptions) (t : Told) (list : List ℕ) : Type 0 where
  pub parts : Parts
  pub code : PlainCode
  pub loaded : IsLoaded (source.OfScript script.file) script.text (Some parts) code
  pub shared : PlainShared
  pub report : Entries
  pub worked : IsWorked code o.steps shared report
  pub repeated : IsRepeated code script o shared report t list

-- what is recorded of a run of a script's code that is over
abbrev pub ReportRecords : PlainCode → Script → RunOptions → PlainShared → Entries → Told → Record → Type 0
ReportRecords code script o shared report t NoRun = Unit {0}
ReportRecords code script o shared report t NoList = Unit {0}
ReportRecords code script o shared report t (Listed list) = IsRepeated code script o shared report t (string_bytes list)

-- what is recorded of a script that workers were to run, of which this is told
abbrev pub Records : Script → RunOptions → Told → Record → Type 0
Records script o t NoRun = Unit {0}
Records script o t NoList = Unit {0}
Records script o t (Listed list) = IsRecorded script o t (string_bytes list)
