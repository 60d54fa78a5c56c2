-- What the program tells for a request.
use Rattle.std.specs.Prelude.{◌≡◌, ◌&&◌, ℕ, Bool, true, false, List, [], codes, string_bytes, Option, Some, None, IsErr}
use Rattle.std.proofs.Common.{String, Global}
use Rattle.std.specs.declared.result.Result.TheVariants.{Ok, Err}
use Rattle.txs_cli_args.specs.declared.request.Input.{Input}
use Rattle.txs_cli_args.specs.declared.request.Request.{Request}
use Rattle.txs_cli_args.specs.declared.request.Request.TheVariants as asked
use Rattle.txs_cli_args.specs.declared.request.RunOptions.{RunOptions}
use Rattle.txs_cli_report.specs.Lines.{Script}
use Rattle.txs_cli_report.specs.Plays.{plays_in}
use Rattle.txs_cli_report.specs.Told.{Told, Answers, IsTold, WrongListTells}
use Rattle.txs_cli_report.specs.declared.plays.WrongPlay.{WrongPlay}
use Rattle.txs_code_decode.specs.CodeForm.{form}
use Rattle.txs_code_meaning.specs.PlainCode.{PlainCode}
use Rattle.txs_disasm.specs.Listing.{listing}
use Rattle.txs_machine.specs.declared.schedule.Play.{Play}
use Rattle.txs_tree_meaning.specs.View.{Parts}
use Rattle.txs_cli.specs.Runs.{Failures, RunTells, Way, Turns, Workers, nobody, way_of}
use Rattle.txs_cli.specs.Source.{Source, OfForm, IsLoaded, RefusalTells, file_of, script_at, source_of, source_text}
use Rattle.txs_cli.specs.Source as source
use Rattle.txs_cli.specs.declared.task.Task as lent
use Rattle.txs_cli.specs.declared.task.Task.TheVariants as lent_task
use Rattle.txs_cli.specs.declared.tell.Use as lent_use
use Rattle.txs_cli.specs.declared.tell.Use.TheVariants as lent_uses

-- ---- what is wanted of a source

-- What is wanted of what is loaded: that it was loaded, its listing, its byte form, or its run in this way.
pub data Use : Type 0 where
  Check : Use
  Listing : Use
  Build : Use
  Run : (way : Way) (o : RunOptions) → Use

-- the same as it is lent
abbrev pub use_of : lent_use.Use → Use
use_of lent_uses.Check = Check
use_of lent_uses.Listing = Listing
use_of lent_uses.Build = Build
use_of (lent_uses.Run way options) = Run (way_of way) options

-- what is told where this is wanted of code, and of the script's program that it is compiled from
abbrev pub UseTells : Failures → Script → Option Parts → PlainCode → Use → Told → Type 0
UseTells f script program code Check t = IsTold (codes "ok\n") [] 0 t
UseTells f script program code Listing t = IsTold (listing code) [] 0 t
UseTells f script program code Build t = IsTold (form code) [] 0 t
UseTells f script program code (Run way o) t = RunTells f script program code way o t

-- What is told of a source with this text: that it can't be read, that it is refused, or what is told of what it is loaded as.
pub data SourceTells (f : Failures) (source : Source) (text : List ℕ) (wanted : Use) (t : Told) : Type 0 where
  of_unread : (told : IsTold [] (codes "read failed\n") 2 t) → SourceTells f source text wanted t
  of_refused : (told : RefusalTells source text t) → SourceTells f source text wanted t
  of_use :
      (program : Option Parts) (code : PlainCode) (loaded : IsLoaded source text program code) (told : UseTells f (script_at source text) program code wanted t) → SourceTells f source text wanted t

-- What is told of a source that is to run by a list of plays: that the list is wrong, or what is told of its run by them.
pub data ScheduleTells (f : Failures) (source : Source) (text turns : List ℕ) (o : RunOptions) (t : Told) : Type 0 where
  of_plays : (plays : List Play) (read : plays_in turns ≡ Ok plays) (told : SourceTells f source text (Run (Turns plays) o) t) → ScheduleTells f source text turns o t
  of_wrong : (wrong : WrongPlay) (read : plays_in turns ≡ Err wrong) (told : WrongListTells turns (file_of source) wrong t) → ScheduleTells f source text turns o t

-- ---- what a request asks for

-- What is to be done: to tell this, to use a source, or to run it by a list of plays.
pub data Task : Type 0 where
  Say : (told : Told) → Task
  Do : (source : Source) (wanted : Use) → Task
  Schedule : (source : Source) (turns : List ℕ) (o : RunOptions) → Task

-- the same as it is lent
abbrev pub task_in : lent.Task → Task
task_in (lent_task.Say output errors status) = Say (record { output = output.now; errors = errors.now; status = status })
task_in (lent_task.Do source wanted) = Do (source_of source) (use_of wanted)
task_in (lent_task.Schedule source turns options) = Schedule (source_of source) turns.now options

-- what is told of a task, where these are the input's bytes: or that there was no memory for it
abbrev pub TaskTells : Failures → List ℕ → Task → Told → Type 0
TaskTells f input (Say told) t = t ≡ told
TaskTells f input (Do source wanted) t = Answers (SourceTells f source (source_text source input) wanted) t
TaskTells f input (Schedule source turns o) t = Answers (ScheduleTells f source (source_text source input) turns o) t

-- nothing of the input is read: where only something is told, or the list is wrong
abbrev pub ReadsNothing : Task → Type 0
ReadsNothing (Say told) = Unit {0}
ReadsNothing (Do source wanted) = ⊥
ReadsNothing (Schedule source turns o) = IsErr (plays_in turns)

-- the name under which lines are explained, where they are: that of the file, or "-" for the standard input
abbrev pub explained_as : Bool → Option (String Global) → Option (List ℕ)
explained_as false file = None
explained_as true None = Some (codes "-")
explained_as true (Some name) = Some (string_bytes name)

-- the script that an input is
abbrev pub script_in : Input → Source
script_in input = source.OfScript (explained_as input.explain input.file)

-- the source that an input is, which is code in its byte form or a script
abbrev pub source_by : Bool → Input → Source
source_by true input = OfForm
source_by false input = script_in input

abbrev pub source_in : Input → Source
source_in input = source_by input.code input

-- what is told of arguments that can't be used, which clap doesn't find
abbrev pub wrong_use : Task
wrong_use = Say (record { output = []; errors = codes "wrong use\n"; status = 2 })

-- a task, but where it can't be asked for
abbrev pub unless : Bool → Task → Task
unless true task = wrong_use
unless false task = task

-- What a request asks for. A byte form that is to be written goes to the standard output here. Code in its byte form can't be audited. A run can't be recorded here, nor more be shown of it.
abbrev pub task_of : Request → Task
task_of (asked.Check input) = Do (script_in input) Check
task_of (asked.List input) = Do (source_in input) Listing
task_of (asked.Build input out) = Do (script_in input) Build
task_of (asked.Run input workers o) = unless (o.audit && input.code) (Do (source_in input) (Run (Workers workers) o))
task_of (asked.Record input workers o out) = wrong_use
task_of (asked.Schedule input plays o) = unless (o.audit && input.code) (Schedule (source_in input) (string_bytes plays) o)
task_of (asked.Replay input from o) = wrong_use
task_of (asked.Show input scheduling o showing) = wrong_use
task_of (asked.CheckJson input) = wrong_use
task_of (asked.Explore input exploring timeline) = wrong_use
task_of (asked.Shown text) = Say (record { output = string_bytes text; errors = []; status = 0 })
task_of (asked.Faulty text) = Say (record { output = []; errors = string_bytes text; status = 2 })

-- What the program tells for a request, where what runs code and who audits may fail so.
abbrev pub RequestTells : Failures → List ℕ → Request → Told → Type 0
RequestTells f input request t = TaskTells f input (task_of request) t

-- ---- where nobody runs or audits

-- how code runs without workers: by no plays, and then in rounds
abbrev pub turns_alone : Way → Way
turns_alone (Turns plays) = Turns plays
turns_alone (Workers count) = Turns []

-- a task without workers and without an audit, which can't be asked for
abbrev pub alone : Task → Task
alone (Say told) = Say told
alone (Do source Check) = Do source Check
alone (Do source Listing) = Do source Listing
alone (Do source Build) = Do source Build
alone (Do source (Run way o)) = unless o.audit (Do source (Run (turns_alone way) o))
alone (Schedule source turns o) = unless o.audit (Schedule source turns o)

-- what the program tells for a request without workers and without audits
abbrev pub AloneTells : List ℕ → Request → Told → Type 0
AloneTells input request t = TaskTells nobody input (alone (task_of request)) t

-- What the program tells: what is told for its request, whichever that is, or that there was no memory for it.
pub data ArgsTell (input : List ℕ) (t : Told) : Type 0 where
  of_request : (request : Request) (told : AloneTells input request t) → ArgsTell input t
  of_memory : (told : IsTold [] (codes "out of memory\n") 4 t) → ArgsTell input t

-- the same run, of which no audit is asked for
abbrev pub without_audit : RunOptions → RunOptions
without_audit o = record { steps = o.steps; cells = o.cells; events = o.events; audit = false }
