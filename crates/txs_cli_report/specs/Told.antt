-- What the program tells of a script: on its standard output, on its standard error, and by its status.
use Rattle.std.specs.Prelude.{◌≡◌, ◌≢◌, ◌⊎◌, ℕ, max, Bool, true, false, List, [], ◌++◌, ◌+◌, take, codes, Option, Some, None}
use Rattle.std.specs.Io.KnownBytes.{Appends}
use Rattle.txs_world_protocol.specs.declared.event.Event.{Event}
use Rattle.txs_code_meaning.specs.PlainCode.{PlainCode, library_of}
use Rattle.txs_compile.specs.Compiled.{IsProgramOf, IsRefusal, codes_of}
use Rattle.txs_compile.specs.declared.compile_error.CompileError.{CompileError}
use Rattle.txs_compile.specs.declared.compile_error.CompileError.TheVariants.{Memory as NoMemory}
use Rattle.txs_disasm.specs.Sent.{Sent}
use Rattle.txs_theorem_threads.specs.FollowsAgent.{FollowsAgents}
use Rattle.txs_theorem_threads.specs.FollowsAll.{FollowsAll}
use Rattle.txs_theorem_threads.specs.Sends.{CodesSendSound, AgentsSendSound}
use Rattle.txs_gen.specs.Generated.{IsCodeOf}
use Rattle.txs_opt.specs.Optimised.{optimised}
use Rattle.txs_machine.specs.declared.schedule.Entries.{Entries}
use Rattle.txs_world_protocol.specs.declared.report.ActorReport.{ActorReport}
use Rattle.txs_cli_report.specs.AgentLines.{AreAgentsTold, failure_of, named_from, status_of_agents}
use Rattle.txs_cli_report.specs.CellLines.{cell_lines}
use Rattle.txs_cli_report.specs.Lines.{Script, IsLesson, AreThreadsTold, all_printed, list_place, refused_line, refused_place, status_from}
use Rattle.txs_cli_report.specs.EventLines.{event_lines}
use Rattle.txs_cli_report.specs.declared.plays.WrongPlay.{WrongPlay}
use Rattle.txs_world_shared.specs.SharedState.{PlainShared, numbered_book, newest_of}
use Rattle.txs_tree_meaning.specs.Tree.{PlainProgram}
use Rattle.txs_value_data.specs.Limits.{most_nodes, most_script}
use Rattle.txs_value_cell.specs.declared.cell.CellDefinition.{CellDefinition}
use Rattle.txs_value_data.specs.declared.fault.Span.{Span}

-- what is told: the bytes of both streams, and the status
pub record Told : Type 0 where
  pub output : List ℕ
  pub errors : List ℕ
  pub status : ℕ

-- the same behind these bytes of the standard output
abbrev pub behind_bytes : List ℕ → Told → Told
behind_bytes bytes t = record { output = bytes ++ t.output; errors = t.errors; status = t.status }

-- Just this is told.
pub record IsTold (said complained : List ℕ) (ended : ℕ) (t : Told) : Type 0 where
  pub output : t.output ≡ said
  pub errors : t.errors ≡ complained
  pub status : t.status ≡ ended

-- What is told where something is to be: that, or that there was no memory for it.
pub data Answers (tells : Told → Type 0) (t : Told) : Type 0 where
  of_told : (told : tells t) → Answers tells t
  of_memory : (told : IsTold [] (codes "out of memory\n") 4 t) → Answers tells t

-- ---- what is told of a run

-- The standard error of a run: for each thread the line that tells how it ended, or where lines are explained that there is none, and behind these what is told of each agent.
pub record EndsTold (cells : List CellDefinition) (script : Script) (s : PlainShared) (threads agents : List ActorReport) (errors : List ℕ) : Type 0 where
  pub of_threads : List ℕ
  pub of_agents : List ℕ
  pub first : AreThreadsTold script threads of_threads
  pub behind : AreAgentsTold script (failure_of s) (named_from 0 cells) agents of_agents
  pub is : errors ≡ of_threads ++ of_agents

-- the highest status of all threads and agents
abbrev pub run_status : List CellDefinition → PlainShared → List ActorReport → List ActorReport → ℕ
run_status cells s threads agents = status_of_agents (status_from 0 threads) (failure_of s) (named_from 0 cells) agents

-- the lines of the cells behind a run, where they are wanted: their values after all events of their books
abbrev pub cells_told : Bool → List CellDefinition → PlainShared → List ℕ
cells_told false cells s = []
cells_told true cells s = cell_lines (newest_of s) 0 cells

-- the lines of the events of the store's book behind a run, where they are wanted; those of the atoms' books are not listed
abbrev pub events_told : Bool → List Event → List ℕ
events_told false book = []
events_told true book = event_lines 0 book

-- the name under which a list is explained, where lines are
abbrev pub list_name : Option (List ℕ) → Option (List ℕ)
list_name None = None
list_name (Some file) = Some (codes "--turns")

-- The standard error where a play names no actor: the line that says so, and where lines are explained, which play of the list it is.
pub record NoActorTold (file : Option (List ℕ)) (errors : List ℕ) : Type 0 where
  pub turns : List ℕ
  pub at : Option Span
  pub told : IsLesson (record { text = turns; file = list_name file }) (codes "run failed: NoActor\n") at errors

-- What is told where a play names no actor, and nothing ran.
pub record NoActorTells (file : Option (List ℕ)) (t : Told) : Type 0 where
  pub output : t.output ≡ []
  pub errors : NoActorTold file t.errors
  pub status : t.status ≡ 2

-- What is told of a list of plays, which is written so, of which this item says none.
pub record WrongListTells (turns : List ℕ) (file : Option (List ℕ)) (wrong : WrongPlay) (t : Told) : Type 0 where
  pub output : t.output ≡ []
  pub errors : IsLesson (record { text = turns; file = list_name file }) (codes "wrong list\n") (list_place wrong) t.errors
  pub status : t.status ≡ 2

-- What a run that leaves what its actors share so, and that has this report, tells: what the threads printed and then the agents, how each ended, which agents have failed and whose
-- actors were stopped, with the highest status; and behind it the cells and the events, where they are wanted.
pub record ReportTells (code : PlainCode) (script : Script) (shared : PlainShared) (report : Entries) (cells events : Bool) (t : Told) : Type 0 where
  pub output : t.output ≡ (all_printed (report.threads.items ++ report.agents.items) ++ cells_told cells code.cells shared) ++ events_told events (numbered_book shared 0)
  pub errors : EndsTold code.cells script shared report.threads.items report.agents.items t.errors
  pub status : t.status ≡ run_status code.cells shared report.threads.items report.agents.items

-- ---- what is told of a script

-- A script is compiled to a program and code: the script is that program, the code is that of its trees folded and with calls inlined, each thread of
-- the code follows the program's, its functions follow the actions of agents, it sends only what the program may send, and it has the program's cells.
pub record IsCompiled (text : List ℕ) (p : PlainProgram) (code : PlainCode) : Type 0 where
  pub program : IsProgramOf text p
  pub generated : IsCodeOf code (optimised most_nodes p)
  pub follows : FollowsAll (codes_of code) p
  pub agents : FollowsAgents (library_of code) p.cells p.functions
  pub agents_send : AgentsSendSound p.functions (library_of code)
  pub sends : CodesSendSound p.functions (codes_of code)
  pub same : code.cells ≡ p.cells

-- What is told of a script that isn't compiled: why, truly, which isn't for want of memory.
pub record ScriptRefused (script : Script) (t : Told) : Type 0 where
  pub error : CompileError
  pub told : error ≢ NoMemory
  pub refused : IsRefusal script.text error
  pub output : t.output ≡ []
  pub errors : IsLesson script (refused_line error) (refused_place error) t.errors
  pub status : t.status ≡ 1

-- as much of an input as is read: its first bytes, one more than a script may have
abbrev pub front : List ℕ → List ℕ
front input = take (most_script + 1) input

-- ---- what is written

-- A stream got a beginning of these bytes, which may be all of them, behind what it held, and no other byte.
pub record IsBegun (old new : Option (List ℕ)) (all : List ℕ) : Type 0 where
  pub left : List ℕ
  pub sent : Sent old new all left

-- What is told is written, and the standard error is whole, where it is known what the streams hold: so is the standard output, with the status; or that got a beginning
-- of its own, with status 2 at least, and behind the standard error is a line that says so.
pub data HasErrors (output_old output_new errors_old errors_new : Option (List ℕ)) (t : Told) (status : ℕ) : Type 0 where
  whole : (output : Appends output_old output_new t.output) (errors : Appends errors_old errors_new t.errors) (ended : status ≡ t.status) → HasErrors output_old output_new errors_old errors_new t status
  output_cut :
      (output : IsBegun output_old output_new t.output) (errors : Appends errors_old errors_new (t.errors ++ codes "write failed\n"))
      (ended : status ≡ max t.status 2) → HasErrors output_old output_new errors_old errors_new t status

-- The standard error couldn't be written or flushed: it got a beginning of that, and the status is 2 at least. The standard output is whole, or got a beginning of its own, too.
pub data LacksErrors (output_old output_new errors_old errors_new : Option (List ℕ)) (t : Told) (status : ℕ) : Type 0 where
  errors_cut :
      (output : Appends output_old output_new t.output) (errors : IsBegun errors_old errors_new t.errors)
      (ended : status ≡ max t.status 2) → LacksErrors output_old output_new errors_old errors_new t status
  both_cut :
      (output : IsBegun output_old output_new t.output) (errors : IsBegun errors_old errors_new (t.errors ++ codes "write failed\n"))
      (ended : status ≡ max t.status 2) → LacksErrors output_old output_new errors_old errors_new t status

-- How what is told is written: with its whole standard error, or that couldn't be written.
abbrev pub Written : (output_old output_new errors_old errors_new : Option (List ℕ)) → Told → ℕ → Type 0
Written output_old output_new errors_old errors_new t status = HasErrors output_old output_new errors_old errors_new t status ⊎ LacksErrors output_old output_new errors_old errors_new t status
