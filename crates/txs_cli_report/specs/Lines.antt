-- The lines that the program writes of a script, its threads and its agents, and how each counts in the status.
use Rattle.std.specs.Prelude.{◌≡◌, ◌↔◌, ℕ, suc, max, List, [], ◌∷◌, ◌++◌, ◌+◌, ◌^◌, nat_lt, if◌then◌else◌, codes, decimal, Option, Some, None, IsNone}
use Rattle.txs_world_protocol.specs.declared.event.Outcome.{Outcome}
use Rattle.txs_world_protocol.specs.declared.event.Outcome.TheVariants.{Done, Failed, StepsSpent, JournalFull, Memory}
use Rattle.txs_check.specs.Errors.{check_number, check_name}
use Rattle.txs_compile.specs.declared.compile_error.CompileError.{CompileError}
use Rattle.txs_compile.specs.declared.compile_error.CompileError.TheVariants.{Read, Resolve, Check as Unsound, Memory as NoMemory}
use Rattle.txs_world_protocol.specs.declared.report.ActorReport.{ActorReport}
use Rattle.txs_cli_report.specs.Explained.{explained}
use Rattle.txs_cli_report.specs.declared.plays.WrongPlay.{WrongPlay}
use Rattle.txs_reader.specs.Errors.{report_number as read_number, report_name as read_name}
use Rattle.txs_resolve_expand.specs.Reported.{report_number as resolve_number, report_name as resolve_name}
use Rattle.txs_value_data.specs.Faults.{fault_name}
use Rattle.txs_value_data.specs.declared.fault.Fault.{Fault}
use Rattle.txs_value_data.specs.declared.fault.Span.{Span}

-- a script as the program has it: its bytes, and the name of its file where lines are explained
pub record Script : Type 0 where
  pub text : List ℕ
  pub file : Option (List ℕ)

-- ---- lines of the standard error

-- where a line ends with a place: " at FROM..TO"
abbrev pub at_place : Span → List ℕ
at_place s = codes " at " ++ decimal s.from ++ codes ".." ++ decimal s.to ++ codes "\n"

-- the line of a refusal of this number and name, at this place
abbrev pub refusal_line : ℕ → List ℕ → Span → List ℕ
refusal_line number name at = codes "refused " ++ decimal number ++ codes " " ++ name ++ at_place at

-- the line of a script that isn't compiled; of want of memory the program tells otherwise
abbrev pub refused_line : CompileError → List ℕ
refused_line (Read e) = refusal_line (read_number e.kind) (read_name e.kind) e.at
refused_line (Resolve e) = refusal_line (resolve_number e.kind) (resolve_name e.kind) e.at
refused_line (Unsound e) = refusal_line (check_number e.kind) (check_name e.kind) e.at
refused_line NoMemory = []

-- the place of that refusal
abbrev pub refused_place : CompileError → Option Span
refused_place (Read e) = Some e.at
refused_place (Resolve e) = Some e.at
refused_place (Unsound e) = Some e.at
refused_place NoMemory = None

-- how a thread's line begins
abbrev pub thread_front : ℕ → List ℕ
thread_front k = codes "thread " ++ decimal k

-- how an agent's line begins
abbrev pub agent_front : List ℕ → List ℕ
agent_front name = codes "agent " ++ name

-- the line that begins so, of one that failed
abbrev pub failed_line : List ℕ → Fault → List ℕ
failed_line front f = front ++ codes " failed: " ++ fault_name f.kind ++ at_place f.span

-- the line that begins so, of one that was stopped, and why in a word
abbrev pub stopped_line : List ℕ → List ℕ → List ℕ
stopped_line front why = front ++ codes " stopped: " ++ why ++ codes "\n"

-- the line that begins so, of one that ended so; of one that is done there is none
abbrev pub end_line : List ℕ → Outcome → List ℕ
end_line front Done = []
end_line front (Failed f) = failed_line front f
end_line front StepsSpent = stopped_line front (codes "StepsSpent")
end_line front JournalFull = stopped_line front (codes "JournalFull")
end_line front Memory = stopped_line front (codes "Memory")

-- the place where it ended: that of the fault, or where it was stopped, which its entry in the report says
abbrev pub end_place : Outcome → Option Span → Option Span
end_place Done at = None
end_place (Failed f) at = Some f.span
end_place StepsSpent at = at
end_place JournalFull at = at
end_place Memory at = at

-- what explains a line: nothing where no file is named, or where there is no sentence
abbrev pub lesson_of : Option (List ℕ) → List ℕ → Option Span → Option (List ℕ) → List ℕ
lesson_of None text at advice = []
lesson_of (Some file) text at None = []
lesson_of (Some file) text at (Some advice) = explained file text at advice

-- The standard error: a line, and behind it what explains it, with a sentence that says what to do. There is a sentence exactly where there is a line.
pub record IsLesson (script : Script) (line : List ℕ) (at : Option Span) (errors : List ℕ) : Type 0 where
  pub advice : Option (List ℕ)
  pub told : IsNone advice ↔ (line ≡ [])
  pub is : errors ≡ line ++ lesson_of script.file script.text at advice

-- where the item of a list stands that says no play, where its places are numbers of 32 bits
abbrev pub list_place : WrongPlay → Option Span
list_place w = if nat_lt (w.from + w.length) (2 ^ 32) then Some (record { from = w.from; to = w.from + w.length }) else None

-- ---- the status

-- of one that ended so: 0 where it is done, 3 where it failed, 4 where it was stopped
abbrev pub status_of : Outcome → ℕ
status_of Done = 0
status_of (Failed f) = 3
status_of StepsSpent = 4
status_of JournalFull = 4
status_of Memory = 4

-- ---- all threads

-- how a thread ended; every thread of a run has
abbrev pub how_ended : Option Outcome → Outcome
how_ended None = Done
how_ended (Some o) = o

-- what all these actors printed, one after the other in their order
abbrev pub all_printed : List ActorReport → List ℕ
all_printed [] = []
all_printed (r ∷ rs) = r.printed.items ++ all_printed rs

-- the highest of a status and those of these threads
abbrev pub status_from : ℕ → List ActorReport → ℕ
status_from m [] = m
status_from m (r ∷ rs) = status_from (max m (status_of (how_ended r.outcome))) rs

-- the standard error: for each of these threads the line that tells how it ended, in their order, where the first is the k-th
abbrev pub AreLessons : Script → ℕ → List ActorReport → List ℕ → Type 0
AreLessons script k [] errors = errors ≡ []
AreLessons script k (r ∷ rs) errors =
    (line : List ℕ) × (rest : List ℕ) × IsLesson script (end_line (thread_front k) (how_ended r.outcome)) (end_place (how_ended r.outcome) r.place) line × AreLessons script (suc k) rs rest × (errors ≡ line ++ rest)

-- What is told of all threads of a run: how each ended; or of none, where lines are explained, that there is none.
abbrev pub AreThreadsTold : Script → List ActorReport → List ℕ → Type 0
AreThreadsTold script [] errors = (advice : List ℕ) × (errors ≡ lesson_of script.file script.text None (Some advice))
AreThreadsTold script (r ∷ rs) errors = AreLessons script 0 (r ∷ rs) errors
