-- What is told of an audit: its line on the standard output, what explains it, and its status.
use Rattle.std.specs.Prelude.{◌≡◌, ℕ, max, true, false, List, [], ◌++◌, codes, decimal, Option, Some, IfOk}
use Rattle.std.specs.Borrow.{Bor}
use Rattle.std.proofs.Common.{Global, Result}
use Rattle.std.specs.declared.result.Result.TheVariants.{Err}
use Rattle.txs_audit_book.specs.Answered.{as_verdict, audit_turns, terms_as}
use Rattle.txs_audit_book.specs.declared.verdict.Terms.{Terms}
use Rattle.txs_audit_book.specs.declared.verdict.Verdict as answered
use Rattle.txs_audit_book.specs.declared.verdict.AuditError.{AuditError}
use Rattle.txs_audit_book.specs.declared.verdict.AuditError.TheVariants.{NoThread, Memory}
use Rattle.txs_cli_report.specs.Lines.{Script, lesson_of}
use Rattle.txs_cli_report.specs.Told.{Told}
use Rattle.txs_theorem_audit.specs.Audited.{Verdict, Agrees, Differs, Undecided, report_as}
use Rattle.txs_theorem_audit.specs.Verdict.{verdict}
use Rattle.txs_tree_meaning.specs.View.{Parts, program_of}
use Rattle.txs_value_data.specs.declared.fault.Span.{Span}
use Rattle.txs_world_protocol.specs.declared.report.Report.{Report}

-- an answer, where there is one, is the verdict on this report of a run that was to do this, where each loop makes as many turns at most as its steps allow
abbrev pub IsRight : Parts → Report → Terms → Result answered.Verdict AuditError → Type 0
IsRight p r w v = IfOk v (λ a. as_verdict a ≡ verdict (program_of p) (terms_as w) (report_as r) (audit_turns w.steps))

-- who audits, answering so, has had no answer for this reason to this report of this program, whose run was to do this, with so many workers
abbrev pub HasNoAnswer : (Global → Bor Parts → Bor Report → Terms → ℕ → Result answered.Verdict AuditError → Type 0) → Parts → Report → Terms → ℕ → AuditError → Type 0
HasNoAnswer answers p r w workers e = (alloc : Global) × (program : Bor Parts) × (report : Bor Report) × (program.now ≡ p) × (report.now ≡ r) × answers alloc program report w workers (Err e)

-- ---- the line and the status

-- a word with the numbers of an actor and of its event, and the line's end
abbrev pub at_event : List ℕ → ℕ → ℕ → List ℕ
at_event word actor event = word ++ decimal actor ++ codes " " ++ decimal event ++ codes "\n"

-- the line of a verdict
abbrev pub audit_line : Verdict → List ℕ
audit_line (Agrees true) = codes "audit agrees serial\n"
audit_line (Agrees false) = codes "audit agrees\n"
audit_line (Differs actor event) = at_event (codes "audit differs ") actor event
audit_line (Undecided actor event) = at_event (codes "audit undecided ") actor event

-- how it counts in the status: one that differs as 4
abbrev pub audit_status : Verdict → ℕ
audit_status (Agrees serial) = 0
audit_status (Differs actor event) = 4
audit_status (Undecided actor event) = 0

-- what explains a verdict where lines are explained: of one that agrees nothing, else a form of the text, if there is one, and a sentence
abbrev pub LessonOf : Script → Verdict → List ℕ → Type 0
LessonOf script (Agrees serial) lesson = lesson ≡ []
LessonOf script (Differs actor event) lesson = (form : Option Span) × (sentence : List ℕ) × (lesson ≡ lesson_of script.file script.text form (Some sentence))
LessonOf script (Undecided actor event) lesson = (form : Option Span) × (sentence : List ℕ) × (lesson ≡ lesson_of script.file script.text form (Some sentence))

-- the line that says why there is no verdict
abbrev pub no_answer_line : AuditError → List ℕ
no_answer_line NoThread = codes "run failed: NoThread\n"
no_answer_line Memory = codes "out of memory\n"

-- ---- what is told

-- What is told of a verdict, behind what is told of the run: its line, what explains it, and the higher status.
pub record AnswerTells (script : Script) (v : Verdict) (before t : Told) : Type 0 where
  pub lesson : List ℕ
  pub explained : LessonOf script v lesson
  pub output : t.output ≡ before.output ++ audit_line v
  pub errors : t.errors ≡ before.errors ++ lesson
  pub status : t.status ≡ max before.status (audit_status v)

-- What is told where there is no verdict, behind what is told of the run: why there is none, and status 4.
pub record NoAnswerTells (e : AuditError) (before t : Told) : Type 0 where
  pub output : t.output ≡ before.output
  pub errors : t.errors ≡ before.errors ++ no_answer_line e
  pub status : t.status ≡ max before.status 4

-- What is told of an audit whose verdict is this, behind what is told of the run: the verdict, or that who audits had no answer.
pub data AuditTells (failed : AuditError → Type 0) (script : Script) (v : Verdict) (before t : Told) : Type 0 where
  of_answer : (told : AnswerTells script v before t) → AuditTells failed script v before t
  of_none : (e : AuditError) (so : failed e) (told : NoAnswerTells e before t) → AuditTells failed script v before t
