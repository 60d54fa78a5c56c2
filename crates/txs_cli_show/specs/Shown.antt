-- What is shown of the run of a script by a list of plays: its events in their long form, and its audit.
use Rattle.std.specs.Prelude.{◌≡◌, ℕ, Bool, true, false, List, [], ◌++◌, codes}
use Rattle.std.specs.declared.result.Result.TheVariants.{Ok}
use Rattle.txs_audit_book.specs.Answered.{audit_turns, finishing, terms_as}
use Rattle.txs_audit_book.specs.declared.verdict.AuditError.{AuditError}
use Rattle.txs_cli.specs.Runs.{IsPlayed, IsRunReport}
use Rattle.txs_cli_audit.specs.Audit.{AuditTells}
use Rattle.txs_cli_events.specs.LongLines.{long_lines}
use Rattle.txs_cli_events.specs.declared.seen.Noted.{Noted}
use Rattle.txs_cli_report.specs.Plays.{plays_in}
use Rattle.txs_cli_events.specs.Noted.{AreInOrder, ArePrinted, AreTraced}
use Rattle.txs_cli_report.specs.Lines.{Script}
use Rattle.txs_cli_report.specs.Told.{IsCompiled, ScriptRefused, Told}
use Rattle.txs_cli_args.specs.declared.request.RunOptions.{RunOptions}
use Rattle.txs_code_meaning.specs.PlainCode.{PlainCode}
use Rattle.txs_machine.specs.declared.schedule.Entries.{Entries}
use Rattle.txs_machine.specs.declared.schedule.Play.{Play}
use Rattle.txs_theorem_audit.specs.Audited.{Verdict, report_as}
use Rattle.txs_theorem_audit.specs.Verdict.{verdict}
use Rattle.txs_tree_meaning.specs.View.{Parts, program_of}
use Rattle.txs_value_cell.specs.declared.cell.CellDefinition.{CellDefinition}
use Rattle.txs_world_protocol.specs.declared.report.Report.{Report}
use Rattle.txs_world_shared.specs.SharedState.{PlainShared}

-- A run of the code by a schedule, and its report.
pub record IsReported (code : PlainCode) (plays : List Play) (steps : ℕ) (r : Report) : Type 0 where
  pub shared : PlainShared
  pub entries : Entries
  pub played : IsPlayed plays code steps shared entries
  pub of : IsRunReport shared entries r

-- Such a run with its events: they are those of each actor's trace and those of each book, in their order.
pub record IsShown (code : PlainCode) (plays : List Play) (steps : ℕ) (r : Report) (notes : List Noted) : Type 0 where
  pub reported : IsReported code plays steps r
  pub traced : AreTraced r notes
  pub in_order : AreInOrder r notes
  pub printed : ArePrinted r notes

-- The same of a run by the plays that a list says.
pub record IsListed (code : PlainCode) (list : List ℕ) (steps : ℕ) (r : Report) (notes : List Noted) : Type 0 where
  pub plays : List Play
  pub read : plays_in list ≡ Ok plays
  pub shown : IsShown code plays steps r notes

-- the lines of the events, where they are wanted
abbrev pub lines_shown : Bool → List CellDefinition → Report → List Noted → List ℕ
lines_shown false cells r notes = []
lines_shown true cells r notes = long_lines cells r notes

-- such lines alone
abbrev pub plainly : List ℕ → Told
plainly lines = record { output = lines; errors = []; status = 0 }

-- what is told behind this, where an audit is wanted whose verdict is this: the verdict, or that who audits had no answer; and nothing where none is
abbrev pub MayAudit : Bool → (AuditError → Type 0) → Script → Verdict → Told → Told → Type 0
MayAudit false unaudited script v before t = t ≡ before
MayAudit true unaudited script v before t = AuditTells unaudited script v before t

-- the verdict on the report of a run that was to go on up to its end, in which each actor makes so many steps at most
abbrev pub verdict_on : Parts → ℕ → Report → Verdict
verdict_on parts steps r = verdict (program_of parts) (terms_as (finishing steps)) (report_as r) (audit_turns steps)

-- What is shown of a run of a script's code by this list of plays: its events, where they are wanted, and behind them its audit, where it is. Else that the script is refused, or
-- that the list isn't that of a run whose events have an order.
pub data ShowTells (list : List ℕ) (full : Bool) (unaudited : Parts → Report → AuditError → Type 0) (script : Script) (o : RunOptions) (t : Told) : Type 0 where
  of_run :
      (parts : Parts) (code : PlainCode) (report : Report) (notes : List Noted) (compiled : IsCompiled script.text (program_of parts) code) (listed : IsListed code list o.steps report notes)
      (told : MayAudit o.audit (unaudited parts report) script (verdict_on parts o.steps report) (plainly (lines_shown full code.cells report notes)) t) → ShowTells list full unaudited script o t
  of_refused : (told : ScriptRefused script t) → ShowTells list full unaudited script o t
  of_failed : (output : t.output ≡ []) (errors : t.errors ≡ codes "show failed" ++ codes "\n") (status : t.status ≡ 4) → ShowTells list full unaudited script o t
