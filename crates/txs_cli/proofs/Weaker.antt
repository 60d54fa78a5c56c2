-- What is told where what is lent may fail so is told where it may fail in more ways.
use Rattle.std.proofs.Common.{◌≡◌, ℕ, Bool, true, false, List, Option, Some, None, IfSome, refl}
use Rattle.txs_audit_book.specs.Answered.{finishing}
use Rattle.txs_audit_book.specs.declared.verdict.AuditError.{AuditError}
use Rattle.txs_audit_book.specs.declared.verdict.Terms.{Terms}
use Rattle.txs_cli_args.specs.declared.request.Request.{Request}
use Rattle.txs_cli_args.specs.declared.request.RunOptions.{RunOptions}
use Rattle.txs_cli_audit.specs.Audit.{AuditTells, of_answer}
use Rattle.txs_cli_audit.specs.Audit as audit
use Rattle.txs_cli_report.proofs.Fronts.{some_maps}
use Rattle.txs_cli_report.specs.Lines.{Script}
use Rattle.txs_cli_report.specs.Told.{Told, Answers, of_memory, of_told}
use Rattle.txs_code_meaning.specs.PlainCode.{PlainCode}
use Rattle.txs_machine.specs.declared.run_error.RunError.{RunError}
use Rattle.txs_machine.specs.declared.schedule.Entries.{Entries}
use Rattle.txs_machine.specs.declared.schedule.Play.{Play}
use Rattle.txs_theorem_audit.specs.Audited.{Verdict}
use Rattle.txs_tree_meaning.specs.View.{Parts}
use Rattle.txs_world_protocol.specs.declared.report.Report.{Report}
use Rattle.txs_world_shared.specs.SharedState.{PlainShared}
use Rattle.txs_cli.specs.Runner.{HasFailed, Runs}
use Rattle.txs_cli.specs.Runs.{Failures, NoRunTells, RanTells, Way, Turns, Workers, against, auditors, of_none, of_run}
use Rattle.txs_cli.specs.Source.{Source}
use Rattle.txs_cli.specs.Telling.{RequestTells, ScheduleTells, SourceTells, Task, Say, Do, Schedule, TaskTells, Use, Check, Listing, Build, Run, UseTells, of_plays, of_refused, of_unread, of_use, of_wrong, task_of}

-- ---- of a run

audit_maps : (f g : AuditError → Type 0) → ((e : AuditError) → f e → g e) → (s : Script) (v : Verdict) (before t : Told) → AuditTells f s v before t → AuditTells g s v before t
audit_maps f g more s v before t (of_answer told) = of_answer told
audit_maps f g more s v before t (audit.of_none e so told) = audit.of_none e (more e so) told

ran_maps : (f g : Parts → Report → AuditError → Type 0) (b : Bool) → (b ≡ true → (p : Parts) (r : Report) (e : AuditError) → f p r e → g p r e) → (program : Option Parts) (code : PlainCode) (s : Script) (o : RunOptions) (shared : PlainShared) (entries : Entries) (t : Told)
    → RanTells (against b program) f code s o shared entries t → RanTells (against b program) g code s o shared entries t
ran_maps f g false more program code s o shared entries t h = h
ran_maps f g true more None code s o shared entries t h = h
ran_maps f g true more (Some parts) code s o shared entries t h = record {
  ran = h.ran;
  told = h.told;
  report = h.report;
  of = h.of;
  audited = audit_maps (f parts h.report) (g parts h.report) (more refl parts h.report) s _ h.ran t h.audited;
}

-- where these failures are among those, of runs in this way and of their audits
abbrev pub AreAmong : Failures → Failures → Use → Type 0
AreAmong f g Check = Unit {0}
AreAmong f g Listing = Unit {0}
AreAmong f g Build = Unit {0}
AreAmong f g (Run way o) =
    ((code : PlainCode) (file : Option (List ℕ)) (t : Told) → NoRunTells f.run way code o.steps file t → NoRunTells g.run way code o.steps file t)
    × (o.audit ≡ true → (p : Parts) (r : Report) (e : AuditError) → f.audit p r (finishing o.steps) (auditors way) e → g.audit p r (finishing o.steps) (auditors way) e)

use_maps : (f g : Failures) (wanted : Use) → AreAmong f g wanted → (s : Script) (program : Option Parts) (code : PlainCode) (t : Told) → UseTells f s program code wanted t → UseTells g s program code wanted t
use_maps f g Check among s program code t h = h
use_maps f g Listing among s program code t h = h
use_maps f g Build among s program code t h = h
use_maps f g (Run way o) among s program code t (of_run shared entries worked ran explained told) =
    of_run shared entries worked ran explained
    (ran_maps (λ p r e. f.audit p r (finishing o.steps) (auditors way) e) (λ p r e. g.audit p r (finishing o.steps) (auditors way) e) o.audit among.1 program code s o shared entries t told)
use_maps f g (Run way o) among s program code t (of_none told) = of_none (among.0 code s.file t told)

-- ---- of a task

pub source_maps : (f g : Failures) (s : Source) (text : List ℕ) (wanted : Use) → AreAmong f g wanted → (t : Told) → SourceTells f s text wanted t → SourceTells g s text wanted t
source_maps f g s text wanted among t (of_unread told) = of_unread told
source_maps f g s text wanted among t (of_refused told) = of_refused told
source_maps f g s text wanted among t (of_use program code loaded told) = of_use program code loaded (use_maps f g wanted among _ program code t told)

schedule_maps : (f g : Failures) (s : Source) (text turns : List ℕ) (o : RunOptions) → ((plays : List Play) → AreAmong f g (Run (Turns plays) o)) → (t : Told) → ScheduleTells f s text turns o t → ScheduleTells g s text turns o t
schedule_maps f g s text turns o among t (of_plays plays read told) = of_plays plays read (source_maps f g s text (Run (Turns plays) o) (among plays) t told)
schedule_maps f g s text turns o among t (of_wrong wrong read told) = of_wrong wrong read told

pub answer_maps : (P Q : Told → Type 0) → ((t : Told) → P t → Q t) → (t : Told) → Answers P t → Answers Q t
answer_maps P Q f t (of_told told) = of_told (f t told)
answer_maps P Q f t (of_memory told) = of_memory told

abbrev pub AreAmongFor : Failures → Failures → Task → Type 0
AreAmongFor f g (Say told) = Unit {0}
AreAmongFor f g (Do s wanted) = AreAmong f g wanted
AreAmongFor f g (Schedule s turns o) = (plays : List Play) → AreAmong f g (Run (Turns plays) o)

pub task_maps : (f g : Failures) (input : List ℕ) (task : Task) → AreAmongFor f g task → (t : Told) → TaskTells f input task t → TaskTells g input task t
task_maps f g input (Say told) among t h = h
task_maps f g input (Do s wanted) among t h = answer_maps _ _ (source_maps f g s _ wanted among) t h
task_maps f g input (Schedule s turns o) among t h = answer_maps _ _ (schedule_maps f g s _ turns o among) t h

-- ---- where more may fail

module _ (f g : Failures) (runs : (d : PlainCode) (n steps : ℕ) (e : RunError) → f.run d n steps e → g.run d n steps e) (audits : (p : Parts) (r : Report) (w : Terms) (n : ℕ) (e : AuditError) → f.audit p r w n e → g.audit p r w n e) where
  unrun : (way : Way) (code : PlainCode) (steps : ℕ) (file : Option (List ℕ)) (t : Told) → NoRunTells f.run way code steps file t → NoRunTells g.run way code steps file t
  unrun (Turns plays) code steps file t h = h
  unrun (Workers n) code steps file t h = (h.0, runs code n steps h.0 h.1, h.2)

  pub among : (wanted : Use) → AreAmong f g wanted
  among Check = tt
  among Listing = tt
  among Build = tt
  among (Run way o) = (λ code file t h. unrun way code o.steps file t h, λ is p r e h. audits p r (finishing o.steps) (auditors way) e h)

  pub among_for : (task : Task) → AreAmongFor f g task
  among_for (Say told) = tt
  among_for (Do s wanted) = among wanted
  among_for (Schedule s turns o) = λ plays. among (Run (Turns plays) o)

-- what is told for a request is told where code is run lawfully, whyever it fails
pub request_so : (failed : PlainCode → ℕ → ℕ → RunError → Type 0) (unaudited : Parts → Report → Terms → ℕ → AuditError → Type 0) (known : Option (List ℕ)) (request : Request) (writes : Told → Type 0)
    → IfSome known (λ input. (t : Told) × RequestTells (record { run = failed; audit = unaudited }) input request t × writes t)
    → ((d : PlainCode) (n steps : ℕ) (e : RunError) → failed d n steps e → HasFailed Runs d n steps e)
    → IfSome known (λ input. (t : Told) × RequestTells (record { run = HasFailed Runs; audit = unaudited }) input request t × writes t)
request_so failed unaudited known request writes told more =
    let f : Failures = record { run = failed; audit = unaudited } in
    let g : Failures = record { run = HasFailed Runs; audit = unaudited } in
    some_maps known (λ input. (t : Told) × RequestTells f input request t × writes t) (λ input. (t : Told) × RequestTells g input request t × writes t)
    (λ input h. (h.0, task_maps f g input (task_of request) (among_for f g more (λ p r w n e so. so) (task_of request)) h.0 h.1, h.2)) told

-- and so is what is told of a source
pub answer_so : (failed : PlainCode → ℕ → ℕ → RunError → Type 0) (unaudited : Parts → Report → Terms → ℕ → AuditError → Type 0) (s : Source) (text : List ℕ) (wanted : Use) (t : Told)
    → Answers (SourceTells (record { run = failed; audit = unaudited }) s text wanted) t → ((d : PlainCode) (n steps : ℕ) (e : RunError) → failed d n steps e → HasFailed Runs d n steps e)
    → Answers (SourceTells (record { run = HasFailed Runs; audit = unaudited }) s text wanted) t
answer_so failed unaudited s text wanted t told more =
    let f : Failures = record { run = failed; audit = unaudited } in
    let g : Failures = record { run = HasFailed Runs; audit = unaudited } in
    answer_maps (SourceTells f s text wanted) (SourceTells g s text wanted) (source_maps f g s text wanted (among f g more (λ p r w n e so. so) wanted)) t told
