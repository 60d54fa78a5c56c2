-- What is told of a run that is over.
use Rattle.std.proofs.Common.{◌≡◌, ◌++◌, ◌∙◌, ℕ, List, Option, ap, append_assoc, subst, sym}
use Rattle.txs_audit_book.specs.declared.verdict.AuditError.{AuditError}
use Rattle.txs_cli_args.specs.declared.request.RunOptions.{RunOptions}
use Rattle.txs_cli_audit.specs.Audit.{AuditTells, audit_line, of_answer, of_none}
use Rattle.txs_cli_report.specs.Lines.{Script}
use Rattle.txs_cli_report.specs.Told.{Told, behind_bytes}
use Rattle.txs_code_meaning.specs.PlainCode.{PlainCode}
use Rattle.txs_machine.specs.declared.schedule.Entries.{Entries}
use Rattle.txs_theorem_audit.specs.Audited.{Verdict}
use Rattle.txs_tree_meaning.specs.View.{Parts}
use Rattle.txs_world_protocol.specs.declared.report.Report.{Report}
use Rattle.txs_world_shared.specs.SharedState.{PlainShared}
use Rattle.txs_cli.specs.Runs.{RanTells}

-- what is told of an audit behind some lines is told of it behind what the threads printed and these lines
pub audit_behind : (failed : AuditError → Type 0) (script : Script) (v : Verdict) (bytes : List ℕ) (before t : Told) → AuditTells failed script v before t → AuditTells failed script v (behind_bytes bytes before) (behind_bytes bytes t)
audit_behind failed script v bytes before t (of_answer told) =
    of_answer
    (record {
      lesson = told.lesson;
      explained = told.explained;
      output = ap (λ (l : List ℕ). bytes ++ l) told.output ∙ sym (append_assoc bytes before.output (audit_line v));
      errors = told.errors;
      status = told.status;
    })
audit_behind failed script v bytes before t (of_none e so told) = of_none e so (record { output = ap (λ (l : List ℕ). bytes ++ l) told.output; errors = told.errors; status = told.status })

-- of the same script, against the same program, and with as many auditors
pub ran_so : (unaudited : ℕ → Parts → Report → AuditError → Type 0) (a b : Option Parts) (n m : ℕ) (s z : Script) (code : PlainCode) (o : RunOptions) (shared : PlainShared) (entries : Entries) (t : Told)
    → a ≡ b → n ≡ m → s ≡ z → RanTells a (unaudited n) code s o shared entries t → RanTells b (unaudited m) code z o shared entries t
ran_so unaudited a b n m s z code o shared entries t p q r h =
    subst (λ (x : Script). RanTells b (unaudited m) code x o shared entries t) r
    (subst (λ (k : ℕ). RanTells b (unaudited k) code s o shared entries t) q (subst (λ (x : Option Parts). RanTells x (unaudited n) code s o shared entries t) p h))
