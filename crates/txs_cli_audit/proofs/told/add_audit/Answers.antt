use Rattle.std.proofs.Common.{refl, subst}
use Rattle.txs_audit_book.specs.Answered.{audit_turns, terms_as}
use Rattle.txs_cli_audit.specs.Audit.{AuditTells, HasNoAnswer, NoAnswerTells, of_none}
use Rattle.txs_cli_report.proofs.Fronts.{on_ok}
use Rattle.txs_cli_report.specs.Lent.{lines_of, script_of}
use Rattle.txs_theorem_audit.specs.Audited.{report_as}
use Rattle.txs_theorem_audit.specs.Verdict.{verdict}
use Rattle.txs_tree_meaning.specs.View.{program_of}
use Rattle.txs_cli_audit.proofs.told.add_audit.Goals as goal

-- who audits has had no answer
pub returns-in-Err-clause-told : goal.returns-in-Err-clause-told
returns-in-Err-clause-told g c =
    let a = c.args in
    let answers = goal.A-post g a.auditor.now in
    let failure = c.in-Err.failure in
    let before = lines_of a.told.now in
    let told = lines_of c.add_no_answer.new.told in
    let so : HasNoAnswer answers a.audited.program.now a.audited.report.now a.terms a.workers failure =
    (a.alloc, a.audited.program, a.audited.report, refl, refl, subst (answers a.alloc a.audited.program a.audited.report a.terms a.workers) c.in-Err.is c.auditor.ensures)
    in
    on_ok c.add_no_answer.result (NoAnswerTells failure before told)
    (AuditTells (HasNoAnswer answers a.audited.program.now a.audited.report.now a.terms a.workers) (script_of a.script) (verdict (program_of a.audited.program.now) (terms_as a.terms) (report_as a.audited.report.now) (audit_turns a.terms.steps)) before told)
    (λ told. of_none failure so told) c.add_no_answer.ensures.told
