use Rattle.std.proofs.Common.{◌≡◌, ◌≤◌, ℕ, IfOk, Option, length, subst, sym}
use Rattle.txs_audit_book.specs.Answered.{finishing}
use Rattle.txs_audit_book.specs.declared.verdict.AuditError.{AuditError}
use Rattle.txs_cli_audit.specs.Audit.{HasNoAnswer}
use Rattle.txs_cli_report.specs.Lent.{script_of, told_of}
use Rattle.txs_cli_report.specs.Told.{ReportTells}
use Rattle.txs_code_meaning.specs.PlainCode.{PlainCode}
use Rattle.txs_machine.specs.Agents.{agents_of}
use Rattle.txs_tree_meaning.specs.View.{Parts}
use Rattle.txs_verify.proofs.Formed.{few_cells, few_threads}
use Rattle.txs_world_protocol.specs.declared.report.Report.{Report}
use Rattle.std.specs.Borrow.{Bor}
use Rattle.txs_cli.proofs.tell.tell_run.Goals as goal
use Rattle.txs_cli.specs.Runs.{RanTells, parts_in}

-- code that has a form has no more threads and cells than the limits allow
pub report_run-requires-clause-few_threads : goal.report_run-requires-clause-few_threads
report_run-requires-clause-few_threads g c = subst (λ (n : ℕ). n ≤ 64) (sym c.requires.worked.done.one_each) (few_threads c.args.code.now c.requires.form)

pub report_run-requires-clause-few_cells : goal.report_run-requires-clause-few_cells
report_run-requires-clause-few_cells g c = subst (λ (d : PlainCode). length d.cells ≤ 1000) (sym c.code.ensures.value) (few_cells c.args.code.now c.requires.form)

pub report_run-requires-clause-made : goal.report_run-requires-clause-made
report_run-requires-clause-made g c = subst (λ (d : PlainCode). c.args.ran.0.cells ≡ d.cells) (sym c.code.ensures.value) c.requires.worked.of.cells

pub report_run-requires-clause-one_each : goal.report_run-requires-clause-one_each
report_run-requires-clause-one_each g c = subst (λ (d : PlainCode). length c.args.ran.1.agents.items ≡ length (agents_of d)) (sym c.code.ensures.value) c.requires.worked.agents_done.one_each

pub returns-in-Some : goal.returns-in-Some
returns-in-Some g c =
    let working = c.args.working in
    let o = working.options in
    let unaudited : Parts → Report → AuditError → Type 0 = λ p r e. HasNoAnswer (goal.A-post g c.args.auditor.now) p r (finishing o.steps) working.workers e in
    subst (λ (a : Option (Bor Parts)). IfOk c.audit_run.result (λ t. RanTells (parts_in a) unaudited c.args.code.now (script_of c.args.script) o c.args.ran.0 c.args.ran.1 (told_of t))) (sym c.in-Some.is) c.audit_run.ensures

pub returns-in-None : goal.returns-in-None
returns-in-None g c =
    let working = c.args.working in
    let o = working.options in
    let unaudited : Parts → Report → AuditError → Type 0 = λ p r e. HasNoAnswer (goal.A-post g c.args.auditor.now) p r (finishing o.steps) working.workers e in
    subst (λ (a : Option (Bor Parts)). IfOk c.report_run.result (λ t. RanTells (parts_in a) unaudited c.args.code.now (script_of c.args.script) o c.args.ran.0 c.args.ran.1 (told_of t))) (sym c.in-None.is)
    (subst (λ (d : PlainCode). IfOk c.report_run.result (λ t. ReportTells d (script_of c.args.script) c.args.ran.0 c.args.ran.1 o.cells o.events (told_of t))) c.code.ensures.value c.report_run.ensures)
