use Rattle.std.proofs.Common.{arith, ◌≡◌, ◌≤◌, ◌++◌, ◌∙◌, ℕ, List, ap, length, subst, sym}
use Rattle.txs_verify.proofs.Formed.{few_cells, few_threads}
use Rattle.txs_cli_audit.specs.Audit.{HasNoAnswer}
use Rattle.txs_audit_book.specs.declared.verdict.AuditError.{AuditError}
use Rattle.txs_cli_report.specs.Lent.{lines_of, script_of}
use Rattle.txs_cli_report.specs.Lines.{all_printed}
use Rattle.txs_cli_report.specs.Told.{ReportTells, behind_bytes}
use Rattle.txs_code_meaning.specs.PlainCode.{PlainCode}
use Rattle.txs_machine.specs.Agents.{agents_of}
use Rattle.txs_theorem_audit.specs.Audited.{Verdict, report_as}
use Rattle.txs_theorem_audit.specs.Verdict.{verdict}
use Rattle.txs_tree_meaning.specs.View.{program_of}
use Rattle.txs_value_cell.specs.declared.cell.CellDefinition.{CellDefinition}
use Rattle.txs_world_protocol.specs.declared.report.ActorReport.{ActorReport}
use Rattle.txs_world_protocol.specs.declared.report.Report.{Report}
use Rattle.txs_cli.proofs.Ran.{audit_behind}
use Rattle.txs_cli.proofs.tell.audit_run.Goals as goal
use Rattle.txs_cli.specs.Runs.{AuditedRunTells}
use Rattle.txs_audit_book.specs.Answered.{audit_turns, finishing, terms_as}

-- code that has a form has no more threads and cells than the limits allow
pub report_lines-requires-clause-few_threads : goal.report_lines-requires-clause-few_threads
report_lines-requires-clause-few_threads g c = subst (λ (n : ℕ). n ≤ 64) (sym c.requires.worked.done.one_each) (few_threads c.args.code.now c.requires.form)

pub report_lines-requires-clause-few_cells : goal.report_lines-requires-clause-few_cells
report_lines-requires-clause-few_cells g c = subst (λ (d : PlainCode). length d.cells ≤ 1000) (sym c.code-code.ensures.value) (few_cells c.args.code.now c.requires.form)

pub report_lines-requires-clause-made : goal.report_lines-requires-clause-made
report_lines-requires-clause-made g c = subst (λ (d : PlainCode). c.args.ran.0.cells ≡ d.cells) (sym c.code-code.ensures.value) c.requires.worked.of.cells

pub report_lines-requires-clause-one_each : goal.report_lines-requires-clause-one_each
report_lines-requires-clause-one_each g c = subst (λ (d : PlainCode). length c.args.ran.1.agents.items ≡ length (agents_of d)) (sym c.code-code.ensures.value) c.requires.worked.agents_done.one_each

within : (n : ℕ) → n ≤ 1000 → n ≤ 65535
within n h = omega (arith, h)

pub into_report-requires : goal.into_report-requires
into_report-requires g c =
    let code = c.args.code.now in
    record { few = subst (λ (ds : List CellDefinition). length ds ≤ 65535) (sym c.requires.worked.of.cells) (within (length code.cells) (few_cells code c.requires.form)) }

pub returns : goal.returns
returns g c =
    let parts = c.args.program.now in
    let code = c.args.code.now in
    let working = c.args.working in
    let o = working.options in
    let script = script_of c.args.script in
    let shared = c.args.ran.0 in
    let entries = c.args.ran.1 in
    let printed = all_printed (entries.threads.items ++ entries.agents.items) in
    let lines = lines_of c.in_ok-told.told in
    let ran = behind_bytes printed lines in
    let report = c.in_ok-report.report in
    let made = c.in_ok-report.ensures in
    let more = lines_of c.add_audit.new.told in
    let told = behind_bytes printed more in
    let unaudited : Report → AuditError → Type 0 = λ r e. HasNoAnswer (goal.A-post g c.args.auditor.now) parts r (finishing o.steps) working.workers e in
    let answered : Verdict = verdict (program_of parts) (terms_as (finishing o.steps)) (report_as report) (audit_turns o.steps) in
    let is : AuditedRunTells unaudited parts code script o shared entries told = record {
      ran = ran;
      told = subst (λ (d : PlainCode). ReportTells d script shared entries o.cells o.events ran) c.code-code.ensures.value c.in_ok-told.ensures;
      report = report;
      of = record { threads = made.threads; agents = made.agents; books = made.report.books; cells = made.report.cells; failed = made.report.failed };
      audited = audit_behind (unaudited report) script answered printed lines more c.in_ok-add_audit.ensures.told;
    }
    in
    let threads : entries.threads.items ≡ c.swap.new.x.items = ap (λ v. v.items) (sym (c.swap.ensures.x_after ∙ made.threads)) in
    let agents : entries.agents.items ≡ c.swap-2.new.x.items = ap (λ v. v.items) (sym (c.swap-2.ensures.x_after ∙ made.agents)) in
    subst (λ (rs : List ActorReport). AuditedRunTells unaudited parts code script o shared entries (behind_bytes (all_printed (rs ++ c.swap-2.new.x.items)) more)) threads
    (subst (λ (rs : List ActorReport). AuditedRunTells unaudited parts code script o shared entries (behind_bytes (all_printed (entries.threads.items ++ rs)) more)) agents is)
