use Rattle.std.proofs.Common.{List, subst}
use Rattle.std.specs.Option.{IfSome}
use Rattle.std.specs.Prelude.{IfOk}
use Rattle.txs_audit_book.specs.Answered.{finishing}
use Rattle.txs_audit_book.specs.declared.verdict.AuditError.{AuditError}
use Rattle.txs_cli_audit.specs.Audit.{HasNoAnswer}
use Rattle.txs_cli_events.specs.declared.seen.Noted.{Noted}
use Rattle.txs_cli_report.proofs.Fronts.{ok_maps}
use Rattle.txs_cli_report.specs.Lent.{script_of, told_of}
use Rattle.txs_tree_meaning.specs.View.{Parts}
use Rattle.txs_value_cell.specs.declared.cell.CellDefinition.{CellDefinition}
use Rattle.txs_world_protocol.specs.declared.report.Report.{Report}
use Rattle.txs_cli_show.proofs.lines.show_compiled.Goals as goal
use Rattle.txs_cli_show.specs.Shown.{IsListed, MayAudit, ShowTells, lines_shown, of_run, plainly, verdict_on}

pub returns : goal.returns
returns g c =
    let a = c.args in
    let parts = a.compiled.now.0 in
    let code = a.compiled.now.1 in
    let o = a.working.options in
    let script = script_of a.script in
    let run = c.in-Some.run' in
    let unaudited : Parts → Report → AuditError → Type 0 = λ p r e. HasNoAnswer (goal.A-post g a.auditor.now) p r (finishing o.steps) a.working.workers e in
    let listed : IsListed code a.list.now o.steps run.report run.notes.items = subst (λ s. IfSome s (λ r. IsListed code a.list.now o.steps r.report r.notes.items)) c.in-Some.is c.in_ok-run.ensures in
    let tells : List CellDefinition → Report → List Noted → Type 0 = λ ds r ns. IfOk c.run_lines.result
    (λ t. MayAudit o.audit (unaudited parts run.report) script (verdict_on parts o.steps run.report) (plainly (lines_shown a.full ds r ns)) (told_of t)) in
    let shown = c.of.result in
    let at_cells : tells code.cells shown.report.now shown.notes.now = subst (λ ds. tells ds shown.report.now shown.notes.now) c.of.ensures.cells c.run_lines.ensures in
    let at_report : tells code.cells run.report shown.notes.now = subst (λ r. tells code.cells r shown.notes.now) c.of.ensures.report at_cells in
    ok_maps c.run_lines.result (λ t. MayAudit o.audit (unaudited parts run.report) script (verdict_on parts o.steps run.report) (plainly (lines_shown a.full code.cells run.report run.notes.items)) (told_of t))
    (λ t. ShowTells a.list.now a.full unaudited script o (told_of t)) (λ t told. of_run parts code run.report run.notes.items c.requires.compiled listed told) (subst (tells code.cells run.report) c.of.ensures.notes at_report)
