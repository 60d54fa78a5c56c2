use Rattle.std.proofs.Common.{ℕ, subst, sym}
use Rattle.txs_audit_book.specs.Answered.{finishing}
use Rattle.txs_audit_book.specs.declared.verdict.AuditError.{AuditError}
use Rattle.txs_cli.specs.Runner.{IsWorked}
use Rattle.txs_cli.specs.Runs.{parts_in}
use Rattle.txs_cli_args.specs.declared.request.RunOptions.{RunOptions}
use Rattle.txs_cli_audit.specs.Audit.{HasNoAnswer}
use Rattle.txs_cli_report.specs.Lent.{script_of}
use Rattle.txs_tree_meaning.specs.View.{Parts}
use Rattle.txs_world_protocol.specs.declared.report.Report.{Report}
use Rattle.txs_cli_explore.proofs.Ran.{told_so}
use Rattle.txs_cli_explore.proofs.ways.tell_run.Goals as goal

pub tell_run-requires-clause-worked : goal.tell_run-requires-clause-worked
tell_run-requires-clause-worked g c = subst (λ (o : RunOptions). IsWorked c.args.compiled.now.1 o.steps c.args.ran.0 c.args.ran.1) (sym c.outcome_options.ensures) c.requires.worked

pub returns : goal.returns
returns g c =
    let x = c.args.exploring in
    let failed : ℕ → Parts → Report → AuditError → Type 0 = λ n p r e. HasNoAnswer (goal.A-post g c.args.auditor.now) p r (finishing n) 4 e in
    told_so c.tell_run.result failed (script_of c.args.script) x.steps x.audit c.outcome_options.result (parts_in c.against-against.result) c.args.compiled.now.0 c.args.compiled.now.1 c.args.ran.0 c.args.ran.1 c.against-against.ensures c.outcome_options.ensures c.tell_run.ensures
