use Rattle.std.proofs.Common.{ℕ, subst}
use Rattle.txs_audit_book.specs.Answered.{finishing}
use Rattle.txs_audit_book.specs.declared.verdict.AuditError.{AuditError}
use Rattle.txs_cli_audit.specs.Audit.{HasNoAnswer}
use Rattle.txs_cli_report.proofs.Fronts.{ok_maps}
use Rattle.txs_cli_report.specs.Lent.{script_of, told_of}
use Rattle.txs_cli_report.specs.Lines.{Script}
use Rattle.txs_tree_meaning.specs.View.{Parts}
use Rattle.txs_world_protocol.specs.declared.report.Report.{Report}
use Rattle.txs_cli.proofs.Failing.{none_told}
use Rattle.txs_cli.proofs.Loading.{explained_by, has_form}
use Rattle.txs_cli.proofs.Ran.{ran_so}
use Rattle.txs_cli.proofs.tell.run_loaded.Goals as goal
use Rattle.txs_cli.specs.Runs.{Failures, NoRunTells, NoneTells, RanTells, RunTells, against, auditors, failing, of_none, of_run, parts_in, way_of}
use Rattle.txs_cli.specs.Source.{script_at, source_of}

pub run-requires-clause-form : goal.run-requires-clause-form
run-requires-clause-form g c = has_form (source_of c.args.source) c.args.text.now c.args.loaded.now.program c.args.loaded.now.code c.requires.loaded

pub tell_run-requires-clause-form : goal.tell_run-requires-clause-form
tell_run-requires-clause-form g c = has_form (source_of c.args.source) c.args.text.now c.args.loaded.now.program c.args.loaded.now.code c.requires.loaded

pub returns-in-Ok : goal.returns-in-Ok
returns-in-Ok g c =
    let s = source_of c.args.source in
    let text = c.args.text.now in
    let program = c.args.loaded.now.program in
    let code = c.args.loaded.now.code in
    let way = way_of c.args.way in
    let o = c.args.options in
    let f : Failures = failing (goal.X-post g c.args.runner.now) (goal.A-post g c.args.auditor.now) in
    let script : Script = script_at s text in
    let ran = c.in-Ok.ran in
    let unaudited : ℕ → Parts → Report → AuditError → Type 0 = λ n p r e. HasNoAnswer (goal.A-post g c.args.auditor.now) p r (finishing o.steps) n e in
    ok_maps c.tell_run.result (λ t. RanTells (parts_in c.against-against.result) (unaudited c.auditors.result) code (script_of c.script-script.result) o ran.0 ran.1 (told_of t)) (λ t. RunTells f script program code way o (told_of t))
    (λ t told. of_run ran.0 ran.1 c.in-Ok.ensures.lawful c.in-Ok.ensures.so (explained_by s text program code o.steps ran.0 ran.1 c.requires.loaded c.in-Ok.ensures.lawful)
    (ran_so unaudited _ (against o.audit program) _ (auditors way) _ script code o ran.0 ran.1 (told_of t) c.against-against.ensures c.auditors.ensures c.script-script.ensures told)) c.tell_run.ensures

pub returns-in-Err : goal.returns-in-Err
returns-in-Err g c =
    let s = source_of c.args.source in
    let text = c.args.text.now in
    let program = c.args.loaded.now.program in
    let code = c.args.loaded.now.code in
    let way = way_of c.args.way in
    let o = c.args.options in
    let f : Failures = failing (goal.X-post g c.args.runner.now) (goal.A-post g c.args.auditor.now) in
    let z : Script = script_of c.script-script.result in
    let none = c.in-Err.none in
    ok_maps c.tell_no_run.result (λ t. NoneTells none z.file (told_of t)) (λ t. RunTells f (script_at s text) program code way o (told_of t))
    (λ t told. of_none (subst (λ (x : Script). NoRunTells f.run way code o.steps x.file (told_of t)) c.script-script.ensures (none_told f.run way code o.steps none z.file (told_of t) c.in-Err.ensures.none told))) c.tell_no_run.ensures
