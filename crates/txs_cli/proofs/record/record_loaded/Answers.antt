use Rattle.std.proofs.Common.{IfErr, subst}
use Rattle.txs_cli_report.proofs.Fronts.{ok_maps}
use Rattle.txs_cli_report.specs.Lent.{script_of, text_in, told_of}
use Rattle.txs_cli_report.specs.Told.{ReportTells}
use Rattle.txs_cli.proofs.Failing.{failed_so, runnable}
use Rattle.txs_cli.proofs.Loading.{explained_by, has_form}
use Rattle.txs_cli.proofs.Recording.{recorded_so}
use Rattle.txs_cli.proofs.record.record_loaded.Goals as goal
use Rattle.txs_cli.specs.Recorded.{Records, ReportRecords}
use Rattle.txs_cli.specs.Runner.{FailsAs, IsWorked, RunsLawfully}
use Rattle.txs_cli.specs.Runs.{Failures, Workers, failing_run, of_none, of_run}
use Rattle.txs_cli.specs.Source.{Source, OfScript}
use Rattle.txs_cli.specs.Telling.{Run, SourceTells, of_use, without_audit}

pub run_all-requires-clause-runnable : goal.run_all-requires-clause-runnable
run_all-requires-clause-runnable g c = runnable c.args.loaded.now.code (has_form (OfScript (text_in c.args.script.file)) c.args.script.text.now c.args.loaded.now.program c.args.loaded.now.code c.requires.loaded)

pub record_report-requires-clause-worked : goal.record_report-requires-clause-worked
record_report-requires-clause-worked g c = subst (λ r. RunsLawfully c.args.loaded.now.code c.args.working.options.steps r) c.in-Ok.is c.run_all.ensures.lawful

pub returns-in-Ok-clause-told : goal.returns-in-Ok-clause-told
returns-in-Ok-clause-told g c =
    let l = c.args.loaded.now in
    let script = script_of c.args.script in
    let s : Source = OfScript script.file in
    let o = c.args.working.options in
    let n = c.args.working.workers in
    let shared = c.in-Ok.shared in
    let report = c.in-Ok.report in
    let f : Failures = failing_run (goal.X-post g c.args.runner.now) in
    let worked : IsWorked l.code o.steps shared report = subst (λ r. RunsLawfully l.code o.steps r) c.in-Ok.is c.run_all.ensures.lawful in
    ok_maps c.record_report.result (λ r. ReportTells l.code script shared report o.cells o.events (told_of r.0)) (λ r. SourceTells f s script.text (Run (Workers n) (without_audit o)) (told_of r.0))
    (λ r told. of_use l.program l.code c.requires.loaded (of_run shared report worked tt (explained_by s script.text l.program l.code o.steps shared report c.requires.loaded worked) told)) c.record_report.ensures.told

pub returns-in-Ok-clause-recorded : goal.returns-in-Ok-clause-recorded
returns-in-Ok-clause-recorded g c =
    let l = c.args.loaded.now in
    let script = script_of c.args.script in
    let o = c.args.working.options in
    let shared = c.in-Ok.shared in
    let report = c.in-Ok.report in
    let worked : IsWorked l.code o.steps shared report = subst (λ r. RunsLawfully l.code o.steps r) c.in-Ok.is c.run_all.ensures.lawful in
    ok_maps c.record_report.result (λ r. ReportRecords l.code script o shared report (told_of r.0) r.1) (λ r. Records script o (told_of r.0) r.1)
    (λ r h. recorded_so script o l.program l.code shared report (told_of r.0) r.1 c.requires.loaded worked h) c.record_report.ensures.recorded

-- the run has no report
pub returns-in_ok-told-in-Err-clause-told : goal.returns-in_ok-told-in-Err-clause-told
returns-in_ok-told-in-Err-clause-told g c =
    let l = c.args.loaded.now in
    let script = script_of c.args.script in
    let o = c.args.working.options in
    let n = c.args.working.workers in
    let f : Failures = failing_run (goal.X-post g c.args.runner.now) in
    let failure = c.in-Err.failure in
    let so : FailsAs (f.run l.code n o.steps) failure = subst (λ r. IfErr r (FailsAs (f.run l.code n o.steps))) c.in-Err.is c.run_all.ensures.failed in
    let told = c.in_ok-told-in-Err.ensures in
    let is : SourceTells f (OfScript script.file) script.text (Run (Workers n) (without_audit o)) (told_of c.in_ok-told-in-Err.told) =
    of_use l.program l.code c.requires.loaded (of_none (failure, failed_so (f.run l.code n o.steps) failure told.told so, told))
    in
    is
