use Rattle.std.proofs.Common.{◌≡◌, ◌≤◌, ℕ, true, length, subst, sym}
use Rattle.txs_cli_args.specs.declared.request.RunOptions.{RunOptions}
use Rattle.txs_cli_report.specs.Lent.{script_of, text_in, told_of}
use Rattle.txs_cli_report.specs.Told.{ReportTells}
use Rattle.txs_code_meaning.specs.PlainCode.{PlainCode}
use Rattle.txs_machine.specs.Agents.{agents_of}
use Rattle.txs_machine.specs.Schedule.{spread}
use Rattle.txs_verify.proofs.Formed.{few_cells, few_threads}
use Rattle.txs_cli.proofs.Failing.{runnable}
use Rattle.txs_cli.proofs.Loading.{explained_by, has_form}
use Rattle.txs_cli.proofs.record.tell_again.Goals as goal
use Rattle.txs_cli.specs.Recorded.{whole}
use Rattle.txs_cli.specs.Runner.{IsWorked}
use Rattle.txs_cli.specs.Runs.{IsPlayed, RunTells, Turns, nobody, of_run}
use Rattle.txs_cli.specs.Source.{Source, OfScript}

pub run_plays-requires-clause-runnable : goal.run_plays-requires-clause-runnable
run_plays-requires-clause-runnable c = runnable c.args.loaded.now.code (has_form (OfScript (text_in c.args.script.file)) c.args.script.text.now c.args.loaded.now.program c.args.loaded.now.code c.requires.loaded)

pub run_plays-requires-clause-few : goal.run_plays-requires-clause-few
run_plays-requires-clause-few c = few_threads c.args.loaded.now.code (has_form (OfScript (text_in c.args.script.file)) c.args.script.text.now c.args.loaded.now.program c.args.loaded.now.code c.requires.loaded)

pub report_run-requires-clause-few_threads : goal.report_run-requires-clause-few_threads
report_run-requires-clause-few_threads c =
    subst (λ (n : ℕ). n ≤ 64) (sym c.in-Ok.ensures.lawful.done.one_each) (few_threads c.args.loaded.now.code (has_form (OfScript (text_in c.args.script.file)) c.args.script.text.now c.args.loaded.now.program c.args.loaded.now.code c.requires.loaded))

pub report_run-requires-clause-few_cells : goal.report_run-requires-clause-few_cells
report_run-requires-clause-few_cells c =
    subst (λ (d : PlainCode). length d.cells ≤ 1000) (sym c.code-code.ensures.value)
    (few_cells c.args.loaded.now.code (has_form (OfScript (text_in c.args.script.file)) c.args.script.text.now c.args.loaded.now.program c.args.loaded.now.code c.requires.loaded))

pub report_run-requires-clause-made : goal.report_run-requires-clause-made
report_run-requires-clause-made c = subst (λ (d : PlainCode). c.in-Ok.shared.cells ≡ d.cells) (sym c.code-code.ensures.value) c.in-Ok.ensures.lawful.of.cells

pub report_run-requires-clause-one_each : goal.report_run-requires-clause-one_each
report_run-requires-clause-one_each c = subst (λ (d : PlainCode). length c.in-Ok.report.agents.items ≡ length (agents_of d)) (sym c.code-code.ensures.value) c.in-Ok.ensures.lawful.agents_done.one_each

pub returns-in_ok-told-in-Ok : goal.returns-in_ok-told-in-Ok
returns-in_ok-told-in-Ok c =
    let l = c.args.loaded.now in
    let o = c.args.options in
    let script = script_of c.args.script in
    let s : Source = OfScript script.file in
    let ran = c.in-Ok.ensures in
    let shared = c.in-Ok.shared in
    let report = c.in-Ok.report in
    let plays = spread c.args.plays.now in
    let all = c.whole-all.result in
    let is = c.whole-all.ensures in
    let t = told_of c.in_ok-told-in-Ok.told in
    let worked : IsWorked l.code o.steps shared report = subst (λ (x : RunOptions). IsWorked l.code x.steps shared report) is ran.lawful in
    let played : IsPlayed plays l.code o.steps shared report = subst (λ (x : RunOptions). IsPlayed plays l.code x.steps shared report) is ran.played in
    let told : ReportTells l.code script shared report true true t =
    subst (λ (x : RunOptions). ReportTells l.code script shared report x.cells x.events t) is (subst (λ (d : PlainCode). ReportTells d script shared report all.cells all.events t) c.code-code.ensures.value c.in_ok-told-in-Ok.ensures)
    in
    let tells : RunTells nobody script l.program l.code (Turns plays) (whole o) t = of_run shared report worked played (explained_by s script.text l.program l.code o.steps shared report c.requires.loaded worked) told in
    tells
