use Rattle.std.proofs.Common.{◌≡◌, ◌≤◌, ◌++◌, ℕ, true, String, Global, length, subst, sym}
use Rattle.std.specs.Prelude.{string_bytes}
use Rattle.txs_cli_args.specs.declared.request.RunOptions.{RunOptions}
use Rattle.txs_cli_report.specs.Lent.{lines_of, script_of, text_in, told_of}
use Rattle.txs_cli_report.specs.Lines.{all_printed}
use Rattle.txs_cli_report.specs.Told.{ReportTells, Told, behind_bytes}
use Rattle.txs_code_meaning.specs.PlainCode.{PlainCode}
use Rattle.txs_machine.specs.Agents.{agents_of}
use Rattle.txs_verify.proofs.Formed.{few_cells, few_threads}
use Rattle.txs_cli.proofs.Loading.{has_form}
use Rattle.txs_cli.proofs.Recording.{some_at}
use Rattle.txs_cli.proofs.record.record_report.Goals as goal
use Rattle.txs_cli.specs.Recorded.{IsRepeated, whole}
use Rattle.txs_cli.specs.Runs.{nobody}
use Rattle.txs_cli.specs.Source.{OfScript}
use Rattle.txs_cli.specs.Telling.{ScheduleTells}

-- code that has a form has no more threads and cells than the limits allow
pub report_lines-requires-clause-few_threads : goal.report_lines-requires-clause-few_threads
report_lines-requires-clause-few_threads g c = subst (λ (n : ℕ). n ≤ 64) (sym c.requires.worked.done.one_each) (few_threads c.args.loaded.now.code (has_form (OfScript (text_in c.args.script.file)) c.args.script.text.now c.args.loaded.now.program c.args.loaded.now.code c.requires.loaded))

pub report_lines-requires-clause-few_cells : goal.report_lines-requires-clause-few_cells
report_lines-requires-clause-few_cells g c = subst (λ (d : PlainCode). length d.cells ≤ 1000) (sym c.code-code.ensures.value) (few_cells c.args.loaded.now.code (has_form (OfScript (text_in c.args.script.file)) c.args.script.text.now c.args.loaded.now.program c.args.loaded.now.code c.requires.loaded))

pub report_lines-requires-clause-made : goal.report_lines-requires-clause-made
report_lines-requires-clause-made g c = subst (λ (d : PlainCode). c.args.shared.now.cells ≡ d.cells) (sym c.code-code.ensures.value) c.requires.worked.of.cells

pub report_lines-requires-clause-one_each : goal.report_lines-requires-clause-one_each
report_lines-requires-clause-one_each g c = subst (λ (d : PlainCode). length c.args.report.agents.items ≡ length (agents_of d)) (sym c.code-code.ensures.value) c.requires.worked.agents_done.one_each

pub report_run-requires-clause-few_threads : goal.report_run-requires-clause-few_threads
report_run-requires-clause-few_threads g c = subst (λ (n : ℕ). n ≤ 64) (sym c.requires.worked.done.one_each) (few_threads c.args.loaded.now.code (has_form (OfScript (text_in c.args.script.file)) c.args.script.text.now c.args.loaded.now.program c.args.loaded.now.code c.requires.loaded))

pub report_run-requires-clause-few_cells : goal.report_run-requires-clause-few_cells
report_run-requires-clause-few_cells g c = subst (λ (d : PlainCode). length d.cells ≤ 1000) (sym c.code-code.ensures.value) (few_cells c.args.loaded.now.code (has_form (OfScript (text_in c.args.script.file)) c.args.script.text.now c.args.loaded.now.program c.args.loaded.now.code c.requires.loaded))

pub report_run-requires-clause-made : goal.report_run-requires-clause-made
report_run-requires-clause-made g c = subst (λ (d : PlainCode). c.args.shared.now.cells ≡ d.cells) (sym c.code-code.ensures.value) c.requires.worked.of.cells

pub report_run-requires-clause-one_each : goal.report_run-requires-clause-one_each
report_run-requires-clause-one_each g c = subst (λ (d : PlainCode). length c.args.report.agents.items ≡ length (agents_of d)) (sym c.code-code.ensures.value) c.requires.worked.agents_done.one_each

pub returns-in-Some-clause-told : goal.returns-in-Some-clause-told
returns-in-Some-clause-told g c =
    let o = c.args.options in
    let report = c.args.report in
    subst (λ (d : PlainCode). ReportTells d (script_of c.args.script) c.args.shared.now report o.cells o.events (told_of c.in_ok-told.told)) c.code-code.ensures.value c.in_ok-told.ensures

pub returns-in-None-clause-told : goal.returns-in-None-clause-told
returns-in-None-clause-told g c =
    let o = c.args.options in
    let report = c.args.report in
    subst (λ (d : PlainCode). ReportTells d (script_of c.args.script) c.args.shared.now report o.cells o.events (told_of c.in_ok-told.told)) c.code-code.ensures.value c.in_ok-told.ensures

pub returns-in-Some-clause-recorded : goal.returns-in-Some-clause-recorded
returns-in-Some-clause-recorded g c =
    let o = c.args.options in
    let script = script_of c.args.script in
    let shared = c.args.shared.now in
    let report = c.args.report in
    let code = c.args.loaded.now.code in
    let list = c.in-Some.list in
    let all : Told = behind_bytes (all_printed (report.threads.items ++ report.agents.items)) (lines_of c.in_ok-lines.lines) in
    let lines : ReportTells code script shared report true true all =
    subst (λ (x : RunOptions). ReportTells code script shared report x.cells x.events all) c.whole.ensures
    (subst (λ (d : PlainCode). ReportTells d script shared report c.whole.result.cells c.whole.result.events all) c.code-code.ensures.value c.in_ok-lines.ensures)
    in
    let is : IsRepeated code script o shared report (told_of c.in_ok-told.told) (string_bytes list) = record {
      told = subst (λ (d : PlainCode). ReportTells d script shared report o.cells o.events (told_of c.in_ok-told.told)) c.code-code.ensures.value c.in_ok-told.ensures;
      all = all;
      all_told = lines;
      again = some_at c.in_ok-list.list list (λ (l : String Global). ScheduleTells nobody (OfScript script.file) script.text (string_bytes l) (whole o) all) c.in-Some.is c.in_ok-list.ensures;
    }
    in
    is
