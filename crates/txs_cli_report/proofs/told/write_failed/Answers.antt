use Rattle.std.proofs.Common.{◌≡◌, ◌++◌, ◌∙◌, ℕ, List, Some, ap, append_assoc, codes, sym}
use Rattle.txs_cli_report.specs.Lent.{front_of, script_of}
use Rattle.txs_cli_report.specs.Lines.{IsLesson, at_place, failed_line, lesson_of}
use Rattle.txs_value_data.specs.Faults.{fault_name}
use Rattle.txs_cli_report.proofs.Fronts.{on_ok}
use Rattle.txs_cli_report.proofs.Lessons.{failed_behind}
use Rattle.txs_cli_report.proofs.told.write_failed.Goals as goal

pub returns : goal.returns
returns c =
    let script = script_of c.args.script in
    let front = front_of c.args.front in
    let f = c.args.fault in
    let old = c.args.errors.now.items in
    let begun = c.write_front.new.line.items in
    let ended = c.write_place.new.line.items in
    let new = c.explain.new.errors.items in
    let advice = c.as_str.result.now in
    let word = codes " failed: " in
    let named = c.in_ok-write_both.ensures.ok ∙ ap (λ (l : List ℕ). begun ++ (word ++ l)) (c.as_bytes.ensures.value ∙ c.name.ensures) ∙ sym (append_assoc begun word (fault_name f.kind)) in
    let written : ended ≡ failed_line begun f = c.in_ok-write_place.ensures ∙ ap (λ (l : List ℕ). l ++ at_place f.span) named in
    on_ok c.explain.result (new ≡ ended ++ lesson_of script.file script.text (Some f.span) (Some advice)) ((line : List ℕ) × IsLesson script (failed_line front f) (Some f.span) line × (new ≡ old ++ line))
    (failed_behind script f front old begun ended new advice c.in_ok-write_front.ensures written) c.explain.ensures
