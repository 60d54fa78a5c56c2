use Rattle.std.proofs.Common.{◌≡◌, ◌++◌, ◌∙◌, ℕ, List, Some, ap, append_assoc, codes, sym}
use Rattle.txs_cli_report.specs.Lent.{front_of, script_of}
use Rattle.txs_cli_report.specs.Lines.{IsLesson, lesson_of, stopped_line}
use Rattle.txs_cli_report.proofs.Fronts.{on_ok}
use Rattle.txs_cli_report.proofs.Lessons.{stopped_behind}
use Rattle.txs_cli_report.proofs.told.write_stopped.Goals as goal

pub returns : goal.returns
returns c =
    let script = script_of c.args.script in
    let front = front_of c.args.front in
    let why = c.args.why.now in
    let at = c.args.at in
    let old = c.args.errors.now.items in
    let begun = c.write_front.new.line.items in
    let ended = c.extend_from_slice.new.self.items in
    let new = c.explain.new.errors.items in
    let advice = c.args.advice.now in
    let word = codes " stopped: " in
    let said = c.in_ok-write_both.ensures.ok ∙ sym (append_assoc begun word why) in
    let written : ended ≡ stopped_line begun why = c.in_ok-extend_from_slice.ensures.items ∙ ap (λ (l : List ℕ). l ++ codes "\n") said in
    on_ok c.explain.result (new ≡ ended ++ lesson_of script.file script.text at (Some advice)) ((line : List ℕ) × IsLesson script (stopped_line front why) at line × (new ≡ old ++ line))
    (stopped_behind script at why front old begun ended new advice c.in_ok-write_front.ensures written) c.explain.ensures
