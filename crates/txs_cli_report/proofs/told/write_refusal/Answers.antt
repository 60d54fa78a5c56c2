use Rattle.std.proofs.Common.{◌≡◌, ◌++◌, ◌∙◌, ℕ, List, Some, ap, codes, decimal}
use Rattle.txs_value_data.proofs.PrintedLemmas.{then_more}
use Rattle.txs_cli_report.specs.Lent.{script_of}
use Rattle.txs_cli_report.specs.Lines.{at_place, lesson_of, refusal_line}
use Rattle.txs_cli_report.proofs.Fronts.{on_ok}
use Rattle.txs_cli_report.proofs.Lessons.{two_pairs}
use Rattle.txs_cli_report.proofs.told.write_refusal.Goals as goal

pub returns : goal.returns
returns c =
    let script = script_of c.args.script in
    let r = c.args.refusal.now in
    let old = c.args.errors.now.items in
    let first = c.write_number.new.out.items in
    let second = c.write_both.new.out.items in
    let third = c.write_place.new.line.items in
    let new = c.explain.new.errors.items in
    let refused = codes "refused " in
    let number = decimal r.number in
    let space = codes " " in
    let name = r.name.now in
    let lesson = lesson_of script.file script.text (Some r.at) (Some c.args.advice.now) in
    let named = c.in_ok-write_both.ensures.ok ∙ ap (λ (l : List ℕ). first ++ (space ++ l)) c.as_bytes.ensures.value in
    let written = two_pairs old refused number space name first second c.in_ok-write_number.ensures.ok named in
    let line = then_more old (refused ++ number ++ space ++ name) second (at_place r.at) third written c.in_ok-write_place.ensures in
    on_ok c.explain.result (new ≡ third ++ lesson) (new ≡ (old ++ refusal_line r.number name r.at) ++ lesson) (λ is. is ∙ ap (λ (l : List ℕ). l ++ lesson) line) c.explain.ensures
