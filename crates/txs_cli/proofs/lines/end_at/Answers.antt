use Rattle.std.proofs.Common.{◌≡◌, ◌++◌, codes, decimal}
use Rattle.txs_cli_report.proofs.Fronts.{on_ok}
use Rattle.txs_value_data.proofs.PrintedLemmas.{then_more}
use Rattle.txs_cli.specs.CodeLines.{at_number}
use Rattle.txs_cli.proofs.lines.end_at.Goals as goal

pub returns : goal.returns
returns c =
    let old = c.args.line.now.items in
    let first = c.write_number.new.out.items in
    let new = c.end_line.new.line.items in
    let word = c.args.word.now ++ decimal c.args.number in
    let place = at_number (codes " at ") c.args.at in
    on_ok c.end_line.result (new ≡ first ++ place) (new ≡ old ++ (word ++ place)) (then_more old word first place new c.in_ok-write_number.ensures.ok) c.end_line.ensures
