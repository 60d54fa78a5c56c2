use Rattle.std.proofs.Common.{◌++◌}
use Rattle.std.specs.List.{flat_map}
use Rattle.std.specs.Prelude.{codes, decimal}
use Rattle.txs_value_data.proofs.PrintedLemmas.{then_more}
use Rattle.txs_cli_events.specs.LongLines.{outcome_words, sent_words}
use Rattle.txs_cli_events.proofs.Pieces.{on_ok}
use Rattle.txs_cli_events.proofs.parts.write_act.Goals as goal

pub returns : goal.returns
returns c =
    let old = c.args.out.now.items in
    let first = c.write_number.new.out.items in
    let second = c.write_outcome.new.out.items in
    let new = c.write_sends.new.out.items in
    let action = codes ": action " ++ decimal c.args.number in
    let outcome = outcome_words c.args.new.now in
    let sends = flat_map (sent_words c.args.run.cells.now) c.args.sends.now in
    let gave = then_more old action first outcome second c.in_ok-write_number.ensures.ok c.in_ok-write_outcome.ensures in
    on_ok c.write_sends.result (then_more old (action ++ outcome) second sends new gave) c.write_sends.ensures
