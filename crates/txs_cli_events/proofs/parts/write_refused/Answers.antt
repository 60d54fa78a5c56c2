use Rattle.txs_value_data.proofs.PrintedLemmas.{then_more}
use Rattle.txs_cli_events.specs.LongLines.{failed_words, view_words}
use Rattle.txs_cli_events.proofs.Pieces.{on_ok}
use Rattle.txs_cli_events.proofs.parts.write_refused.Goals as goal

pub returns : goal.returns
returns c =
    let old = c.args.out.now.items in
    let view = view_words c.args.at c.args.view in
    let failed = failed_words c.args.run.cells.now c.args.agent in
    on_ok c.write_failed.result (then_more old view c.write_view.new.out.items failed c.write_failed.new.out.items c.in_ok-write_view.ensures) c.write_failed.ensures
