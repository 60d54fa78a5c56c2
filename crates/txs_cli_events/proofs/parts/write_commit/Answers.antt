use Rattle.std.proofs.Common.{◌++◌}
use Rattle.std.specs.List.{flat_map}
use Rattle.txs_value_data.proofs.PrintedLemmas.{then_more}
use Rattle.txs_cli_events.specs.LongLines.{each, sent_words, view_words, write_words}
use Rattle.txs_cli_events.proofs.Pieces.{on_ok}
use Rattle.txs_cli_events.proofs.parts.write_commit.Goals as goal

pub returns : goal.returns
returns c =
    let old = c.args.out.now.items in
    let cells = c.args.run.cells.now in
    let first = c.write_view.new.out.items in
    let second = c.write_writes.new.out.items in
    let new = c.write_sends.new.out.items in
    let view = view_words c.args.at c.args.view in
    let writes = each (write_words cells) 0 c.args.writes.now in
    let sends = flat_map (sent_words cells) c.args.sends.now in
    let wrote = then_more old view first writes second c.in_ok-write_view.ensures c.in_ok-write_writes.ensures in
    on_ok c.write_sends.result (then_more old (view ++ writes) second sends new wrote) c.write_sends.ensures
