use Rattle.std.specs.Prelude.{codes, decimal}
use Rattle.txs_cli_events.specs.LongLines.{read_words}
use Rattle.txs_cli_events.proofs.Pieces.{on_ok, pair_more}
use Rattle.txs_cli_events.proofs.parts.write_view.Goals as goal

pub returns : goal.returns
returns c =
    let first = c.write_read_point.new.out.items in
    let new = c.write_number.new.out.items in
    on_ok c.write_number.result (pair_more c.args.out.now.items (read_words c.args.at) first (codes ", view ") (decimal c.args.view) new c.in_ok-write_read_point.ensures) c.write_number.ensures.ok
