use Rattle.std.proofs.Common.{◌++◌}
use Rattle.std.specs.Prelude.{codes, decimal}
use Rattle.txs_value_data.proofs.PrintedLemmas.{ended_by}
use Rattle.txs_cli_events.specs.LongLines.{cause_words, since_words}
use Rattle.txs_cli_events.specs.Run.{cell_name}
use Rattle.txs_cli_events.proofs.Pieces.{pair_more}
use Rattle.txs_cli_events.proofs.parts.write_retry.Goals as goal

pub returns : goal.returns
returns c =
    let old = c.args.out.now.items in
    let first = c.write_since.new.out.items in
    let second = c.write_name.new.out.items in
    let third = c.write_number.new.out.items in
    let since = since_words c.args.cause c.args.since in
    let name = cell_name c.args.run.cells.now c.args.cell.number in
    let named = pair_more old since first (codes ": ") name second c.in_ok-write_since.ensures c.in_ok-write_name.ensures in
    let written = pair_more old (since ++ codes ": " ++ name) second (codes " was written since ") (decimal c.args.since) third named c.in_ok-write_number.ensures.ok in
    ended_by c.extend_from_slice.result old (since ++ codes ": " ++ name ++ codes " was written since " ++ decimal c.args.since) third (cause_words c.args.cause) c.extend_from_slice.new.self.items written (rw c.cause_words.ensures at c.extend_from_slice.ensures.items)
