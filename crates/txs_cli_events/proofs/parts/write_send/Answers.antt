use Rattle.std.proofs.Common.{◌++◌}
use Rattle.std.specs.Prelude.{codes}
use Rattle.txs_value_data.proofs.PrintedLemmas.{then_more}
use Rattle.txs_cli_events.specs.LongLines.{call_words}
use Rattle.txs_cli_events.specs.Run.{cell_name}
use Rattle.txs_cli_events.proofs.Pieces.{on_ok}
use Rattle.txs_cli_events.proofs.parts.write_send.Goals as goal

pub returns : goal.returns
returns c =
    let old = c.args.out.now.items in
    let a = c.args.action.now in
    let first = c.write_name.new.out.items in
    let second = c.extend_from_slice.new.self.items in
    let new = c.write_call.new.out.items in
    let name = codes ": " ++ cell_name c.args.run.cells.now a.agent.number in
    let gets = then_more old name first (codes " gets") second c.in_ok-write_name.ensures c.in_ok-extend_from_slice.ensures.items in
    on_ok c.write_call.result (then_more old (name ++ codes " gets") second (call_words a) new gets) c.write_call.ensures
