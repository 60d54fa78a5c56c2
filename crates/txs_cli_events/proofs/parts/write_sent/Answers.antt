use Rattle.std.proofs.Common.{◌++◌}
use Rattle.std.specs.Prelude.{codes}
use Rattle.txs_value_data.proofs.PrintedLemmas.{then_more}
use Rattle.txs_cli_events.specs.LongLines.{call_words, span_words}
use Rattle.txs_cli_events.specs.Run.{cell_name}
use Rattle.txs_cli_events.proofs.Pieces.{on_ok, pair_more}
use Rattle.txs_cli_events.proofs.parts.write_sent.Goals as goal

pub returns : goal.returns
returns c =
    let old = c.args.out.now.items in
    let a = c.args.action.now in
    let first = c.write_name.new.out.items in
    let second = c.write_call.new.out.items in
    let new = c.write_span.new.out.items in
    let name = codes "; sends " ++ cell_name c.args.run.cells.now a.agent.number in
    let called = then_more old name first (call_words a) second c.in_ok-write_name.ensures c.in_ok-write_call.ensures in
    on_ok c.write_span.result (pair_more old (name ++ call_words a) second (codes " at ") (span_words a.span) new called) c.write_span.ensures
