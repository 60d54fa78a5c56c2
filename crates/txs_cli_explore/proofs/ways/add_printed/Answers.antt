use Rattle.std.proofs.Common.{◌++◌, arith}
use Rattle.txs_cli_report.specs.Lines.{all_printed}
use Rattle.txs_cli_explore.proofs.Ran.{printed_done, printed_more}
use Rattle.txs_cli_explore.proofs.ways.add_printed.Goals as goal

pub loop-actor-preserved : goal.loop-actor-preserved
loop-actor-preserved c =
    let rs = c.args.actors.now in
    printed_more c.loop-actor.lines.items c.extend_from_slice.new.self.items (c.args.lines.now.items ++ all_printed rs) rs c.loop-actor.actor-index c.actor-item.result c.as_slice.result.now c.loop-actor-test.true c.actor-item.is c.as_slice.ensures.value c.in_ok-extend_from_slice.ensures.items
    c.loop-actor.invariant

pub returns : goal.returns
returns c =
    let rs = c.args.actors.now in
    printed_done c.loop-actor.lines.items (c.args.lines.now.items ++ all_printed rs) rs c.loop-actor.actor-index (omega arith) c.loop-actor.invariant
