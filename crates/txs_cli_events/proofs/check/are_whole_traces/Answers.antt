use Rattle.std.proofs.Common.{arith}
use Rattle.txs_cli_events.proofs.Counting.{trace_over}
use Rattle.txs_cli_events.proofs.check.are_whole_traces.Goals as goal

pub returns : goal.returns
returns c = λ t. trace_over c.args.report.now c.args.counts.now c.requires.one_each (λ j l. c.loop-k.invariant j (omega (arith, l)))
