use Rattle.std.proofs.Common.{arith}
use Rattle.txs_cli_explore.specs.Outcomes.{highest}
use Rattle.txs_cli_explore.proofs.Listed.{highest_done, highest_more}
use Rattle.txs_cli_explore.proofs.outcomes.highest.Goals as goal

pub loop-outcome-preserved : goal.loop-outcome-preserved
loop-outcome-preserved c =
    let os = c.args.outcomes.now in
    highest_more os c.loop-outcome.outcome-index c.outcome-item.result c.loop-outcome.status c.max-status.result (highest c.args.least os) c.loop-outcome-test.true c.outcome-item.is (omega arith) c.loop-outcome.invariant

pub returns : goal.returns
returns c =
    let os = c.args.outcomes.now in
    highest_done os c.loop-outcome.outcome-index c.loop-outcome.status (highest c.args.least os) (omega arith) c.loop-outcome.invariant
