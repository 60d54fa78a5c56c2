use Rattle.std.proofs.Common.{◌∙◌, arith}
use Rattle.txs_cli_explore.proofs.Ran.{lists_done, lists_more}
use Rattle.txs_cli_explore.proofs.explore.lists_of.Goals as goal

pub loop-outcome-preserved : goal.loop-outcome-preserved
loop-outcome-preserved c =
    lists_more c.loop-outcome.lists.items c.push.new.self.items c.in_ok-list.list c.args.outcomes.now c.loop-outcome.outcome-index c.outcome-item.result c.loop-outcome-test.true c.outcome-item.is (c.in_ok-list.ensures.items ∙ c.as_slice.ensures.value)
    c.in_ok-push.ensures.items c.loop-outcome.invariant

pub returns : goal.returns
returns c = lists_done c.loop-outcome.lists.items c.args.outcomes.now c.loop-outcome.outcome-index (omega arith) c.loop-outcome.invariant
