use Rattle.std.proofs.Common.{sym, ap}
use Rattle.txs_explore.specs.Ways.{as_ending}
use Rattle.txs_explore.proofs.Tests.{read_in}
use Rattle.txs_explore.proofs.ways.is_listed.Goals as goal

pub returns-then-same_ending : goal.returns-then-same_ending
returns-then-same_ending c = λ t.
    (c.way-item.result, read_in c.args.ways.now c.loop-way.way-index c.way-item.result c.loop-way-test.true c.way-item.is, ap as_ending (sym (c.same_ending.ensures.0 c.if-same_ending.true)))
