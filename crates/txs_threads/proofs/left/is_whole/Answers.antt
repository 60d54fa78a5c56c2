use Rattle.std.proofs.Common.{rules}
use Rattle.txs_threads.proofs.left.is_whole.Goals as goal

pub returns-clause-ended : goal.returns-clause-ended
returns-clause-ended c = search rules

pub returns-clause-drained : goal.returns-clause-drained
returns-clause-drained c = search rules
