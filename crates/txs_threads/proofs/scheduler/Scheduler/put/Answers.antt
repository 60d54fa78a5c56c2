use Rattle.std.proofs.Common.{rules}
use Rattle.txs_threads.proofs.scheduler.Scheduler.put.Goals as goal

pub returns : goal.returns
returns c = search rules
