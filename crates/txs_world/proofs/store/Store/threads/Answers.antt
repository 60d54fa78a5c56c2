use Rattle.std.proofs.Common.{rules}
use Rattle.txs_world.proofs.store.Store.threads.Goals as goal

pub returns : goal.returns
returns c = search rules
