use Rattle.std.proofs.Common.{rules}
use Rattle.txs_world.proofs.store.Store.test.Goals as goal

pub returns-in-None : goal.returns-in-None
returns-in-None c = search rules
