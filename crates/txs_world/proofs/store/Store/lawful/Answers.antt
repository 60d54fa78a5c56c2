use Rattle.std.proofs.Common.{rules}
use Rattle.txs_world.proofs.store.Store.lawful.Goals as goal

pub returns-then-may_ask : goal.returns-then-may_ask
returns-then-may_ask c = search rules

pub returns-else-may_ask : goal.returns-else-may_ask
returns-else-may_ask c = search rules
