use Rattle.std.proofs.Common.{rules}
use Rattle.txs_world_protocol.proofs.copy.copy_event.Goals as goal

pub returns : goal.returns
returns c = search rules
