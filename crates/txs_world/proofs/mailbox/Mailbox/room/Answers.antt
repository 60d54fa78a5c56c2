use Rattle.std.proofs.Common.{rules}
use Rattle.txs_world.proofs.mailbox.Mailbox.room.Goals as goal

pub returns : goal.returns
returns c = search rules
