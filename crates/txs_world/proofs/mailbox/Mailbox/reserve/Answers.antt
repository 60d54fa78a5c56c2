use Rattle.std.proofs.Common.{rules}
use Rattle.txs_world.proofs.mailbox.Mailbox.reserve.Goals as goal

pub returns-clause-room : goal.returns-clause-room
returns-clause-room c = search rules
