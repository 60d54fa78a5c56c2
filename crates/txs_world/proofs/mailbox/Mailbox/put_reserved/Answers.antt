use Rattle.std.proofs.Common.{rules}
use Rattle.txs_world.proofs.mailbox.Mailbox.put_reserved.Goals as goal

pub returns-clause-put : goal.returns-clause-put
returns-clause-put c = search rules

pub returns-clause-room : goal.returns-clause-room
returns-clause-room c = search rules
