use Rattle.std.proofs.Common.{rules}
use Rattle.txs_world.proofs.mailbox.Mailbox.len.Goals as goal

pub returns : goal.returns
returns c = search rules
