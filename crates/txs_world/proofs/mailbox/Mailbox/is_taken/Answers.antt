use Rattle.std.proofs.Common.{rules}
use Rattle.txs_world.proofs.mailbox.Mailbox.is_taken.Goals as goal

pub returns-clause-value : goal.returns-clause-value
returns-clause-value c = search rules
