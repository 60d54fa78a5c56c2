use Rattle.std.proofs.Common.{rules}
use Rattle.txs_world.proofs.mailbox.Mailbox.finish.Goals as goal

pub invariant_of-self : goal.invariant_of-self
invariant_of-self c = search rules

pub returns-clause-finished : goal.returns-clause-finished
returns-clause-finished c = search rules
