use Rattle.std.proofs.Common.{None}
use Rattle.txs_world.proofs.CallsLemmas.{in_order}
use Rattle.txs_world.specs.Mailbox.{empty}
use Rattle.txs_world.proofs.mail_law.each_once_in_order.Goals as goal

pub returns : goal.returns
returns c = λ goes_on cs e. in_order cs None (empty goes_on) (λ t. absurd cc) e
