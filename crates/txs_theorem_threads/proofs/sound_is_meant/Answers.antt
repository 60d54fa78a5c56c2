use Rattle.txs_theorem_threads.proofs.Actions.{pure_meant}
use Rattle.txs_theorem_threads.proofs.Sound.{ever_meant}
use Rattle.txs_theorem_threads.proofs.Transactions.{transaction_meant}
use Rattle.txs_theorem_threads.proofs.sound_is_meant.Goals as goal

pub returns : goal.returns
returns c = record { thread = ever_meant; transaction = transaction_meant; callee = pure_meant }
