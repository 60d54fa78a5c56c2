use Rattle.txs_theorem_threads.proofs.Sound.{ever_meant}
use Rattle.txs_theorem_threads.proofs.Ends.{behaves_follows}
use Rattle.txs_theorem_threads.proofs.sound_code_follows.Goals as goal

pub returns : goal.returns
returns c = λ code p behaves sound. behaves_follows code p behaves sound (ever_meant p sound)
