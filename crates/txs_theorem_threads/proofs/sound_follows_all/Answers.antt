use Rattle.txs_theorem_threads.proofs.All.{sound_follows_all}
use Rattle.txs_theorem_threads.proofs.sound_follows_all.Goals as goal

pub returns : goal.returns
returns c = sound_follows_all
