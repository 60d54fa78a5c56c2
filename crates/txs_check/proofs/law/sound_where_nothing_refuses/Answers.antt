use Rattle.txs_check.proofs.Laws.{fine_sound, sound_fine}
use Rattle.txs_check.proofs.law.sound_where_nothing_refuses.Goals as goal

pub returns : goal.returns
returns c = λ p s. (fine_sound p s, sound_fine p s)
