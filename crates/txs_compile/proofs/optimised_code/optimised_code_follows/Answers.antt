use Rattle.txs_compile.proofs.Programs.{all_before}
use Rattle.txs_compile.proofs.optimised_code.optimised_code_follows.Goals as goal

pub returns : goal.returns
returns c codes limit p sound b = c.sound_follows_all.ensures codes p sound (all_before codes limit p b)
