use Rattle.txs_compile.proofs.Programs.{optimised_sound}
use Rattle.txs_compile.proofs.optimised_code.optimised_is_sound.Goals as goal

pub returns : goal.returns
returns c = optimised_sound
