use Rattle.txs_compile.proofs.Programs.{optimised_means}
use Rattle.txs_compile.proofs.optimised_code.optimised_means_same.Goals as goal

pub returns : goal.returns
returns c = optimised_means
