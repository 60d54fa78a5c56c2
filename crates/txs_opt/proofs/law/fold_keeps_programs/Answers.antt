use Rattle.txs_opt.proofs.WholePrograms.{folded_means}
use Rattle.txs_opt.proofs.law.fold_keeps_programs.Goals as goal

pub returns : goal.returns
returns c = folded_means
