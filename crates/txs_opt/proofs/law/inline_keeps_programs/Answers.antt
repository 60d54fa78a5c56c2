use Rattle.txs_opt.proofs.WholePrograms.{inlined_means}
use Rattle.txs_opt.proofs.law.inline_keeps_programs.Goals as goal

pub returns : goal.returns
returns c = inlined_means
