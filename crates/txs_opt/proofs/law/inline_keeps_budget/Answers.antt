use Rattle.txs_opt.proofs.InlinedSound.{inlined_program_nodes}
use Rattle.txs_opt.proofs.law.inline_keeps_budget.Goals as goal

pub returns : goal.returns
returns c = inlined_program_nodes
