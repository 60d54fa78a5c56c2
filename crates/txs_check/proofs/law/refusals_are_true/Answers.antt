use Rattle.txs_check.proofs.TrueRefusals as laws
use Rattle.txs_check.proofs.law.refusals_are_true.Goals as goal

pub returns : goal.returns
returns c = laws.refusals_are_true
