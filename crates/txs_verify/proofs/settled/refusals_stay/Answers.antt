use Rattle.txs_verify.proofs.NoForm.{refusals_stay}
use Rattle.txs_verify.proofs.settled.refusals_stay.Goals as goal

pub returns : goal.returns
returns c = refusals_stay
