use Rattle.txs_theorem_threads.proofs.Fitted.{fits_of}
use Rattle.txs_theorem_threads.proofs.replies_fit.Goals as goal

pub returns : goal.returns
returns c = fits_of
