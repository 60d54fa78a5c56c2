use Rattle.txs_theorem_threads.proofs.Fitted.{fits_more}
use Rattle.txs_theorem_threads.proofs.one_more_fits.Goals as goal

pub returns : goal.returns
returns c = fits_more
