use Rattle.txs_frame.specs.Frame.{refs_of}
use Rattle.txs_frame.proofs.Laws.{set_not_commuted}
use Rattle.txs_frame.proofs.law.set_is_not_commuted.Goals as goal

pub returns : goal.returns
returns c = λ w k e. set_not_commuted w.sets (refs_of w.commutes) k e
