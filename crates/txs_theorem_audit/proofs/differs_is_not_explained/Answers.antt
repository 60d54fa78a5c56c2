use Rattle.txs_theorem_audit.proofs.Differing.{differs_is_not_explained}
use Rattle.txs_theorem_audit.proofs.differs_is_not_explained.Goals as goal

pub returns : goal.returns
returns c = differs_is_not_explained c.some_is_not_ordered.ensures
