use Rattle.txs_theorem_audit.proofs.Agreeing.{agrees_is_explained}
use Rattle.txs_theorem_audit.proofs.agrees_is_explained.Goals as goal

pub returns : goal.returns
returns c = agrees_is_explained c.none_is_ordered.ensures c.named_on_a_cycle.ensures
