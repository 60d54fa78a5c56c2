use Rattle.txs_audit_difference.proofs.Tells.{told_where}
use Rattle.txs_audit_difference.proofs.law.told_where_it_differs.Goals as goal

pub returns : goal.returns
returns c = told_where c.pieces_are_all.ensures
