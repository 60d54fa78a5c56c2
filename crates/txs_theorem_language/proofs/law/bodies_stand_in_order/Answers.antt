use Rattle.txs_theorem_language.proofs.Ascending.{bodies_ascend}
use Rattle.txs_theorem_language.proofs.law.bodies_stand_in_order.Goals as goal

pub returns : goal.returns
returns c = bodies_ascend
