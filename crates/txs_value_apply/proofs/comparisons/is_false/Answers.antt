use Rattle.std.proofs.Common.{refl}
use Rattle.txs_value_apply.proofs.comparisons.is_false.Goals as goal

pub returns-in-Nil : goal.returns-in-Nil
returns-in-Nil c = rw c.in-Nil.is refl

pub returns-in-Truth : goal.returns-in-Truth
returns-in-Truth c = rw c.in-Truth.is refl
