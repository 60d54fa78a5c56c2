use Rattle.std.proofs.Common.{refl}
use Rattle.txs_value_apply.specs.Core.{core, takes}
use Rattle.txs_value_data.specs.Limits.{most_events, reruns}
use Rattle.txs_theorem_audit.proofs.unfinished_is_answered.Goals as goal

pub returns : goal.returns
unfolding core takes most_events reruns
returns c = (refl, refl, refl, refl, refl, refl, refl, refl, refl, refl)
