use Rattle.txs_world.proofs.Serves.{done_is_undisturbed}
use Rattle.txs_world.proofs.law.done_is_undisturbed.Goals as goal

pub returns : goal.returns
returns c = done_is_undisturbed
