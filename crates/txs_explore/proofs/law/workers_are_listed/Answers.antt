use Rattle.txs_explore.proofs.Workers.{workers_listed}
use Rattle.txs_explore.proofs.law.workers_are_listed.Goals as goal

pub returns : goal.returns
returns c = workers_listed c.below_is_within.ensures c.ends_are_over.ensures c.serve_keeps.ensures c.opening_holds.ensures c.play_holds.ensures
