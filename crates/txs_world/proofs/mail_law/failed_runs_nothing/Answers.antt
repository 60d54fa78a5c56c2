use Rattle.txs_world.proofs.CallsLemmas.{nothing_run, not_taken}
use Rattle.txs_world.proofs.mail_law.failed_runs_nothing.Goals as goal

pub returns : goal.returns
returns c = λ m cs h f e. nothing_run cs m (not_taken m.is_taken m.has_failed h.runs f) f e
