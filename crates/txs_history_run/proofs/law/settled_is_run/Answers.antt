use Rattle.txs_machine.proofs.Laws.{known, refused, reported, traced}
use Rattle.txs_history_run.proofs.Settling.{settled_is_run}
use Rattle.txs_history_run.proofs.law.settled_is_run.Goals as goal

pub returns : goal.returns
returns c = settled_is_run known refused traced reported c.history_is_run.ensures
