use Rattle.txs_cli_explore.proofs.All.{written_all}
use Rattle.txs_cli_explore.proofs.law.written_outcomes_are_all.Goals as goal

pub returns : goal.returns
returns c = written_all c.workers_are_listed.ensures
