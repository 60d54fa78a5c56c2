use Rattle.txs_theorem_runs.proofs.Lawful.{run_lawful}
use Rattle.txs_theorem_runs.proofs.Told.{fresh_stands}
use Rattle.txs_theorem_runs.proofs.law.every_ask_is_lawful.Goals as goal

pub returns : goal.returns
returns c = run_lawful c.serve_keeps.ensures fresh_stands
