use Rattle.txs_theorem_runs.proofs.Full.{run_stops}
use Rattle.txs_theorem_runs.proofs.Told.{fresh_stands}
use Rattle.txs_theorem_runs.proofs.law.every_full_stop_is_true.Goals as goal

pub returns : goal.returns
returns c = run_stops c.serve_keeps.ensures fresh_stands
