use Rattle.txs_theorem_runs.proofs.Refused.{run_refusals}
use Rattle.txs_theorem_runs.proofs.Told.{fresh_stands}
use Rattle.txs_theorem_runs.proofs.law.every_refusal_is_undisturbed.Goals as goal

pub returns : goal.returns
returns c = run_refusals c.refused_is_undisturbed.ensures c.serve_keeps.ensures fresh_stands
