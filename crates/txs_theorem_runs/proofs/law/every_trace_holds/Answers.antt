use Rattle.txs_theorem_runs.proofs.Told.{fresh_stands}
use Rattle.txs_theorem_runs.proofs.Tracing.{run_traced}
use Rattle.txs_theorem_runs.proofs.law.every_trace_holds.Goals as goal

pub returns : goal.returns
returns c = run_traced c.serve_keeps.ensures fresh_stands
