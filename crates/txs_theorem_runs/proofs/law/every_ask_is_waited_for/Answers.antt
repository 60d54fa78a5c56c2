use Rattle.txs_theorem_runs.proofs.Full.{run_waits}
use Rattle.txs_theorem_runs.proofs.Told.{fresh_stands}
use Rattle.txs_theorem_runs.proofs.law.every_ask_is_waited_for.Goals as goal

pub returns : goal.returns
returns c = run_waits (record { stays = c.unwritten_stays.ensures; done = c.done_is_undisturbed.ensures; fit = c.replies_fit.ensures }) c.serve_keeps.ensures fresh_stands
