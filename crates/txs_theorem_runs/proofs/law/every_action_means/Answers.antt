use Rattle.txs_theorem_runs.proofs.Agents.{run_acts_mean}
use Rattle.txs_theorem_runs.proofs.Told.{fresh_stands}
use Rattle.txs_theorem_runs.proofs.law.every_action_means.Goals as goal

pub returns : goal.returns
returns c =
    run_acts_mean (record { stays = c.unwritten_stays.ensures; done = c.done_is_undisturbed.ensures; fit = c.replies_fit.ensures }) c.refused_is_undisturbed.ensures c.serve_keeps.ensures c.action_stays.ensures fresh_stands
