use Rattle.txs_theorem_runs.proofs.FullStops.{run_full_stops}
use Rattle.txs_theorem_runs.proofs.Told.{fresh_stands}
use Rattle.txs_theorem_runs.proofs.law.every_full_stop_is_explained.Goals as goal

pub returns : goal.returns
returns c =
    run_full_stops (record { stays = c.unwritten_stays.ensures; done = c.done_is_undisturbed.ensures; fit = c.replies_fit.ensures }) c.refused_is_undisturbed.ensures c.serve_keeps.ensures c.action_stays.ensures fresh_stands
