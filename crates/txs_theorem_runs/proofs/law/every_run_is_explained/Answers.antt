use Rattle.txs_theorem_runs.proofs.Told.{fresh_stands}
use Rattle.txs_theorem_runs.proofs.Whole.{run_explained}
use Rattle.txs_theorem_runs.proofs.law.every_run_is_explained.Goals as goal

pub returns : goal.returns
returns c =
    run_explained (record { stays = c.unwritten_stays.ensures; done = c.done_is_undisturbed.ensures; fit = c.replies_fit.ensures }) c.serve_keeps.ensures fresh_stands
