use Rattle.txs_theorem_runs.proofs.Report.{run_reported}
use Rattle.txs_theorem_runs.proofs.Told.{fresh_stands}
use Rattle.txs_theorem_runs.proofs.law.every_report_is_explained.Goals as goal

pub returns : goal.returns
returns c =
    run_reported (record { stays = c.unwritten_stays.ensures; done = c.done_is_undisturbed.ensures; fit = c.replies_fit.ensures }) c.serve_keeps.ensures c.action_stays.ensures c.refused_is_undisturbed.ensures fresh_stands
