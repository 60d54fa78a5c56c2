use Rattle.txs_theorem_runs.proofs.Told.{fresh_stands}
use Rattle.txs_theorem_runs.proofs.Whole.{program_explained}
use Rattle.txs_theorem_runs.proofs.law.every_program_explains_its_runs.Goals as goal

pub returns : goal.returns
returns c =
    program_explained (record { stays = c.unwritten_stays.ensures; done = c.done_is_undisturbed.ensures; fit = c.replies_fit.ensures }) c.serve_keeps.ensures fresh_stands
