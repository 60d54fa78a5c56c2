use Rattle.txs_theorem_runs.proofs.Whole as whole
use Rattle.txs_theorem_runs.proofs.law.invariant_explains.Goals as goal

pub returns : goal.returns
returns c = whole.invariant_explains (record { stays = c.unwritten_stays.ensures; done = c.done_is_undisturbed.ensures; fit = c.replies_fit.ensures })
