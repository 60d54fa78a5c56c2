use Rattle.txs_theorem_runs.proofs.Steps as steps
use Rattle.txs_theorem_runs.proofs.law.play_holds.Goals as goal

pub returns : goal.returns
returns c = λ cells threads codes y st h. steps.play_holds c.serve_keeps.ensures cells threads codes y st h
