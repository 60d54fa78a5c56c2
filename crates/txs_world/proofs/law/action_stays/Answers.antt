use Rattle.txs_world.proofs.Actions.{action_stays}
use Rattle.txs_world.proofs.law.action_stays.Goals as goal

pub returns : goal.returns
returns c = λ cells threads book more g x l has off h. action_stays cells book more g x l.each has off h
