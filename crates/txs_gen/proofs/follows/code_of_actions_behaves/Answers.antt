use Rattle.txs_gen.proofs.Actions.{code_of_actions_behaves}
use Rattle.txs_gen.proofs.follows.code_of_actions_behaves.Goals as goal

pub returns : goal.returns
returns c = code_of_actions_behaves
