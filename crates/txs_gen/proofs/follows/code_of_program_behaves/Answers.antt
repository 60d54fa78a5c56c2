use Rattle.txs_gen.proofs.CodesFollow.{code_of_program_behaves}
use Rattle.txs_gen.proofs.follows.code_of_program_behaves.Goals as goal

pub returns : goal.returns
returns c = code_of_program_behaves
