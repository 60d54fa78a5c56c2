use Rattle.txs_gen.proofs.Ends.{code_behaves}
use Rattle.txs_gen.proofs.behaves.generated_code_behaves.Goals as goal

pub returns : goal.returns
returns c = code_behaves
