use Rattle.txs_gen.proofs.CodesFollow.{code_follows}
use Rattle.txs_gen.proofs.follows.code_of_program_follows.Goals as goal

pub returns : goal.returns
returns c = code_follows c.generated_follows.ensures
