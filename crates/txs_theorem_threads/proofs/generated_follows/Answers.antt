use Rattle.txs_theorem_threads.proofs.All.{generated_follows}
use Rattle.txs_theorem_threads.proofs.generated_follows.Goals as goal

pub returns : goal.returns
returns c = generated_follows
