use Rattle.std.proofs.Common.{rules}
use Rattle.txs_tree_meaning.proofs.program.Program.threads.Goals as goal

pub returns-clause-value : goal.returns-clause-value
returns-clause-value c = search rules
