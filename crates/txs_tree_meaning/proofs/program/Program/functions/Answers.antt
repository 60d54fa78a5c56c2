use Rattle.std.proofs.Common.{rules}
use Rattle.txs_tree_meaning.proofs.program.Program.functions.Goals as goal

pub returns : goal.returns
returns c = search rules
