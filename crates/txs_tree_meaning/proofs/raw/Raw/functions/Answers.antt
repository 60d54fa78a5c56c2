use Rattle.std.proofs.Common.{rules}
use Rattle.txs_tree_meaning.proofs.raw.Raw.functions.Goals as goal

pub returns-clause-value : goal.returns-clause-value
returns-clause-value c = search rules
