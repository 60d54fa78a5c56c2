use Rattle.std.proofs.Common.{rules}
use Rattle.txs_tree_eval.proofs.meaning.conclude.Goals as goal

pub returns : goal.returns
returns c = search rules
