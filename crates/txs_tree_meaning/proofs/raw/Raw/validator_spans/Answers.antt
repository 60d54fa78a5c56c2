use Rattle.std.proofs.Common.{rules}
use Rattle.txs_tree_meaning.proofs.raw.Raw.validator_spans.Goals as goal

pub returns : goal.returns
returns c = search rules
