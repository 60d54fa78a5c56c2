use Rattle.std.proofs.Common.{rules}
use Rattle.txs_value_data.proofs.copy.copy_value.Goals as goal

pub returns-in_ok-share-in-Vector : goal.returns-in_ok-share-in-Vector
returns-in_ok-share-in-Vector c = search rules
