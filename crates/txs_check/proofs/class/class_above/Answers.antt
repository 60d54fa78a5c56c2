use Rattle.std.proofs.Common.{rules}
use Rattle.txs_check.proofs.class.class_above.Goals as goal

pub returns-in-Send : goal.returns-in-Send
returns-in-Send c = search rules
