use Rattle.std.proofs.Common.{rules}
use Rattle.txs_verify.proofs.load.of_bytes.Goals as goal

pub returns-in_default : goal.returns-in_default
returns-in_default c = search rules
