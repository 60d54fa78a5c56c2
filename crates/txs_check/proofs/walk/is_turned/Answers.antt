use Rattle.std.proofs.Common.{rules}
use Rattle.txs_check.proofs.walk.is_turned.Goals as goal

pub returns-then-whole-second : goal.returns-then-whole-second
returns-then-whole-second c = search rules
