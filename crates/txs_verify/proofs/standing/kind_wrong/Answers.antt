use Rattle.std.proofs.Common.{rules}
use Rattle.txs_verify.proofs.standing.kind_wrong.Goals as goal

pub returns-then-mark-eq0 : goal.returns-then-mark-eq0
returns-then-mark-eq0 c = search rules
