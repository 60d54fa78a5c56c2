use Rattle.std.proofs.Common.{rules}
use Rattle.txs_resolve_expand.proofs.shapes.callee_at.Goals as goal

pub returns-in-Unknown : goal.returns-in-Unknown
returns-in-Unknown c = search rules
