use Rattle.std.proofs.Common.{rules}
use Rattle.txs_resolve_expand.proofs.error.refusal.Goals as goal

pub returns : goal.returns
returns c = search rules
