use Rattle.std.proofs.Common.{rules}
use Rattle.txs_resolve_expand.proofs.error.ResolveErrorKind.name.Goals as goal

pub returns-in-SelfCall : goal.returns-in-SelfCall
returns-in-SelfCall c = search rules
