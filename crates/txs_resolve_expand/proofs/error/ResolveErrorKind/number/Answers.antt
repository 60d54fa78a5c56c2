use Rattle.std.proofs.Common.{rules}
use Rattle.txs_resolve_expand.proofs.error.ResolveErrorKind.number.Goals as goal

pub returns-in-TooMany : goal.returns-in-TooMany
returns-in-TooMany c = search rules
