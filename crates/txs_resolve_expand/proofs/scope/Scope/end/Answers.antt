use Rattle.std.proofs.Common.{rules}
use Rattle.txs_resolve_expand.proofs.scope.Scope.end.Goals as goal

pub returns : goal.returns
returns c = search rules
