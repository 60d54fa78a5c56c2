use Rattle.std.proofs.Common.{rules}
use Rattle.txs_resolve_expand.proofs.scope.Scope.begin.Goals as goal

pub returns : goal.returns
returns c = search rules
