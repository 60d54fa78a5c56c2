use Rattle.std.proofs.Common.{rules}
use Rattle.txs_resolve_expand.proofs.namespace.behind_namespace.Goals as goal

pub returns-in_default : goal.returns-in_default
returns-in_default c = search rules
