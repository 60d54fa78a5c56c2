use Rattle.std.proofs.Common.{rules}
use Rattle.txs_resolve_expand.specs.Scope.{may_bind}
use Rattle.txs_resolve_expand.proofs.names.may_bind.Goals as goal

pub returns-then-is_none : goal.returns-then-is_none
unfolding may_bind
returns-then-is_none c = search rules

pub returns-else-is_none : goal.returns-else-is_none
unfolding may_bind
returns-else-is_none c = search rules
