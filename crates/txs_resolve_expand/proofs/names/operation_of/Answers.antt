use Rattle.txs_resolve_expand.proofs.Heads.{found_as}
use Rattle.txs_resolve_expand.proofs.names.operation_of.Goals as goal

pub returns : goal.returns
returns c = found_as c.from_name.result c.args.name.now c.from_name.ensures
