use Rattle.txs_resolve_expand.proofs.Tables.{block_some}
use Rattle.txs_resolve_expand.proofs.plans.block.Goals as goal

pub returns-clause-core : goal.returns-clause-core
returns-clause-core c scope s = block_some scope s c.args.args.now c.if-args-eq0.false
