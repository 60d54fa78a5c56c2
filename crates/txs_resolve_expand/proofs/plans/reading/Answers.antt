use Rattle.txs_reader.specs.Tree.{tree}
use Rattle.txs_resolve_expand.proofs.Tables.{looks_far}
use Rattle.txs_resolve_expand.proofs.plans.reading.Goals as goal

pub returns-then-behind-ne0-clause-core : goal.returns-then-behind-ne0-clause-core
returns-then-behind-ne0-clause-core c s = looks_far c.args.form s.span (tree c.args.cell.now) c.args.behind.now c.if-behind-ne0.true
