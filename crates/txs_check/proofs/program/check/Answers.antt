use Rattle.std.proofs.Common.{rules}
use Rattle.txs_check.proofs.program.check.Goals as goal

pub returns-in-Ok-clause-stops : goal.returns-in-Ok-clause-stops
returns-in-Ok-clause-stops c = search rules
