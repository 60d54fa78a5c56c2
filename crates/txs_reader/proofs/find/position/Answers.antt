use Rattle.std.proofs.Common.{rules}
use Rattle.txs_reader.proofs.find.position.Goals as goal

pub returns-clause-line : goal.returns-clause-line
returns-clause-line c = search rules

pub returns-clause-column : goal.returns-clause-column
returns-clause-column c = search rules
