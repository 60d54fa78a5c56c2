use Rattle.std.proofs.Common.{rules}
use Rattle.txs_code_meaning.proofs.code.Body.spans.Goals as goal

pub returns-clause-value : goal.returns-clause-value
returns-clause-value c = search rules

pub returns-clause-as_many : goal.returns-clause-as_many
returns-clause-as_many c = search rules
