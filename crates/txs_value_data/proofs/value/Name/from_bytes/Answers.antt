use Rattle.std.proofs.Common.{rules}
use Rattle.txs_value_data.proofs.value.Name.from_bytes.Goals as goal

pub invariant_of-result : goal.invariant_of-result
invariant_of-result c = search rules

pub returns : goal.returns
returns c = search rules
