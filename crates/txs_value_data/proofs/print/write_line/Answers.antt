use Rattle.std.proofs.Common.{rules}
use Rattle.txs_value_data.proofs.print.write_line.Goals as goal

pub returns-else-is_err-clause-ok : goal.returns-else-is_err-clause-ok
returns-else-is_err-clause-ok c = search rules
