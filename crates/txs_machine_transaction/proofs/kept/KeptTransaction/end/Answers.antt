use Rattle.std.proofs.Common.{rules}
use Rattle.txs_machine_transaction.proofs.kept.KeptTransaction.end.Goals as goal

pub returns-then-standing-eq0 : goal.returns-then-standing-eq0
returns-then-standing-eq0 c = search rules

pub returns : goal.returns
returns c = search rules
