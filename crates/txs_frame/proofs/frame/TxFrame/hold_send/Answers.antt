use Rattle.std.proofs.Common.{rules}
use Rattle.txs_frame.proofs.frame.TxFrame.hold_send.Goals as goal

pub returns-clause-kept : goal.returns-clause-kept
returns-clause-kept c = search rules
