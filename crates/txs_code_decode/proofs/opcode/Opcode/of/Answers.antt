use Rattle.std.proofs.Common.{rules}
use Rattle.txs_code_decode.proofs.opcode.Opcode.of.Goals as goal

pub returns-in-TxEnd : goal.returns-in-TxEnd
returns-in-TxEnd c = search rules
