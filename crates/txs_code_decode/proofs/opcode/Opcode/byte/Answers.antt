use Rattle.std.proofs.Common.{rules}
use Rattle.txs_code_decode.proofs.opcode.Opcode.byte.Goals as goal

pub returns-in-Halt : goal.returns-in-Halt
returns-in-Halt c = search rules
