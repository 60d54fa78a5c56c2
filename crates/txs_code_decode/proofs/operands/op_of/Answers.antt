use Rattle.std.proofs.Common.{sym, arith}
use Rattle.txs_value_data.specs.Operations.{operations}
use Rattle.txs_code_decode.proofs.Lists.{nth_past, op_answer}
use Rattle.txs_code_decode.proofs.operands.op_of.Goals as goal

pub returns-then-number-lt256 : goal.returns-then-number-lt256
returns-then-number-lt256 c = op_answer _ c.args.number c.from_number.ensures

pub returns-else-number-lt256 : goal.returns-else-number-lt256
returns-else-number-lt256 c = sym (nth_past operations c.args.number (omega arith))
