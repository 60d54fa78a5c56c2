use Rattle.std.proofs.Common.{rules}
use Rattle.txs_code_encode.proofs.same.same_body.Goals as goal

pub returns-then-same_instrs : goal.returns-then-same_instrs
returns-then-same_instrs c = search rules
