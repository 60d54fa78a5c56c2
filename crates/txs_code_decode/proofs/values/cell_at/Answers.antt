use Rattle.std.proofs.Common.{arith}
use Rattle.std.proofs.lemmas.Grind.{common_steps}
use Rattle.txs_code_decode.proofs.values.cell_at.Goals as goal

pub returns-else-is_out : goal.returns-else-is_out
returns-else-is_out c = grind (arith, common_steps)
