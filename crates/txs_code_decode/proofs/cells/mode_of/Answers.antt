use Rattle.std.proofs.Common.{rules}
use Rattle.txs_code_decode.proofs.cells.mode_of.Goals as goal

pub returns-then-is_fail : goal.returns-then-is_fail
returns-then-is_fail c = search rules
