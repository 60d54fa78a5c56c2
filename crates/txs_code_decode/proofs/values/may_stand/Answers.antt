use Rattle.std.proofs.Common.{rules}
use Rattle.txs_code_decode.proofs.values.may_stand.Goals as goal

pub returns-in-Vector : goal.returns-in-Vector
returns-in-Vector c = search rules
