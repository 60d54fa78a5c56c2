use Rattle.std.proofs.Common.{rules}
use Rattle.txs_verify.proofs.alone.jumps_within.Goals as goal

pub returns-in-Jump : goal.returns-in-Jump
returns-in-Jump c = search rules
