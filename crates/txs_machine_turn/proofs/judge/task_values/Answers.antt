use Rattle.std.proofs.Common.{rules}
use Rattle.txs_machine_turn.proofs.judge.task_values.Goals as goal

pub returns : goal.returns
returns c = first_of (search rules, cc)
