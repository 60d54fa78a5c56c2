use Rattle.std.proofs.Common.{rules}
use Rattle.txs_machine.proofs.run_error.RunError.name.Goals as goal

pub returns-in-NoThread : goal.returns-in-NoThread
returns-in-NoThread c = search rules
