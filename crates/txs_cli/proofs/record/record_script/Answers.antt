use Rattle.txs_cli.proofs.record.record_script.Goals as goal
use Rattle.txs_cli.specs.Telling.{of_refused}

-- the script is refused
pub returns-in_ok-told-in-Err-clause-told : goal.returns-in_ok-told-in-Err-clause-told
returns-in_ok-told-in-Err-clause-told g c = of_refused c.in_ok-told-in-Err.ensures
