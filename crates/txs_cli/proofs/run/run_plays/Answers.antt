use Rattle.txs_cli.proofs.run.run_plays.Goals as goal
use Rattle.txs_machine.specs.Schedule.{spread}
use Rattle.txs_cli.proofs.Recording.{some_at}
use Rattle.txs_cli.specs.Runner.{IsWorked}
use Rattle.txs_cli.specs.Runs.{IsPlayed}

pub returns-in-Some-clause-lawful : goal.returns-in-Some-clause-lawful
returns-in-Some-clause-lawful c = some_at _ c.in-Some.report (λ r. IsWorked c.args.code.now c.args.steps c.run_over.new.shared r) c.in-Some.is c.in_ok-report.ensures.lawful

pub returns-in-Some-clause-played : goal.returns-in-Some-clause-played
returns-in-Some-clause-played c = some_at _ c.in-Some.report (λ r. IsPlayed (spread c.args.plays.now) c.args.code.now c.args.steps c.run_over.new.shared r) c.in-Some.is c.in_ok-report.ensures.played
