use Rattle.txs_cli.proofs.Failing.{failed_by, for_memory}
use Rattle.txs_cli.proofs.run.run_all.Goals as goal
use Rattle.txs_cli.specs.Runner.{HasFailed}

pub returns-then-is_alone-clause-failed : goal.returns-then-is_alone-clause-failed
returns-then-is_alone-clause-failed g c = for_memory c.run_in_turn.result (HasFailed (goal.X-post g c.args.runner.now) c.args.code.now c.args.workers c.args.steps) c.run_in_turn.ensures.refused

pub returns-clause-failed : goal.returns-clause-failed
returns-clause-failed g c = failed_by (goal.X-post g c.args.runner.now) c.args.alloc c.args.code c.args.workers c.args.steps c.runner.result c.runner.ensures
