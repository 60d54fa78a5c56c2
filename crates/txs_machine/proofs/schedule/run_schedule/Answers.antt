use Rattle.std.proofs.Common.{rules, subst}
use Rattle.txs_machine.specs.Schedule.{ArePlayed}
use Rattle.txs_machine.specs.Scheduled.{IsScheduledRun}
use Rattle.txs_machine.proofs.schedule.run_schedule.Goals as goal

pub returns-clause-done : goal.returns-clause-done
returns-clause-done c = c.in_ok-report.ensures.says.done

pub returns-clause-played : goal.returns-clause-played
returns-clause-played c = subst (λ ys. ArePlayed ys c.in_ok-report.report.threads.items) (search rules) c.in_ok-report.ensures.says.played

pub returns-clause-ended : goal.returns-clause-ended
returns-clause-ended c = c.in_ok-report.ensures.says.ended

pub returns-clause-explained : goal.returns-clause-explained
returns-clause-explained c = c.in_ok-report.ensures.says.explained

pub returns-clause-agents : goal.returns-clause-agents
returns-clause-agents c = c.in_ok-report.ensures.says.agents

pub returns-clause-drained : goal.returns-clause-drained
returns-clause-drained c = c.in_ok-report.ensures.says.drained

pub returns-clause-all_explained : goal.returns-clause-all_explained
returns-clause-all_explained c = c.in_ok-report.ensures.says.all_explained

pub returns-clause-scheduled : goal.returns-clause-scheduled
returns-clause-scheduled c =
    subst (λ ys. IsScheduledRun c.args.code.now c.args.max_steps ys c.args.rounds c.run_all.new.shared c.in_ok-report.report.threads.items c.in_ok-report.report.agents.items) (search rules) c.in_ok-report.ensures.says.scheduled
