use Rattle.txs_machine.proofs.schedule.run_repeated.Goals as goal

pub returns-clause-done : goal.returns-clause-done
returns-clause-done c = c.in_ok-report.ensures.says.done

pub returns-clause-played : goal.returns-clause-played
returns-clause-played c = c.in_ok-report.ensures.says.played

pub returns-clause-ended : goal.returns-clause-ended
returns-clause-ended c = c.in_ok-report.ensures.says.ended

pub returns-clause-explained : goal.returns-clause-explained
returns-clause-explained c = c.in_ok-report.ensures.says.explained

pub returns-clause-agents : goal.returns-clause-agents
returns-clause-agents c = c.in_ok-report.ensures.says.agents

pub returns-clause-drained : goal.returns-clause-drained
returns-clause-drained c = c.in_ok-report.ensures.says.drained

pub returns-clause-all_explained : goal.returns-clause-all_explained
returns-clause-all_explained c = c.in_ok-report.ensures.says.all_explained

pub returns-clause-scheduled : goal.returns-clause-scheduled
returns-clause-scheduled c = c.in_ok-report.ensures.says.scheduled
