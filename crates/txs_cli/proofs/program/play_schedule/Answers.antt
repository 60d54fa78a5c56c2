use Rattle.txs_cli.proofs.program.play_schedule.Goals as goal

pub returns-clause-unread : goal.returns-clause-unread
returns-clause-unread g c = λ wrong. c.perform_alone.ensures.unread wrong

pub returns-clause-told : goal.returns-clause-told
returns-clause-told g c = c.perform_alone.ensures.told
