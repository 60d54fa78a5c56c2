use Rattle.std.proofs.Common.{refl}
use Rattle.txs_machine.specs.Schedule.{spread}
use Rattle.txs_cli.proofs.Interleaved.{interleaved}
use Rattle.txs_cli.proofs.run.run_over.Goals as goal

pub returns-in-Ok-clause-lawful : goal.returns-in-Ok-clause-lawful
returns-in-Ok-clause-lawful c =
    let run = c.in-Ok.ensures in
    let report = c.in-Ok.report in
    record {
      of = c.run_repeated.ensures.of;
      done = run.done;
      agents_done = run.agents;
      ended = run.ended refl;
      drained = run.drained refl;
      explained = run.all_explained;
      interleaved = interleaved c.args.code.now c.args.steps (spread c.args.plays.now) c.run_repeated.new.shared report.threads.items report.agents.items run.named run.scheduled;
    }

pub returns-in-Ok-clause-played : goal.returns-in-Ok-clause-played
returns-in-Ok-clause-played c = let run = c.in-Ok.ensures in record { named = run.named; scheduled = run.scheduled; explained = run.explained }
