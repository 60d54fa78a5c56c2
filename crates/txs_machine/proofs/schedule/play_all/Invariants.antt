use Rattle.std.proofs.Common.{◌≡◌, length, take}
use Rattle.txs_machine.specs.Playing.{HaveSteps}
use Rattle.txs_machine.specs.RunOver.{IsStateOf}
use Rattle.txs_machine.specs.Running.{GoOnBy}
use Rattle.txs_machine.specs.Scheduled.{ArePlays}
use Rattle.txs_machine.specs.Schedule.{spread}
use Rattle.txs_machine.proofs.schedule.play_all.Given as goal

abbrev pub invariant-loop-run : goal.invariant-loop-run
invariant-loop-run l =
    record {
      of : IsStateOf l.code l.shared;
      plays : GoOnBy l.code l.max_steps (ArePlays l.code l.max_steps (spread (take l.run-index l.plays))) l.fn.shared l.fn.players l.shared l.players;
      many : length l.players.threads.items ≡ length l.fn.players.threads.items;
      agents : length l.players.agents.items ≡ length l.fn.players.agents.items;
      steps : HaveSteps (spread (take l.run-index l.plays)) 0 l.players.threads.items;
    }
