use Rattle.std.proofs.Common.{◌≡◌, ◌++◌, List, length, replicate}
use Rattle.txs_machine.specs.Playing.{HaveSteps}
use Rattle.txs_machine.specs.RunOver.{IsStateOf}
use Rattle.txs_machine.specs.Running.{GoOnBy}
use Rattle.txs_machine.specs.Scheduled.{ArePlays}
use Rattle.txs_machine.specs.declared.schedule.Play.{Play}
use Rattle.txs_machine.proofs.schedule.play_times.Given as goal

abbrev pub invariant-loop-made : goal.invariant-loop-made
invariant-loop-made l =
    record {
      of : IsStateOf l.code l.shared;
      plays : GoOnBy l.code l.max_steps (ArePlays l.code l.max_steps (replicate l.made l.fn.run.play)) l.fn.shared l.fn.players l.shared l.players;
      many : length l.players.threads.items ≡ length l.fn.players.threads.items;
      agents : length l.players.agents.items ≡ length l.fn.players.agents.items;
      steps : (before : List Play) → HaveSteps before 0 l.fn.players.threads.items → HaveSteps (before ++ replicate l.made l.fn.run.play) 0 l.players.threads.items;
    }
