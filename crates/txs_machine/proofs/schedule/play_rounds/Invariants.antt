use Rattle.std.proofs.Common.{◌≡◌, length}
use Rattle.txs_machine.specs.Playing.{AreLater}
use Rattle.txs_machine.specs.RunOver.{IsStateOf}
use Rattle.txs_machine.specs.Running.{GoOnBy, left_all}
use Rattle.txs_machine.proofs.Scheduled.{LeadRounds}
use Rattle.txs_machine.proofs.schedule.play_rounds.Given as goal

abbrev pub invariant-loop-k : goal.invariant-loop-k
invariant-loop-k l =
    record {
      of : IsStateOf l.code l.shared;
      plays : GoOnBy l.code l.max_steps (LeadRounds l.code l.max_steps) l.fn.shared l.fn.players l.shared l.players;
      many : length l.players.threads.items ≡ length l.fn.players.threads.items;
      agents : length l.players.agents.items ≡ length l.fn.players.agents.items;
      later : AreLater l.fn.players.threads.items l.players.threads.items;
    }

abbrev pub decreases-loop-k : goal.decreases-loop-k
decreases-loop-k l = left_all l.players
