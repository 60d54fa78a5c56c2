use Rattle.std.proofs.Common.{◌≡◌, ◌≤◌, ◌<◌, ◌-◌, ◌⊎◌, ℕ, length}
use Rattle.txs_machine.specs.Playing.{AreLater}
use Rattle.txs_machine.specs.RunOver.{IsStateOf}
use Rattle.txs_machine.specs.Running.{GoOnBy, IsLive, left_all}
use Rattle.txs_machine.specs.Scheduled.{asks_from, ArePlays}
use Rattle.txs_machine.proofs.schedule.play_rest.Given as goal

abbrev pub invariant-loop-k : goal.invariant-loop-k
invariant-loop-k l =
    record {
      of : IsStateOf l.code l.shared;
      start : l.from ≤ l.k;
      plays : GoOnBy l.code l.max_steps (ArePlays l.code l.max_steps (asks_from l.from (l.k - l.from))) l.fn.shared l.fn.players l.shared l.players;
      many : length l.players.threads.items ≡ length l.fn.players.threads.items;
      agents : length l.players.agents.items ≡ length l.fn.players.agents.items;
      later : AreLater l.fn.players.threads.items l.players.threads.items;
      left : left_all l.players ≤ left_all l.fn.players;
      less : (j : ℕ) → l.from ≤ j → IsLive l.code l.fn.shared l.fn.players j → (left_all l.players < left_all l.fn.players) ⊎ ((l.k ≤ j) × IsLive l.code l.shared l.players j);
    }
