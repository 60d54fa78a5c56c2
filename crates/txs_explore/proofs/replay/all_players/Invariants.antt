use Rattle.std.proofs.Common.{◌≡◌, ◌++◌}
use Rattle.txs_machine.specs.Running.{attendants}
use Rattle.txs_explore.proofs.replay.all_players.Given as goal

abbrev pub invariant-loop-agent : goal.invariant-loop-agent
invariant-loop-agent l = l.all.items ≡ l.fn.players.threads.items ++ attendants l.yielded
