use Rattle.std.proofs.Common.{◌≡◌}
use Rattle.txs_explore.specs.Node.{ends_of}
use Rattle.txs_explore.proofs.look.ends_of.Given as goal

abbrev pub invariant-loop-look : goal.invariant-loop-look
invariant-loop-look l = l.ends.items ≡ ends_of l.yielded
