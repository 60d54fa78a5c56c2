use Rattle.std.proofs.Common.{◌≡◌}
use Rattle.txs_machine_loop.specs.Values.{below}
use Rattle.txs_machine_transaction.proofs.instructions.replace_over.Given as goal

-- so many of the last values have gone
abbrev pub invariant-loop-taken : goal.invariant-loop-taken
invariant-loop-taken l = l.stack ≡ record l.fn.stack { values = below l.taken l.fn.stack.values }
