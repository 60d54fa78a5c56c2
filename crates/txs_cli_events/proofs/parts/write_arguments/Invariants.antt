use Rattle.std.proofs.Common.{◌≡◌, ◌++◌, drop}
use Rattle.txs_cli_events.specs.LongLines.{each, argument_words}
use Rattle.txs_cli_events.proofs.parts.write_arguments.Given as goal

-- what is written so far, and what is to come, are all
abbrev pub invariant-loop-i : goal.invariant-loop-i
invariant-loop-i l = l.out.items ++ each argument_words l.i (drop l.i l.values) ≡ l.fn.out.items ++ each argument_words 0 l.values
