use Rattle.std.proofs.Common.{◌≡◌, ◌++◌, drop}
use Rattle.txs_cli_events.specs.LongLines.{each, write_words}
use Rattle.txs_cli_events.proofs.parts.write_writes.Given as goal

-- what is written so far, and what is to come, are all
abbrev pub invariant-loop-i : goal.invariant-loop-i
invariant-loop-i l = l.out.items ++ each (write_words l.run.cells.now) l.i (drop l.i l.writes) ≡ l.fn.out.items ++ each (write_words l.run.cells.now) 0 l.writes
