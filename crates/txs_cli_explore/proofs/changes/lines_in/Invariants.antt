use Rattle.std.proofs.Common.{◌≡◌, ◌++◌, length}
use Rattle.txs_cli_explore.specs.Changes.{lines_in, lines_of}
use Rattle.txs_cli_explore.proofs.changes.lines_in.Given as goal

-- the lines so far, and those of the rest
abbrev pub invariant-loop-rest : goal.invariant-loop-rest
invariant-loop-rest l = lines_of l.lines.items ++ lines_in l.rest ≡ lines_in l.text

abbrev pub decreases-loop-rest : goal.decreases-loop-rest
decreases-loop-rest l = length l.rest
