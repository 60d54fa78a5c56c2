use Rattle.std.proofs.Common.{◌≡◌, take}
use Rattle.txs_cli_explore.specs.Changes.{lines_of}
use Rattle.txs_cli_explore.proofs.changes.same_first.Given as goal

abbrev pub invariant-loop-i : goal.invariant-loop-i
invariant-loop-i l = take l.i (lines_of l.a) ≡ take l.i (lines_of l.b)
