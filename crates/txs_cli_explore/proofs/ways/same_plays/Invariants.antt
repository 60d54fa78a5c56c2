use Rattle.std.proofs.Common.{◌≡◌, take}
use Rattle.txs_cli_explore.proofs.ways.same_plays.Given as goal

abbrev pub invariant-loop-i : goal.invariant-loop-i
invariant-loop-i l = take l.i l.a ≡ take l.i l.b
