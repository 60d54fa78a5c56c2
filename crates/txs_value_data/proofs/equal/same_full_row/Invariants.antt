use Rattle.std.proofs.Common.{◌≡◌, take}
use Rattle.txs_value_data.proofs.equal.same_full_row.Given as goal

abbrev pub invariant-loop-i : goal.invariant-loop-i
invariant-loop-i l = take l.i l.a ≡ take l.i l.b
