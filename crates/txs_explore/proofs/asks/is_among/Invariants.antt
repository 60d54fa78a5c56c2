use Rattle.std.proofs.Common.{◌≡◌, drop}
use Rattle.txs_explore.specs.System.{has}
use Rattle.txs_explore.proofs.asks.is_among.Given as goal

abbrev pub invariant-loop-j : goal.invariant-loop-j
invariant-loop-j l = has l.k (drop l.j-index l.list) ≡ has l.k l.list
