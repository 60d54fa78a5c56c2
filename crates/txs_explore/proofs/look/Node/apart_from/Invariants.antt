use Rattle.std.proofs.Common.{◌≡◌, take}
use Rattle.txs_explore.specs.Node.{apart_in, kept_by}
use Rattle.txs_explore.proofs.look.Node.apart_from.Given as goal

abbrev pub invariant-loop-j : goal.invariant-loop-j
invariant-loop-j l = l.apart.items ≡ kept_by (λ j. apart_in l.self l.k j) (take l.j-index l.asleep)
