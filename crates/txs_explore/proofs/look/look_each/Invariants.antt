use Rattle.txs_explore.specs.Looked.{AreFresh, AreLooks}
use Rattle.txs_explore.proofs.look.look_each.Given as goal

abbrev pub invariant-loop-player : goal.invariant-loop-player
invariant-loop-player l = record { looks : AreLooks l.code l.yielded l.looks.items; fresh : AreFresh l.code l.max_steps l.player-iterator.rest.items }
