use Rattle.std.proofs.Common.{◌≡◌, take}
use Rattle.txs_tree_meaning.specs.View.{trees_of}
use Rattle.txs_opt.specs.Inline.{bound}
use Rattle.txs_opt.proofs.call.values_of.Given as goal

abbrev pub invariant-loop-at : goal.invariant-loop-at
invariant-loop-at l = trees_of l.values.items ≡ bound l.live 0 (trees_of (take l.at l.args))
