use Rattle.std.proofs.Common.{◌≡◌, drop, nat_le}
use Rattle.txs_value_data.specs.Limits.{most_locals}
use Rattle.txs_tree_meaning.specs.View.{trees_of}
use Rattle.txs_opt.proofs.Reach.{args_reach}
use Rattle.txs_opt.proofs.locals.values_have_few.Given as goal

abbrev pub invariant-loop-at : goal.invariant-loop-at
invariant-loop-at l = nat_le (args_reach l.live l.at (trees_of (drop l.at l.args))) most_locals ≡ nat_le (args_reach l.live 0 (trees_of l.args)) most_locals
