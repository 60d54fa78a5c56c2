use Rattle.std.proofs.Common.{◌+◌, ◌*◌}
use Rattle.txs_explore.specs.Runners.{many}
use Rattle.txs_explore.specs.Told.{explored}
use Rattle.txs_explore.specs.Node.{AreBelow}
use Rattle.txs_explore.proofs.Loops.{BranchAt}
use Rattle.txs_explore.proofs.search.+all.Given as goal

abbrev pub invariant-branch_all-loop-k : goal.invariant-branch_all-loop-k
invariant-branch_all-loop-k l = record {
  at : BranchAt l.code l.max_steps l.depth l.asks l.due l.fn.found.ways.items l.asleep l.k-index l.sleepers.items l.found.ways.items l.whole;
  below : AreBelow (many (explored l.code l.max_steps)) l.sleepers.items;
}

-- each search behind one more ask has one less left
abbrev pub decreases-search_all : goal.decreases-search_all
decreases-search_all l = 3 * l.depth

abbrev pub decreases-branch_all : goal.decreases-branch_all
decreases-branch_all l = 3 * l.depth + 2

abbrev pub decreases-turn_all : goal.decreases-turn_all
decreases-turn_all l = 3 * l.depth + 1
