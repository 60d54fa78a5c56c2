use Rattle.std.proofs.Common.{◌+◌, ◌*◌}
use Rattle.txs_explore.proofs.Loops.{AffordAt}
use Rattle.txs_explore.proofs.few.+few.Given as goal

abbrev pub invariant-branch_few-loop-k : goal.invariant-branch_few-loop-k
invariant-branch_few-loop-k l = AffordAt l.code l.max_steps l.depth l.asks l.due l.fn.found.ways.items l.left l.last l.k-index l.found.ways.items l.whole

-- each search behind one more ask has one less left
abbrev pub decreases-search_few : goal.decreases-search_few
decreases-search_few l = 3 * l.depth

abbrev pub decreases-branch_few : goal.decreases-branch_few
decreases-branch_few l = 3 * l.depth + 2

abbrev pub decreases-turn_few : goal.decreases-turn_few
decreases-turn_few l = 3 * l.depth + 1
