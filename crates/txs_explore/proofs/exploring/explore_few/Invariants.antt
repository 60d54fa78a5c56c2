use Rattle.txs_explore.specs.Found.{AreSearchedFew}
use Rattle.txs_explore.proofs.exploring.explore_few.Given as goal

abbrev pub invariant-loop-most : goal.invariant-loop-most
invariant-loop-most l = AreSearchedFew l.code l.fn.limits.max_steps l.fn.limits.depth l.fn.found.ways.items l.found.ways.items l.within
