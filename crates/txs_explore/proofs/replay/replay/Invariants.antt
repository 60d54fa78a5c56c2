use Rattle.std.proofs.Common.{take}
use Rattle.txs_explore.specs.Looked.{IsStageAt}
use Rattle.txs_explore.proofs.replay.replay.Given as goal

abbrev pub invariant-loop-k : goal.invariant-loop-k
invariant-loop-k l = IsStageAt l.code l.max_steps (take l.k-index l.asks) l.stage
