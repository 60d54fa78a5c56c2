-- The generated code does what the tree does.
use Rattle.txs_tree_meaning.specs.Sound.{SoundSource}
use Rattle.txs_tree_meaning.specs.Tree.{ThreadSource}
use Rattle.txs_theorem_threads.specs.Behaves.{Behaves}
use Rattle.txs_gen.specs.Gen.{generated}

-- the code of a sound thread does what its tree does, on any replies
abbrev pub CodeBehaves : Type 0
CodeBehaves = (p : ThreadSource) → SoundSource p → Behaves (generated p) p
