-- The code of a program does what the program means.
use Rattle.std.specs.Prelude.{map}
use Rattle.txs_tree_meaning.specs.Sound.{Sound}
use Rattle.txs_tree_meaning.specs.Tree.{PlainProgram}
use Rattle.txs_code_meaning.specs.PlainCode.{PlainCode, thread_code}
use Rattle.txs_theorem_threads.specs.FollowsAll.{BehavesAll, FollowsAll}
use Rattle.txs_gen.specs.Generated.{IsCodeOf}

-- the code of a sound program does what its trees do, on any replies
abbrev pub CodeOfProgramBehaves : Type 0
CodeOfProgramBehaves = (code : PlainCode) (p : PlainProgram) → Sound p → IsCodeOf code p → BehavesAll (map (λ b. thread_code code b) code.threads) p

-- the code of a sound program follows it
abbrev pub CodeFollows : Type 0
CodeFollows = (code : PlainCode) (p : PlainProgram) → Sound p → IsCodeOf code p → FollowsAll (map (λ b. thread_code code b) code.threads) p
