-- What it is that the code of all threads follows a program.
use Rattle.std.specs.Prelude.{◌≡◌, ℕ, List, length, map, Some}
use Rattle.txs_value_data.specs.Places.{nth}
use Rattle.txs_tree_meaning.specs.Sound.{Sound, SoundSource}
use Rattle.txs_tree_meaning.specs.Tree.{PlainThread, PlainProgram, ThreadSource}
use Rattle.txs_code_meaning.specs.Machine.{ThreadCode}
use Rattle.txs_theorem_threads.specs.Behaves.{Behaves}
use Rattle.txs_theorem_threads.specs.Follows.{Follows}

-- a thread of a program, with the functions that it may call and the definitions of cells
abbrev pub source_of : PlainProgram → PlainThread → ThreadSource
source_of p t = record { functions = p.functions; cells = p.cells; main = t.body }

-- the code of each thread does what the thread's tree does, on any replies
pub record BehavesAll (codes : List ThreadCode) (p : PlainProgram) : Type 0 where
  pub as_many : length codes ≡ length p.threads
  pub each : (i : ℕ) (c : ThreadCode) (t : PlainThread) → nth codes i ≡ Some c → nth p.threads i ≡ Some t → Behaves c (source_of p t)

-- The code follows the program: there is one code for each thread, and it follows its thread.
pub record FollowsAll (codes : List ThreadCode) (p : PlainProgram) : Type 0 where
  pub as_many : length codes ≡ length p.threads
  pub each : (i : ℕ) (c : ThreadCode) (t : PlainThread) → nth codes i ≡ Some c → nth p.threads i ≡ Some t → Follows c (source_of p t)

-- code that behaves as a sound program's trees follows the program
abbrev pub SoundFollowsAll : Type 0
SoundFollowsAll = (codes : List ThreadCode) (p : PlainProgram) → Sound p → BehavesAll codes p → FollowsAll codes p

-- where the code of each sound thread is generated so that it behaves as the thread's tree, the code of a sound program follows it
abbrev pub GeneratedFollows : Type 0
GeneratedFollows = (g : ThreadSource → ThreadCode) → ((q : ThreadSource) → SoundSource q → Behaves (g q) q) → (p : PlainProgram) → Sound p → FollowsAll (map (λ t. g (source_of p t)) p.threads) p
