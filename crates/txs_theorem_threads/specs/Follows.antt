-- What it is that code follows a thread.
use Rattle.std.specs.Prelude.{ℕ, ◌≡◌, ◌≤◌, List, [], length, Some, None}
use Rattle.txs_world_protocol.specs.Ask.{Exchange}
use Rattle.txs_world_protocol.specs.declared.ask.Ask.{Ask}
use Rattle.txs_tree_meaning.specs.Known.{known}
use Rattle.txs_tree_meaning.specs.Pure.{PureCallee, pure_meaning}
use Rattle.txs_tree_meaning.specs.Sound.{SoundFunctions, SoundSource, SoundTree, in_dosync}
use Rattle.txs_world_protocol.specs.SeenEvent.{SeenEvent}
use Rattle.txs_tree_meaning.specs.Meaning.{OutOfTurns}
use Rattle.txs_tree_meaning.specs.Thread.{thread_meaning}
use Rattle.txs_tree_meaning.specs.Transaction.{tx_meaning}
use Rattle.txs_tree_meaning.specs.Tree.{Tree, PlainFunction, ThreadSource}
use Rattle.txs_value_cell.specs.Cells.{World}
use Rattle.txs_value_data.specs.declared.op.Callee.{Callee}
use Rattle.txs_value_data.specs.declared.value.Value.{Value}
use Rattle.txs_code_meaning.specs.ActorState.{ActorState}
use Rattle.txs_code_meaning.specs.Machine.{ThreadCode, Asking, Unfinished}
use Rattle.txs_code_meaning.specs.Opening.{target}
use Rattle.txs_theorem_threads.specs.Behaves.{source, Behaves, IsMeant, IsProper, HasEnded, outcome_of}
use Rattle.txs_theorem_threads.specs.EndsSo.{EndsSo}
use Rattle.txs_theorem_threads.specs.Noted.{AreNoted, txs_of}
use Rattle.txs_theorem_threads.specs.PrintsSo.{PrintsSo}
use Rattle.txs_theorem_threads.specs.RepliesFit.{Out, RepliesFit, book_asked, halted, HasWaitedFor, Agrees, Explained, Consumed}

-- The code follows the thread's tree, on all replies that fit.
pub record Follows (code : ThreadCode) (p : ThreadSource) : Type 0 where
  -- after any number of turns, on exchanges that fit the events, the thread eats the events with what was printed
  pub explained : (todo : List Exchange) (es : List SeenEvent) (m : ℕ) → RepliesFit p.cells Out todo es → Consumed (target code m todo) → Explained (target code m todo) (thread_meaning p m es)
  -- and its transactions are those of the commits among the exchanges, each of which has its transaction's own work
  pub noted : (todo : List Exchange) (es : List SeenEvent) (m : ℕ) → RepliesFit p.cells Out todo es → Consumed (target code m todo) → AreNoted None todo (txs_of (thread_meaning p m es))
  -- where the code asks, and has consumed all exchanges, the thread needs an event of the book that answers the ask
  pub asks_so : (todo : List Exchange) (es : List SeenEvent) (m : ℕ) (s : ActorState) (q : Ask) → RepliesFit p.cells Out todo es → target code m todo ≡ Asking s → s.todo ≡ [] → s.wants ≡ Some q → HasWaitedFor (book_asked p.cells q) s.printed (halted (thread_meaning p m es))
  -- where the tree on these replies ends for some bound on its loops, the code ends so, and the thread with any greater bound agrees
  pub reaches : (todo : List Exchange) (es : List SeenEvent) (n k : ℕ) → RepliesFit p.cells Out todo es → HasEnded (source p n todo) → n ≤ k → ((m : ℕ) × (target code m todo ≡ outcome_of (source p n todo))) × Agrees p.cells (source p n todo) (thread_meaning p k es)
  -- where the tree on these replies needs more turns of a loop than the bound, the code continues and has, after as many turns or more, printed all that the tree printed
  pub goes_on : (todo : List Exchange) (n : ℕ) (s : ActorState) → source p n todo ≡ OutOfTurns s → (m : ℕ) × (n ≤ m) × (target code m todo ≡ Unfinished s)
  -- where the thread's meaning has eaten the events and needs another, or more turns of a loop, the code prints all that the meaning printed, whatever runs
  pub prints_so : PrintsSo code p
  -- where the thread's meaning ends on the events for some bound on its loops, the code ends so, unless what runs needs turns for every bound
  pub ends_so : EndsSo code p

-- no answer of a tree on replies that fit is invalid
abbrev pub IsEverMeant : ThreadSource → Type 0
IsEverMeant p = (n : ℕ) (todo : List Exchange) (es : List SeenEvent) → RepliesFit p.cells Out todo es → IsMeant (source p n todo)

-- so it is of each sound thread's tree
abbrev pub ThreadIsMeant : Type 0
ThreadIsMeant = (p : ThreadSource) → SoundSource p → IsEverMeant p

-- no answer of a sound transaction's body is invalid, on any world, where its locals are there
abbrev pub TransactionIsMeant : Type 0
TransactionIsMeant =
    (functions : List PlainFunction) (n : ℕ) (body : Tree) (locals : List Value) (R : World) → SoundFunctions [] functions → SoundTree (known functions) in_dosync (length locals) None body → IsMeant (tx_meaning n functions (length functions) body locals R)

-- a pure callee of sound functions gives a value or a fault, or needs turns, on as many values as it takes
abbrev pub PureIsMeant : Type 0
PureIsMeant = (functions : List PlainFunction) (n : ℕ) (callee : Callee) (vs : List Value) → SoundFunctions [] functions → PureCallee (known functions) callee (length vs) → IsProper (pure_meaning n functions callee vs)

-- code that behaves as a sound thread's tree follows it
abbrev pub SoundFollows : Type 0
SoundFollows = (code : ThreadCode) (p : ThreadSource) → Behaves code p → SoundSource p → Follows code p
