-- What the thread's meaning printed on the events, the code prints.
use Rattle.std.specs.Prelude.{◌≡◌, ◌≤◌, ℕ, List, []}
use Rattle.txs_world_protocol.specs.Ask.{Exchange}
use Rattle.txs_world_protocol.specs.SeenEvent.{SeenEvent}
use Rattle.txs_tree_meaning.specs.Thread.{thread_meaning}
use Rattle.txs_tree_meaning.specs.Tree.{ThreadSource}
use Rattle.txs_code_meaning.specs.Machine.{ThreadCode, Outcome, Ended, Failed, Asking, Unfinished, Stuck}
use Rattle.txs_code_meaning.specs.Opening.{target}
use Rattle.txs_theorem_threads.specs.RepliesFit.{Out, RepliesFit, Consumed, halted, HasEaten}

-- the machine has consumed all exchanges and printed this, and asks or continues
abbrev pub HasPrintedSo : List ℕ → Outcome → Type 0
HasPrintedSo out (Ended s) = ⊥
HasPrintedSo out (Failed f s) = ⊥
HasPrintedSo out (Asking s) = (s.todo ≡ []) × (s.printed ≡ out)
HasPrintedSo out (Unfinished s) = (s.todo ≡ []) × (s.printed ≡ out)
HasPrintedSo out Stuck = ⊥

-- Where the thread's meaning, for a bound on its loops, has eaten these events and needs another, or needs more turns of a loop, the code
-- has after as many turns or more printed just what the meaning printed, and isn't at its end. The replies are consumed within the bound.
abbrev pub PrintsSo : ThreadCode → ThreadSource → Type 0
PrintsSo code p = (todo : List Exchange) (es : List SeenEvent) (m n : ℕ) (out : List ℕ) → RepliesFit p.cells Out todo es → Consumed (target code m todo) → m ≤ n → HasEaten out (halted (thread_meaning p n es)) → (j : ℕ) × (n ≤ j) × HasPrintedSo out (target code j todo)
