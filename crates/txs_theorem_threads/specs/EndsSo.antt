-- Where the thread's meaning ends on the events, the code ends so.
use Rattle.std.specs.Prelude.{ℕ, List, [], ◌∷◌, ◌++◌}
use Rattle.txs_world_protocol.specs.Ask.{Exchange}
use Rattle.txs_value_data.specs.declared.value.Value.{Value}
use Rattle.txs_tree_meaning.specs.Meaning.{Completion, Completes, Recurs, Faults, Retries, Waits, OutOfTurns, Invalid}
use Rattle.txs_world_protocol.specs.SeenEvent.{SeenEvent, home}
use Rattle.txs_world_protocol.specs.declared.event.EventKind.TheVariants.{Fail, Broke}
use Rattle.txs_value_cell.specs.Cells.{World}
use Rattle.txs_value_cell.specs.declared.cell.CellDefinition.{CellDefinition}
use Rattle.txs_tree_meaning.specs.Thread.{ThreadState, thread_meaning}
use Rattle.txs_tree_meaning.specs.Tree.{ThreadSource}
use Rattle.txs_code_meaning.specs.Machine.{ThreadCode}
use Rattle.txs_code_meaning.specs.Opening.{target}
use Rattle.txs_theorem_threads.specs.Behaves.{IsOver}
use Rattle.txs_theorem_threads.specs.RepliesFit.{Phase, Out, In, Viewed, WithSwap, Explained, Consumed}
use Rattle.txs_theorem_threads.specs.RepliesFitTo.{RepliesFitTo}

-- the thread's meaning needs more turns of a loop
abbrev pub NeedsTurns : Completion ThreadState Value → Type 0
NeedsTurns (Completes v t) = ⊥
NeedsTurns (Recurs vs t) = ⊥
NeedsTurns (Faults f t) = ⊥
NeedsTurns (Retries t) = ⊥
NeedsTurns (Waits t) = ⊥
NeedsTurns (OutOfTurns t) = Unit {0}
NeedsTurns Invalid = ⊥

-- the thread's meaning has an outcome, or needs an event
abbrev pub HasSettled : Completion ThreadState Value → Type 0
HasSettled (Completes v t) = Unit {0}
HasSettled (Recurs vs t) = ⊥
HasSettled (Faults f t) = Unit {0}
HasSettled (Retries t) = ⊥
HasSettled (Waits t) = Unit {0}
HasSettled (OutOfTurns t) = ⊥
HasSettled Invalid = ⊥

-- An end of what runs, on its worlds: it makes the thread's meaning run the body, the commutes or the swap's callee there. In a
-- try that has viewed nothing yet, Q is what its commutes would view.
abbrev pub in_hand : List CellDefinition → World → Phase → List SeenEvent
in_hand cells Q Out = []
in_hand cells Q (In R) = record { book = 0; kind = Fail 0 0; R = R; Q = Q; C = Q } ∷ []
in_hand cells Q (Viewed R V) = record { book = 0; kind = Fail 0 0; R = R; Q = V; C = V } ∷ []
in_hand cells Q (WithSwap c W) = record { book = home cells c; kind = Broke 0; R = W; Q = W; C = W } ∷ []

-- Where the thread's meaning has an outcome or needs an event on these events, for some bound on its loops, the code ends so or
-- asks for that event, once it has consumed the replies; unless what runs needs turns on its worlds for every bound, whatever
-- its commutes would view.
abbrev pub EndsSo : ThreadCode → ThreadSource → Type 0
EndsSo code p = (todo : List Exchange) (es : List SeenEvent) (end : Phase) (Q : World) (m n k : ℕ) → RepliesFitTo p.cells Out todo es end → Consumed (target code m todo) → HasSettled (thread_meaning p n es) → (NeedsTurns (thread_meaning p k (es ++ in_hand p.cells Q end)) → ⊥) → (j : ℕ) × IsOver (target code j todo) × Explained (target code j todo) (thread_meaning p n es)
