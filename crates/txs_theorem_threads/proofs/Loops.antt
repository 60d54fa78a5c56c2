-- Where the tree needs turns and has consumed all replies, the thread needs turns on the events and an end of what is in hand.
use Rattle.std.proofs.Common.{ℕ, List, [], Option, None, refl, sym, subst, ◌≡◌, ◌++◌}
use Rattle.txs_world_protocol.specs.Ask.{Exchange}
use Rattle.txs_world_protocol.specs.SeenEvent.{SeenEvent}
use Rattle.txs_value_cell.specs.Cells.{World}
use Rattle.txs_value_cell.specs.declared.action.Action.{Action}
use Rattle.txs_value_cell.specs.declared.cell.CellDefinition.{CellDefinition}
use Rattle.txs_value_data.specs.declared.value.Value.{Value}
use Rattle.txs_code_meaning.specs.ActorState.{ActorState}
use Rattle.txs_tree_meaning.specs.Meaning.{Completion, Completes, Recurs, Faults, Retries, Waits, OutOfTurns, Invalid}
use Rattle.txs_tree_meaning.specs.Sound.{SoundSource}
use Rattle.txs_tree_meaning.specs.Thread.{ThreadState, thread_meaning}
use Rattle.txs_tree_meaning.specs.Tree.{ThreadSource}
use Rattle.txs_theorem_threads.proofs.Account.{Account, account_link, plain_splits}
use Rattle.txs_theorem_threads.proofs.Fitted.{if_belongs}
use Rattle.txs_theorem_threads.proofs.Related.{Related}
use Rattle.txs_theorem_threads.proofs.Threads.{thread_related}
use Rattle.txs_theorem_threads.proofs.Worlds.{IsShort}
use Rattle.txs_theorem_threads.specs.Behaves.{source}
use Rattle.txs_theorem_threads.specs.EndsSo.{NeedsTurns, in_hand}
use Rattle.txs_theorem_threads.specs.RepliesFit.{Phase, Out, belongs, PhaseFits, halted}
use Rattle.txs_theorem_threads.specs.RepliesFitTo.{RepliesFitTo}

-- exchanges up to a phase, and behind their events an end of what is in hand there
abbrev pub up_to : (cells : List CellDefinition) → List ℕ → Option (List Action) → Phase → World → Account cells
up_to cells before from end Q = record {
  before = before;
  from = from;
  fits = λ txs ph xs es. RepliesFitTo cells ph xs es end;
  splits = plain_splits cells from (λ ph xs es. RepliesFitTo cells ph xs es end) (λ ph x xs es h. if_belongs (belongs ph x.ask) (PhaseFits cells ph x.ask x.reply (λ ph1 es1. RepliesFitTo cells ph1 xs es1 end) es) h.1);
  tail = in_hand cells Q end;
  waits = λ s o. Unit {0};
  short = λ s o. s.todo ≡ [] → IsShort o;
  waits_loose = λ s h o. tt;
  short_loose = λ s h o e. absurd (h e);
  short_here = λ s t es f q pr e. tt;
  waiting = λ txs ph s es y own f eaten. tt;
  shortage = λ txs ph s es y f eaten h e.
      let z : (es ≡ []) × (ph ≡ end) = subst (λ l. RepliesFitTo cells ph l es end) e f in
      subst (λ l. IsShort (halted (y (l ++ in_hand cells Q end)))) (sym z.0) (subst (λ q. IsShort (halted (y (in_hand cells Q q)))) z.1 (h Q));
}

pub needs_turns : (y : Completion ThreadState Value) → IsShort (halted y) → NeedsTurns y
needs_turns (Completes v t) h = absurd h
needs_turns (Recurs vs t) h = absurd h
needs_turns (Faults f t) h = absurd h
needs_turns (Retries t) h = absurd h
needs_turns (Waits t) h = absurd h
needs_turns (OutOfTurns t) h = tt
needs_turns Invalid h = absurd h

-- a tree that needs turns, where no exchange is left
pub loops_too : (p : ThreadSource) (n : ℕ) (todo : List Exchange) (es : List SeenEvent) (end : Phase) (Q : World) → SoundSource p → (s : ActorState) → RepliesFitTo p.cells Out todo es end → source p n todo ≡ OutOfTurns s → s.todo ≡ [] → NeedsTurns (thread_meaning p n (es ++ in_hand p.cells Q end))
loops_too p n todo es end Q sound s f e z =
    let y = thread_meaning p n (es ++ in_hand p.cells Q end) in
    needs_turns y (subst (λ x. Related (account_link p.cells (up_to p.cells [] None end Q)) x y) e (thread_related p sound (up_to p.cells [] None end Q) n todo es (refl, refl, refl) f) z)
