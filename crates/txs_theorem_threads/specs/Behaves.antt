-- The code of a thread does what its tree does, on any replies.
use Rattle.std.specs.Prelude.{◌≡◌, false, ℕ, ◌≤◌, List, [], length}
use Rattle.txs_world_protocol.specs.Ask.{Exchange}
use Rattle.txs_value_cell.specs.Cells.{validators_of}
use Rattle.txs_value_data.specs.declared.value.Value.{Value}
use Rattle.txs_tree_meaning.specs.Meaning.{Completion, Completes, Recurs, Faults, Retries, Waits, OutOfTurns, Invalid, eval, closed, call_at}
use Rattle.txs_tree_meaning.specs.Tree.{ThreadSource}
use Rattle.txs_code_meaning.specs.ActorState.{ActorState}
use Rattle.txs_code_meaning.specs.Machine.{ThreadCode, Outcome, Ended, Failed, Asking, Unfinished, Stuck}
use Rattle.txs_code_meaning.specs.Opening.{fresh, target}
use Rattle.txs_theorem_threads.specs.OnReplies.{on_replies}

-- the thread on these exchanges, where each loop makes at most n turns
abbrev pub source : ThreadSource → ℕ → List Exchange → Completion ActorState Value
source p n todo = closed (eval (on_replies (validators_of p.cells)) (call_at (λ d. on_replies (validators_of p.cells)) n p.functions (length p.functions)) n false p.main [] (fresh todo))

-- an answer of a tree that was checked, on lawful replies
abbrev pub IsMeant : {S : Type 0} → Completion S Value → Type 0
IsMeant (Completes v s) = Unit {0}
IsMeant (Recurs vs s) = ⊥
IsMeant (Faults f s) = Unit {0}
IsMeant (Retries s) = ⊥
IsMeant (Waits s) = Unit {0}
IsMeant (OutOfTurns s) = Unit {0}
IsMeant Invalid = ⊥

-- an answer of a pure callee that was checked: a value, a fault, or a want of turns
abbrev pub IsProper : {A : Type 0} → Completion (Unit {0}) A → Type 0
IsProper (Completes a u) = Unit {0}
IsProper (Recurs vs u) = ⊥
IsProper (Faults f u) = Unit {0}
IsProper (Retries u) = ⊥
IsProper (Waits u) = ⊥
IsProper (OutOfTurns u) = Unit {0}
IsProper Invalid = ⊥

-- an answer that more turns don't change
abbrev pub HasEnded : Completion ActorState Value → Type 0
HasEnded (Completes v s) = Unit {0}
HasEnded (Recurs vs s) = ⊥
HasEnded (Faults f s) = Unit {0}
HasEnded (Retries s) = ⊥
HasEnded (Waits s) = Unit {0}
HasEnded (OutOfTurns s) = ⊥
HasEnded Invalid = ⊥

-- where the machine has to come to, by how the tree ends
abbrev pub outcome_of : Completion ActorState Value → Outcome
outcome_of (Completes v s) = Ended s
outcome_of (Recurs vs s) = Stuck
outcome_of (Faults f s) = Failed f s
outcome_of (Retries s) = Stuck
outcome_of (Waits s) = Asking s
outcome_of (OutOfTurns s) = Unfinished s
outcome_of Invalid = Stuck

-- a run that is over
abbrev pub IsOver : Outcome → Type 0
IsOver (Ended s) = Unit {0}
IsOver (Failed f s) = Unit {0}
IsOver (Asking s) = Unit {0}
IsOver (Unfinished s) = ⊥
IsOver Stuck = Unit {0}

-- the code does what the thread does, and nothing else
pub record Behaves (code : ThreadCode) (p : ThreadSource) : Type 0 where
  pub follows : (todo : List Exchange) (n : ℕ) → HasEnded (source p n todo) → (m : ℕ) × (target code m todo ≡ outcome_of (source p n todo))
  pub goes_on : (todo : List Exchange) (n : ℕ) (s : ActorState) → source p n todo ≡ OutOfTurns s → (m : ℕ) × (n ≤ m) × (target code m todo ≡ Unfinished s)
  pub only : (todo : List Exchange) (m : ℕ) (o : Outcome) → IsOver o → target code m todo ≡ o → IsMeant (source p m todo) → outcome_of (source p m todo) ≡ o
