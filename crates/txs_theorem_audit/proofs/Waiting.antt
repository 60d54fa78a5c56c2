-- Meanings that have eaten all events, and what they are before the last one.
use Rattle.std.proofs.Common.{◌≡◌, ℕ, ◌+◌, List, [], ◌∷◌, ◌++◌, length, length-append, Option, Some, None, sym, ap, ◌∙◌, subst, refl, arith}
use Rattle.std.proofs.lemmas.Bool.{false≢true}
use Rattle.txs_value_data.specs.declared.value.Value.{Value}
use Rattle.txs_world_protocol.specs.SeenEvent.{SeenEvent}
use Rattle.txs_world_protocol.specs.declared.event.Outcome.{Outcome}
use Rattle.txs_world_protocol.specs.declared.event.Outcome.TheVariants.{Done, Failed, StepsSpent, JournalFull, Memory}
use Rattle.txs_tree_meaning.specs.Meaning.{Completion, Completes, Recurs, Faults, Retries, Waits, OutOfTurns, Invalid}
use Rattle.txs_tree_meaning.specs.Thread.{ThreadState}
use Rattle.txs_theorem_threads.proofs.Related.{Related}
use Rattle.txs_theorem_threads.specs.RepliesFit.{HasEatenAll}
use Rattle.txs_theorem_audit.specs.Explained.{EndsAs}
use Rattle.txs_theorem_audit.proofs.Beginning.{longer, k}

-- all events are eaten
abbrev pub HasEatenUp : Completion ThreadState Value → Type 0
HasEatenUp (Completes v t) = t.todo ≡ []
HasEatenUp (Recurs vs t) = ⊥
HasEatenUp (Faults f t) = t.todo ≡ []
HasEatenUp (Retries t) = ⊥
HasEatenUp (Waits t) = t.todo ≡ []
HasEatenUp (OutOfTurns t) = t.todo ≡ []
HasEatenUp Invalid = ⊥

pub eaten_up : (out : List ℕ) (m : Completion ThreadState Value) → HasEatenAll out m → HasEatenUp m
eaten_up out (Completes v t) h = h.0
eaten_up out (Recurs vs t) h = absurd h
eaten_up out (Faults f t) h = h.0
eaten_up out (Retries t) h = absurd h
eaten_up out (Waits t) h = h.0
eaten_up out (OutOfTurns t) h = h.0
eaten_up out Invalid h = absurd h

pub ends_up : (o : Option Outcome) (out : List ℕ) (m : Completion ThreadState Value) → EndsAs o out m → HasEatenUp m
ends_up None out m h = eaten_up (out ++ h.0) m h.1
ends_up (Some Done) out m h = subst HasEatenUp (sym h.2) h.3
ends_up (Some (Failed f)) out m h = subst HasEatenUp (sym h.1) h.2
ends_up (Some StepsSpent) out m h = eaten_up (out ++ h.0) m h.1
ends_up (Some JournalFull) out m h = eaten_up (out ++ h.0) m h.1
ends_up (Some Memory) out m h = eaten_up (out ++ h.0) m h.1

ends_some : {A : Type 0} (f : SeenEvent) (l : List SeenEvent) → l ++ f ∷ [] ≡ [] → A
ends_some f l h = let n : length l + 1 ≡ 0 = sym (length-append l (f ∷ [])) ∙ ap length h in absurd (omega (arith, n))

longer_some : {A : Type 0} (f : SeenEvent) (t u : ThreadState) → t ≡ longer (f ∷ []) u → t.todo ≡ [] → A
longer_some f t u h e = ends_some f u.todo (sym (ap (λ (z : ThreadState). z.todo) h) ∙ e)

pub waits_front : (f : SeenEvent) (y z : Completion ThreadState Value) → Related (k (f ∷ [])) y z → HasEatenUp z → (u : ThreadState) × (y ≡ Waits u)
waits_front f (Completes v u) (Completes w t) h e = longer_some f t u h.1 e
waits_front f (Completes v u) _ h e = absurd h
waits_front f (Recurs vs u) (Recurs ws t) h e = absurd e
waits_front f (Recurs vs u) _ h e = absurd h
waits_front f (Faults g u) (Faults d t) h e = longer_some f t u h.1 e
waits_front f (Faults g u) _ h e = absurd h
waits_front f (Retries u) (Retries t) h e = absurd e
waits_front f (Retries u) _ h e = absurd h
waits_front f (Waits u) z h e = (u, refl)
waits_front f (OutOfTurns u) (OutOfTurns t) h e = longer_some f t u h e
waits_front f (OutOfTurns u) _ h e = absurd h
waits_front f Invalid Invalid h e = absurd e
waits_front f Invalid _ h e = absurd (false≢true h)
