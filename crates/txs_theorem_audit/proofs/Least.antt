-- A meaning that has eaten all events has printed no less than on all events but the last.
use Rattle.std.proofs.Common.{◌≡◌, ℕ, List, [], ◌∷◌, ◌++◌, None, refl, sym, ap, ◌∙◌, subst, ⊎_elim}
use Rattle.std.proofs.lemmas.List.{append-nil}
use Rattle.txs_value_data.specs.declared.value.Value.{Value}
use Rattle.txs_world_protocol.specs.SeenEvent.{SeenEvent}
use Rattle.txs_tree_meaning.specs.Meaning.{Completion, Completes, Recurs, Faults, Retries, Waits, OutOfTurns, Invalid}
use Rattle.txs_tree_meaning.specs.Thread.{ThreadState, thread_meaning}
use Rattle.txs_tree_meaning.specs.Tree.{ThreadSource}
use Rattle.txs_theorem_threads.proofs.Meant.{Any}
use Rattle.txs_theorem_threads.proofs.Related.{Related}
use Rattle.txs_theorem_audit.specs.Explained.{Begins}
use Rattle.txs_theorem_audit.specs.Verdict.{printed_by, but_last, least_printed, least_of}
use Rattle.txs_theorem_audit.proofs.Beginning.{longer, k}
use Rattle.txs_theorem_audit.proofs.Onward.{From}
use Rattle.txs_theorem_audit.proofs.Resuming.{Resumes, Rests}
use Rattle.txs_theorem_audit.proofs.Waiting.{HasEatenUp, waits_front}

-- the last of some events, behind all others
pub last_of : (e : SeenEvent) (es : List SeenEvent) → (f : SeenEvent) × (e ∷ es ≡ but_last (e ∷ es) ++ f ∷ [])
last_of e [] = (e, refl)
last_of e (d ∷ es) = let r = last_of d es in (r.0, ap (λ l. e ∷ l) r.1)

-- what a thread prints on all events but the last is what its meaning does
pub least_is : (s : ThreadSource) (n : ℕ) (es : List SeenEvent) → least_printed s n es ≡ least_of (thread_meaning s n) es
least_is s n [] = refl
least_is s n (e ∷ es) = refl

-- what comes later has printed no less
from_prints : (s : ThreadState) (y : Completion ThreadState Value) → From None Any s y → HasEatenUp y → Begins (printed_by y) s.printed
from_prints s (Completes v t) h up = (h.1.more, h.1.prints)
from_prints s (Recurs vs t) h up = absurd up
from_prints s (Faults f t) h up = (h.more, h.prints)
from_prints s (Retries t) h up = absurd up
from_prints s (Waits t) h up = (h.more, h.prints)
from_prints s (OutOfTurns t) h up = (h.more, h.prints)
from_prints s Invalid h up = absurd up

module _ (m : List SeenEvent → Completion ThreadState Value) (cuts : (es fs : List SeenEvent) → Related (k fs) (m es) (m (es ++ fs))) (resumes : (es fs : List SeenEvent) → Resumes fs None Any (m es) (m (es ++ fs))) where
  -- with one event more than where it waited
  one_more : (f : SeenEvent) (es : List SeenEvent) → HasEatenUp (m (es ++ f ∷ [])) → Begins (printed_by (m (es ++ f ∷ []))) (printed_by (m es))
  one_more f es up =
      let w = waits_front f (m es) (m (es ++ f ∷ [])) (cuts es (f ∷ [])) up in
      let rests : Rests (f ∷ []) None Any w.0 (m (es ++ f ∷ [])) = subst (λ c. Resumes (f ∷ []) None Any c (m (es ++ f ∷ []))) w.1 (resumes es (f ∷ [])) in
      let so : Begins (printed_by (m (es ++ f ∷ []))) w.0.printed =
      ⊎_elim (λ same. ([], ap printed_by same ∙ sym (append-nil w.0.printed))) (λ on. from_prints (longer (f ∷ []) w.0) (m (es ++ f ∷ [])) on.1 up) rests in
      subst (λ c. Begins (printed_by (m (es ++ f ∷ []))) (printed_by c)) (sym w.1) so

  pub least_begins : (es : List SeenEvent) → HasEatenUp (m es) → Begins (printed_by (m es)) (least_of m es)
  least_begins [] up = (printed_by (m []), refl)
  least_begins (e ∷ es) up =
      let l = last_of e es in
      subst (λ x. Begins (printed_by (m x)) (printed_by (m (but_last (e ∷ es))))) (sym l.1) (one_more l.0 (but_last (e ∷ es)) (subst (λ x. HasEatenUp (m x)) l.1 up))
