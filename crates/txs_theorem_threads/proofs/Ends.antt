-- Where the thread's meaning ends on the events, the code ends so.
use Rattle.std.proofs.Common.{ℕ, List, [], Some, refl, sym, subst, arith, ⊎_elim, ◌≡◌, ◌≤◌, ◌+◌, ◌++◌, ◌∙◌}
use Rattle.std.proofs.lemmas.Bool.{cases_lt}
use Rattle.txs_code_meaning.specs.ActorState.{ActorState}
use Rattle.txs_code_meaning.specs.Machine.{ThreadCode, Configuration, Ended, Failed, Asking, Unfinished, Stuck, Outcome, exec}
use Rattle.txs_theorem_threads.proofs.Account.{asked_waited, waited_eaten}
use Rattle.txs_theorem_threads.proofs.Longer.{longer}
use Rattle.txs_theorem_threads.proofs.Fitted.{fits_of}
use Rattle.txs_theorem_threads.proofs.Loops.{loops_too}
use Rattle.txs_theorem_threads.proofs.MoreEvents.{settled_same, needs_before}
use Rattle.txs_theorem_threads.proofs.More.{more_turns}
use Rattle.txs_theorem_threads.proofs.Follow.{tree_follows}
use Rattle.txs_theorem_threads.proofs.Noting.{noted}
use Rattle.txs_theorem_threads.proofs.Whole.{explained, grown, ends, over_explained, consumed_grown}
use Rattle.txs_code_meaning.specs.Opening.{opening, target}
use Rattle.txs_theorem_threads.specs.Behaves.{source, IsMeant, HasEnded, outcome_of, IsOver, Behaves}
use Rattle.txs_theorem_threads.specs.EndsSo.{NeedsTurns, HasSettled, in_hand, EndsSo}
use Rattle.txs_theorem_threads.specs.Follows.{Follows, IsEverMeant}
use Rattle.txs_theorem_threads.specs.PrintsSo.{HasPrintedSo, PrintsSo}
use Rattle.txs_theorem_threads.specs.RepliesFit.{Phase, Out, RepliesFit, book_asked, HasWaitedFor, HasAsked, Agrees, Explained, Consumed, Halt, Going, Stopped, Short, Rerun, halted, HasEaten}
use Rattle.txs_theorem_threads.specs.RepliesFitTo.{RepliesFitTo}
use Rattle.txs_tree_meaning.specs.Meaning.{Completion, Completes, Recurs, Faults, Retries, Waits, OutOfTurns, Invalid}
use Rattle.txs_world_protocol.specs.SeenEvent.{SeenEvent}
use Rattle.txs_tree_meaning.specs.Thread.{ThreadState, thread_meaning}
use Rattle.txs_tree_meaning.specs.Sound.{SoundSource}
use Rattle.txs_tree_meaning.specs.Tree.{ThreadSource}
use Rattle.txs_value_cell.specs.Cells.{World}
use Rattle.txs_value_cell.specs.declared.cell.CellDefinition.{CellDefinition}
use Rattle.txs_world_protocol.specs.Ask.{Exchange}
use Rattle.txs_world_protocol.specs.declared.ask.Ask.{Ask}
use Rattle.txs_value_data.specs.declared.value.Value.{Value}

-- what has consumed all replies has done so later
pub consumed_later : (code : ThreadCode) (c : Configuration) (m j : ℕ) (a o : Outcome) → m ≤ j → exec code m c ≡ a → exec code j c ≡ o → Consumed a → Consumed o
consumed_later code c m j (Unfinished s) o le e f h = consumed_grown s o (grown code c m j s o le e f) h
consumed_later code c m j (Ended s) o le e f h = subst Consumed (sym (longer code m j le c (Ended s) tt e) ∙ f) h
consumed_later code c m j (Failed x s) o le e f h = subst Consumed (sym (longer code m j le c (Failed x s) tt e) ∙ f) h
consumed_later code c m j (Asking s) o le e f h = subst Consumed (sym (longer code m j le c (Asking s) tt e) ∙ f) h
consumed_later code c m j Stuck o le e f h = subst Consumed (sym (longer code m j le c Stuck tt e) ∙ f) h

-- what is over has consumed all replies where some run has
pub consumed_over : (code : ThreadCode) (c : Configuration) (m j : ℕ) (o : Outcome) → IsOver o → exec code j c ≡ o → Consumed (exec code m c) → Consumed o
consumed_over code c m j o over f h =
    ⊎_elim
    (λ lt. subst Consumed (longer code j m (omega (arith, lt)) c o over f) h)
    (λ le. consumed_later code c m j (exec code m c) o le refl f h)
    (cases_lt j m)

module _ (code : ThreadCode) (p : ThreadSource) (behaves : Behaves code p) (sound : SoundSource p) (todo : List Exchange) (es : List SeenEvent) (end : Phase) (Q : World) (m n k b : ℕ)
    (m_below : m ≤ b) (n_below : n ≤ b) (k_below : k ≤ b) (f : RepliesFitTo p.cells Out todo es end) (c : Consumed (target code m todo))
    (settled : HasSettled (thread_meaning p n es)) (enough : NeedsTurns (thread_meaning p k (es ++ in_hand p.cells Q end)) → ⊥) where
  over_so : (x : Completion ActorState Value) → source p b todo ≡ x → HasEnded x → IsOver (outcome_of x) → Agrees p.cells x (thread_meaning p n es) → (j : ℕ) × IsOver (target code j todo) × Explained (target code j todo) (thread_meaning p n es)
  over_so x q t over a =
      let r = ends code p behaves sound todo b x q t in
      let o = outcome_of x in
      (r.0, subst IsOver (sym r.1) over, subst (λ u. Explained u (thread_meaning p n es)) (sym r.1) (over_explained p.cells x (thread_meaning p n es) t a (consumed_over code (opening code todo) m r.0 o over r.1 c)))

  -- the tree has turns enough
  never_short : (s : ActorState) → source p b todo ≡ OutOfTurns s → ⊥
  never_short s q =
      let r = behaves.goes_on todo b s q in
      let none_left : s.todo ≡ [] = consumed_later code (opening code todo) m r.0 (target code m todo) (Unfinished s) (omega (arith, m_below, r.1)) refl r.2 c in
      enough (needs_before p sound (es ++ in_hand p.cells Q end) k b k_below (loops_too p b todo es end Q sound s f q none_left))

  ended_so : (x : Completion ActorState Value) → source p b todo ≡ x → IsMeant x → Agrees p.cells x (thread_meaning p n es) → (j : ℕ) × IsOver (target code j todo) × Explained (target code j todo) (thread_meaning p n es)
  ended_so (Completes v s) q t a = over_so (Completes v s) q tt tt a
  ended_so (Recurs vs s) q t a = absurd t
  ended_so (Faults g s) q t a = over_so (Faults g s) q tt tt a
  ended_so (Retries s) q t a = absurd t
  ended_so (Waits s) q t a = over_so (Waits s) q tt tt a
  ended_so (OutOfTurns s) q t a = absurd (never_short s q)
  ended_so Invalid q t a = absurd t

ends_so : (code : ThreadCode) (p : ThreadSource) → Behaves code p → SoundSource p → IsEverMeant p → EndsSo code p
ends_so code p behaves sound meant todo es end Q m n k f c settled enough =
    let b = m + (n + k) in
    let fit = fits_of p.cells Out todo es end f in
    ended_so code p behaves sound todo es end Q m n k b (omega arith) (omega arith) (omega arith) f c settled enough (source p b todo) refl (meant b todo es fit)
    (subst (λ y. Agrees p.cells (source p b todo) y) (settled_same p sound es n b (omega arith) settled) (tree_follows p b todo es sound fit))

-- ---- what is printed

-- what the thread printed, where it has eaten all, is determined
pub eaten_same : (one out : List ℕ) (h : Halt ThreadState) → HasEaten one h → HasEaten out h → one ≡ out
eaten_same one out Going a b = absurd a
eaten_same one out (Stopped t) a b = sym a.1 ∙ b.1
eaten_same one out (Short t) a b = sym a.1 ∙ b.1
eaten_same one out (Rerun t) a b = absurd a

module _ (code : ThreadCode) (p : ThreadSource) (behaves : Behaves code p) (sound : SoundSource p) (todo : List Exchange) (es : List SeenEvent) (m n : ℕ) (out : List ℕ)
    (c : Consumed (target code m todo)) (le : m ≤ n) (eaten : HasEaten out (halted (thread_meaning p n es))) where
  printed_so : (x : Completion ActorState Value) → source p n todo ≡ x → IsMeant x → Agrees p.cells x (thread_meaning p n es) → (j : ℕ) × (n ≤ j) × HasPrintedSo out (target code j todo)
  printed_so (Completes v s) q t a = absurd (subst (λ r. HasEaten out (halted r)) a.1 eaten)
  printed_so (Recurs vs s) q t a = absurd t
  printed_so (Faults g s) q t a = absurd (subst (λ r. HasEaten out (halted r)) a.1 eaten)
  printed_so (Retries s) q t a = absurd t
  printed_so (Waits s) q t a =
      let r = ends code p behaves sound todo n (Waits s) q tt in
      let none_left : s.todo ≡ [] = consumed_over code (opening code todo) m r.0 (Asking s) tt r.1 c in
      let there : target code (r.0 + n) todo ≡ Asking s = longer code r.0 (r.0 + n) (omega arith) (opening code todo) (Asking s) tt r.1 in
      (r.0 + n, omega arith, subst (HasPrintedSo out) (sym there) (none_left, eaten_same s.printed out (halted (thread_meaning p n es)) (waited_eaten s.printed (halted (thread_meaning p n es)) (asked_waited p.cells s.wants s.printed (halted (thread_meaning p n es)) (a none_left))) eaten))
  printed_so (OutOfTurns s) q t a =
      let r = behaves.goes_on todo n s q in
      let none_left : s.todo ≡ [] = consumed_later code (opening code todo) m r.0 (target code m todo) (Unfinished s) (omega (arith, le, r.1)) refl r.2 c in
      (r.0, r.1, subst (HasPrintedSo out) (sym r.2) (none_left, eaten_same s.printed out (halted (thread_meaning p n es)) (a none_left) eaten))
  printed_so Invalid q t a = absurd t

prints_so : (code : ThreadCode) (p : ThreadSource) → Behaves code p → SoundSource p → IsEverMeant p → PrintsSo code p
prints_so code p behaves sound meant todo es m n out f c le eaten =
    printed_so code p behaves sound todo es m n out c le eaten (source p n todo) refl (meant n todo es f) (tree_follows p n todo es sound f)

-- ---- what is asked

-- where it asks and has consumed all replies, this needs an event of the book that answers the ask
abbrev AsksSo : List CellDefinition → Completion ThreadState Value → Outcome → Type 0
AsksSo cells r (Ended s) = Unit {0}
AsksSo cells r (Failed f s) = Unit {0}
AsksSo cells r (Asking s) = s.todo ≡ [] → HasAsked cells s.wants s.printed (halted r)
AsksSo cells r (Unfinished s) = Unit {0}
AsksSo cells r Stuck = Unit {0}

asked_by : (cells : List CellDefinition) (x : Completion ActorState Value) (r : Completion ThreadState Value) → Agrees cells x r → AsksSo cells r (outcome_of x)
asked_by cells (Completes v s) r a = tt
asked_by cells (Recurs vs s) r a = tt
asked_by cells (Faults f s) r a = tt
asked_by cells (Retries s) r a = tt
asked_by cells (Waits s) r a = a
asked_by cells (OutOfTurns s) r a = tt
asked_by cells Invalid r a = tt

asks_so : (code : ThreadCode) (p : ThreadSource) → Behaves code p → SoundSource p → IsEverMeant p → (todo : List Exchange) (es : List SeenEvent) (m : ℕ) (s : ActorState) (q : Ask)
    → RepliesFit p.cells Out todo es → target code m todo ≡ Asking s → s.todo ≡ [] → s.wants ≡ Some q → HasWaitedFor (book_asked p.cells q) s.printed (halted (thread_meaning p m es))
asks_so code p behaves sound meant todo es m s q f e none wants =
    let r = thread_meaning p m es in
    let same = behaves.only todo m (Asking s) tt e (meant m todo es f) in
    subst (λ w. HasAsked p.cells w s.printed (halted r)) wants (subst (AsksSo p.cells r) same (asked_by p.cells (source p m todo) r (tree_follows p m todo es sound f)) none)

-- code that behaves as a thread's tree follows the thread, where no answer of the tree is invalid
pub behaves_follows : (code : ThreadCode) (p : ThreadSource) → Behaves code p → SoundSource p → IsEverMeant p → Follows code p
behaves_follows code p behaves sound meant = record {
  explained = λ todo es m f c. explained code p behaves sound todo es m (target code m todo) refl f (meant m todo es f) c;
  noted = λ todo es m f c. noted code p behaves sound todo es m (target code m todo) refl f (meant m todo es f) c;
  asks_so = asks_so code p behaves sound meant;
  reaches = λ todo es n k f t le. (behaves.follows todo n t, subst (λ x. Agrees p.cells x (thread_meaning p k es)) (more_turns p sound todo n k le t) (tree_follows p k todo es sound f));
  goes_on = behaves.goes_on;
  prints_so = prints_so code p behaves sound meant;
  ends_so = ends_so code p behaves sound meant;
}
