-- The code against the thread on events, in both directions.
use Rattle.std.proofs.Common.{ℕ, List, [], refl, sym, subst, arith, ⊎_elim, ◌≡◌, ◌≤◌, ◌∷◌, ◌++◌, ◌∙◌}
use Rattle.std.proofs.lemmas.Bool.{cases_lt}
use Rattle.txs_code_meaning.specs.ActorState.{ActorState}
use Rattle.txs_code_meaning.specs.Machine.{ThreadCode, Configuration, Ended, Failed, Asking, Unfinished, Stuck, Outcome, exec}
use Rattle.txs_theorem_threads.proofs.Account.{asked_waited, waited_eaten}
use Rattle.txs_theorem_threads.proofs.Longer.{longer}
use Rattle.txs_theorem_threads.proofs.Grows.{GrowsTo, Later, later}
use Rattle.txs_theorem_threads.proofs.Follow.{tree_follows}
use Rattle.txs_code_meaning.specs.Opening.{opening, target}
use Rattle.txs_theorem_threads.specs.Behaves.{source, IsMeant, HasEnded, outcome_of, IsOver, Behaves}
use Rattle.txs_theorem_threads.specs.RepliesFit.{Phase, Out, RepliesFit, halted, HasEaten, Agrees, HasEatenAll, Explained, Consumed}
use Rattle.txs_tree_meaning.specs.Meaning.{Completion, Completes, Recurs, Faults, Retries, Waits, OutOfTurns, Invalid}
use Rattle.txs_world_protocol.specs.SeenEvent.{SeenEvent}
use Rattle.txs_tree_meaning.specs.Thread.{ThreadState, thread_meaning}
use Rattle.txs_tree_meaning.specs.Sound.{SoundSource}
use Rattle.txs_tree_meaning.specs.Tree.{ThreadSource}
use Rattle.txs_value_cell.specs.declared.cell.CellDefinition.{CellDefinition}
use Rattle.txs_world_protocol.specs.Ask.{Exchange}
use Rattle.txs_value_data.specs.declared.value.Value.{Value}

-- a list that is nothing put before another leaves nothing
pub nothing_after : {A : Type 0} (xs ys : List A) → xs ++ ys ≡ [] → ys ≡ []
nothing_after [] ys e = e
nothing_after (x ∷ xs) ys e = absurd (subst (λ l. elim l as (λ m. Type 0) [ [] ↦ ⊥ | y ∷ m ↦ Unit {0} ]) e tt)

pub fits_nothing : (cells : List CellDefinition) (ph : Phase) (todo : List Exchange) (es : List SeenEvent) → todo ≡ [] → RepliesFit cells ph todo es → es ≡ []
fits_nothing cells ph todo es e f = subst (λ l. RepliesFit cells ph l es) e f

halted_all : (out : List ℕ) (r : Completion ThreadState Value) → HasEaten out (halted r) → HasEatenAll out r
halted_all out (Completes v t) h = absurd h
halted_all out (Recurs vs t) h = absurd h
halted_all out (Faults f t) h = absurd h
halted_all out (Retries t) h = absurd h
halted_all out (Waits t) h = h
halted_all out (OutOfTurns t) h = h
halted_all out Invalid h = absurd h

-- the tree's answer, with all exchanges consumed, as the thread's
agreed : (cells : List CellDefinition) (x : Completion ActorState Value) (r : Completion ThreadState Value) → IsMeant x → Agrees cells x r → (s : ActorState) → GrowsTo s (outcome_of x) → s.todo ≡ [] → (rest : List ℕ) × HasEatenAll (s.printed ++ rest) r
agreed cells (Completes v u) r t a s g e =
    let z = nothing_after g.done u.todo (sym g.eats ∙ e) in
    (g.more, subst (HasEatenAll (s.printed ++ g.more)) (sym a.1) (fits_nothing cells Out u.todo a.0.todo z a.3, a.2 ∙ g.prints))
agreed cells (Recurs vs u) r t a s g e = absurd t
agreed cells (Faults f u) r t a s g e =
    let z = nothing_after g.done u.todo (sym g.eats ∙ e) in
    (g.more, subst (HasEatenAll (s.printed ++ g.more)) (sym a.1) (fits_nothing cells a.3.0 u.todo a.0.todo z a.3.1, a.2 ∙ g.prints))
agreed cells (Retries u) r t a s g e = absurd t
agreed cells (Waits u) r t a s g e =
    let z = nothing_after g.done u.todo (sym g.eats ∙ e) in
    (g.more, subst (λ o. HasEatenAll o r) g.prints (halted_all u.printed r (waited_eaten u.printed (halted r) (asked_waited cells u.wants u.printed (halted r) (a z)))))
agreed cells (OutOfTurns u) r t a s g e =
    let z = nothing_after g.done u.todo (sym g.eats ∙ e) in
    (g.more, subst (λ o. HasEatenAll o r) g.prints (halted_all u.printed r (a z)))
agreed cells Invalid r t a s g e = absurd t

-- a run that goes on at m has, at m or later, grown to what it reaches
pub grown : (code : ThreadCode) (c : Configuration) (m k : ℕ) (s : ActorState) (o : Outcome) → m ≤ k → exec code m c ≡ Unfinished s → exec code k c ≡ o → GrowsTo s o
grown code c m k s o le e f = subst (GrowsTo s) f (subst (λ u. Later u (exec code k c)) e (later code m k le c))

-- what is over at j, where the machine goes on at m, comes after m
pub not_before : (code : ThreadCode) (c : Configuration) (m j : ℕ) (s : ActorState) (o : Outcome) → IsOver o → exec code m c ≡ Unfinished s → exec code j c ≡ o → m ≤ j
not_before code c m j s o over e f =
    ⊎_elim
    (λ lt. absurd (subst IsOver (sym (longer code j m (omega (arith, lt)) c o over f) ∙ e) over))
    (λ le. le)
    (cases_lt j m)

-- a run that goes on at m grows to what it ends in
pub grown_over : (code : ThreadCode) (c : Configuration) (m : ℕ) (s : ActorState) (o : Outcome) → IsOver o → exec code m c ≡ Unfinished s → (j : ℕ) × (exec code j c ≡ o) → GrowsTo s o
grown_over code c m s o over e r = grown code c m r.0 s o (not_before code c m r.0 s o over e r.1) e r.1

-- what grew from a state whose exchanges are consumed has consumed them
pub consumed_grown : (s : ActorState) (o : Outcome) → GrowsTo s o → s.todo ≡ [] → Consumed o
consumed_grown s (Ended u) g e = nothing_after g.done u.todo (sym g.eats ∙ e)
consumed_grown s (Failed f u) g e = nothing_after g.done u.todo (sym g.eats ∙ e)
consumed_grown s (Asking u) g e = nothing_after g.done u.todo (sym g.eats ∙ e)
consumed_grown s (Unfinished u) g e = nothing_after g.done u.todo (sym g.eats ∙ e)
consumed_grown s Stuck g e = tt

-- an outcome that is the tree's, with all exchanges consumed
pub over_explained : (cells : List CellDefinition) (x : Completion ActorState Value) (r : Completion ThreadState Value) → HasEnded x → Agrees cells x r → Consumed (outcome_of x) → Explained (outcome_of x) r
over_explained cells (Completes v s) r t a e = (v, a.0, a.1, fits_nothing cells Out s.todo a.0.todo e a.3, a.2)
over_explained cells (Recurs vs s) r t a e = absurd t
over_explained cells (Faults f s) r t a e = (a.0, a.1, fits_nothing cells a.3.0 s.todo a.0.todo e a.3.1, a.2)
over_explained cells (Retries s) r t a e = absurd t
over_explained cells (Waits s) r t a e = asked_waited cells s.wants s.printed (halted r) (a e)
over_explained cells (OutOfTurns s) r t a e = absurd t
over_explained cells Invalid r t a e = absurd t

-- a tree's answer that the machine ends with needs no turns
ended_of : (x : Completion ActorState Value) (o : Outcome) → IsMeant x → outcome_of x ≡ o → IsOver o → HasEnded x
ended_of (Completes v s) o t e over = tt
ended_of (Recurs vs s) o t e over = absurd t
ended_of (Faults f s) o t e over = tt
ended_of (Retries s) o t e over = absurd t
ended_of (Waits s) o t e over = tt
ended_of (OutOfTurns s) o t e over = subst IsOver (sym e) over
ended_of Invalid o t e over = absurd t

module _ (code : ThreadCode) (p : ThreadSource) (behaves : Behaves code p) (sound : SoundSource p) where
  pub ends : (todo : List Exchange) (m : ℕ) (x : Completion ActorState Value) → source p m todo ≡ x → HasEnded x → (j : ℕ) × (target code j todo ≡ outcome_of x)
  ends todo m x q t = subst (λ y. (j : ℕ) × (target code j todo ≡ outcome_of y)) q (behaves.follows todo m (subst HasEnded (sym q) t))

  pub grown_to : (todo : List Exchange) (m : ℕ) (s : ActorState) (x : Completion ActorState Value) → source p m todo ≡ x → IsMeant x → target code m todo ≡ Unfinished s → GrowsTo s (outcome_of x)
  grown_to todo m s (Completes v u) q t e = grown_over code (opening code todo) m s (Ended u) tt e (ends todo m (Completes v u) q tt)
  grown_to todo m s (Recurs vs u) q t e = absurd t
  grown_to todo m s (Faults f u) q t e = grown_over code (opening code todo) m s (Failed f u) tt e (ends todo m (Faults f u) q tt)
  grown_to todo m s (Retries u) q t e = absurd t
  grown_to todo m s (Waits u) q t e = grown_over code (opening code todo) m s (Asking u) tt e (ends todo m (Waits u) q tt)
  grown_to todo m s (OutOfTurns u) q t e =
      let r = behaves.goes_on todo m u q in
      grown code (opening code todo) m r.0 s (Unfinished u) r.1 e r.2
  grown_to todo m s Invalid q t e = absurd t

  over : (todo : List Exchange) (es : List SeenEvent) (m : ℕ) (o : Outcome) → target code m todo ≡ o → RepliesFit p.cells Out todo es → IsMeant (source p m todo) → Consumed o → IsOver o → Explained o (thread_meaning p m es)
  over todo es m o e f t c ov =
      let same = behaves.only todo m o ov e t in
      subst (λ u. Explained u (thread_meaning p m es)) same
      (over_explained p.cells (source p m todo) (thread_meaning p m es) (ended_of (source p m todo) o t same ov) (tree_follows p m todo es sound f) (subst Consumed (sym same) c))

  pub explained : (todo : List Exchange) (es : List SeenEvent) (m : ℕ) (o : Outcome) → target code m todo ≡ o → RepliesFit p.cells Out todo es → IsMeant (source p m todo) → Consumed o → Explained o (thread_meaning p m es)
  explained todo es m (Unfinished s) e f t c =
      agreed p.cells (source p m todo) (thread_meaning p m es) t (tree_follows p m todo es sound f) s (grown_to todo m s (source p m todo) refl t e) c
  explained todo es m (Ended s) e f t c = over todo es m (Ended s) e f t c tt
  explained todo es m (Failed x s) e f t c = over todo es m (Failed x s) e f t c tt
  explained todo es m (Asking s) e f t c = over todo es m (Asking s) e f t c tt
  explained todo es m Stuck e f t c = over todo es m Stuck e f t c tt
