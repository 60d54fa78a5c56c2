-- That each actor has ended, or was stopped, truly: what is found of it says so, both ways.
use Rattle.std.proofs.Common.{◌≡◌, ℕ, zero, suc, ◌+◌, ◌&&◌, ◌||◌, Bool, true, false, List, [], ◌∷◌, ◌++◌, length, Option, Some, None, refl, sym, ap, ◌∙◌, subst, arith, ⊎_elim}
use Rattle.std.specs.Prelude.{not, ◌-◌}
use Rattle.std.proofs.lemmas.Bool.{eqb-true, eq-eqb, false≢true, cases_lt}
use Rattle.txs_value_data.specs.Places.{nth}
use Rattle.txs_value_cell.specs.Agents.{agents_from}
use Rattle.txs_value_cell.specs.declared.action.Action.{Action}
use Rattle.txs_value_data.specs.declared.value.CellId.{CellId}
use Rattle.txs_world_protocol.specs.declared.event.Outcome.{Outcome}
use Rattle.txs_world_protocol.specs.declared.event.Outcome.TheVariants.{Done, Failed, StepsSpent, JournalFull, Memory}
use Rattle.txs_world_book.specs.Book.{is_there}
use Rattle.txs_world_book.specs.Served.{cells_of}
use Rattle.txs_world_book.specs.declared.cell.StoreCell.{StoreCell}
use Rattle.txs_world.specs.Store.{next_action}
use Rattle.txs_tree_meaning.proofs.Callable.{both}
use Rattle.txs_tree_meaning.specs.Tree.{PlainProgram}
use Rattle.txs_theorem_audit.specs.Audited.{PlainActorReport, PlainReport, PlainTerms, Fine}
use Rattle.txs_theorem_audit.specs.Explained.{TrueStop, EndsTruly}
use Rattle.txs_theorem_audit.specs.Verdict.{is_true_stop, thread_over, threads_over, agent_over, agents_over, ends_found}
use Rattle.txs_theorem_audit.proofs.Findings.{and_fine, check_fine, NotOff, and_not, check_not, and_true, none_there, not_there}
use Rattle.txs_theorem_audit.proofs.Listing.{there_is, within, in_front, behind}

-- ---- stops

stop_so : (limit : ℕ) (o : Option Outcome) (steps : ℕ) → is_true_stop limit o steps ≡ true → TrueStop limit o steps
stop_so limit None steps h = tt
stop_so limit (Some Done) steps h = tt
stop_so limit (Some (Failed f)) steps h = tt
stop_so limit (Some StepsSpent) steps h = eqb-true steps limit h
stop_so limit (Some JournalFull) steps h = tt
stop_so limit (Some Memory) steps h = tt

stop_true : (limit : ℕ) (o : Option Outcome) (steps : ℕ) → TrueStop limit o steps → is_true_stop limit o steps ≡ true
stop_true limit None steps h = refl
stop_true limit (Some Done) steps h = refl
stop_true limit (Some (Failed f)) steps h = refl
stop_true limit (Some StepsSpent) steps h = eq-eqb steps limit h
stop_true limit (Some JournalFull) steps h = refl
stop_true limit (Some Memory) steps h = refl

-- ---- ends

-- where a run was to finish a thread has ended
ended_so : (f : Bool) (o : Option Outcome) → (not f || is_there o) ≡ true → f ≡ true → o ≡ None → ⊥
ended_so f o h is none = false≢true (sym (ap (λ b. not b || is_there o) is ∙ ap is_there none) ∙ h)

ended_true : (f : Bool) (o : Option Outcome) → (f ≡ true → o ≡ None → ⊥) → (not f || is_there o) ≡ true
ended_true true None h = absurd (h refl refl)
ended_true true (Some x) h = refl
ended_true false o h = refl

-- an agent's actor has, or it has nothing to do
idle_so : (f : Bool) (o : Option Outcome) (x : Option Action) → (not f || (is_there o || not (is_there x))) ≡ true → f ≡ true → o ≡ None → x ≡ None
idle_so f o x h is none = none_there x (sym (ap (λ b. not b || (is_there o || not (is_there x))) is ∙ ap (λ y. is_there y || not (is_there x)) none) ∙ h)

idle_true : (f : Bool) (o : Option Outcome) (x : Option Action) → (f ≡ true → o ≡ None → x ≡ None) → (not f || (is_there o || not (is_there x))) ≡ true
idle_true true None x h = ap (λ y. not (is_there y)) (h refl refl)
idle_true true (Some y) x h = refl
idle_true false o x h = refl

module _ (w : PlainTerms) (r : PlainReport) where
  -- what is tested of a thread's end
  abbrev ThreadOver : PlainActorReport → Type 0
  ThreadOver ran = (w.finishes ≡ true → ran.outcome ≡ None → ⊥) × TrueStop w.limit ran.outcome ran.steps

  threads_so : (a : ℕ) (rans : List PlainActorReport) → threads_over w a rans ≡ Fine → (i : ℕ) (ran : PlainActorReport) → nth rans i ≡ Some ran → ThreadOver ran
  threads_so a [] h i ran there = not_there there
  threads_so a (x ∷ xs) h zero ran there =
      let same : x ≡ ran = cc in
      let one = not w.finishes || is_there x.outcome in
      let two = is_true_stop w.limit x.outcome x.steps in
      let y = both one two (check_fine (one && two) a (length x.trace) (and_fine (thread_over w a x) (threads_over w (suc a) xs) h).0) in
      subst ThreadOver same (ended_so w.finishes x.outcome y.0, stop_so w.limit x.outcome x.steps y.1)
  threads_so a (x ∷ xs) h (suc i) ran there = threads_so (suc a) xs (and_fine (thread_over w a x) (threads_over w (suc a) xs) h).1 i ran there

  threads_end : (a : ℕ) (rans : List PlainActorReport) → ((i : ℕ) (ran : PlainActorReport) → nth rans i ≡ Some ran → ThreadOver ran) → NotOff (threads_over w a rans)
  threads_end a [] h = tt
  threads_end a (x ∷ xs) h =
      let y = h 0 x refl in
      let one = not w.finishes || is_there x.outcome in
      let two = is_true_stop w.limit x.outcome x.steps in
      and_not (thread_over w a x) (threads_over w (suc a) xs)
      (check_not (one && two) a (length x.trace) (and_true one two (ended_true w.finishes x.outcome y.0) (stop_true w.limit x.outcome x.steps y.1))) (threads_end (suc a) xs (λ i ran there. h (suc i) ran there))

  module _ (cells : List StoreCell) where
    -- what is tested of the end of an agent's actor
    abbrev AgentOver : CellId → PlainActorReport → Type 0
    AgentOver g ran = (w.finishes ≡ true → ran.outcome ≡ None → next_action cells r.book g ≡ None) × TrueStop w.limit ran.outcome ran.steps

    agents_so : (a : ℕ) (gs : List CellId) (rans : List PlainActorReport) → agents_over w cells r.book a gs rans ≡ Fine
        → (i : ℕ) (g : CellId) (ran : PlainActorReport) → nth gs i ≡ Some g → nth rans i ≡ Some ran → AgentOver g ran
    agents_so a [] rans h i g ran there here = not_there there
    agents_so a (f ∷ fs) [] h i g ran there here = not_there here
    agents_so a (f ∷ fs) (x ∷ xs) h zero g ran there here =
        let same : x ≡ ran = cc in
        let its : f ≡ g = cc in
        let next = next_action cells r.book f in
        let one = not w.finishes || (is_there x.outcome || not (is_there next)) in
        let two = is_true_stop w.limit x.outcome x.steps in
        let y = both one two (check_fine (one && two) a (length x.trace) (and_fine (agent_over w cells r.book a f x) (agents_over w cells r.book (suc a) fs xs) h).0) in
        subst (λ (z : CellId). AgentOver z ran) its (subst (λ (z : PlainActorReport). AgentOver f z) same (idle_so w.finishes x.outcome next y.0, stop_so w.limit x.outcome x.steps y.1))
    agents_so a (f ∷ fs) (x ∷ xs) h (suc i) g ran there here =
        agents_so (suc a) fs xs (and_fine (agent_over w cells r.book a f x) (agents_over w cells r.book (suc a) fs xs) h).1 i g ran there here

    agents_end : (a : ℕ) (gs : List CellId) (rans : List PlainActorReport) → ((i : ℕ) (g : CellId) (ran : PlainActorReport) → nth gs i ≡ Some g → nth rans i ≡ Some ran → AgentOver g ran)
        → NotOff (agents_over w cells r.book a gs rans)
    agents_end a [] rans h = tt
    agents_end a (f ∷ fs) [] h = tt
    agents_end a (f ∷ fs) (x ∷ xs) h =
        let y = h 0 f x refl refl in
        let next = next_action cells r.book f in
        let one = not w.finishes || (is_there x.outcome || not (is_there next)) in
        let two = is_true_stop w.limit x.outcome x.steps in
        and_not (agent_over w cells r.book a f x) (agents_over w cells r.book (suc a) fs xs)
        (check_not (one && two) a (length x.trace) (and_true one two (idle_true w.finishes x.outcome next y.0) (stop_true w.limit x.outcome x.steps y.1)))
        (agents_end (suc a) fs xs (λ i g ran there here. h (suc i) g ran there here))

same_member : {A : Type 0} (x y : A) → Some x ≡ Some y → x ≡ y
same_member x y e = cc

-- where all ends are fine they are true
pub ends_truly : (p : PlainProgram) (w : PlainTerms) (r : PlainReport) → length r.agents ≡ length (agents_from 0 p.cells) → ends_found p w r ≡ Fine → EndsTruly p w r
ends_truly p w r many h =
    let cells = cells_of p.cells in
    let gs = agents_from 0 p.cells in
    let x = and_fine (threads_over w 0 r.threads) (agents_over w cells r.book (length p.threads) gs r.agents) h in
    let threads = threads_so w r 0 r.threads x.0 in
    let agents = agents_so w r cells (length p.threads) gs r.agents x.1 in
    record {
      threads = λ is a ran there. (threads a ran there).0 is;
      agents = λ is i g ran there here. (agents i g ran there here).0 is;
      stops = λ a ran there. ⊎_elim
          (λ lt.
          (let y = there_is r.threads a lt in
          let same : y.0 ≡ ran = same_member y.0 ran (sym (in_front r.threads r.agents a y.0 y.1) ∙ there) in
          subst (λ (z : PlainActorReport). TrueStop w.limit z.outcome z.steps) same (threads a y.0 y.1).1))
          (λ le.
          (let i = a - length r.threads in
          let z : a ≡ length r.threads + i = omega (arith, le) in
          let here : nth r.agents i ≡ Some ran = sym (ap (nth (r.threads ++ r.agents)) z ∙ behind r.threads r.agents i) ∙ there in
          let lt = within r.agents i ran here in
          let g = there_is gs i (omega (arith, lt, many)) in
          (agents i g.0 ran g.1 here).1))
          (cases_lt a (length r.threads));
    }

-- and where they are true none is off
pub ends_not_off : (p : PlainProgram) (w : PlainTerms) (r : PlainReport) → EndsTruly p w r → NotOff (ends_found p w r)
ends_not_off p w r h =
    let cells = cells_of p.cells in
    let gs = agents_from 0 p.cells in
    and_not (threads_over w 0 r.threads) (agents_over w cells r.book (length p.threads) gs r.agents)
    (threads_end w r 0 r.threads (λ i ran there. ((λ is. h.threads is i ran there), h.stops i ran (in_front r.threads r.agents i ran there))))
    (agents_end w r cells (length p.threads) gs r.agents (λ i g ran there here. ((λ is. h.agents is i g ran there here), h.stops (length r.threads + i) ran (behind r.threads r.agents i ∙ here))))
