-- Code that does what actions mean on any replies follows each action that an agent runs.
use Rattle.std.proofs.Common.{ℕ, Bool, true, false, List, [], Option, Some, None, Result, Ok, Err, refl, sym, ap, subst, arith, ◌≡◌, ◌≤◌, ◌+◌, ◌∷◌, ◌++◌, ◌∙◌}
use Rattle.std.proofs.lemmas.Bool.{false≢true}
use Rattle.std.proofs.lemmas.List.{append_assoc, append-nil}
use Rattle.txs_world_protocol.proofs.AskLemmas.{same_ask-sound}
use Rattle.txs_world_protocol.specs.Ask.{Exchange, same_ask}
use Rattle.txs_world_protocol.specs.SeenEvent.{SeenEvent}
use Rattle.txs_world_protocol.specs.declared.ask.Ask.{Ask}
use Rattle.txs_world_protocol.specs.declared.ask.Ask.TheVariants.{Finish}
use Rattle.txs_value_apply.specs.Core.{core}
use Rattle.txs_value_cell.specs.Cells.{World}
use Rattle.txs_value_cell.specs.declared.action.Action.{Action}
use Rattle.txs_value_cell.specs.declared.cell.CellDefinition.{CellDefinition}
use Rattle.txs_value_data.specs.declared.fault.Fault.{Fault}
use Rattle.txs_value_data.specs.declared.fault.FaultKind.{FaultKind}
use Rattle.txs_value_data.specs.declared.fault.Span.{Span}
use Rattle.txs_value_data.specs.declared.op.Callee.TheVariants.{Core as CoreOp, Function}
use Rattle.txs_value_data.specs.declared.value.CellId.{CellId}
use Rattle.txs_value_data.specs.declared.value.Value.{Value}
use Rattle.txs_tree_meaning.specs.Known.{known}
use Rattle.txs_tree_meaning.specs.Meaning.{Completion, Completes, Recurs, Faults, Retries, Waits, OutOfTurns, Invalid, result_of}
use Rattle.txs_tree_meaning.specs.Pure.{nowhere}
use Rattle.txs_tree_meaning.specs.Sound.{SoundFunctions, SoundCells}
use Rattle.txs_tree_meaning.specs.Thread.{ThreadState, from_events, action_meaning}
use Rattle.txs_tree_meaning.specs.Tree.{PlainFunction}
use Rattle.txs_code_meaning.specs.ActorState.{ActorState, InHand, held_in}
use Rattle.txs_code_meaning.specs.Machine.{Library, ThreadCode, agent_code, Configuration, Ended, Failed, Asking, Unfinished, Stuck, Outcome, exec}
use Rattle.txs_theorem_threads.proofs.Account.{Account, IsBeside, begin_of, account_link, plain_splits, AskedBehind, EatenBehind, asked_on, asked_eaten_behind, asked_plain, waited_on, waited_eaten_behind}
use Rattle.txs_theorem_threads.proofs.Ends.{consumed_later, consumed_over}
use Rattle.txs_theorem_threads.proofs.Fitted.{if_belongs, fits_of}
use Rattle.txs_theorem_threads.proofs.Follow.{none_left}
use Rattle.txs_theorem_threads.proofs.Grows.{GrowsTo}
use Rattle.txs_theorem_threads.proofs.Longer.{longer}
use Rattle.txs_theorem_threads.proofs.Loops.{up_to, needs_turns}
use Rattle.txs_theorem_threads.proofs.Meant.{callee_proper}
use Rattle.txs_theorem_threads.proofs.MoreEvents.{settled_action, action_needs}
use Rattle.txs_theorem_threads.proofs.Noting.{noting, noted_so}
use Rattle.txs_theorem_threads.proofs.Related.{Related}
use Rattle.txs_theorem_threads.proofs.Sound.{action_meant}
use Rattle.txs_theorem_threads.proofs.Threads.{action_related}
use Rattle.txs_theorem_threads.proofs.Whole.{nothing_after, grown, grown_over}
use Rattle.txs_theorem_threads.proofs.Worlds.{WantsOwn, asked_of}
use Rattle.txs_theorem_threads.specs.ActionsBehave.{action_source, handed, IsUnanswered, AsksWith, EndsAs, ActionBehaves, SoundFollowsAgents}
use Rattle.txs_theorem_threads.specs.Behaves.{IsMeant, IsProper, HasEnded, IsOver, outcome_of}
use Rattle.txs_theorem_threads.specs.EndsSo.{NeedsTurns, HasSettled, in_hand}
use Rattle.txs_theorem_threads.specs.Follows.{PureIsMeant}
use Rattle.txs_theorem_threads.specs.FollowsAgent.{SoundAction, IsBetween, taken_at, IsHandedIn, MeansAsked, PrintedBehind, ActionExplained, IsAsking}
use Rattle.txs_theorem_threads.specs.Noted.{AreNoted, txs_of}
use Rattle.txs_theorem_threads.specs.PrintsSo.{HasPrintedSo}
use Rattle.txs_theorem_threads.specs.RepliesFit.{Phase, Out, In, Viewed, WithSwap, belongs, PhaseFits, Halt, Going, Stopped, Short, Rerun, book_asked, halted, HasEaten, HasEatenAll, Consumed}
use Rattle.txs_theorem_threads.specs.RepliesFitTo.{RepliesFitTo}

-- ---- pure callees have an answer

operation_proper : (r : Result Value FaultKind) (span : Span) → IsProper (result_of r span tt)
operation_proper (Ok v) span = tt
operation_proper (Err e) span = tt

-- so does any pure callee on as many values as it takes
pub pure_meant : PureIsMeant
pure_meant functions n (CoreOp op) vs sound h = operation_proper (core op vs) nowhere
pure_meant functions n (Function f) vs sound h = callee_proper functions sound n nowhere (Function f) vs h

-- ---- lists

abbrev rest_of : List ℕ → List ℕ
rest_of [] = []
rest_of (x ∷ xs) = xs

-- what comes behind the same is the same
same_behind : (xs ys zs : List ℕ) → xs ++ ys ≡ xs ++ zs → ys ≡ zs
same_behind [] ys zs e = e
same_behind (x ∷ xs) ys zs e = same_behind xs ys zs (ap rest_of e)

-- ---- no exchange of an action hands it in

no_phase : (ph : Phase) (g : CellId) (new : Result Value Fault) (sends : List Action) → belongs ph (Finish g new sends) ≡ true → ⊥
no_phase Out g new sends e = false≢true e
no_phase (In R) g new sends e = false≢true e
no_phase (Viewed R Q) g new sends e = false≢true e
no_phase (WithSwap c W) g new sends e = false≢true e

no_finish : (cells : List CellDefinition) (ph : Phase) (xs : List Exchange) (es : List SeenEvent) (end : Phase) → RepliesFitTo cells ph xs es end → (g : CellId) (new : Result Value Fault) (sends : List Action) → IsUnanswered (Finish g new sends) xs
no_finish cells ph [] es end f g new sends = tt
no_finish cells ph (x ∷ xs) es end f g new sends = by (same_ask (Finish g new sends) x.ask) refl
  where
    by : (b : Bool) → same_ask (Finish g new sends) x.ask ≡ b → same_ask (Finish g new sends) x.ask ≡ false
    by false e = e
    by true e = absurd (no_phase ph g new sends (subst (λ q. belongs ph q ≡ true) (sym (same_ask-sound (Finish g new sends) x.ask e)) f.0))

-- ---- an action's tree and what the action means

none_left_to : (cells : List CellDefinition) (ph : Phase) (xs : List Exchange) (es : List SeenEvent) (end : Phase) → RepliesFitTo cells ph xs es end → xs ≡ [] → es ++ [] ≡ []
none_left_to cells ph xs es end f e = none_left cells ph xs es (fits_of cells ph xs es end f) e

-- the events are those of the exchanges, up to a phase
abbrev fitting : (cells : List CellDefinition) → List ℕ → Phase → Account cells
fitting cells before end = record {
  before = before;
  from = Some [];
  fits = λ txs ph xs es. RepliesFitTo cells ph xs es end;
  splits = plain_splits cells (Some []) (λ ph xs es. RepliesFitTo cells ph xs es end) (λ ph x xs es h. if_belongs (belongs ph x.ask) (PhaseFits cells ph x.ask x.reply (λ ph1 es1. RepliesFitTo cells ph1 xs es1 end) es) h.1);
  tail = [];
  waits = λ s o. WantsOwn s.wants × (s.todo ≡ [] → AskedBehind (asked_of cells s.wants) before s.printed o);
  short = λ s o. s.todo ≡ [] → EatenBehind before s.printed o;
  waits_loose = λ s h o. (h.0, λ e. absurd (h.1 e));
  short_loose = λ s h o e. absurd (h e);
  short_here = λ s t es f td pr e. (td ∙ none_left_to cells Out s.todo es end f e, pr);
  waiting = λ txs ph s es y own f h. (
    own,
    λ e.
        subst (λ l. AskedBehind (asked_of cells s.wants) before s.printed (halted (y l))) (sym (none_left_to cells ph s.todo es end f e))
        (asked_on (asked_of cells s.wants) before s.printed txs (halted (y [])) h),
  );
  shortage = λ txs ph s es y f h ends e.
      subst (λ l. EatenBehind before s.printed (halted (y l))) (sym (none_left_to cells ph s.todo es end f e)) (waited_eaten_behind before s.printed (halted (y [])) (waited_on before s.printed txs (halted (y [])) h));
}

-- The tree's end on replies and the action's on events, where these bytes were printed before: the same value or fault, with the same sends held,
-- and what is left fits; and what needs events or turns has eaten all.
abbrev AgreesTo : List CellDefinition → List ℕ → Phase → Completion ActorState Value → Completion ThreadState Value → Type 0
AgreesTo cells before end (Completes v s) r = (t : ThreadState) × (r ≡ Completes v t) × IsBeside before (Some []) s t × RepliesFitTo cells Out s.todo t.todo end
AgreesTo cells before end (Recurs vs s) r = Unit {0}
AgreesTo cells before end (Faults f s) r = (t : ThreadState) × (r ≡ Faults f t) × (before ++ t.printed ≡ s.printed) × (ph : Phase) × RepliesFitTo cells ph s.todo t.todo end
AgreesTo cells before end (Retries s) r = Unit {0}
AgreesTo cells before end (Waits s) r = WantsOwn s.wants × (s.todo ≡ [] → AskedBehind (asked_of cells s.wants) before s.printed (halted r))
AgreesTo cells before end (OutOfTurns s) r = s.todo ≡ [] → EatenBehind before s.printed (halted r)
AgreesTo cells before end Invalid r = Unit {0}

left_to : (cells : List CellDefinition) (ph end : Phase) (xs : List Exchange) (ls es : List SeenEvent) → ls ≡ es ++ [] → RepliesFitTo cells ph xs es end → RepliesFitTo cells ph xs ls end
left_to cells ph end xs ls es e f = subst (λ l. RepliesFitTo cells ph xs l end) (sym (e ∙ append-nil es)) f

agrees_to : (cells : List CellDefinition) (before : List ℕ) (end : Phase) (x : Completion ActorState Value) (y : Completion ThreadState Value) → Related (account_link cells (fitting cells before end)) x y → AgreesTo cells before end x y
agrees_to cells before end (Completes v s) (Completes w t) h = (t, ap (λ u. Completes u t) (sym h.0), h.1.0, left_to cells Out end s.todo t.todo h.1.1 h.1.2 h.1.3)
agrees_to cells before end (Completes v s) _ h = absurd h
agrees_to cells before end (Recurs vs s) y h = tt
agrees_to cells before end (Faults f s) (Faults g t) h = (t, ap (λ u. Faults u t) (sym h.0), h.1.0, h.1.1, left_to cells h.1.1 end s.todo t.todo h.1.2 h.1.3 h.1.4)
agrees_to cells before end (Faults f s) _ h = absurd h
agrees_to cells before end (Retries s) y h = tt
agrees_to cells before end (Waits s) y h = h
agrees_to cells before end (OutOfTurns s) y h = h
agrees_to cells before end Invalid y h = tt

-- ---- what is asked at the end

asked_over : (q : Ask) (left : List Exchange) (out : List ℕ) (o : Outcome) → AsksWith q left out o → IsOver o
asked_over q left out (Ended s) h = absurd h
asked_over q left out (Failed f s) h = absurd h
asked_over q left out (Asking s) h = tt
asked_over q left out (Unfinished s) h = absurd h
asked_over q left out Stuck h = absurd h

asked_asks : (q : Ask) (left : List Exchange) (out : List ℕ) (o : Outcome) → AsksWith q left out o → IsAsking o
asked_asks q left out (Ended s) h = absurd h
asked_asks q left out (Failed f s) h = absurd h
asked_asks q left out (Asking s) h = tt
asked_asks q left out (Unfinished s) h = absurd h
asked_asks q left out Stuck h = absurd h

-- where all exchanges are consumed, none is left
asked_none : (q : Ask) (left : List Exchange) (out : List ℕ) (o : Outcome) → AsksWith q left out o → Consumed o → left ≡ []
asked_none q left out (Ended s) h c = absurd h
asked_none q left out (Failed f s) h c = absurd h
asked_none q left out (Asking s) h c = sym h.0 ∙ c
asked_none q left out (Unfinished s) h c = absurd h
asked_none q left out Stuck h c = absurd h

-- what grew to it, once all were consumed, leaves none, and printed a part
asked_grown : (q : Ask) (left : List Exchange) (out : List ℕ) (o : Outcome) (s : ActorState) → AsksWith q left out o → GrowsTo s o → s.todo ≡ [] → (left ≡ []) × (rest : List ℕ) × (out ≡ s.printed ++ rest)
asked_grown q left out (Ended u) s h g e = absurd h
asked_grown q left out (Failed f u) s h g e = absurd h
asked_grown q left out (Asking u) s h g e = (sym h.0 ∙ nothing_after g.done u.todo (sym g.eats ∙ e), g.more, sym h.2 ∙ g.prints)
asked_grown q left out (Unfinished u) s h g e = absurd h
asked_grown q left out Stuck s h g e = absurd h

-- an action's value has the sends that it holds
some_held : (o : Option InHand) (held : Option (List Action)) → held_in o ≡ held → begin_of held ≡ Some [] → held ≡ Some (handed o)
some_held (Some h) held e f = sym e
some_held None held e f = absurd (subst IsThere (ap begin_of e ∙ f) tt)
  where
    IsThere : Option (List Action) → Type 0
    IsThere None = Unit {0}
    IsThere (Some l) = ⊥

-- what was printed behind some bytes
asked_out : (book : Option ℕ) (before whole : List ℕ) (h : Halt ThreadState) → AskedBehind book before whole h → (out : List ℕ) × (whole ≡ before ++ out) × AskedBehind book [] out h
asked_out book before whole Going h = absurd h
asked_out book before whole (Stopped t) h = (t.printed, sym h.2, (h.0, h.1, refl))
asked_out book before whole (Short t) h = absurd h
asked_out book before whole (Rerun t) h = absurd h

printed_same : (before whole out : List ℕ) (h : Halt ThreadState) → EatenBehind before whole h → HasEaten out h → whole ≡ before ++ out
printed_same before whole out Going a b = absurd a
printed_same before whole out (Stopped t) a b = sym a.1 ∙ ap (λ l. before ++ l) b.1
printed_same before whole out (Short t) a b = sym a.1 ∙ ap (λ l. before ++ l) b.1
printed_same before whole out (Rerun t) a b = absurd a

eaten_all : (before whole out : List ℕ) (r : Completion ThreadState Value) → whole ≡ before ++ out → EatenBehind before whole (halted r) → HasEatenAll out r
eaten_all before whole out (Completes v t) e h = absurd h
eaten_all before whole out (Recurs vs t) e h = absurd h
eaten_all before whole out (Faults f t) e h = absurd h
eaten_all before whole out (Retries t) e h = absurd h
eaten_all before whole out (Waits t) e h = (h.0, same_behind before t.printed out (h.1 ∙ e))
eaten_all before whole out (OutOfTurns t) e h = (h.0, same_behind before t.printed out (h.1 ∙ e))
eaten_all before whole out Invalid e h = absurd h

own_means : (cells : List CellDefinition) (g : CellId) (wants : Option Ask) (out : List ℕ) (r : Completion ThreadState Value) → WantsOwn wants → AskedBehind (asked_of cells wants) [] out (halted r) → MeansAsked cells g wants out r
own_means cells g None out r own h = absurd own
own_means cells g (Some (Finish k new sends)) out r own h = absurd own
own_means cells g (Some q) out r own h = asked_plain (book_asked cells q) out (halted r) h

-- ---- where the machine is over

module _ (cells : List CellDefinition) (g : CellId) (before : List ℕ) (end : Phase) (r : Completion ThreadState Value) where
  gave : (v : Value) (u : ActorState) (o : Outcome) → (a : AgreesTo cells before end (Completes v u) r) → AsksWith (Finish g (Ok v) (handed u.acting)) u.todo u.printed o → Consumed o → ActionExplained cells g before o r
  gave v u (Ended s) a k c = absurd k
  gave v u (Failed f s) a k c = absurd k
  gave v u (Asking s) a k c =
      let t : ThreadState = a.0 in
      let rest : RepliesFitTo cells Out [] t.todo end = subst (λ l. RepliesFitTo cells Out l t.todo end) (sym k.0 ∙ c) a.3 in
      let in_hand_now : IsHandedIn (Ok v) (handed u.acting) t.printed r = (t, a.1, rest.0, refl, some_held u.acting t.held a.2.1 a.2.2) in
      (t.printed, k.2 ∙ sym a.2.0, subst (λ w. MeansAsked cells g w t.printed r) (sym k.1) (refl, in_hand_now))
  gave v u (Unfinished s) a k c = absurd k
  gave v u Stuck a k c = absurd k

  faulted : (f : Fault) (u : ActorState) (o : Outcome) → (a : AgreesTo cells before end (Faults f u) r) → AsksWith (Finish g (Err f) []) u.todo u.printed o → Consumed o → ActionExplained cells g before o r
  faulted f u (Ended s) a k c = absurd k
  faulted f u (Failed y s) a k c = absurd k
  faulted f u (Asking s) a k c =
      let t : ThreadState = a.0 in
      let rest : RepliesFitTo cells a.3 [] t.todo end = subst (λ l. RepliesFitTo cells a.3 l t.todo end) (sym k.0 ∙ c) a.4 in
      let in_hand_now : IsHandedIn (Err f) [] t.printed r = (t, a.1, rest.0, refl, refl) in
      (t.printed, k.2 ∙ sym a.2, subst (λ w. MeansAsked cells g w t.printed r) (sym k.1) (refl, in_hand_now))
  faulted f u (Unfinished s) a k c = absurd k
  faulted f u Stuck a k c = absurd k

  waited : (u : ActorState) → AgreesTo cells before end (Waits u) r → u.todo ≡ [] → ActionExplained cells g before (Asking u) r
  waited u a e =
      let w = asked_out (asked_of cells u.wants) before u.printed (halted r) (a.1 e) in
      (w.0, w.1, own_means cells g u.wants w.0 r a.0 w.2)

  over_explained : (x : Completion ActorState Value) (o : Outcome) → IsMeant x → IsOver o → EndsAs g x o → Consumed o → AgreesTo cells before end x r → ActionExplained cells g before o r
  over_explained (Completes v u) o m over h c a = gave v u o a (h (no_finish cells Out u.todo a.0.todo end a.3 g (Ok v) (handed u.acting))) c
  over_explained (Recurs vs u) o m over h c a = absurd m
  over_explained (Faults f u) o m over h c a = faulted f u o a (h (no_finish cells a.3 u.todo a.0.todo end a.4 g (Err f) [])) c
  over_explained (Retries u) o m over h c a = absurd m
  over_explained (Waits u) o m over h c a = subst (λ z. ActionExplained cells g before z r) (sym h) (waited u a (subst Consumed h c))
  over_explained (OutOfTurns u) o m over h c a = absurd (subst IsOver h over)
  over_explained Invalid o m over h c a = absurd m

-- ---- an action on exchanges that fit its events

module _ (code : Library) (cells : List CellDefinition) (functions : List PlainFunction) (sound : SoundFunctions [] functions) (valid : SoundCells (known functions) cells) (g : CellId) (a : Action) (sent : SoundAction functions a)
    (behaves : ActionBehaves code cells functions g a) (v : Value) (s : ActorState) (between : IsBetween s) (todo : List Exchange) (es : List SeenEvent) (end : Phase) (fits : RepliesFitTo cells Out todo es end) where
  abbrev acts : ThreadCode
  acts = agent_code code g

  abbrev start : Configuration
  start = taken_at g a v s todo

  -- the tree on the replies, and what it means on their events, for a bound on loops; and the machine after so many turns
  abbrev tree : ℕ → Completion ActorState Value
  tree n = action_source cells functions g a v s n todo

  abbrev means : ℕ → Completion ThreadState Value
  means n = action_meaning cells functions n a v es

  abbrev comes : ℕ → Outcome
  comes m = exec acts m start

  begins : (l : List SeenEvent) → IsBeside s.printed (Some []) start.state (from_events (Some []) l)
  begins l = (append-nil s.printed, refl, refl)

  agreed : (n : ℕ) → AgreesTo cells s.printed end (tree n) (means n)
  agreed n =
      subst (λ l. AgreesTo cells s.printed end (tree n) (action_meaning cells functions n a v l)) (append-nil es)
      (agrees_to cells s.printed end (tree n) (action_meaning cells functions n a v (es ++ []))
      (action_related cells functions sound valid (fitting cells s.printed end) n g a v s todo es sent (begins (es ++ []), es, refl, fits)))

  meant : (n : ℕ) → IsMeant (tree n)
  meant n = action_meant cells functions sound valid g a sent v s n todo es (fits_of cells Out todo es end fits)

  -- where the tree has ended
  ends : (n : ℕ) (x : Completion ActorState Value) → tree n ≡ x → HasEnded x → (j : ℕ) × EndsAs g x (comes j)
  ends n x q h = subst (λ y. (j : ℕ) × EndsAs g y (comes j)) q (behaves.follows v s todo n between (subst HasEnded (sym q) h))

  -- and what the machine is over with
  only : (m : ℕ) (o : Outcome) → comes m ≡ o → IsOver o → EndsAs g (tree m) o
  only m o e over = subst (λ z. EndsAs g (tree m) z) e (behaves.only v s todo m between (subst IsOver (sym e) over) (meant m))

  -- a value is handed in, and so is a fault
  gives : (n : ℕ) (w : Value) (u : ActorState) → tree n ≡ Completes w u → AgreesTo cells s.printed end (Completes w u) (means n) → (j : ℕ) × AsksWith (Finish g (Ok w) (handed u.acting)) u.todo u.printed (comes j)
  gives n w u q b = let r = ends n (Completes w u) q tt in (r.0, r.1 (no_finish cells Out u.todo b.0.todo end b.3 g (Ok w) (handed u.acting)))

  breaks : (n : ℕ) (f : Fault) (u : ActorState) → tree n ≡ Faults f u → AgreesTo cells s.printed end (Faults f u) (means n) → (j : ℕ) × AsksWith (Finish g (Err f) []) u.todo u.printed (comes j)
  breaks n f u q b = let r = ends n (Faults f u) q tt in (r.0, r.1 (no_finish cells b.3 u.todo b.0.todo end b.4 g (Err f) []))

  -- ---- the machine runs, and has consumed all exchanges

  module _ (m : ℕ) (s1 : ActorState) (e : comes m ≡ Unfinished s1) (c : s1.todo ≡ []) where
    -- what the machine comes to grows from here
    to_asked : (q : Ask) (left : List Exchange) (out : List ℕ) (j : ℕ) → AsksWith q left out (comes j) → (left ≡ []) × (rest : List ℕ) × (out ≡ s1.printed ++ rest)
    to_asked q left out j k = asked_grown q left out (comes j) s1 k (grown_over acts start m s1 (comes j) (asked_over q left out (comes j) k) e (j, refl)) c

    to_waiting : (u : ActorState) → tree m ≡ Waits u → GrowsTo s1 (Asking u)
    to_waiting u q = let r = ends m (Waits u) q tt in grown_over acts start m s1 (Asking u) tt e (r.0, r.1)

    to_running : (u : ActorState) → tree m ≡ OutOfTurns u → GrowsTo s1 (Unfinished u)
    to_running u q = let r = behaves.goes_on v s todo m u between q in grown acts start m r.0 s1 (Unfinished u) r.1 e r.2

    -- what was printed so far
    so_far : (out : List ℕ) × (s1.printed ≡ s.printed ++ out)
    so_far = let b : GrowsTo start.state (Unfinished s1) = grown acts start 0 m start.state (Unfinished s1) (omega arith) refl e in (b.more, b.prints)

    -- and behind it
    further : (out rest : List ℕ) → out ≡ s1.printed ++ rest → out ≡ s.printed ++ (so_far.0 ++ rest)
    further out rest k = k ∙ ap (λ l. l ++ rest) so_far.1 ∙ append_assoc s.printed so_far.0 rest

    abbrev EatsAll : Completion ThreadState Value → Type 0
    EatsAll r = PrintedBehind s.printed s1.printed (λ out. (rest : List ℕ) × HasEatenAll (out ++ rest) r)

    runs_so : (x : Completion ActorState Value) → tree m ≡ x → IsMeant x → AgreesTo cells s.printed end x (means m) → EatsAll (means m)
    runs_so (Completes w u) q k b =
        let r = gives m w u q b in
        let t : ThreadState = b.0 in
        let l = to_asked (Finish g (Ok w) (handed u.acting)) u.todo u.printed r.0 r.1 in
        let none : RepliesFitTo cells Out [] t.todo end = subst (λ y. RepliesFitTo cells Out y t.todo end) l.0 b.3 in
        let told : HasEatenAll (so_far.0 ++ l.1) (Completes w t) = (none.0, same_behind s.printed t.printed (so_far.0 ++ l.1) (b.2.0 ∙ further u.printed l.1 l.2)) in
        (so_far.0, so_far.1, (l.1, subst (HasEatenAll (so_far.0 ++ l.1)) (sym b.1) told))
    runs_so (Recurs vs u) q k b = absurd k
    runs_so (Faults f u) q k b =
        let r = breaks m f u q b in
        let t : ThreadState = b.0 in
        let l = to_asked (Finish g (Err f) []) u.todo u.printed r.0 r.1 in
        let none : RepliesFitTo cells b.3 [] t.todo end = subst (λ y. RepliesFitTo cells b.3 y t.todo end) l.0 b.4 in
        let told : HasEatenAll (so_far.0 ++ l.1) (Faults f t) = (none.0, same_behind s.printed t.printed (so_far.0 ++ l.1) (b.2 ∙ further u.printed l.1 l.2)) in
        (so_far.0, so_far.1, (l.1, subst (HasEatenAll (so_far.0 ++ l.1)) (sym b.1) told))
    runs_so (Retries u) q k b = absurd k
    runs_so (Waits u) q k b =
        let l = to_waiting u q in
        let none = nothing_after l.done u.todo (sym l.eats ∙ c) in
        (so_far.0, so_far.1, (l.more, eaten_all s.printed u.printed (so_far.0 ++ l.more) (means m) (further u.printed l.more l.prints) (asked_eaten_behind (asked_of cells u.wants) s.printed u.printed (halted (means m)) (b.1 none))))
    runs_so (OutOfTurns u) q k b =
        let l = to_running u q in
        let none = nothing_after l.done u.todo (sym l.eats ∙ c) in
        (so_far.0, so_far.1, (l.more, eaten_all s.printed u.printed (so_far.0 ++ l.more) (means m) (further u.printed l.more l.prints) (b none)))
    runs_so Invalid q k b = absurd k

    -- the tree has consumed all exchanges, too
    tree_consumed : (x : Completion ActorState Value) → tree m ≡ x → IsMeant x → AgreesTo cells s.printed end x (means m) → Consumed (outcome_of x)
    tree_consumed (Completes w u) q k b = let r = gives m w u q b in (to_asked (Finish g (Ok w) (handed u.acting)) u.todo u.printed r.0 r.1).0
    tree_consumed (Recurs vs u) q k b = absurd k
    tree_consumed (Faults f u) q k b = let r = breaks m f u q b in (to_asked (Finish g (Err f) []) u.todo u.printed r.0 r.1).0
    tree_consumed (Retries u) q k b = absurd k
    tree_consumed (Waits u) q k b = let l = to_waiting u q in nothing_after l.done u.todo (sym l.eats ∙ c)
    tree_consumed (OutOfTurns u) q k b = let l = to_running u q in nothing_after l.done u.todo (sym l.eats ∙ c)
    tree_consumed Invalid q k b = absurd k

  -- ---- what is explained

  explained_at : (m : ℕ) (o : Outcome) → comes m ≡ o → Consumed o → ActionExplained cells g s.printed o (means m)
  explained_at m (Unfinished s1) e c = runs_so m s1 e c (tree m) refl (meant m) (agreed m)
  explained_at m (Ended s1) e c = over_explained cells g s.printed end (means m) (tree m) (Ended s1) (meant m) tt (only m (Ended s1) e tt) c (agreed m)
  explained_at m (Failed f s1) e c = over_explained cells g s.printed end (means m) (tree m) (Failed f s1) (meant m) tt (only m (Failed f s1) e tt) c (agreed m)
  explained_at m (Asking s1) e c = over_explained cells g s.printed end (means m) (tree m) (Asking s1) (meant m) tt (only m (Asking s1) e tt) c (agreed m)
  explained_at m Stuck e c = over_explained cells g s.printed end (means m) (tree m) Stuck (meant m) tt (only m Stuck e tt) c (agreed m)

  -- ---- the transactions

  over_consumed : (m : ℕ) (o : Outcome) (x : Completion ActorState Value) → IsMeant x → IsOver o → EndsAs g x o → Consumed o → AgreesTo cells s.printed end x (means m) → Consumed (outcome_of x)
  over_consumed m o (Completes w u) k over h c b = asked_none (Finish g (Ok w) (handed u.acting)) u.todo u.printed o (h (no_finish cells Out u.todo b.0.todo end b.3 g (Ok w) (handed u.acting))) c
  over_consumed m o (Recurs vs u) k over h c b = absurd k
  over_consumed m o (Faults f u) k over h c b = asked_none (Finish g (Err f) []) u.todo u.printed o (h (no_finish cells b.3 u.todo b.0.todo end b.4 g (Err f) [])) c
  over_consumed m o (Retries u) k over h c b = absurd k
  over_consumed m o (Waits u) k over h c b = subst Consumed h c
  over_consumed m o (OutOfTurns u) k over h c b = absurd (subst IsOver h over)
  over_consumed m o Invalid k over h c b = absurd k

  consumed_too : (m : ℕ) (o : Outcome) → comes m ≡ o → Consumed o → Consumed (outcome_of (tree m))
  consumed_too m (Unfinished s1) e c = tree_consumed m s1 e c (tree m) refl (meant m) (agreed m)
  consumed_too m (Ended s1) e c = over_consumed m (Ended s1) (tree m) (meant m) tt (only m (Ended s1) e tt) c (agreed m)
  consumed_too m (Failed f s1) e c = over_consumed m (Failed f s1) (tree m) (meant m) tt (only m (Failed f s1) e tt) c (agreed m)
  consumed_too m (Asking s1) e c = over_consumed m (Asking s1) (tree m) (meant m) tt (only m (Asking s1) e tt) c (agreed m)
  consumed_too m Stuck e c = over_consumed m Stuck (tree m) (meant m) tt (only m Stuck e tt) c (agreed m)

  noted_at : (m : ℕ) → Consumed (comes m) → AreNoted (Some []) todo (txs_of (means m))
  noted_at m c =
      subst (λ l. AreNoted (Some []) todo (txs_of (action_meaning cells functions m a v l))) (append-nil es)
      (noted_so cells s.printed (Some []) todo (tree m) (action_meaning cells functions m a v (es ++ []))
      (action_related cells functions sound valid (noting cells s.printed (Some []) todo) m g a v s todo es sent (begins (es ++ []), es, refl, (fits_of cells Out todo es end fits, ([], refl, tt)))) (meant m) (consumed_too m (comes m) refl c))

  -- ---- what is printed

  module _ (m n : ℕ) (out : List ℕ) (c : Consumed (comes m)) (le : m ≤ n) (eaten : HasEaten out (halted (means n))) where
    prints_at : (x : Completion ActorState Value) → tree n ≡ x → IsMeant x → AgreesTo cells s.printed end x (means n) → (j : ℕ) × (n ≤ j) × HasPrintedSo (s.printed ++ out) (comes j)
    prints_at (Completes w u) q k b = absurd (subst (λ r. HasEaten out (halted r)) b.1 eaten)
    prints_at (Recurs vs u) q k b = absurd k
    prints_at (Faults f u) q k b = absurd (subst (λ r. HasEaten out (halted r)) b.1 eaten)
    prints_at (Retries u) q k b = absurd k
    prints_at (Waits u) q k b =
        let r = ends n (Waits u) q tt in
        let none : u.todo ≡ [] = consumed_over acts start m r.0 (Asking u) tt r.1 c in
        let there : comes (r.0 + n) ≡ Asking u = longer acts r.0 (r.0 + n) (omega arith) start (Asking u) tt r.1 in
        let same = printed_same s.printed u.printed out (halted (means n)) (asked_eaten_behind (asked_of cells u.wants) s.printed u.printed (halted (means n)) (b.1 none)) eaten in
        (r.0 + n, omega arith, subst (HasPrintedSo (s.printed ++ out)) (sym there) (none, same))
    prints_at (OutOfTurns u) q k b =
        let r = behaves.goes_on v s todo n u between q in
        let none : u.todo ≡ [] = consumed_later acts start m r.0 (comes m) (Unfinished u) (omega (arith, le, r.1)) refl r.2 c in
        (r.0, r.1, subst (HasPrintedSo (s.printed ++ out)) (sym r.2) (none, printed_same s.printed u.printed out (halted (means n)) (b none) eaten))
    prints_at Invalid q k b = absurd k

  -- ---- it ends

  module _ (Q : World) (m n k b : ℕ) (m_below : m ≤ b) (n_below : n ≤ b) (k_below : k ≤ b) (c : Consumed (comes m)) (enough : NeedsTurns (action_meaning cells functions k a v (es ++ in_hand cells Q end)) → ⊥) where
    abbrev EndsHere : Type 0
    EndsHere = (j : ℕ) × IsAsking (comes j) × ActionExplained cells g s.printed (comes j) (means n)

    -- the tree has turns enough
    never_short : (u : ActorState) → tree b ≡ OutOfTurns u → ⊥
    never_short u q =
        let r = behaves.goes_on v s todo b u between q in
        let none : u.todo ≡ [] = consumed_later acts start m r.0 (comes m) (Unfinished u) (omega (arith, m_below, r.1)) refl r.2 c in
        let y = action_meaning cells functions b a v (es ++ in_hand cells Q end) in
        let link = action_related cells functions sound valid (up_to cells s.printed (Some []) end Q) b g a v s todo es sent (begins (es ++ in_hand cells Q end), es, refl, fits) in
        enough (action_needs cells functions sound a v (es ++ in_hand cells Q end) k b k_below (needs_turns y (subst (λ x. Related (account_link cells (up_to cells s.printed (Some []) end Q)) x y) q link none)))

    ended_by : (j : ℕ) (x : Completion ActorState Value) → IsMeant x → IsAsking (comes j) → IsOver (comes j) → EndsAs g x (comes j) → AgreesTo cells s.printed end x (means n) → EndsHere
    ended_by j x t asks over h d = (j, asks, over_explained cells g s.printed end (means n) x (comes j) t over h (consumed_over acts start m j (comes j) over refl c) d)

    ends_at : (x : Completion ActorState Value) → tree b ≡ x → IsMeant x → AgreesTo cells s.printed end x (means b) → AgreesTo cells s.printed end x (means n) → EndsHere
    ends_at (Completes w u) q t f d =
        let l = ends b (Completes w u) q tt in
        let asked = l.1 (no_finish cells Out u.todo f.0.todo end f.3 g (Ok w) (handed u.acting)) in
        ended_by l.0 (Completes w u) tt (asked_asks (Finish g (Ok w) (handed u.acting)) u.todo u.printed (comes l.0) asked) (asked_over (Finish g (Ok w) (handed u.acting)) u.todo u.printed (comes l.0) asked) l.1 d
    ends_at (Recurs vs u) q t f d = absurd t
    ends_at (Faults y u) q t f d =
        let l = ends b (Faults y u) q tt in
        let asked = l.1 (no_finish cells f.3 u.todo f.0.todo end f.4 g (Err y) []) in
        ended_by l.0 (Faults y u) tt (asked_asks (Finish g (Err y) []) u.todo u.printed (comes l.0) asked) (asked_over (Finish g (Err y) []) u.todo u.printed (comes l.0) asked) l.1 d
    ends_at (Retries u) q t f d = absurd t
    ends_at (Waits u) q t f d =
        let l = ends b (Waits u) q tt in
        ended_by l.0 (Waits u) tt (subst IsAsking (sym l.1) tt) (subst IsOver (sym l.1) tt) l.1 d
    ends_at (OutOfTurns u) q t f d = absurd (never_short u q)
    ends_at Invalid q t f d = absurd t

  ends_so_at : (Q : World) (m n k : ℕ) → Consumed (comes m) → HasSettled (means n) → (NeedsTurns (action_meaning cells functions k a v (es ++ in_hand cells Q end)) → ⊥) → (j : ℕ) × IsAsking (comes j) × ActionExplained cells g s.printed (comes j) (means n)
  ends_so_at Q m n k c settled enough =
      let b = m + (n + k) in
      ends_at Q m n k b (omega arith) (omega arith) (omega arith) c enough (tree b) refl (meant b) (agreed b)
      (subst (λ y. AgreesTo cells s.printed end (tree b) y) (settled_action cells functions sound a v es n b (omega arith) settled) (agreed b))

pub sound_follows_agents : SoundFollowsAgents
sound_follows_agents code cells functions sound valid same behaves = record {
  validators = same;
  actions = λ g a of sent. record {
    explained = λ v s todo es end m between fits c. explained_at code cells functions sound valid g a sent (behaves g a of sent) v s between todo es end fits m _ refl c;
    noted = λ v s todo es end m between fits c. noted_at code cells functions sound valid g a sent (behaves g a of sent) v s between todo es end fits m c;
    prints_so = λ v s todo es end m n out between fits c le eaten.
        prints_at code cells functions sound valid g a sent (behaves g a of sent) v s between todo es end fits m n out c le eaten _ refl (meant code cells functions sound valid g a sent (behaves g a of sent) v s between todo es end fits n) (agreed code cells functions sound valid g a sent (behaves g a of sent) v s between todo es end fits n);
    ends_so = λ v s todo es end Q m n k between fits c settled enough. ends_so_at code cells functions sound valid g a sent (behaves g a of sent) v s between todo es end fits Q m n k c settled enough;
  };
}
