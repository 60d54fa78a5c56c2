-- What an audit finds of threads and actions, by what the evaluators answer.
use Rattle.std.proofs.Common.{◌≡◌, ◌≤◌, ℕ, suc, ◌+◌, ◌-◌, ◌==◌, ◌&&◌, ◌||◌, Bool, true, false, List, [], ◌∷◌, length, length-append, map, take, Option, Some, None, Result, Ok, Err, refl, sym, ap, ◌∙◌, subst, arith, if◌then◌else◌, ◌++◌}
use Rattle.std.specs.Prelude.{not}
use Rattle.std.proofs.lemmas.Bool.{eq-eqb, eqb-true}
use Rattle.txs_value_data.specs.Places.{nth, fault_at}
use Rattle.txs_value_data.specs.declared.fault.FaultKind.{FaultKind}
use Rattle.txs_value_data.specs.declared.fault.FaultKind.TheVariants.{InvalidState}
use Rattle.txs_value_data.specs.declared.fault.Span.{Span}
use Rattle.txs_value_data.specs.declared.op.Callee.{Callee}
use Rattle.txs_value_data.specs.declared.op.Callee.TheVariants.{Core as CoreOp, Function}
use Rattle.txs_value_data.specs.declared.op.Op.{Op}
use Rattle.txs_value_apply.specs.Core.{core}
use Rattle.txs_value_apply.specs.Truth.{choose}
use Rattle.txs_value_cell.specs.Cells.{validator_at, validators_of}
use Rattle.txs_value_cell.specs.declared.action.Action.{Action}
use Rattle.txs_value_data.specs.declared.fault.Fault.{Fault}
use Rattle.txs_value_data.specs.declared.value.Value.{Value}
use Rattle.txs_value_data.specs.declared.value.Value.TheVariants.{Nil, Truth, Int, Key, Text, Vector, Cell}
use Rattle.txs_world_protocol.specs.SeenEvent.{SeenEvent}
use Rattle.txs_world_protocol.specs.declared.event.Event.{Event}
use Rattle.txs_world_protocol.specs.declared.event.EventKind.{EventKind}
use Rattle.txs_world_protocol.specs.declared.event.EventKind.TheVariants.{Read, Commit, Retry, Fail, Refused, Send, SendRefused, Act, Swap, Broke}
use Rattle.txs_world_protocol.specs.declared.event.Outcome.{Outcome}
use Rattle.txs_world_protocol.specs.declared.event.Outcome.TheVariants.{Done, Failed, StepsSpent, JournalFull, Memory}
use Rattle.txs_world_book.specs.declared.cell.StoreCell.{StoreCell}
use Rattle.txs_tree_meaning.specs.Meaning.{Completion, Completes, Recurs, Faults, Retries, Waits, OutOfTurns, Invalid, bind, result_of, Applies, apply}
use Rattle.txs_tree_meaning.specs.Pure.{nowhere, pure_calls, pure_meaning}
use Rattle.txs_tree_meaning.specs.Right.{is_wrong, eats_right, right_meaning, right_events}
use Rattle.txs_tree_meaning.specs.Thread.{TxRun, ThreadState, thread_meaning, from_events, accepts, applies_in, action_in, around_action}
use Rattle.txs_tree_meaning.specs.Transaction.{judged, validated}
use Rattle.txs_tree_meaning.specs.Tree.{PlainFunction, ThreadSource, PlainProgram, Const}
use Rattle.txs_tree_eval.specs.Told.{told_tx, asked, Account, TellsWrong, TellsOf, PureGives}
use Rattle.txs_tree_eval.specs.declared.pure_call.EvalStop.{EvalStop}
use Rattle.txs_tree_eval.specs.declared.pure_call.EvalStop.TheVariants.{Fault as AFault, Turns as FewTurns, Memory as NoMemory}
use Rattle.txs_tree_eval.specs.declared.meaning.Needs.{Needs}
use Rattle.txs_tree_eval.specs.declared.meaning.Needs.TheVariants as needs
use Rattle.txs_tree_eval.specs.declared.meaning.ThreadMeaning.{ThreadMeaning}
use Rattle.txs_theorem_threads.proofs.Meant.{Any}
use Rattle.txs_theorem_threads.specs.FollowsAgent.{SoundAction}
use Rattle.txs_theorem_threads.specs.Noted.{txs_of}
use Rattle.txs_theorem_serial.specs.Serial.{is_covered}
use Rattle.txs_world_protocol.specs.Ask.{same_new}
use Rattle.txs_world_book.specs.Book.{first_failed, is_empty}
use Rattle.txs_tree_meaning.specs.Sound.{Sound, SoundSource}
use Rattle.txs_tree_eval.specs.ActionTold.{sends_held, ActionAccount, ActionTellsWrong, ActionTellsOf, TellsAction}
use Rattle.txs_tree_eval.specs.declared.action.ActionMeaning.{ActionMeaning}
use Rattle.txs_theorem_threads.proofs.Quiet.{carried, quietly}
use Rattle.txs_theorem_threads.specs.Behaves.{IsProper}
use Rattle.txs_theorem_audit.specs.Audited.{PlainActorReport, Finding, Fine, Off, Short, and_then, check}
use Rattle.txs_theorem_audit.specs.Verdict.{begins, same_numbers, is_calm, is_end, is_commit, with_run, calm_at, calm_found, covered_if, covered_all, is_stopped, is_done, has_faulted, least_printed, printed_by, printed_part, noted_by, end_found, is_full_book, full_found, sends_if, held_by, noted_in, is_booked, act_ends, part_printed, still_ends, full_ends}
use Rattle.txs_theorem_audit.proofs.Findings.{not_there}
use Rattle.txs_theorem_audit.proofs.Onward.{Onward, From, thread_leads, accepts_so, accepts_proper, applied_leads}
use Rattle.txs_theorem_audit.specs.Evaluated.{calm_by, with_first, calm_at_by, calm_found_by, covered_if_by, covered_all_by, same_end, end_by, full_by, least_by, answer_in, judged_by, accepted_by, act_by, ValidatorGives, ActBy, CalmBy, CoveredBy, NotedBy, EndBy, FullBy, LeastBy, ActionEnd, HandedIn, LacksEvent, LacksTurns, Disallows, end_of_state, end_of_action, still_by, rest_full_by, prints_by, ActionGives, means_on, StillBy, RestFullBy, ActionNotedBy}

-- ---- transactions

one_calm : (cells : List StoreCell) (done : List Event) (d : EventKind) (x : TxRun) → is_calm cells done d x ≡ calm_by cells done d (told_tx x)
one_calm cells done (Read c) x = refl
one_calm cells done (Commit at view ws sends) x = refl
one_calm cells done (Retry since c commute) x = refl
one_calm cells done (Fail at view) x = refl
one_calm cells done (Refused at view g) x = refl
one_calm cells done (Send a) x = refl
one_calm cells done (SendRefused g) x = refl
one_calm cells done (Act g n new sends) x = refl
one_calm cells done (Swap new) x = refl
one_calm cells done (Broke at) x = refl

pub calm_found_told : CalmBy
calm_found_told cells books a i [] xs = refl
calm_found_told cells books a i (p ∷ ps) xs = go (nth (books p.book) p.at) xs (λ ys. calm_found_told cells books a (suc i) ps ys)
  where
    at_end : (d : EventKind) (b : Bool) (ys : List TxRun) → ((zs : List TxRun) → calm_found cells books a (suc i) ps zs ≡ calm_found_by cells books a (suc i) ps (map told_tx zs))
        → (if b then with_run ys (λ x zs. and_then (check (is_calm cells (take p.at (books p.book)) d x) a i) (calm_found cells books a (suc i) ps zs)) else calm_found cells books a (suc i) ps ys)
        ≡ (if b then with_first (map told_tx ys) (λ m ns. and_then (check (calm_by cells (take p.at (books p.book)) d m) a i) (calm_found_by cells books a (suc i) ps ns)) else calm_found_by cells books a (suc i) ps (map told_tx ys))
    at_end d false ys rest = rest ys
    at_end d true [] rest = refl
    at_end d true (x ∷ ys) rest =
        ap (λ b. and_then (check b a i) (calm_found cells books a (suc i) ps ys)) (one_calm cells (take p.at (books p.book)) d x) ∙ ap (λ f. and_then (check (calm_by cells (take p.at (books p.book)) d (told_tx x)) a i) f) (rest ys)

    go : (o : Option Event) (ys : List TxRun) → ((zs : List TxRun) → calm_found cells books a (suc i) ps zs ≡ calm_found_by cells books a (suc i) ps (map told_tx zs))
        → calm_at cells books a i p o (λ zs. calm_found cells books a (suc i) ps zs) ys ≡ calm_at_by cells books a i p o (λ ns. calm_found_by cells books a (suc i) ps ns) (map told_tx ys)
    go None ys rest = rest ys
    go (Some e) ys rest = at_end e.kind (is_end e.kind) ys rest

pub covered_told : CoveredBy
covered_told books [] xs = refl
covered_told books (p ∷ ps) xs = go (nth (books p.book) p.at) xs (λ ys. covered_told books ps ys)
  where
    go : (o : Option Event) (ys : List TxRun) → ((zs : List TxRun) → covered_all books ps zs ≡ covered_all_by books ps (map told_tx zs)) → covered_if o (λ zs. covered_all books ps zs) ys ≡ covered_if_by o (λ ns. covered_all_by books ps ns) (map told_tx ys)
    go None ys rest = rest ys
    go (Some e) [] rest = rest []
    go (Some e) (x ∷ ys) rest = at_end (is_end e.kind)
      where
        at_end : (b : Bool) → (if b then (not (is_commit e.kind) || is_covered x.state) && covered_all books ps ys else covered_all books ps (x ∷ ys)) ≡ (if b then (not (is_commit e.kind) || is_covered x.state) && covered_all_by books ps (map told_tx ys) else covered_all_by books ps (told_tx x ∷ map told_tx ys))
        at_end true = ap (λ b. (not (is_commit e.kind) || is_covered x.state) && b) (rest ys)
        at_end false = rest (x ∷ ys)

-- ---- what is answered

noted_of : (m : ThreadMeaning) (k right : ℕ) (b y : Completion ThreadState Value) → TellsOf m k right b y → (z : List TxRun) → (z ≡ (if is_wrong y then txs_of b else txs_of y)) → m.txs ≡ map told_tx z
noted_of m k right b (Completes v t) h z e = h.txs ∙ ap (λ l. map told_tx l) (sym e)
noted_of m k right b (Recurs vs t) h z e = absurd h
noted_of m k right b (Faults f t) h z e = h.txs ∙ ap (λ l. map told_tx l) (sym e)
noted_of m k right b (Retries t) h z e = absurd h
noted_of m k right b (Waits t) h z e = h.txs ∙ ap (λ l. map told_tx l) (sym e)
noted_of m k right b (OutOfTurns t) h z e = h.txs ∙ ap (λ l. map told_tx l) (sym e)
noted_of m k right b Invalid h z e = wrong b h z e
  where
    wrong : (c : Completion ThreadState Value) → TellsWrong m right c → (w : List TxRun) → w ≡ txs_of c → m.txs ≡ map told_tx w
    wrong (Completes v t) g w q = absurd g
    wrong (Recurs vs t) g w q = absurd g
    wrong (Faults f t) g w q = absurd g
    wrong (Retries t) g w q = absurd g
    wrong (Waits t) g w q = g.txs ∙ ap (λ l. map told_tx l) (sym q)
    wrong (OutOfTurns t) g w q = absurd g
    wrong Invalid g w q = absurd g

pub noted_told : NotedBy
noted_told s n es m h = noted_of m (length es) (eats_right s n [] es) (right_meaning s n es) (thread_meaning s n es) h (noted_by s n es (thread_meaning s n es)) refl

-- all events are eaten where none is left
none_left : (k left : ℕ) → left ≤ k → (left == 0) ≡ (k - left == k)
none_left k left le = go (left == 0) refl (k - left == k) refl
  where
    go : (b : Bool) → (left == 0) ≡ b → (c : Bool) → (k - left == k) ≡ c → b ≡ c
    go true e true f = refl
    go true e false f =
        let none : left ≡ 0 = eqb-true left 0 e in
        let all : k - left ≡ k = omega (arith, none) in
        sym (eq-eqb (k - left) k all) ∙ f
    go false e true f =
        let all : k - left ≡ k = eqb-true (k - left) k f in
        let none : left ≡ 0 = omega (arith, le, all) in
        sym e ∙ eq-eqb left 0 none
    go false e false f = refl

-- before any event
abbrev begun : List SeenEvent → ThreadState
begun es = record { todo = es; printed = []; held = None; txs = []; asks = None }

few_left : (es : List SeenEvent) (t : ThreadState) → Onward (begun es) t → length t.todo ≤ length es
few_left es t g = let e : length es ≡ length g.gone + length t.todo = ap length g.eats ∙ length-append g.gone t.todo in omega (arith, e)

done_same : (o : Option Outcome) → is_done o ≡ same_end (Some Done) o
done_same None = refl
done_same (Some Done) = refl
done_same (Some (Failed f)) = refl
done_same (Some StepsSpent) = refl
done_same (Some JournalFull) = refl
done_same (Some Memory) = refl

fault_same : (f : Fault) (o : Option Outcome) → has_faulted f o ≡ same_end (Some (Failed f)) o
fault_same f None = refl
fault_same f (Some Done) = refl
fault_same f (Some (Failed g)) = refl
fault_same f (Some StepsSpent) = refl
fault_same f (Some JournalFull) = refl
fault_same f (Some Memory) = refl

module _ (s : ThreadSource) (n a : ℕ) (es : List SeenEvent) (ran : PlainActorReport) (m : ThreadMeaning) where
  abbrev k : ℕ
  k = length es

  abbrev least : List ℕ
  least = least_printed s n es

  abbrev E : Needs → Option Outcome → List ℕ → ℕ → Finding
  E needed ends whole eaten = end_by a k ran.outcome ran.printed least needed ends whole eaten

  -- what is answered, in its parts
  answered : (ate : ℕ) (t : ThreadState) (needed : Needs) (ends : Option Outcome) → Account m ate t needed ends → E needed ends t.printed ate ≡ E m.needs m.outcome m.printed m.eaten
  answered ate t needed ends h =
      sym
      (ap (λ z. E z m.outcome m.printed m.eaten) h.needs ∙ ap (λ z. E needed z m.printed m.eaten) h.outcome ∙ ap (λ z. E needed ends z m.eaten) h.printed ∙ ap (λ z. E needed ends t.printed z) h.eaten)

  end_on : (right : ℕ) (b y : Completion ThreadState Value) → right ≡ eats_right s n [] es → TellsOf m k right b y → From None Any (begun es) y → end_found s n a es ran y ≡ E m.needs m.outcome m.printed m.eaten
  end_on right b (Completes v t) r h g =
      let left = length t.todo in
      let last : Bool → Finding = λ c. check (if c then same_numbers ran.printed t.printed else is_stopped ran.outcome && printed_part s n es ran.printed t.printed) a k in
      ap (λ c. and_then (check c a (k - left)) (last (is_done ran.outcome))) (none_left k left (few_left es t g.1)) ∙ ap (λ c. and_then (check (k - left == k) a (k - left)) (last c)) (done_same ran.outcome)
      ∙ answered (k - left) t needs.Nothing (Some Done) h
  end_on right b (Recurs vs t) r h g = absurd h
  end_on right b (Faults f t) r h g =
      let left = length t.todo in
      let last : Bool → Finding = λ c. check (if c then same_numbers ran.printed t.printed else is_stopped ran.outcome && printed_part s n es ran.printed t.printed) a k in
      ap (λ c. and_then (check c a (k - left)) (last (has_faulted f ran.outcome))) (none_left k left (few_left es t g)) ∙ ap (λ c. and_then (check (k - left == k) a (k - left)) (last c)) (fault_same f ran.outcome)
      ∙ answered (k - left) t needs.Nothing (Some (Failed f)) h
  end_on right b (Retries t) r h g = absurd h
  end_on right b (Waits t) r h g =
      let left = length t.todo in
      ap (λ c. and_then (check c a (k - left)) (check (is_stopped ran.outcome && printed_part s n es ran.printed t.printed) a k)) (none_left k left (few_left es t g)) ∙ answered (k - left) t needs.Event None h
  end_on right b (OutOfTurns t) r h g =
      let left = length t.todo in
      ap (λ c. if c && (is_stopped ran.outcome && printed_part s n es ran.printed t.printed) then Fine else Short a (k - left)) (none_left k left (few_left es t g)) ∙ answered (k - left) t needs.Turns None h
  end_on right b Invalid r h g = wrong b h
    where
      wrong : (c : Completion ThreadState Value) → TellsWrong m right c → Off a (eats_right s n [] es) ≡ E m.needs m.outcome m.printed m.eaten
      wrong (Completes v t) x = absurd x
      wrong (Recurs vs t) x = absurd x
      wrong (Faults f t) x = absurd x
      wrong (Retries t) x = absurd x
      wrong (Waits t) x = ap (λ z. Off a z) (sym r) ∙ answered right t needs.Wrong None x
      wrong (OutOfTurns t) x = absurd x
      wrong Invalid x = absurd x

pub end_told : EndBy
end_told s n a es ran m sound h =
    let le : n ≤ n = omega arith in
    end_on s n a es ran m (eats_right s n [] es) (right_meaning s n es) (thread_meaning s n es) refl h (thread_leads s sound n n le es).0

-- ---- a thread that was stopped for a full book

module _ (books : ℕ → List Event) (s : ThreadSource) (n a : ℕ) (es : List SeenEvent) (out : List ℕ) (m : ThreadMeaning) where
  abbrev full_of : Needs → Option ℕ → List ℕ → ℕ → Finding
  full_of needed asks whole eaten = full_by a (length es) out needed (is_full_book books asks) whole eaten

  -- what is answered, in its parts
  full_answered : (ate : ℕ) (t : ThreadState) (needed : Needs) (ends : Option Outcome) → Account m ate t needed ends → full_of needed (asked needed t.asks) t.printed ate ≡ full_of m.needs m.asks m.printed m.eaten
  full_answered ate t needed ends h =
      sym
      (ap (λ z. full_of z m.asks m.printed m.eaten) h.needs ∙ ap (λ z. full_of needed z m.printed m.eaten) h.asks ∙ ap (λ z. full_of needed (asked needed t.asks) z m.eaten) h.printed
      ∙ ap (λ z. full_of needed (asked needed t.asks) t.printed z) h.eaten)

  full_tested : (t : ThreadState) (rest : Finding) → Onward (begun es) t → and_then (check (length t.todo == 0) a (length es - length t.todo)) rest ≡ and_then (check (length es - length t.todo == length es) a (length es - length t.todo)) rest
  full_tested t rest g = ap (λ c. and_then (check c a (length es - length t.todo)) rest) (none_left (length es) (length t.todo) (few_left es t g))

  full_on : (right : ℕ) (b y : Completion ThreadState Value) → right ≡ eats_right s n [] es → TellsOf m (length es) right b y → From None Any (begun es) y → full_found books s n a es out y ≡ full_of m.needs m.asks m.printed m.eaten
  full_on right b (Completes v t) r h g = full_tested t (Off a (length es)) g.1 ∙ full_answered (length es - length t.todo) t needs.Nothing (Some Done) h
  full_on right b (Recurs vs t) r h g = absurd h
  full_on right b (Faults f t) r h g = full_tested t (Off a (length es)) g ∙ full_answered (length es - length t.todo) t needs.Nothing (Some (Failed f)) h
  full_on right b (Retries t) r h g = absurd h
  full_on right b (Waits t) r h g = full_tested t (check (is_full_book books t.asks && same_numbers out t.printed) a (length es)) g ∙ full_answered (length es - length t.todo) t needs.Event None h
  full_on right b (OutOfTurns t) r h g = full_answered (length es - length t.todo) t needs.Turns None h
  full_on right b Invalid r h g = wrong b h
    where
      wrong : (c : Completion ThreadState Value) → TellsWrong m right c → Off a (eats_right s n [] es) ≡ full_of m.needs m.asks m.printed m.eaten
      wrong (Completes v t) x = absurd x
      wrong (Recurs vs t) x = absurd x
      wrong (Faults f t) x = absurd x
      wrong (Retries t) x = absurd x
      wrong (Waits t) x = ap (λ z. Off a z) (sym r) ∙ full_answered right t needs.Wrong None x
      wrong (OutOfTurns t) x = absurd x
      wrong Invalid x = absurd x

pub full_told : FullBy
full_told books s n a es out m sound h =
    let le : n ≤ n = omega arith in
    full_on books s n a es out m (eats_right s n [] es) (right_meaning s n es) (thread_meaning s n es) refl h (thread_leads s sound n n le es).0

least_on : (m : ThreadMeaning) (k right : ℕ) (b y : Completion ThreadState Value) (out : List ℕ) → TellsOf m k right b y → begins (printed_by y) out ≡ least_by m.needs m.printed out
least_on m k right b (Completes v t) out h = sym (ap (λ z. least_by z m.printed out) h.needs ∙ ap (λ z. begins z out) h.printed)
least_on m k right b (Recurs vs t) out h = absurd h
least_on m k right b (Faults f t) out h = sym (ap (λ z. least_by z m.printed out) h.needs ∙ ap (λ z. begins z out) h.printed)
least_on m k right b (Retries t) out h = absurd h
least_on m k right b (Waits t) out h = sym (ap (λ z. least_by z m.printed out) h.needs ∙ ap (λ z. begins z out) h.printed)
least_on m k right b (OutOfTurns t) out h = sym (ap (λ z. least_by z m.printed out) h.needs ∙ ap (λ z. begins z out) h.printed)
least_on m k right b Invalid out h = wrong b h
  where
    wrong : (c : Completion ThreadState Value) → TellsWrong m right c → true ≡ least_by m.needs m.printed out
    wrong (Completes v t) x = absurd x
    wrong (Recurs vs t) x = absurd x
    wrong (Faults f t) x = absurd x
    wrong (Retries t) x = absurd x
    wrong (Waits t) x = sym (ap (λ z. least_by z m.printed out) x.needs)
    wrong (OutOfTurns t) x = absurd x
    wrong Invalid x = absurd x

pub least_told : LeastBy
least_told s n es m out h = least_on m (length es) (eats_right s n [] es) (right_meaning s n es) (thread_meaning s n es) out h

-- ---- actions

abbrev IsValue : Completion (Unit {0}) Value → Type 0
IsValue (Completes v u) = Unit {0}
IsValue (Recurs vs u) = ⊥
IsValue (Faults f u) = ⊥
IsValue (Retries u) = ⊥
IsValue (Waits u) = ⊥
IsValue (OutOfTurns u) = ⊥
IsValue Invalid = ⊥

abbrev IsFault : Completion (Unit {0}) Value → Type 0
IsFault (Completes v u) = ⊥
IsFault (Recurs vs u) = ⊥
IsFault (Faults f u) = Unit {0}
IsFault (Retries u) = ⊥
IsFault (Waits u) = ⊥
IsFault (OutOfTurns u) = ⊥
IsFault Invalid = ⊥

fault_of : Fault → Completion (Unit {0}) Value → Fault
fault_of d (Faults f u) = f
fault_of d _ = d

-- ---- what is answered of a callee, and of the agent's validator

abbrev IsMemory : Result Value EvalStop → Type 0
IsMemory (Ok v) = ⊥
IsMemory (Err (AFault f)) = ⊥
IsMemory (Err FewTurns) = ⊥
IsMemory (Err NoMemory) = Unit {0}

-- there was memory
abbrev HadMemory : Result Value EvalStop → Type 0
HadMemory r = r ≡ Err NoMemory → ⊥

-- this is answered, and there was memory
abbrev Says : Result Value EvalStop → Completion (Unit {0}) Value → Type 0
Says r c = PureGives r c × HadMemory r

value_said : (v : Value) → HadMemory (Ok v)
value_said v e = subst IsMemory (sym e) tt

fault_said : (f : Fault) → HadMemory (Err (AFault f))
fault_said f e = subst IsMemory (sym e) tt

turns_said : HadMemory (Err FewTurns)
turns_said e = subst IsMemory (sym e) tt

-- an operation as callee, whose fault is that of the action's span
op_says : (op : Op) (span : Span) (o : Result Value FaultKind) (r : Result Value EvalStop) → Says r (result_of o nowhere tt) → Says (answer_in (CoreOp op) span r) (result_of o span tt)
unfolding fault_of
op_says op span (Ok w) (Ok v) h = (h.0, value_said v)
op_says op span (Ok w) (Err (AFault f)) h = absurd (subst IsValue h.0 tt)
op_says op span (Ok w) (Err FewTurns) h = absurd (subst IsValue h.0 tt)
op_says op span (Ok w) (Err NoMemory) h = absurd (h.1 refl)
op_says op span (Err k) (Ok v) h = absurd (subst IsFault h.0 tt)
op_says op span (Err k) (Err (AFault f)) h = (ap (λ (z : Fault). Faults (fault_at z.kind span) tt) (ap (fault_of (fault_at k nowhere)) h.0), fault_said (fault_at f.kind span))
op_says op span (Err k) (Err FewTurns) h = absurd (subst IsFault h.0 tt)
op_says op span (Err k) (Err NoMemory) h = absurd (h.1 refl)

-- a function as callee
function_says : (i : ℕ) (span : Span) (c : Completion (Unit {0}) Value) (r : Result Value EvalStop) → Says r c → Says (answer_in (Function i) span r) c
function_says i span c (Ok v) h = h
function_says i span c (Err (AFault f)) h = h
function_says i span c (Err FewTurns) h = h
function_says i span c (Err NoMemory) h = h

module _ (n : ℕ) (functions : List PlainFunction) (span : Span) where
  abbrev applies : Applies (Unit {0})
  applies = apply (pure_calls n functions (length functions) false) span

  says_in : (c : Callee) (ws : List Value) (r : Result Value EvalStop) → Says r (pure_meaning n functions c ws) → Says (answer_in c span r) (applies c ws tt)
  says_in (CoreOp op) ws r h = op_says op span (core op ws) r h
  says_in (Function i) ws r h = function_says i span (pure_calls n functions (length functions) false i ws tt) r h

  -- a validator's answer
  says_judged : (answer v : Value) → Says (choose answer (Ok v) (Err (AFault (fault_at InvalidState span)))) (judged answer span v tt)
  says_judged Nil v = (refl, fault_said (fault_at InvalidState span))
  says_judged (Truth false) v = (refl, fault_said (fault_at InvalidState span))
  says_judged (Truth true) v = (refl, value_said v)
  says_judged (Int z) v = (refl, value_said v)
  says_judged (Key bs) v = (refl, value_said v)
  says_judged (Text bs) v = (refl, value_said v)
  says_judged (Vector vs) v = (refl, value_said v)
  says_judged (Cell c) v = (refl, value_said v)

  says_then : (v : Value) (r : Result Value EvalStop) (c : Completion (Unit {0}) Value) → Says r c → Says (judged_by span v r) (bind c (λ answer u. judged answer span v u))
  says_then v (Ok answer) c h = subst (λ d. Says (judged_by span v (Ok answer)) (bind d (λ b u. judged b span v u))) (sym h.0) (says_judged answer v)
  says_then v (Err (AFault f)) c h = (ap (λ d. bind d (λ b u. judged b span v u)) h.0, fault_said f)
  says_then v (Err FewTurns) c h = (ap (λ d. bind d (λ b u. judged b span v u)) h.0, turns_said)
  says_then v (Err NoMemory) c h = absurd (h.1 refl)

  -- a value, where the agent's validator accepts it
  says_accepted : (o : Option Callee) (v : Value) (q : Result Value EvalStop) → ValidatorGives n functions o v q → Says (accepted_by o span v q) (validated applies o span v tt)
  says_accepted None v q h = (refl, value_said v)
  says_accepted (Some f) v q h = says_then v (answer_in f span q) (applies f (v ∷ []) tt) (says_in f (v ∷ []) q h)

-- ---- what is answered of an action

held_same : (o : Option (List Action)) → sends_if o ≡ sends_held o
held_same None = refl
held_same (Some sends) = refl

-- a part that is proper isn't wrong
proper_right : (t : ThreadState) (z : Completion (Unit {0}) Value) → IsProper z → is_wrong (carried t z) ≡ false
proper_right t (Completes v u) h = refl
proper_right t (Recurs vs u) h = absurd h
proper_right t (Faults f u) h = refl
proper_right t (Retries u) h = absurd h
proper_right t (Waits u) h = absurd h
proper_right t (OutOfTurns u) h = refl
proper_right t Invalid h = absurd h

module _ (p : PlainProgram) (n : ℕ) (x : Action) (state : Value) (sound : Sound p) (fits : SoundAction p.functions x) where
  -- the action as a source that has no body
  abbrev source : ThreadSource
  source = record { functions = p.functions; cells = p.cells; main = Const Nil (record { span = x.span; wanted = false }) }

  source_sound : SoundSource source
  source_sound = record { functions = sound.functions; cells = sound.cells; main = tt }

  abbrev callee_on : List SeenEvent → Completion ThreadState Value
  callee_on es = action_in (around_action p.cells p.functions n) x.callee x.span (state ∷ x.args) es

  abbrev whole : List SeenEvent → Completion ThreadState Value
  whole es = means_on p n x state es

  abbrev guard : Option Callee
  guard = validator_at (validators_of p.cells) x.agent.number

  abbrev looked : Value → ThreadState → Completion ThreadState Value
  looked w t = accepts (around_action p.cells p.functions n) (applies_in (around_action p.cells p.functions n) x.span) x.agent x.span w t

  abbrev quiet_look : Value → Completion (Unit {0}) Value
  quiet_look w = validated (quietly n p.functions (length p.functions) x.span) guard x.span w tt

  same_turns : n ≤ n
  same_turns = omega arith

  looks_so : (w : Value) (t : ThreadState) → looked w t ≡ carried t (quiet_look w)
  looks_so w t = accepts_so source source_sound n n same_turns n x.span x.agent w t

  -- the validator makes nothing wrong
  right_same : (c : Completion ThreadState Value) → is_wrong (bind c looked) ≡ is_wrong c
  right_same (Completes w t) = ap is_wrong (looks_so w t) ∙ proper_right t (quiet_look w) (accepts_proper source source_sound n n same_turns n x.span x.agent w)
  right_same (Recurs vs t) = refl
  right_same (Faults f t) = refl
  right_same (Retries t) = refl
  right_same (Waits t) = refl
  right_same (OutOfTurns t) = refl
  right_same Invalid = refl

  events_same : (done es : List SeenEvent) → right_events whole done es ≡ right_events callee_on done es
  events_same done [] = refl
  events_same done (e ∷ es) = ap (λ b. if b then length done else right_events whole (done ++ e ∷ []) es) (right_same (callee_on (done ++ e ∷ []))) ∙ ap (λ r. if is_wrong (callee_on (done ++ e ∷ [])) then length done else r) (events_same (done ++ e ∷ []) es)

  -- it comes from its start
  started : (es : List SeenEvent) → From None Any (from_events (Some []) es) (callee_on es)
  started es = (applied_leads source source_sound n n same_turns x.span x.callee (state ∷ x.args) fits (from_events (Some []) es)).0

  left_few : (es : List SeenEvent) (t : ThreadState) → Onward (from_events (Some []) es) t → length t.todo ≤ length es
  left_few es t g = let l = ap length g.eats in let m = length-append g.gone t.todo in omega (arith, l, m)

  -- what comes of a value, where the agent's validator looks at it
  module _ (w : Value) (t : ThreadState) (q : Result Value EvalStop) (gives : ValidatorGives n p.functions guard w q) where
    abbrev answer : Result Value EvalStop
    answer = accepted_by guard x.span w q

    looked_as : (c : Completion (Unit {0}) Value) → quiet_look w ≡ c → looked w t ≡ carried t c
    looked_as c e = looks_so w t ∙ ap (carried t) e

    looked_by : (r : Result Value EvalStop) → answer ≡ r → (G : ActionEnd → Completion ThreadState Value → Type 0)
        → ((v : Value) → G (HandedIn (Ok v)) (Completes v t)) → ((f : Fault) → G (HandedIn (Err f)) (Faults f t)) → G LacksTurns (OutOfTurns t) → G (end_of_state answer) (looked w t)
    looked_by r e G value fault turns =
        let says = subst (λ z. Says z (quiet_look w)) e (says_accepted n p.functions x.span guard w q gives) in
        subst (λ z. G (end_of_state z) (looked w t)) (sym e) (go r says)
      where
        go : (z : Result Value EvalStop) → Says z (quiet_look w) → G (end_of_state z) (looked w t)
        go (Ok v) h = subst (G (HandedIn (Ok v))) (sym (looked_as (Completes v tt) h.0)) (value v)
        go (Err (AFault f)) h = subst (G (HandedIn (Err f))) (sym (looked_as (Faults f tt) h.0)) (fault f)
        go (Err FewTurns) h = subst (G LacksTurns) (sym (looked_as (OutOfTurns tt) h.0)) turns
        go (Err NoMemory) h = absurd (h.1 refl)

  -- ---- the end of an action

  module _ (es : List SeenEvent) (m : ActionMeaning) (q : Result Value EvalStop) (gives : ActionGives p n x state es m q) where
    abbrev count : ℕ
    count = length es

    abbrev accepted : Value → Result Value EvalStop
    accepted v = accepted_by guard x.span v q

    -- what is found, F of the meaning, is E of what is answered
    module _ {B : Type 0} (F : Completion ThreadState Value → B) (E : ActionEnd → Option ℕ → List ℕ → ℕ → List Action → B)
        (value : (v : Value) (t : ThreadState) → length t.todo ≤ count → F (Completes v t) ≡ E (HandedIn (Ok v)) None t.printed (count - length t.todo) (sends_held t.held))
        (fault : (f : Fault) (t : ThreadState) (sends : List Action) → length t.todo ≤ count → F (Faults f t) ≡ E (HandedIn (Err f)) None t.printed (count - length t.todo) sends)
        (waits : (t : ThreadState) → length t.todo ≤ count → F (Waits t) ≡ E LacksEvent t.asks t.printed (count - length t.todo) [])
        (turns : (t : ThreadState) (sends : List Action) → length t.todo ≤ count → F (OutOfTurns t) ≡ E LacksTurns None t.printed (count - length t.todo) sends)
        (wrong : (out : List ℕ) → F Invalid ≡ E Disallows None out (right_events whole [] es) []) where
      -- what is answered, in its parts
      act_answered : (ate : ℕ) (t : ThreadState) (lack : Needs) (end : Option (Result Value Fault)) (sends : List Action) → ActionAccount m ate t lack end sends
          → E (end_of_action lack end accepted) (asked lack t.asks) t.printed ate sends ≡ E (end_of_action m.needs m.result accepted) m.asks m.printed m.eaten m.sends
      act_answered ate t lack end sends h =
          let asks = asked lack t.asks in
          let so = end_of_action lack end accepted in
          sym
          (ap (λ z. E (end_of_action z m.result accepted) m.asks m.printed m.eaten m.sends) h.needs ∙ ap (λ z. E (end_of_action lack z accepted) m.asks m.printed m.eaten m.sends) h.result
          ∙ ap (λ z. E so z m.printed m.eaten m.sends) h.asks ∙ ap (λ z. E so asks z m.eaten m.sends) h.printed ∙ ap (λ z. E so asks t.printed z m.sends) h.eaten ∙ ap (λ z. E so asks t.printed ate z) h.sends)

      wrong_so : (right : ℕ) (c : Completion ThreadState Value) → right ≡ right_events whole [] es → ActionTellsWrong m right c → F Invalid ≡ E (end_of_action m.needs m.result accepted) m.asks m.printed m.eaten m.sends
      wrong_so right (Completes v t) e h = absurd h
      wrong_so right (Recurs vs t) e h = absurd h
      wrong_so right (Faults f t) e h = absurd h
      wrong_so right (Retries t) e h = absurd h
      wrong_so right (Waits t) e h = wrong t.printed ∙ ap (λ z. E Disallows None t.printed z []) (sym e) ∙ act_answered right t needs.Wrong None [] h
      wrong_so right (OutOfTurns t) e h = absurd h
      wrong_so right Invalid e h = absurd h

      found_on : (right : ℕ) (b c : Completion ThreadState Value) → right ≡ right_events whole [] es → ActionTellsOf m count right b c → From None Any (from_events (Some []) es) c → F (bind c looked) ≡ E (end_of_action m.needs m.result accepted) m.asks m.printed m.eaten m.sends
      found_on right b (Completes v t) e h g =
          let few = left_few es t g.1 in
          looked_by v t q (gives.validator v h.result) (accepted v) refl (λ end c. F c ≡ E end None t.printed (count - length t.todo) (sends_held t.held)) (λ w. value w t few) (λ f. fault f t (sends_held t.held) few) (turns t (sends_held t.held) few)
          ∙ act_answered (count - length t.todo) t needs.Nothing (Some (Ok v)) (sends_held t.held) h
      found_on right b (Recurs vs t) e h g = absurd h
      found_on right b (Faults f t) e h g = fault f t [] (left_few es t g) ∙ act_answered (count - length t.todo) t needs.Nothing (Some (Err f)) [] h
      found_on right b (Retries t) e h g = absurd h
      found_on right b (Waits t) e h g = waits t (left_few es t g) ∙ act_answered (count - length t.todo) t needs.Event None [] h
      found_on right b (OutOfTurns t) e h g = turns t [] (left_few es t g) ∙ act_answered (count - length t.todo) t needs.Turns None [] h
      found_on right b Invalid e h g = wrong_so right b e h

      pub found_so : F (whole es) ≡ E (end_of_action m.needs m.result accepted) m.asks m.printed m.eaten m.sends
      found_so = found_on (right_events callee_on [] es) (callee_on (take (right_events callee_on [] es) es)) (callee_on es) (sym (events_same [] es)) gives.tells (started es)

-- nothing is left where all is eaten
left_tested : (a i k left : ℕ) (rest : Finding) → left ≤ k → and_then (check (left == 0) a (i + (k - left))) rest ≡ and_then (check (k - left == k) a (i + (k - left))) rest
left_tested a i k left rest few = ap (λ c. and_then (check c a (i + (k - left))) rest) (none_left k left few)

pub act_told : ActBy
act_told p n a i k cells done x state es new sends m q sound fits gives =
    let count = length es in
    let F = λ (c : Completion ThreadState Value). act_ends cells done x.span a i k (means_on p n x state) es new sends c in
    found_so p n x state sound fits es m q gives F (λ end asks out eaten held. act_by cells done x.span a i k count eaten held new sends end)
    (λ v t few. left_tested a i count (length t.todo) (check (is_booked (first_failed cells done (held_by t)) x.span v (held_by t) new sends) a k) few
    ∙ ap (λ l. and_then (check (count - length t.todo == count) a (i + (count - length t.todo))) (check (is_booked (first_failed cells done l) x.span v l new sends) a k)) (held_same t.held))
    (λ f t held few. left_tested a i count (length t.todo) (check (same_new (Err f) new && is_empty sends) a k) few)
    (λ t few. refl) (λ t held few. refl) (λ out. refl)

pub still_told : StillBy
still_told p n a i k x state es out m q sound fits gives =
    let count = length es in
    let part = λ (whole : List ℕ). part_printed (means_on p n x state) es out whole in
    let F = λ (c : Completion ThreadState Value). still_ends a i k (means_on p n x state) es out c in
    found_so p n x state sound fits es m q gives F (λ end asks printed eaten held. still_by a i k count eaten (part printed) end)
    (λ v t few. left_tested a i count (length t.todo) (check (part t.printed) a k) few)
    (λ f t held few. left_tested a i count (length t.todo) (check (part t.printed) a k) few)
    (λ t few. left_tested a i count (length t.todo) (check (part t.printed) a k) few)
    (λ t held few. ap (λ c. if c && part t.printed then Fine else Short a (i + (count - length t.todo))) (none_left count (length t.todo) few))
    (λ printed. refl)

pub rest_full_told : RestFullBy
rest_full_told books p n a i k x state es out m q sound fits gives =
    let count = length es in
    let store = is_full_book books (Some 0) in
    let F = λ (c : Completion ThreadState Value). full_ends books a i k (means_on p n x state) es out c in
    found_so p n x state sound fits es m q gives F (λ end asks printed eaten held. rest_full_by a i k count eaten store (is_full_book books asks) (same_numbers out printed) end)
    (λ v t few. left_tested a i count (length t.todo) (check (store && same_numbers out t.printed) a k) few)
    (λ f t held few. left_tested a i count (length t.todo) (check (store && same_numbers out t.printed) a k) few)
    (λ t few. left_tested a i count (length t.todo) (check (is_full_book books t.asks && same_numbers out t.printed) a k) few)
    (λ t held few. refl) (λ printed. refl)

-- ---- what an action notes and prints

module _ (p : PlainProgram) (n : ℕ) (x : Action) (state : Value) (sound : Sound p) (fits : SoundAction p.functions x) (es : List SeenEvent) (m : ActionMeaning) where
  abbrev all : List SeenEvent → Completion ThreadState Value
  all l = means_on p n x state l

  abbrev callee : List SeenEvent → Completion ThreadState Value
  callee l = callee_on p n x state sound fits l

  -- a validator that is proper notes and prints nothing
  kept : (t : ThreadState) (z : Completion (Unit {0}) Value) → IsProper z → (txs_of (carried t z) ≡ t.txs) × (printed_by (carried t z) ≡ t.printed)
  kept t (Completes v u) h = (refl, refl)
  kept t (Recurs vs u) h = absurd h
  kept t (Faults f u) h = (refl, refl)
  kept t (Retries u) h = absurd h
  kept t (Waits u) h = absurd h
  kept t (OutOfTurns u) h = (refl, refl)
  kept t Invalid h = absurd h

  abbrev Kept : Completion ThreadState Value → Completion ThreadState Value → Type 0
  Kept c b = (txs_of c ≡ txs_of b) × (printed_by c ≡ printed_by b)

  kept_by : (s : ThreadState) (b : Completion ThreadState Value) → From None Any s b → Kept (bind b (looked p n x state sound fits)) b
  kept_by s (Completes w t) h = subst (λ c. Kept c (Completes w t)) (sym (looks_so p n x state sound fits w t)) (kept t (quiet_look p n x state sound fits w) (accepts_proper (source p n x state sound fits) (source_sound p n x state sound fits) n n (same_turns p n x state sound fits) n x.span x.agent w))
  kept_by s (Recurs vs t) h = not_there h.0
  kept_by s (Faults f t) h = (refl, refl)
  kept_by s (Retries t) h = absurd h
  kept_by s (Waits t) h = (refl, refl)
  kept_by s (OutOfTurns t) h = (refl, refl)
  kept_by s Invalid h = (refl, refl)

  abbrev Told : Completion ThreadState Value → Completion ThreadState Value → Type 0
  Told before c = (m.txs ≡ map told_tx (txs_of (if is_wrong c then before else c))) × (printed_by c ≡ prints_by m.needs m.printed)

  wrong_told : (right : ℕ) (b : Completion ThreadState Value) → ActionTellsWrong m right b → Told b Invalid
  wrong_told right (Completes v t) h = absurd h
  wrong_told right (Recurs vs t) h = absurd h
  wrong_told right (Faults f t) h = absurd h
  wrong_told right (Retries t) h = absurd h
  wrong_told right (Waits t) h = (h.txs, sym (ap (λ z. prints_by z m.printed) h.needs))
  wrong_told right (OutOfTurns t) h = absurd h
  wrong_told right Invalid h = absurd h

  callee_told : (right : ℕ) (b c : Completion ThreadState Value) → ActionTellsOf m (length es) right b c → Told b c
  callee_told right b (Completes v t) h = (h.txs, sym (ap (λ z. prints_by z m.printed) h.needs ∙ h.printed))
  callee_told right b (Recurs vs t) h = absurd h
  callee_told right b (Faults f t) h = (h.txs, sym (ap (λ z. prints_by z m.printed) h.needs ∙ h.printed))
  callee_told right b (Retries t) h = absurd h
  callee_told right b (Waits t) h = (h.txs, sym (ap (λ z. prints_by z m.printed) h.needs ∙ h.printed))
  callee_told right b (OutOfTurns t) h = (h.txs, sym (ap (λ z. prints_by z m.printed) h.needs ∙ h.printed))
  callee_told right b Invalid h = wrong_told right b h

  either : (b : Bool) (y z u v : Completion ThreadState Value) → txs_of y ≡ txs_of u → txs_of z ≡ txs_of v → txs_of (if b then y else z) ≡ txs_of (if b then u else v)
  either true y z u v h k = h
  either false y z u v h k = k

  noted_so : TellsAction m p x.callee x.span (state ∷ x.args) n es → (m.txs ≡ map told_tx (noted_in all es)) × (printed_by (all es) ≡ prints_by m.needs m.printed)
  noted_so h =
      let right = right_events callee [] es in
      let r = callee_told right (callee (take right es)) (callee es) h in
      let counted : right_events all [] es ≡ right = events_same p n x state sound fits [] es in
      let from : (l : List SeenEvent) → From None Any (from_events (Some []) l) (callee l) = λ l. started p n x state sound fits l in
      let last = kept_by (from_events (Some []) es) (callee es) (from es) in
      let first = kept_by (from_events (Some []) (take right es)) (callee (take right es)) (from (take right es)) in
      let same : txs_of (if is_wrong (callee es) then callee (take right es) else callee es) ≡ noted_in all es =
      sym
      (ap (λ b. txs_of (if b then all (take (right_events all [] es) es) else all es)) (right_same p n x state sound fits (callee es))
      ∙ ap (λ j. txs_of (if is_wrong (callee es) then all (take j es) else all es)) counted
      ∙ either (is_wrong (callee es)) (all (take right es)) (all es) (callee (take right es)) (callee es) first.0 last.0) in
      (r.0 ∙ ap (map told_tx) same, last.1 ∙ r.1)

pub action_told : ActionNotedBy
action_told p n x state es m sound fits h = noted_so p n x state sound fits es m h
