-- What an audit finds of threads and actions, by what the evaluators answer.
use Rattle.std.specs.Prelude.{◌≡◌, ℕ, suc, Bool, true, false, not, ◌&&◌, ◌||◌, ◌==◌, List, [], ◌∷◌, length, map, Option, Some, None, Result, Ok, Err, if◌then◌else◌, ◌+◌, take}
use Rattle.txs_value_data.specs.Places.{nth, fault_at}
use Rattle.txs_value_data.specs.declared.fault.Fault.{Fault}
use Rattle.txs_value_data.specs.declared.fault.Span.{Span}
use Rattle.txs_value_data.specs.declared.op.Callee.{Callee}
use Rattle.txs_value_data.specs.declared.op.Callee.TheVariants.{Core as CoreOp, Function}
use Rattle.txs_value_apply.specs.Truth.{choose}
use Rattle.txs_value_data.specs.declared.fault.FaultKind.TheVariants.{InvalidState}
use Rattle.txs_value_cell.specs.Cells.{validator_at, validators_of}
use Rattle.txs_value_cell.specs.declared.action.Action.{Action}
use Rattle.txs_value_data.specs.declared.value.Value.{Value}
use Rattle.txs_world_protocol.specs.Ask.{same_fault, same_new}
use Rattle.txs_world_protocol.specs.SeenEvent.{SeenEvent}
use Rattle.txs_world_protocol.specs.declared.event.Event.{Event}
use Rattle.txs_world_protocol.specs.declared.event.EventKind.{EventKind}
use Rattle.txs_world_protocol.specs.declared.event.EventKind.TheVariants.{Commit, Refused}
use Rattle.txs_world_protocol.specs.declared.event.Outcome.{Outcome}
use Rattle.txs_world_protocol.specs.declared.event.Outcome.TheVariants.{Done, Failed}
use Rattle.txs_world_book.specs.Book.{first_failed, is_empty}
use Rattle.txs_world_book.specs.declared.cell.StoreCell.{StoreCell}
use Rattle.txs_tree_meaning.specs.Pure.{pure_meaning}
use Rattle.txs_tree_meaning.specs.Sound.{SoundSource, Sound}
use Rattle.txs_tree_meaning.specs.Thread.{TxRun, thread_meaning, ThreadState, action_meaning}
use Rattle.txs_tree_meaning.specs.Transaction.{TxState}
use Rattle.txs_tree_meaning.specs.Tree.{PlainFunction, ThreadSource, PlainProgram}
use Rattle.txs_tree_eval.specs.Told.{told_tx, Tells, PureGives}
use Rattle.txs_tree_eval.specs.declared.pure_call.EvalStop.{EvalStop}
use Rattle.txs_tree_eval.specs.declared.pure_call.EvalStop.TheVariants.{Fault as AFault, Turns as FewTurns, Memory as NoMemory}
use Rattle.txs_tree_eval.specs.declared.meaning.Needs.{Needs}
use Rattle.txs_tree_eval.specs.declared.meaning.Needs.TheVariants as needs
use Rattle.txs_tree_eval.specs.declared.meaning.ThreadMeaning.{ThreadMeaning}
use Rattle.txs_tree_eval.specs.declared.transaction.TxMeaning.{TxMeaning}
use Rattle.txs_theorem_threads.specs.FollowsAgent.{SoundAction}
use Rattle.txs_theorem_runs.specs.Told.{Place}
use Rattle.txs_theorem_serial.specs.Serial.{is_covered}
use Rattle.txs_tree_meaning.specs.Meaning.{Completion}
use Rattle.txs_tree_eval.specs.ActionTold.{TellsAction}
use Rattle.txs_tree_eval.specs.declared.action.ActionMeaning.{ActionMeaning}
use Rattle.txs_theorem_audit.specs.Audited.{PlainActorReport, Finding, Fine, Off, Short, and_then, check}
use Rattle.txs_theorem_audit.specs.Verdict.{begins, same_numbers, is_untouched, is_first_failed, is_end, is_commit, calm_found, covered_all, is_stopped, least_printed, printed_by, noted_by, end_found, is_full_book, full_found, noted_in, is_booked, act_ends, part_printed, still_ends, full_ends}

-- ---- transactions

-- what a transaction did, by what is answered of it
abbrev pub state_of : TxMeaning → TxState
state_of m = record { done = m.done; reads = m.reads; used = m.used }

-- whether the transaction of an event was undisturbed
abbrev pub calm_by : List StoreCell → List Event → EventKind → TxMeaning → Bool
calm_by cells done (Commit at view ws sends) m = is_untouched done at m.done.sets && is_untouched done at m.done.ensures
calm_by cells done (Refused at view g) m = is_untouched done at m.done.sets && (is_untouched done at m.done.ensures && is_first_failed (first_failed cells done m.done.sends) g)
calm_by cells done _ m = true

-- a transaction that is there, and those behind it
abbrev pub with_first : List TxMeaning → (TxMeaning → List TxMeaning → Finding) → Finding
with_first [] go = Fine
with_first (m ∷ ms) go = go m ms

-- the transactions of a thread at the events of its trace, from the i-th on
abbrev pub calm_at_by : List StoreCell → (ℕ → List Event) → ℕ → ℕ → Place → Option Event → (List TxMeaning → Finding) → List TxMeaning → Finding
calm_at_by cells books a i p None rest ms = rest ms
calm_at_by cells books a i p (Some e) rest ms =
    if is_end e.kind then with_first ms (λ m ns. and_then (check (calm_by cells (take p.at (books p.book)) e.kind m) a i) (rest ns)) else rest ms

-- the same of a whole trace
abbrev pub calm_found_by : List StoreCell → (ℕ → List Event) → ℕ → ℕ → List Place → List TxMeaning → Finding
calm_found_by cells books a i [] ms = Fine
calm_found_by cells books a i (p ∷ ps) ms = calm_at_by cells books a i p (nth (books p.book) p.at) (λ ns. calm_found_by cells books a (suc i) ps ns) ms

-- whether each commit of a trace is covered
abbrev pub covered_if_by : Option Event → (List TxMeaning → Bool) → List TxMeaning → Bool
covered_if_by None rest ms = rest ms
covered_if_by (Some e) rest [] = rest []
covered_if_by (Some e) rest (m ∷ ms) = if is_end e.kind then (not (is_commit e.kind) || is_covered (state_of m)) && rest ms else rest (m ∷ ms)

-- the same of a whole trace
abbrev pub covered_all_by : (ℕ → List Event) → List Place → List TxMeaning → Bool
covered_all_by books [] ms = true
covered_all_by books (p ∷ ps) ms = covered_if_by (nth (books p.book) p.at) (λ ns. covered_all_by books ps ns) ms

-- ---- ends

-- whether a thread ended as its meaning does
abbrev pub same_end : Option Outcome → Option Outcome → Bool
same_end (Some Done) (Some Done) = true
same_end (Some (Failed f)) (Some (Failed g)) = same_fault f g
same_end _ _ = false

-- whether a thread that was stopped has printed so much and no more
abbrev pub part_by : Option Outcome → List ℕ → List ℕ → List ℕ → Bool
part_by o out whole least = is_stopped o && (begins out whole && begins least out)

-- the end of a thread that lacks this, ends so, has printed this and eaten so many of k events
abbrev pub end_by : ℕ → ℕ → Option Outcome → List ℕ → List ℕ → Needs → Option Outcome → List ℕ → ℕ → Finding
end_by a k o out least needs.Nothing ends whole eaten = and_then (check (eaten == k) a eaten) (check (if same_end ends o then same_numbers out whole else part_by o out whole least) a k)
end_by a k o out least needs.Event ends whole eaten = and_then (check (eaten == k) a eaten) (check (if same_end ends o then same_numbers out whole else part_by o out whole least) a k)
end_by a k o out least needs.Turns ends whole eaten = if eaten == k && part_by o out whole least then Fine else Short a eaten
end_by a k o out least needs.Wrong ends whole eaten = Off a eaten

-- The end of a thread that was stopped for a full book and printed this: it lacks this, has printed so much, ate so many of k events, and the event that it
-- lacks, if it does, would be one of a full book or not.
abbrev pub full_by : ℕ → ℕ → List ℕ → Needs → Bool → List ℕ → ℕ → Finding
full_by a k out needs.Nothing full whole eaten = and_then (check (eaten == k) a eaten) (Off a k)
full_by a k out needs.Event full whole eaten = and_then (check (eaten == k) a eaten) (check (full && same_numbers out whole) a k)
full_by a k out needs.Turns full whole eaten = Short a eaten
full_by a k out needs.Wrong full whole eaten = Off a eaten

-- whether these bytes begin with what a thread's meaning prints, where it has one
abbrev pub least_by : Needs → List ℕ → List ℕ → Bool
least_by needs.Nothing whole out = begins whole out
least_by needs.Event whole out = begins whole out
least_by needs.Turns whole out = begins whole out
least_by needs.Wrong whole out = true

-- ---- actions

-- the fault of an operation as callee is that of the action's span
abbrev pub fault_in : Callee → Span → Fault → Fault
fault_in (CoreOp op) span f = fault_at f.kind span
fault_in (Function i) span f = f

-- the same of all that is answered of a callee
abbrev pub answer_in : Callee → Span → Result Value EvalStop → Result Value EvalStop
answer_in c span (Ok v) = Ok v
answer_in c span (Err (AFault f)) = Err (AFault (fault_in c span f))
answer_in c span (Err FewTurns) = Err FewTurns
answer_in c span (Err NoMemory) = Err NoMemory

-- a value, where a validator that gave this answer accepts it
abbrev pub judged_by : Span → Value → Result Value EvalStop → Result Value EvalStop
judged_by span v (Ok answer) = choose answer (Ok v) (Err (AFault (fault_at InvalidState span)))
judged_by span v (Err e) = Err e

-- a value, by what is answered of its cell's validator, if there is one
abbrev pub accepted_by : Option Callee → Span → Value → Result Value EvalStop → Result Value EvalStop
accepted_by None span v q = Ok v
accepted_by (Some f) span v q = judged_by span v (answer_in f span q)

-- how an action ends, by what is answered of it: it hands this in; it lacks an event, or turns; or it doesn't allow one. Where there was no memory
-- nothing is said.
pub data ActionEnd : Type 0 where
  HandedIn : (new : Result Value Fault) → ActionEnd
  LacksEvent LacksTurns Disallows Unsaid : ActionEnd

-- the same of a value, by what is answered of the agent's validator on it
abbrev pub end_of_state : Result Value EvalStop → ActionEnd
end_of_state (Ok v) = HandedIn (Ok v)
end_of_state (Err (AFault f)) = HandedIn (Err f)
end_of_state (Err FewTurns) = LacksTurns
end_of_state (Err NoMemory) = Unsaid

-- how an action ends that lacks this and has this result, by what comes of a value where the agent's validator looks at it
abbrev pub end_of_action : Needs → Option (Result Value Fault) → (Value → Result Value EvalStop) → ActionEnd
end_of_action needs.Nothing None accepted = Disallows
end_of_action needs.Nothing (Some (Ok v)) accepted = end_of_state (accepted v)
end_of_action needs.Nothing (Some (Err f)) accepted = HandedIn (Err f)
end_of_action needs.Event r accepted = LacksEvent
end_of_action needs.Turns r accepted = LacksTurns
end_of_action needs.Wrong r accepted = Disallows

-- the same of what is answered of an action, and of the agent's validator on its value
abbrev pub end_by_answers : ActionMeaning → Option Callee → Span → Result Value EvalStop → ActionEnd
end_by_answers m o span q = end_of_action m.needs m.result (λ v. accepted_by o span v q)

-- what is found of an action that ends so, which ate so many of its events and holds these sends, against its act, which is the k-th of the actor's
-- trace; its first event is the i-th
abbrev pub act_by : List StoreCell → List Event → Span → ℕ → ℕ → ℕ → ℕ → ℕ → List Action → Result Value Fault → List Action → ActionEnd → Finding
act_by cells done span a i k count eaten held new sends (HandedIn (Ok v)) =
    and_then (check (eaten == count) a (i + eaten)) (check (is_booked (first_failed cells done held) span v held new sends) a k)
act_by cells done span a i k count eaten held new sends (HandedIn (Err f)) = and_then (check (eaten == count) a (i + eaten)) (check (same_new (Err f) new && is_empty sends) a k)
act_by cells done span a i k count eaten held new sends LacksEvent = Off a k
act_by cells done span a i k count eaten held new sends LacksTurns = Short a (i + eaten)
act_by cells done span a i k count eaten held new sends Disallows = Off a (i + eaten)
act_by cells done span a i k count eaten held new sends Unsaid = Fine

-- the same of an action that isn't over, where this says whether it printed a part of what it prints
abbrev pub still_by : ℕ → ℕ → ℕ → ℕ → ℕ → Bool → ActionEnd → Finding
still_by a i k count eaten part (HandedIn new) = and_then (check (eaten == count) a (i + eaten)) (check part a k)
still_by a i k count eaten part LacksEvent = and_then (check (eaten == count) a (i + eaten)) (check part a k)
still_by a i k count eaten part LacksTurns = if eaten == count && part then Fine else Short a (i + eaten)
still_by a i k count eaten part Disallows = Off a (i + eaten)
still_by a i k count eaten part Unsaid = Fine

-- The same of one whose agent's actor was stopped for a full book: whether the store's book is full, whether the event that it lacks would be one of a full
-- book, and whether it printed just what it prints.
abbrev pub rest_full_by : ℕ → ℕ → ℕ → ℕ → ℕ → Bool → Bool → Bool → ActionEnd → Finding
rest_full_by a i k count eaten store full just (HandedIn new) = and_then (check (eaten == count) a (i + eaten)) (check (store && just) a k)
rest_full_by a i k count eaten store full just LacksEvent = and_then (check (eaten == count) a (i + eaten)) (check (full && just) a k)
rest_full_by a i k count eaten store full just LacksTurns = Short a (i + eaten)
rest_full_by a i k count eaten store full just Disallows = Off a (i + eaten)
rest_full_by a i k count eaten store full just Unsaid = Fine

-- what an action prints that lacks this: nothing, where it doesn't allow an event
abbrev pub prints_by : Needs → List ℕ → List ℕ
prints_by needs.Nothing out = out
prints_by needs.Event out = out
prints_by needs.Turns out = out
prints_by needs.Wrong out = []

-- of the agent's validator on a value this is answered, and there was memory
abbrev pub ValidatorGives : ℕ → List PlainFunction → Option Callee → Value → Result Value EvalStop → Type 0
ValidatorGives n functions None v q = Unit {0}
ValidatorGives n functions (Some f) v q = PureGives q (pure_meaning n functions f (v ∷ [])) × (q ≡ Err NoMemory → ⊥)

-- ---- laws

-- what is found of transactions is found by what is answered of them
abbrev pub CalmBy : Type 0
CalmBy = (cells : List StoreCell) (books : ℕ → List Event) (a i : ℕ) (ps : List Place) (xs : List TxRun) → calm_found cells books a i ps xs ≡ calm_found_by cells books a i ps (map told_tx xs)

-- so is whether they are covered
abbrev pub CoveredBy : Type 0
CoveredBy = (books : ℕ → List Event) (ps : List Place) (xs : List TxRun) → covered_all books ps xs ≡ covered_all_by books ps (map told_tx xs)

-- the transactions that are answered are those that an audit looks at
abbrev pub NotedBy : Type 0
NotedBy = (s : ThreadSource) (n : ℕ) (es : List SeenEvent) (m : ThreadMeaning) → Tells m s n es → m.txs ≡ map told_tx (noted_by s n es (thread_meaning s n es))

-- the end that is found of a sound thread
abbrev pub EndBy : Type 0
EndBy =
    (s : ThreadSource) (n a : ℕ) (es : List SeenEvent) (ran : PlainActorReport) (m : ThreadMeaning)
    → SoundSource s → Tells m s n es → end_found s n a es ran (thread_meaning s n es) ≡ end_by a (length es) ran.outcome ran.printed (least_printed s n es) m.needs m.outcome m.printed m.eaten

-- the end that is found of one that was stopped for a full book
abbrev pub FullBy : Type 0
FullBy =
    (books : ℕ → List Event) (s : ThreadSource) (n a : ℕ) (es : List SeenEvent) (out : List ℕ) (m : ThreadMeaning)
    → SoundSource s → Tells m s n es → full_found books s n a es out (thread_meaning s n es) ≡ full_by a (length es) out m.needs (is_full_book books m.asks) m.printed m.eaten

-- what was printed at least
abbrev pub LeastBy : Type 0
LeastBy = (s : ThreadSource) (n : ℕ) (es : List SeenEvent) (m : ThreadMeaning) (out : List ℕ) → Tells m s n es → begins (printed_by (thread_meaning s n es)) out ≡ least_by m.needs m.printed out

-- of an action of the program that may be sent this is answered, and this of its agent's validator on its value; there was memory
pub record ActionGives (p : PlainProgram) (n : ℕ) (x : Action) (state : Value) (es : List SeenEvent) (m : ActionMeaning) (q : Result Value EvalStop) : Type 0 where
  pub tells : TellsAction m p x.callee x.span (state ∷ x.args) n es
  pub validator : (v : Value) → m.result ≡ Some (Ok v) → ValidatorGives n p.functions (validator_at (validators_of p.cells) x.agent.number) v q

-- what an action means on its agent's state
abbrev pub means_on : PlainProgram → ℕ → Action → Value → List SeenEvent → Completion ThreadState Value
means_on p n x state es = action_meaning p.cells p.functions n x state es

-- the end that is found of an action that is over
abbrev pub ActBy : Type 0
ActBy =
    (p : PlainProgram) (n a i k : ℕ) (cells : List StoreCell) (done : List Event) (x : Action) (state : Value) (es : List SeenEvent) (new : Result Value Fault) (sends : List Action) (m : ActionMeaning) (q : Result Value EvalStop)
    → Sound p → SoundAction p.functions x → ActionGives p n x state es m q
    → act_ends cells done x.span a i k (means_on p n x state) es new sends (means_on p n x state es)
    ≡ act_by cells done x.span a i k (length es) m.eaten m.sends new sends (end_by_answers m (validator_at (validators_of p.cells) x.agent.number) x.span q)

-- that of an action that isn't over and has printed this
abbrev pub StillBy : Type 0
StillBy =
    (p : PlainProgram) (n a i k : ℕ) (x : Action) (state : Value) (es : List SeenEvent) (out : List ℕ) (m : ActionMeaning) (q : Result Value EvalStop)
    → Sound p → SoundAction p.functions x → ActionGives p n x state es m q
    → still_ends a i k (means_on p n x state) es out (means_on p n x state es)
    ≡ still_by a i k (length es) m.eaten (part_printed (means_on p n x state) es out m.printed) (end_by_answers m (validator_at (validators_of p.cells) x.agent.number) x.span q)

-- the same where its agent's actor was stopped for a full book
abbrev pub RestFullBy : Type 0
RestFullBy =
    (books : ℕ → List Event) (p : PlainProgram) (n a i k : ℕ) (x : Action) (state : Value) (es : List SeenEvent) (out : List ℕ) (m : ActionMeaning) (q : Result Value EvalStop)
    → Sound p → SoundAction p.functions x → ActionGives p n x state es m q
    → full_ends books a i k (means_on p n x state) es out (means_on p n x state es)
    ≡ rest_full_by a i k (length es) m.eaten (is_full_book books (Some 0)) (is_full_book books m.asks) (same_numbers out m.printed) (end_by_answers m (validator_at (validators_of p.cells) x.agent.number) x.span q)

-- the transactions that are answered of an action are those that an audit looks at, and what it prints is what is answered
abbrev pub ActionNotedBy : Type 0
ActionNotedBy =
    (p : PlainProgram) (n : ℕ) (x : Action) (state : Value) (es : List SeenEvent) (m : ActionMeaning)
    → Sound p → SoundAction p.functions x → TellsAction m p x.callee x.span (state ∷ x.args) n es
    → (m.txs ≡ map told_tx (noted_in (means_on p n x state) es)) × (printed_by (means_on p n x state es) ≡ prints_by m.needs m.printed)
