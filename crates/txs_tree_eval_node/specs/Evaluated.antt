-- What the plain evaluators answer.
use Rattle.std.specs.Prelude.{◌≡◌, ◌&&◌, ◌==◌, ℕ, suc, Bool, true, false, List, [], ◌∷◌, ◌++◌, map, drop, length, Option, Some, None, Result, Ok, Err, if◌then◌else◌, ⊤, Vec}
use Rattle.std.specs.Global.{Global}
use Rattle.txs_world_protocol.specs.Ask.{Writes, same_cell, same_value, same_writes, same_action, same_actions}
use Rattle.txs_world_protocol.specs.SeenEvent.{SeenEvent}
use Rattle.txs_world_protocol.specs.declared.event.Cause.TheVariants as cause
use Rattle.txs_world_protocol.specs.declared.event.EventKind.{EventKind}
use Rattle.txs_world_protocol.specs.declared.event.EventKind.TheVariants.{Read, Commit as Committed, Retry as Again, Fail as Failing, Refused as Refusing, Send as Sent, SendRefused, Swap as Swapped, Broke}
use Rattle.txs_frame.specs.Frame.{PlainTxFrame, has_number, commuted, sends_of_commit}
use Rattle.txs_frame.specs.declared.frame.Commute.{Commute}
use Rattle.txs_value_apply.specs.Core.{core, vector_of, takes}
use Rattle.txs_value_apply.specs.Truth.{choose}
use Rattle.txs_tree_eval_node.specs.Events.{seen_event, seen_events}
use Rattle.txs_tree_meaning.specs.Known.{Known}
use Rattle.txs_tree_meaning.specs.Meaning.{Completion, Completes, Recurs, Faults, Retries, Waits, OutOfTurns, Invalid, bind, closed, result_of, Applies, apply, turns, Effects, eval, eval_all, eval_let, eval_do, call_at}
use Rattle.txs_tree_meaning.specs.Pure.{pure_calls}
use Rattle.txs_tree_eval_node.specs.Setting.{Setting, callable, zone_in}
use Rattle.txs_tree_meaning.specs.Sound.{Zone, MayStand, SoundCall, SoundCallee}
use Rattle.txs_tree_meaning.specs.Right.{up_to, has_missed, passes, behind_retries, on_right}
use Rattle.txs_tree_meaning.specs.Thread.{TxRun, ThreadState, Surroundings, Transacting, swaps, faultless, faulted, meant, with_tx, holding, run_of, ends_tx, is_held, missing, again, uneaten, eats_tx, accepts}
use Rattle.txs_tree_meaning.specs.Transaction.{TxState, in_transaction_lacking, tx_update_lacking, tx_meaning, tx_meaning_lacking, redone, validated, accepted, final_writes}
use Rattle.txs_tree_meaning.specs.Tree.{Mark, Tree, Trees, count}
use Rattle.txs_tree_meaning.specs.View.{tree_of, functions_of}
use Rattle.txs_tree_eval_transaction.specs.Worked.{Gives, GivesOf, Stops, Told, stop_without_fault, tx_state}
use Rattle.txs_tree_eval_transaction.specs.Views.{PlainView, PlainTxView, plain_view, is_whole, world_of}
use Rattle.txs_tree_eval_node.specs.declared.closing.Closing.{Closing}
use Rattle.txs_tree_eval_node.specs.declared.closing.Closing.TheVariants.{Refused as ARefused, Committed as ACommitted, Stopped as AStopped}
use Rattle.txs_tree_eval_node.specs.declared.thread.Sending.{Sending}
use Rattle.txs_tree_eval_node.specs.declared.thread.Sending.TheVariants.{Sent as WasSent, Refused as WasRefused, Other as NotSent}
use Rattle.txs_tree_eval_node.specs.declared.thread.Rerun.{Rerun}
use Rattle.txs_tree_eval_node.specs.declared.thread.Rerun.TheVariants.{Outdated as WasOutdated, Touched as HadTouched, Other as NoRerun}
use Rattle.txs_tree_eval_node.specs.declared.thread.Touch.{Touch}
use Rattle.txs_tree_eval_node.specs.declared.thread.Touch.TheVariants.{Held as WasHeld, Redone as WasRedone}
use Rattle.txs_tree_eval_node.specs.declared.shape.Act.{Act}
use Rattle.txs_tree_eval_node.specs.declared.shape.Act.TheVariants.{Look as a_look, Put as a_put, Update as an_update, Send as a_send}
use Rattle.txs_tree_eval_node.specs.declared.evaluate.Step.{Step}
use Rattle.txs_tree_eval_node.specs.declared.evaluate.Step.TheVariants.{Value as AValue, Recur as ARecur}
use Rattle.txs_tree_eval_node.specs.declared.shape.Strict.{Strict}
use Rattle.txs_tree_eval_node.specs.declared.shape.Strict.TheVariants.{Recur as a_recur, Core as a_core, Call as a_call, Vector as a_vector, Println as a_println}
use Rattle.txs_tree_eval_node.specs.declared.state.Progress.{Progress}
use Rattle.txs_tree_eval_node.specs.declared.state.State.{State}
use Rattle.txs_tree_eval_node.specs.declared.state.Transacted.{Transacted}
use Rattle.txs_tree_eval_transaction.specs.declared.stop.ThreadStop.{ThreadStop}
use Rattle.txs_tree_eval_transaction.specs.declared.stop.ThreadStop.TheVariants.{Fault, Event as NoEvent, Wrong as OtherEvent, Turns as NoTurns, Memory}
use Rattle.txs_tree_eval_node.specs.declared.seen.Seen.{Seen}
use Rattle.txs_value_cell.specs.Cells.{World, validators_of, validator_at}
use Rattle.txs_value_cell.specs.Forms.{rule}
use Rattle.txs_value_data.specs.Limits.{reruns}
use Rattle.txs_value_data.specs.Places.{fault_at}
use Rattle.txs_value_cell.specs.declared.action.Action.{Action}
use Rattle.txs_value_data.specs.declared.fault.FaultKind.TheVariants.{AgentFailed}
use Rattle.txs_value_data.specs.declared.fault.Span.{Span}
use Rattle.txs_value_cell.specs.declared.form.CellForm.TheVariants as form_of
use Rattle.txs_value_cell.specs.declared.form.UpdateForm.{UpdateForm}
use Rattle.txs_value_cell.specs.declared.form.Standing.TheVariants.{Outside}
use Rattle.txs_value_data.specs.declared.op.Callee.{Callee}
use Rattle.txs_value_data.specs.declared.value.CellId.{CellId}
use Rattle.txs_value_data.specs.declared.value.Value.{Value}
use Rattle.txs_value_data.specs.declared.value.Value.TheVariants.{Cell}

-- ---- threads

-- before a thread on these events
abbrev pub idle : List SeenEvent → ThreadState
idle es = record { todo = es; printed = []; held = None; txs = []; asks = None }

-- ---- what an evaluation has done

-- a transaction that came to its end
abbrev pub tx_run : Transacted → TxRun
tx_run r = record { body = tree_of r.body.now; locals = r.locals; wanted = r.wanted; result = r.result; state = tx_state r.work }

-- the sends that an action holds
abbrev pub held_of : Option (Vec Action Global) → Option (List Action)
held_of None = None
held_of (Some v) = Some v.items

-- how far a thread is
abbrev pub thread_state : Progress → ThreadState
thread_state p = record { todo = drop p.eaten (seen_events p.events.now); printed = p.printed.items; held = held_of p.held; txs = map tx_run p.txs.items; asks = p.asks }

-- what counts while a transaction runs that sees this, or none
abbrev pub Part : Option PlainTxView → Type 0
Part None = ThreadState
Part (Some r) = TxState

-- whether one runs
abbrev pub is_on : Option PlainTxView → Bool
is_on None = false
is_on (Some r) = true

-- whether one runs, and sees all values: then nothing is waited for
abbrev pub has_all : Option PlainTxView → Bool
has_all None = false
has_all (Some r) = is_whole r.gone

-- the part that counts
abbrev pub part : (o : Option PlainTxView) → State → Part o
part None s = thread_state s.thread
part (Some r) s = tx_state s.tx

-- a pure answer, in this state
abbrev pub in_state : {S A : Type 0} → S → Completion (Unit {0}) A → Completion S A
in_state s (Completes a u) = Completes a s
in_state s (Recurs vs u) = Recurs vs s
in_state s (Faults f u) = Faults f s
in_state s (Retries u) = Retries s
in_state s (Waits u) = Waits s
in_state s (OutOfTurns u) = OutOfTurns s
in_state s Invalid = Invalid

-- what applies pure callees where calls may go as deep as there are functions
abbrev pub wholly : Surroundings → Span → Applies ThreadState
wholly x span callee vs t = in_state t (apply (pure_calls x.turns x.functions (length x.functions) false) span callee vs tt)

-- these forms, which apply pure callees so: those of swaps, commutes and validators
abbrev pub deeply : Surroundings → Effects ThreadState → Effects ThreadState
deeply x fx = record {
  print = λ inside vs t. fx.print inside vs t;
  look = λ form inside m v t. fx.look form inside m v t;
  put = λ form inside m v w f t. fx.put form inside m v w (wholly x m.span) t;
  update = λ form inside m v callee vs f t. fx.update form inside m v callee vs (wholly x m.span) t;
  send = λ inside m v callee vs t. fx.send inside m v callee vs t;
  dosync = λ inside m node env body f t. fx.dosync inside m node env body (wholly x m.span) t;
}

-- the forms on cells there; a thread waits before an event that it doesn't allow
abbrev pub forms_on : (o : Option PlainTxView) → Surroundings → ℕ → Effects (Part o)
forms_on None x d = deeply x (on_right x d)
forms_on (Some r) x d = in_transaction_lacking r.gone (world_of r.refs)

-- what surrounds an evaluation
abbrev pub around_it : Setting → Surroundings
around_it x = record { cells = x.cells; tries = suc reruns; turns = x.turns; functions = functions_of x.functions }

-- what the forms on cells do here
abbrev pub forms_in : (x : Setting) → Effects (Part x.world)
forms_in x = forms_on x.world (around_it x) x.depth

-- what functions mean while this transaction runs, or none
abbrev pub calls_on : (o : Option PlainTxView) → Setting → Bool → ℕ → List Value → Part o → Completion (Part o) Value
calls_on o x = call_at (forms_on o (around_it x)) x.turns (functions_of x.functions) x.depth

-- what functions mean here
abbrev pub calls_in : (x : Setting) → Bool → ℕ → List Value → Part x.world → Completion (Part x.world) Value
calls_in x = calls_on x.world x

-- ---- answers

-- Why there is no value at an event, with the state that it leaves, or there was no memory. Where the event isn't allowed there is no
-- meaning. Nothing is waited for.
abbrev pub HaltsAt : {S A : Type 0} → ThreadStop → S → Completion S A → Type 0
HaltsAt (Fault f) s c = c ≡ Faults f s
HaltsAt NoEvent s c = ⊥
HaltsAt OtherEvent s c = c ≡ Invalid
HaltsAt NoTurns s c = c ≡ OutOfTurns s
HaltsAt Memory s c = ⊤

-- the value at an event and the state that it leaves are those of the meaning, or it stops so
abbrev pub AnswersAt : {S A : Type 0} → Result A ThreadStop → S → Completion S A → Type 0
AnswersAt (Ok v) s c = c ≡ Completes v s
AnswersAt (Err y) s c = HaltsAt y s c

-- the same here
abbrev pub Yields : (x : Setting) → {A : Type 0} → Result A ThreadStop → State → Completion (Part x.world) A → Type 0
Yields x r s c = Gives (has_all x.world) r (part x.world s) c

-- the same of a list of values
abbrev pub GivesAll : (x : Setting) → {V : Type 0} → (V → List Value) → Result V ThreadStop → State → Completion (Part x.world) (List Value) → Type 0
GivesAll x f r s c = GivesOf f (has_all x.world) r (part x.world s) c

-- the same of a node in tail position, which may recur, while this transaction runs or none
abbrev pub StepsOn : {S : Type 0} → Bool → Result Step ThreadStop → S → Completion S Value → Type 0
StepsOn all (Ok (AValue v)) s c = c ≡ Completes v s
StepsOn all (Ok (ARecur vs)) s c = c ≡ Recurs vs.items s
StepsOn all (Err y) s c = Stops all y s c

-- the same here
abbrev pub Steps : (x : Setting) → Result Step ThreadStop → State → Completion (Part x.world) Value → Type 0
Steps x r s c = StepsOn (has_all x.world) r (part x.world s) c

-- a value, as what a node gives
abbrev pub step_of : Result Value ThreadStop → Result Step ThreadStop
step_of (Ok v) = Ok (AValue v)
step_of (Err y) = Err y

-- whether the value is the one that a swap names, none where it is broken
abbrev pub names : Option Value → Value → Bool
names (Some new) v = same_value v new
names None v = false

-- why a swap gives no value: a broken one alone may fault
abbrev pub swap_stop : Option Value → ThreadStop → ThreadStop
swap_stop (Some new) y = stop_without_fault y
swap_stop None y = y

-- what a swap gives where its callee gave this
abbrev pub swap_gives : Result Value ThreadStop → Option Value → Result Value ThreadStop
swap_gives (Ok v) o = if names o v then Ok v else Err OtherEvent
swap_gives (Err y) o = Err (swap_stop o y)

-- the next event is this one, and of the book; behind it come these
abbrev pub Comes : ℕ → Seen → ThreadState → Type 0
Comes book e t = (es : List SeenEvent) × (t.todo ≡ seen_event e ∷ es) × ((e.book == book) ≡ true)

-- no event is there, and it waits for one; or the next one is of another book
abbrev pub ComesNone : ℕ → ThreadStop → ThreadState → ThreadState → Type 0
ComesNone book NoEvent t u = (t.todo ≡ []) × (u ≡ record t { asks = Some book })
ComesNone book OtherEvent t u = (e : SeenEvent) × (es : List SeenEvent) × (t.todo ≡ e ∷ es) × ((e.book == book) ≡ false) × (u ≡ t)
ComesNone book (Fault f) t u = ⊥
ComesNone book NoTurns t u = ⊥
ComesNone book Memory t u = ⊥

-- with other events to come
abbrev pub with_todo : List SeenEvent → ThreadState → ThreadState
with_todo es t = record t { todo = es }

-- the state after an answer at an event, behind which these come: the event is eaten, but it stays to come where turns don't suffice
-- for it, or it isn't allowed
abbrev pub after : Result Value ThreadStop → List SeenEvent → ThreadState → ThreadState
after (Ok v) es t = with_todo es t
after (Err (Fault f)) es t = with_todo es t
after (Err NoEvent) es t = with_todo es t
after (Err OtherEvent) es t = t
after (Err NoTurns) es t = t
after (Err Memory) es t = with_todo es t

-- the same, whichever event it is
abbrev pub Eats : Result Value ThreadStop → ThreadState → ThreadState → Type 0
Eats r t u = (e : SeenEvent) (es : List SeenEvent) → t.todo ≡ e ∷ es → u ≡ after r es t

-- why a body had to run again, as the event says
abbrev pub rerun_as : EventKind → Rerun
rerun_as (Again since c cause.Outdated) = WasOutdated c.number
rerun_as (Again since c cause.Held) = HadTouched (WasHeld c.number)
rerun_as (Again since c (cause.Commuted at)) = HadTouched (WasRedone c.number)
rerun_as _ = NoRerun

-- whether a transaction did this
abbrev pub touched : Touch → PlainTxFrame → Bool
touched (WasHeld k) w = is_held w k
touched (WasRedone k) w = has_number (commuted w) k

-- A body on a world that lacks the value of a ref comes to look at that, and else it is wrong. Or turns don't suffice.
abbrev pub Misses : {U : Type 0} → Result U ThreadStop → Completion TxState Value → Type 0
Misses (Ok u) c = (t : TxState) × (c ≡ Waits t)
Misses (Err (Fault f)) c = ⊥
Misses (Err NoEvent) c = ⊥
Misses (Err OtherEvent) c = (has_missed c ≡ false) × ((t : ThreadState) (next : Completion ThreadState Value) → missing t c next ≡ Invalid)
Misses (Err NoTurns) c = (t : TxState) × (c ≡ OutOfTurns t)
Misses (Err Memory) c = ⊤

-- whether a body that gave this came to look at what its world lacks: it waits, and there is nothing else that it could wait for
abbrev pub miss_of : Result Value ThreadStop → Result (Unit {0}) ThreadStop
miss_of (Ok v) = Err OtherEvent
miss_of (Err (Fault f)) = Err OtherEvent
miss_of (Err NoEvent) = Ok tt
miss_of (Err OtherEvent) = Ok tt
miss_of (Err NoTurns) = Err NoTurns
miss_of (Err Memory) = Err Memory

-- it goes on where this is so, and else it is wrong
abbrev pub Allows : {U : Type 0} → Result U ThreadStop → Bool → Type 0
Allows (Ok u) b = b ≡ true
Allows (Err (Fault f)) b = ⊥
Allows (Err NoEvent) b = ⊥
Allows (Err OtherEvent) b = b ≡ false
Allows (Err NoTurns) b = ⊥
Allows (Err Memory) b = ⊤

-- A try that had to run again for the cause that its event says. Else that isn't allowed, or turns don't suffice for its body.
abbrev pub Reruns : {U : Type 0} → Transacting → EventKind → World → Result U ThreadStop → Type 0
Reruns d k R (Ok u) = (passes d k R ≡ true) × ((t : ThreadState) (next : Completion ThreadState Value) → again d k R t next ≡ next)
Reruns d k R (Err (Fault f)) = ⊥
Reruns d k R (Err NoEvent) = ⊥
Reruns d k R (Err OtherEvent) = (passes d k R ≡ false) × ((t : ThreadState) (next : Completion ThreadState Value) → again d k R t next ≡ Invalid)
Reruns d k R (Err NoTurns) = (passes d k R ≡ false) × ((t : ThreadState) (next : Completion ThreadState Value) → again d k R t next ≡ OutOfTurns t)
Reruns d k R (Err Memory) = ⊤

-- where the retries of a transaction were eaten
abbrev pub retried : ℕ → Transacting → ThreadState → ThreadState
retried k d t = with_todo (behind_retries k d t.todo) t

-- they were eaten, and the event of its end comes next
abbrev pub EndComes : Transacting → Seen → ThreadState → ThreadState → Type 0
EndComes d e t u =
    (es : List SeenEvent)
    × (u.todo ≡ seen_event e ∷ es)
    × (retried (suc reruns) d t ≡ u)
    × ((f : Applies ThreadState)
    → eats_tx (suc reruns) d f t.todo t ≡ uneaten (seen_event e ∷ es) (ends_tx d f e.kind.now (world_of (plain_view e.start)) (world_of (plain_view e.view)) (world_of (plain_view e.here)) (with_todo es u)))

-- there is no such event, a retry has no cause, or there are too many of them
abbrev pub EndsNone : Transacting → ThreadStop → ThreadState → ThreadState → Type 0
EndsNone d y t u = (f : Applies ThreadState) → Stops false y u (up_to (retried (suc reruns) d t) (eats_tx (suc reruns) d f t.todo t))

-- what a swap makes of what its callee gave, where the event names a value, or is a broken swap
abbrev pub swap_ends : Option Value → Completion ThreadState Value → Completion ThreadState Value
swap_ends (Some new) c = faultless c (λ v s. meant (same_value v new) v s)
swap_ends None c = faulted c (λ g s. Faults g s)

-- what `swap!` does at an event
abbrev pub swap_on : SeenEvent → CellId → (Value → ThreadState → Completion ThreadState Value) → ThreadState → Completion ThreadState Value
swap_on e c g t = swaps c g e.kind e.R e.C t

-- an event of a swap: the world that has the atom's value, and the value that it names
abbrev pub IsSwap : SeenEvent → PlainView → Option Value → Type 0
IsSwap e w o = (c : CellId) (g : Value → ThreadState → Completion ThreadState Value) (t : ThreadState) → swap_on e c g t ≡ swap_ends o (g (world_of w c.number) t)

-- an event of none
abbrev pub IsNoSwap : SeenEvent → ThreadStop → Type 0
IsNoSwap e y = (c : CellId) (g : Value → ThreadState → Completion ThreadState Value) (t : ThreadState) → HaltsAt y t (swap_on e c g t)

-- ---- parts of a meaning

-- what a node means here, with these locals
abbrev pub means : (x : Setting) → Tree → List Value → State → Completion (Part x.world) Value
means x e env s = eval (forms_in x) (calls_in x) x.turns (is_on x.world) e env (part x.world s)

-- the same of nodes whose values are all wanted
abbrev pub all_mean : (x : Setting) → Trees → List Value → State → Completion (Part x.world) (List Value)
all_mean x es env s = eval_all (forms_in x) (calls_in x) x.turns (is_on x.world) es env (part x.world s)

-- the same of nodes of which the last one's value is wanted
abbrev pub do_means : (x : Setting) → Trees → List Value → State → Completion (Part x.world) Value
do_means x es env s = eval_do (forms_in x) (calls_in x) x.turns (is_on x.world) es env (part x.world s)

-- the same of a test and its branches
abbrev pub if_means : (x : Setting) → Tree → Tree → Tree → List Value → State → Completion (Part x.world) Value
if_means x c a b env s =
    bind (means x c env s) (λ v t. choose v (eval (forms_in x) (calls_in x) x.turns (is_on x.world) a env t) (eval (forms_in x) (calls_in x) x.turns (is_on x.world) b env t))

-- the same of a body after its new locals
abbrev pub let_means : (x : Setting) → Trees → Tree → List Value → State → Completion (Part x.world) Value
let_means x es body env s =
    bind (eval_let (forms_in x) (calls_in x) x.turns (is_on x.world) es env (part x.world s)) (λ vs t. eval (forms_in x) (calls_in x) x.turns (is_on x.world) body (env ++ vs) t)

-- the locals with the new ones behind them
abbrev pub locals_mean : (x : Setting) → Trees → List Value → State → Completion (Part x.world) (List Value)
locals_mean x es env s = bind (eval_let (forms_in x) (calls_in x) x.turns (is_on x.world) es env (part x.world s)) (λ vs t. Completes (env ++ vs) t)

-- at most k turns of a body, each of which has d locals of its own
abbrev pub turns_mean : (x : Setting) → ℕ → ℕ → Tree → List Value → List Value → State → Completion (Part x.world) Value
turns_mean x k d body env vs s = turns k d (λ ws t. eval (forms_in x) (calls_in x) x.turns (is_on x.world) body (env ++ ws) t) vs (part x.world s)

-- the turns of a body after its new locals
abbrev pub loop_means : (x : Setting) → Trees → Tree → List Value → State → Completion (Part x.world) Value
loop_means x es body env s =
    bind (eval_let (forms_in x) (calls_in x) x.turns (is_on x.world) es env (part x.world s))
    (λ vs t. turns x.turns (count es) (λ ws t1. eval (forms_in x) (calls_in x) x.turns (is_on x.world) body (env ++ ws) t1) vs t)

-- a function on these values
abbrev pub call_means : (x : Setting) → ℕ → List Value → State → Completion (Part x.world) Value
call_means x f vs s = calls_in x (is_on x.world) f vs (part x.world s)

-- a callee on these values
abbrev pub applies_means : (x : Setting) → Span → Callee → List Value → State → Completion (Part x.world) Value
applies_means x span callee vs s = apply (calls_in x (is_on x.world)) span callee vs (part x.world s)

-- what is done with the values of a node's parts
abbrev pub finishes : (x : Setting) → Strict → Span → List Value → Part x.world → Completion (Part x.world) Value
finishes x a_recur span vs s = Recurs vs s
finishes x (a_core op) span vs s = result_of (core op vs) span s
finishes x (a_call f) span vs s = calls_in x (is_on x.world) f vs s
finishes x a_vector span vs s = result_of (vector_of vs) span s
finishes x a_println span vs s = (forms_in x).print (is_on x.world) vs s

-- it may be done with so many values
abbrev pub Finishes : Setting → Strict → ℕ → Type 0
Finishes x a_recur n = Unit {0}
Finishes x (a_core op) n = takes op n ≡ true
Finishes x (a_call f) n = SoundCall (callable x) (zone_in x) f n
Finishes x a_vector n = Unit {0}
Finishes x a_println n = MayStand (zone_in x) Outside

-- what is done with these values
abbrev pub finish_means : (x : Setting) → Strict → Span → List Value → State → Completion (Part x.world) Value
finish_means x strict span vs s = finishes x strict span vs (part x.world s)

-- the values of parts, and then what is done with them
abbrev pub strict_means : (x : Setting) → Strict → Span → Trees → List Value → State → Completion (Part x.world) Value
strict_means x strict span args env s = bind (all_mean x args env s) (λ vs t. finishes x strict span vs t)

-- ---- forms on cells

-- what a form on a cell does with the cell and its arguments, while this transaction runs or none
abbrev pub acts : (o : Option PlainTxView) → Setting → Act → Mark → Value → List Value → Part o → Completion (Part o) Value
acts o x (a_look form) m c vs s = (forms_on o (around_it x) x.depth).look form (is_on o) m c s
acts o x (a_put form) m c [] s = Invalid
acts o x (a_put form) m c (v ∷ vs) s = (forms_on o (around_it x) x.depth).put form (is_on o) m c v (apply (calls_on o x (is_on o)) m.span) s
acts o x (an_update form callee) m c vs s = (forms_on o (around_it x) x.depth).update form (is_on o) m c callee vs (apply (calls_on o x (is_on o)) m.span) s
acts o x (a_send callee) m c vs s = (forms_on o (around_it x) x.depth).send (is_on o) m c callee vs s

-- it may be in this zone with so many arguments
abbrev pub ReadyIn : List Known → Zone → Act → ℕ → Type 0
ReadyIn ks zone (a_look form) n = MayStand zone (rule (form_of.Look form)).stands
ReadyIn ks zone (a_put form) n = MayStand zone (rule (form_of.Put form)).stands × (n ≡ 1)
ReadyIn ks zone (an_update form callee) n = MayStand zone (rule (form_of.Update form)).stands × SoundCallee ks callee (suc n)
ReadyIn ks zone (a_send callee) n = Unit {0}

-- the same here
abbrev pub Ready : Setting → Act → ℕ → Type 0
Ready x act n = ReadyIn (callable x) (zone_in x) act n

-- what it does here
abbrev pub act_means : (x : Setting) → Act → Mark → Value → List Value → State → Completion (Part x.world) Value
act_means x act m c vs s = acts x.world x act m c vs (part x.world s)

-- the cell, the arguments, and then what the form does
abbrev pub form_means : (x : Setting) → Act → Mark → Tree → Trees → List Value → State → Completion (Part x.world) Value
form_means x act m cell args env s =
    bind (means x cell env s) (λ c t. bind (eval_all (forms_in x) (calls_in x) x.turns (is_on x.world) args env t) (λ vs t1. acts x.world x act m c vs t1))

-- what it does in a transaction that sees this
abbrev pub inside_means : Setting → PlainTxView → Act → Mark → Value → List Value → TxState → Completion TxState Value
inside_means x r act m c vs t = acts (Some r) x act m c vs t

-- what it does outside
abbrev pub outside_means : Setting → Act → Mark → Value → List Value → ThreadState → Completion ThreadState Value
outside_means x act m c vs t = acts None x act m c vs t

-- a form that updates a ref, in a transaction
abbrev pub update_means : Setting → PlainTxView → UpdateForm → Callee → CellId → List Value → Mark → TxState → Completion TxState Value
update_means x r form callee c vs m t = tx_update_lacking r.gone (world_of r.refs) form m c callee vs (apply (calls_on (Some r) x true) m.span) t

-- what a swap's callee makes of a value outside, where the cell's validator accepts it
abbrev pub makes : Setting → Callee → CellId → List Value → Span → Value → ThreadState → Completion ThreadState Value
makes x callee c vs span v t = bind (wholly (around_it x) span callee (v ∷ vs) t) (accepts (around_it x) (wholly (around_it x) span) c span)

-- `swap!` outside, at its event
abbrev pub swap_means : Setting → Callee → CellId → List Value → Span → SeenEvent → ThreadState → Completion ThreadState Value
swap_means x callee c vs span e t = swap_on e c (makes x callee c vs span) t

-- ---- what events are

-- whether the event is a read of the cell
abbrev pub is_read_of : CellId → EventKind → Bool
is_read_of c (Read d) = same_cell c d
is_read_of c _ = false

-- whether the event is a swap to the value
abbrev pub is_swap_to : Value → EventKind → Bool
is_swap_to v (Swapped new) = same_value v new
is_swap_to v _ = false

-- the value that an atom got, if the event is a swap
abbrev pub swap_of : EventKind → Option Value
swap_of (Swapped v) = Some v
swap_of _ = None

-- whether the event is a broken swap
abbrev pub is_broke : EventKind → Bool
is_broke (Broke at) = true
is_broke _ = false

-- what a send of the action is to the event
abbrev pub sending : Action → EventKind → Sending
sending a (Sent b) = if same_action a b then WasSent else NotSent
sending a (SendRefused g) = if same_cell a.agent g then WasRefused else NotSent
sending a _ = NotSent

-- what it gives then
abbrev pub sent_as : Action → Span → ThreadState → Sending → Completion ThreadState Value
sent_as a span t WasSent = Completes (Cell a.agent) t
sent_as a span t WasRefused = Faults (fault_at AgentFailed span) t
sent_as a span t NotSent = Invalid

-- ---- pure callees

-- what applies pure callees, with no state
abbrev pub quiet : Setting → Span → Applies (Unit {0})
quiet x span = apply (pure_calls x.turns (functions_of x.functions) x.depth false) span

-- a pure callee on these values
abbrev pub applied : Setting → Callee → List Value → Span → Completion (Unit {0}) Value
applied x callee vs span = quiet x span callee vs tt

-- a value that a cell is to get, where its validator accepts it
abbrev pub accept_means : Setting → CellId → Span → Value → Completion (Unit {0}) Value
accept_means x c span v = validated (quiet x span) (validator_at (validators_of x.cells) c.number) span v tt

-- what a pure callee makes, where the cell's validator accepts it
abbrev pub made_means : Setting → Callee → CellId → List Value → Span → Completion (Unit {0}) Value
made_means x callee c vs span = bind (applied x callee vs span) (λ v u. accept_means x c span v)

-- the first of these values is accepted by the cell's validator
abbrev pub FirstAccepted : Setting → CellId → Span → List Value → Type 0
FirstAccepted x c span [] = Unit {0}
FirstAccepted x c span (v ∷ vs) = accept_means x c span v ≡ Completes v tt

-- it isn't, or the validator gives no answer
abbrev pub FirstStops : Setting → CellId → Span → List Value → ThreadStop → Type 0
FirstStops x c span [] y = ⊥
FirstStops x c span (v ∷ vs) y = Told {A = Value} (Err y) (accept_means x c span v)

-- the value that a form puts outside is accepted
abbrev pub PutAccepted : Setting → Act → CellId → Span → List Value → Type 0
PutAccepted x (a_look form) c span vs = Unit {0}
PutAccepted x (a_put form) c span vs = FirstAccepted x c span vs
PutAccepted x (an_update form callee) c span vs = Unit {0}
PutAccepted x (a_send callee) c span vs = Unit {0}

-- it isn't
abbrev pub PutStops : Setting → Act → CellId → Span → List Value → ThreadStop → Type 0
PutStops x (a_look form) c span vs y = ⊥
PutStops x (a_put form) c span vs y = FirstStops x c span vs y
PutStops x (an_update form callee) c span vs y = ⊥
PutStops x (a_send callee) c span vs y = ⊥

-- each of these writes is accepted
abbrev pub accepted_means : Setting → Span → Writes → Completion (Unit {0}) (Unit {0})
accepted_means x span ws = accepted (quiet x span) (validators_of x.cells) span ws tt

-- each of these commutes has a pure callee of as many values
abbrev pub SoundCommutes : List Known → List Commute → Type 0
SoundCommutes ks [] = Unit {0}
SoundCommutes ks (c ∷ cs) = SoundCallee ks c.callee (suc (length c.args)) × SoundCommutes ks cs

-- commutes again, on these values
abbrev pub redone_means : Setting → Span → List Commute → Writes → Completion (Unit {0}) Writes
redone_means x span cs ws = redone (quiet x span) cs ws tt

-- the final writes on a world
abbrev pub final_means : Setting → PlainTxFrame → PlainView → Span → Completion (Unit {0}) Writes
final_means x w r span = final_writes (quiet x span) (validators_of x.cells) span w (world_of r) tt

-- ---- transactions

-- a dosync as its thread meets it
abbrev pub transacting : Setting → Mark → Tree → List Value → Transacting
transacting x m body env = record { mark = m; body = body; locals = env; on = tx_meaning x.turns (functions_of x.functions) x.depth body env; lacking = λ k. tx_meaning_lacking x.turns (functions_of x.functions) x.depth body env (Some k); validators = validators_of x.cells }

-- what applies its commutes and validators at its end
abbrev pub at_end : Setting → Span → Applies ThreadState
at_end x span = wholly (around_it x) span

-- a dosync here
abbrev pub dosync_means : (x : Setting) → Mark → Tree → List Value → State → Completion (Part x.world) Value
dosync_means x m body env s =
    (forms_in x).dosync (is_on x.world) m body env (λ t. closed (eval (forms_in x) (calls_in x) x.turns true body env t)) (apply (calls_in x true) m.span) (part x.world s)

-- one outside, at most k events; the thread waits before an end that it doesn't allow
abbrev pub eat_means : Setting → ℕ → Mark → Tree → List Value → ThreadState → Completion ThreadState Value
eat_means x k m body env t = up_to (retried k (transacting x m body env) t) (eats_tx k (transacting x m body env) (at_end x m.span) t.todo t)

-- its body on a world
abbrev pub body_means : Setting → Tree → List Value → PlainView → Completion TxState Value
body_means x body env r = tx_meaning x.turns (functions_of x.functions) x.depth body env (world_of r)

-- its body where a transaction sees this
abbrev pub seen_means : Setting → Tree → List Value → PlainTxView → Completion TxState Value
seen_means x body env r = tx_meaning_lacking x.turns (functions_of x.functions) x.depth body env r.gone (world_of r.refs)

-- what follows a body that gave a value; a fault of the body is one of the thread
abbrev pub carried_on : {A : Type 0} → ThreadState → Completion TxState Value → (Value → TxState → Completion ThreadState A) → Completion ThreadState A
carried_on t (Completes v y) go = go v y
carried_on t (Recurs vs y) go = Invalid
carried_on t (Faults f y) go = Faults f t
carried_on t (Retries y) go = Invalid
carried_on t (Waits y) go = Invalid
carried_on t (OutOfTurns y) go = OutOfTurns t
carried_on t Invalid go = Invalid

-- its body on a world, and then its commutes on another one: the run with its final writes
abbrev pub ended : Setting → Mark → Tree → List Value → PlainView → PlainView → ThreadState → Completion ThreadState (TxRun × Writes)
ended x m body env r w t =
    let d = transacting x m body env in
    carried_on t (d.on (world_of r)) (λ v y. bind (final_writes (at_end x m.span) d.validators m.span y.done (world_of w) t) (λ ws t1. Completes (run_of d v y, ws) t1))

-- the world of its commutes, if the event is one of its end
abbrev pub end_view : EventKind → PlainView → PlainView → Option PlainView
end_view (Committed at view writes sent) q c = Some c
end_view (Failing at view) q c = Some q
end_view (Refusing at view agent) q c = Some q
end_view _ q c = None

-- a commit with these writes and sends; an action sends nothing, and holds the sends
abbrev pub commit_closes : Writes → List Action → Completion ThreadState (TxRun × Writes) → Completion ThreadState Value
commit_closes writes sent c = faultless c (λ r t. meant (same_writes r.1 writes && same_actions (sends_of_commit t.held r.0.state.done.sends) sent) r.0.result (holding r.0.state.done.sends (with_tx r.0 t)))

-- a refusal
abbrev pub refuse_closes : Span → Completion ThreadState (TxRun × Writes) → Completion ThreadState Value
refuse_closes span c = faultless c (λ r t. Faults (fault_at AgentFailed span) (with_tx r.0 t))

-- what the event makes of the run
abbrev pub closes : EventKind → Span → Completion ThreadState (TxRun × Writes) → Completion ThreadState Value
closes (Committed at view writes sent) span c = commit_closes writes sent c
closes (Failing at view) span c = faulted c (λ g t. Faults g t)
closes (Refusing at view agent) span c = refuse_closes span c
closes _ span c = Invalid

-- why there is no value at the event, where the body or a commute stops so
abbrev pub end_stop : EventKind → ThreadStop → ThreadStop
end_stop (Committed at view writes sent) y = stop_without_fault y
end_stop (Failing at view) y = y
end_stop (Refusing at view agent) y = stop_without_fault y
end_stop _ y = OtherEvent

-- what a run with these final writes and sends is to the event
abbrev pub ends_as : EventKind → Writes → List Action → Closing
ends_as (Refusing at view agent) last held = ARefused
ends_as (Committed at view writes sent) last held = if same_writes last writes && same_actions held sent then ACommitted else AStopped OtherEvent
ends_as _ last held = AStopped OtherEvent

-- the same of a run that came to these final writes
abbrev pub closing : {V : Type 0} → (V → Writes) → EventKind → Result V ThreadStop → List Action → Closing
closing f k (Ok last) held = ends_as k (f last) held
closing f k (Err y) held = AStopped (end_stop k y)

-- what is given then, and the state that is left
abbrev pub Closes : Closing → Span → TxRun → Result Value ThreadStop → ThreadState → ThreadState → Type 0
Closes ARefused span r res t u = AnswersAt res u (Faults (fault_at AgentFailed span) (with_tx r t))
Closes ACommitted span r res t u = AnswersAt res u (Completes r.result (holding r.state.done.sends (with_tx r t)))
Closes (AStopped y) span r res t u = (res ≡ Err y) × (u ≡ t)

-- a body that gives no value on a world
abbrev pub BodyStops : ThreadStop → Completion TxState Value → Type 0
BodyStops (Fault f) c = (t : TxState) × (c ≡ Faults f t)
BodyStops NoEvent c = ⊥
BodyStops OtherEvent c = ⊥
BodyStops NoTurns c = (t : TxState) × (c ≡ OutOfTurns t)
BodyStops Memory c = ⊤

-- the body on a world, as if it ran alone: its run, or it stops so
abbrev pub Runs : Result Transacted ThreadStop → Mark → Tree → List Value → Completion TxState Value → Type 0
Runs (Ok r) m body env c =
    (c ≡ Completes r.result (tx_state r.work)) × (tx_run r ≡ record { body = body; locals = env; wanted = m.wanted; result = r.result; state = tx_state r.work })
Runs (Err y) m body env c = BodyStops y c
