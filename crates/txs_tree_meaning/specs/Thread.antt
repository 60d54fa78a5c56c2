-- What a thread means on a list of events, each with its worlds.
use Rattle.std.specs.Prelude.{ℕ, zero, suc, Bool, true, false, List, [], ◌∷◌, ◌++◌, ◌==◌, ◌&&◌, ◌||◌, length, if◌then◌else◌, Option, Some, None}
use Rattle.txs_world_protocol.specs.Ask.{same_writes, same_cell, same_value, same_action, same_actions}
use Rattle.txs_world_protocol.specs.SeenEvent.{SeenEvent, home}
use Rattle.txs_world_protocol.specs.declared.event.Cause.TheVariants as cause
use Rattle.txs_world_protocol.specs.declared.event.EventKind.{EventKind}
use Rattle.txs_world_protocol.specs.declared.event.EventKind.TheVariants.{Read, Commit, Retry, Fail, Refused, Send as Sent, SendRefused, Swap as Swapped, Broke}
use Rattle.txs_tree_meaning.specs.Meaning.{Completion, Completes, Recurs, Faults, Retries, Waits, OutOfTurns, Invalid, closed, allowed, Applies, Effects, eval, call_at, bind, apply}
use Rattle.txs_tree_meaning.specs.Transaction.{TxState, on_cell, tx_meaning, tx_meaning_lacking, final_writes, validated}
use Rattle.txs_tree_meaning.specs.Tree.{Mark, Tree, PlainFunction, ThreadSource}
use Rattle.txs_value_cell.specs.Cells.{World, Validators, validators_of, validator_at}
use Rattle.txs_value_cell.specs.Forms.{rule, may_stand}
use Rattle.txs_value_data.specs.Limits.{reruns}
use Rattle.txs_value_data.specs.Places.{fault_at}
use Rattle.txs_value_data.specs.Printed.{printed_line}
use Rattle.txs_value_cell.specs.declared.action.Action.{Action}
use Rattle.txs_value_cell.specs.declared.cell.CellDefinition.{CellDefinition}
use Rattle.txs_value_data.specs.declared.fault.Fault.{Fault}
use Rattle.txs_value_data.specs.declared.fault.FaultKind.TheVariants.{RetryLimit, AgentFailed}
use Rattle.txs_value_data.specs.declared.fault.Span.{Span}
use Rattle.txs_value_cell.specs.declared.form.CellForm.{CellForm}
use Rattle.txs_value_cell.specs.declared.form.CellForm.TheVariants as form_of
use Rattle.txs_value_cell.specs.declared.form.LookForm.{LookForm}
use Rattle.txs_value_cell.specs.declared.form.LookForm.TheVariants.{Deref, Ensure}
use Rattle.txs_value_cell.specs.declared.form.PutForm.{PutForm}
use Rattle.txs_value_cell.specs.declared.form.PutForm.TheVariants.{RefSet, Reset}
use Rattle.txs_value_cell.specs.declared.form.UpdateForm.{UpdateForm}
use Rattle.txs_value_cell.specs.declared.form.UpdateForm.TheVariants.{Alter, Commute, Swap}
use Rattle.txs_value_data.specs.declared.op.Callee.{Callee}
use Rattle.txs_value_data.specs.declared.value.CellId.{CellId}
use Rattle.txs_value_data.specs.declared.value.Value.{Value}
use Rattle.txs_value_data.specs.declared.value.Value.TheVariants.{Nil, Cell}
use Rattle.txs_frame.specs.Frame.{PlainTxFrame, has_number, commuted, sends_of_commit, with_sends}

-- a transaction that came to its end: its body with its locals, whether its result is wanted, and its meaning at its read point
pub record TxRun : Type 0 where
  pub body : Tree
  pub locals : List Value
  pub wanted : Bool
  pub result : Value
  pub state : TxState

-- the events to come, the bytes that were printed, the sends that are held, and the transactions that were committed or refused, in order
pub record ThreadState : Type 0 where
  pub todo : List SeenEvent
  pub printed : List ℕ
  -- the sends that an action holds; a thread holds none
  pub held : Option (List Action)
  pub txs : List TxRun
  -- which book's event it waits for, where it waits
  pub asks : Option ℕ

-- a transaction that came to its end is noted
abbrev pub with_tx : TxRun → ThreadState → ThreadState
with_tx x t = record t { txs = t.txs ++ x ∷ [] }

-- an event for which turns don't suffice stays to come
abbrev pub uneaten : {A : Type 0} → List SeenEvent → Completion ThreadState A → Completion ThreadState A
uneaten es (Completes a t) = Completes a t
uneaten es (Recurs vs t) = Recurs vs t
uneaten es (Faults f t) = Faults f t
uneaten es (Retries t) = Retries t
uneaten es (Waits t) = Waits t
uneaten es (OutOfTurns t) = OutOfTurns (record t { todo = es })
uneaten es Invalid = Invalid

-- the next event is eaten, if it is of this book; where there is none, it waits for one
abbrev pub eats : {A : Type 0} → ℕ → (SeenEvent → ThreadState → Completion ThreadState A) → List SeenEvent → ThreadState → Completion ThreadState A
eats book go [] t = Waits (record t { asks = Some book })
eats book go (e ∷ es) t = if e.book == book then uneaten (e ∷ es) (go e (record t { todo = es })) else Invalid

-- a value that an event names is the one that is meant
abbrev pub meant : Bool → Value → ThreadState → Completion ThreadState Value
meant true v t = Completes v t
meant false v t = Invalid

-- a read outside a transaction eats a read of the cell, and gives the value at that event's place (Clojure's docstring of `deref`)
abbrev pub reads : CellId → EventKind → World → ThreadState → Completion ThreadState Value
reads c (Read d) C t = meant (same_cell c d) (C c.number) t
reads c _ C t = Invalid

-- `reset!` eats a swap of its value
abbrev pub resets : Value → EventKind → ThreadState → Completion ThreadState Value
resets v (Swapped new) t = meant (same_value v new) v t
resets v _ t = Invalid

-- these sends are held too, in an action
abbrev pub holding : List Action → ThreadState → ThreadState
holding sends t = record t { held = with_sends sends t.held }

-- what follows a fault, where nothing else may come
abbrev pub faulted : {S A : Type 0} → Completion S A → (Fault → S → Completion S Value) → Completion S Value
faulted (Completes a s) go = Invalid
faulted (Recurs vs s) go = Invalid
faulted (Faults f s) go = go f s
faulted (Retries s) go = Invalid
faulted (Waits s) go = Waits s
faulted (OutOfTurns s) go = OutOfTurns s
faulted Invalid go = Invalid

-- what follows a value, where no fault may come
abbrev pub faultless : {S A : Type 0} → Completion S A → (A → S → Completion S Value) → Completion S Value
faultless (Completes a s) go = go a s
faultless (Recurs vs s) go = Invalid
faultless (Faults f s) go = Invalid
faultless (Retries s) go = Invalid
faultless (Waits s) go = Waits s
faultless (OutOfTurns s) go = OutOfTurns s
faultless Invalid go = Invalid

-- `swap!` eats a swap to what the callee makes of the atom's value (Clojure's docstring of `swap!`), or faults as the callee or the validator does on the value that was opened
abbrev pub swaps : CellId → (Value → ThreadState → Completion ThreadState Value) → EventKind → World → World → ThreadState → Completion ThreadState Value
swaps c f (Swapped new) R C t = faultless (f (C c.number) t) (λ v t1. meant (same_value v new) v t1)
swaps c f (Broke at) R C t = faulted (f (R c.number) t) (λ g t1. Faults g t1)
swaps c f _ R C t = Invalid

-- `send` eats a send of its action and gives the agent (Clojure's docstring of `send`), or a refusal by the agent and faults
abbrev pub sends : Action → Span → EventKind → ThreadState → Completion ThreadState Value
sends a span (Sent b) t = meant (same_action a b) (Cell a.agent) t
sends a span (SendRefused g) t = if same_cell a.agent g then Faults (fault_at AgentFailed span) t else Invalid
sends a span _ t = Invalid

-- a send outside every transaction: a thread's eats an event, and an action's is held and gives the agent
abbrev pub sends_or_holds : Option (List Action) → Action → Span → ThreadState → Completion ThreadState Value
sends_or_holds None a span t = eats 0 (λ e t1. sends a span e.kind t1) t.todo t
sends_or_holds (Some held) a span t = Completes (Cell a.agent) (holding (a ∷ []) t)

-- a transaction's meaning carried over to a thread's state
abbrev pub over : {S T A : Type 0} → T → Completion S A → (A → S → Completion T Value) → (Fault → Completion T Value) → Completion T Value
over t (Completes a x) go broke = go a x
over t (Recurs vs x) go broke = Invalid
over t (Faults f x) go broke = broke f
over t (Retries x) go broke = Invalid
over t (Waits x) go broke = Invalid
over t (OutOfTurns x) go broke = OutOfTurns t
over t Invalid go broke = Invalid

-- a dosync as its thread met it: its mark, its body and locals, the body's meaning on a world, and on one that lacks the value of the ref
-- with a number, and the validators of the cells
pub record Transacting : Type 0 where
  pub mark : Mark
  pub body : Tree
  pub locals : List Value
  pub on : World → Completion TxState Value
  pub lacking : ℕ → World → Completion TxState Value
  pub validators : Validators

-- the transaction of a dosync that came to its end with this result
abbrev pub run_of : Transacting → Value → TxState → TxRun
run_of d v x = record { body = d.body; locals = d.locals; wanted = d.mark.wanted; result = v; state = x }

-- A transaction at the event of its end: the body on the world at its read point, its commutes, and the validators.
abbrev pub ends_tx : Transacting → Applies ThreadState → EventKind → World → World → World → ThreadState → Completion ThreadState Value
-- a commit: neither the body nor a commute nor a validator faults, and the writes and sends are those of the event; an action holds the sends
ends_tx d f (Commit at view writes sent) R Q C t =
    over t (d.on R) (λ v x. faultless (final_writes f d.validators d.mark.span x.done C t) (λ ws t1. meant (same_writes ws writes && same_actions (sends_of_commit t1.held x.done.sends) sent) v (holding x.done.sends (with_tx (run_of d v x) t1)))) (λ g. Invalid)
-- a failure: the body's fault, else the first one of the commutes and then the validators on the world that was viewed
ends_tx d f (Fail at view) R Q C t =
    over t (d.on R) (λ v x. faulted (final_writes f d.validators d.mark.span x.done Q t) (λ g t1. Faults g t1)) (λ g. Faults g t)
-- a refusal: neither the body nor a commute nor a validator faults; that the agent had failed is told by the journal, and not asked here
ends_tx d f (Refused at view agent) R Q C t =
    over t (d.on R) (λ v x. faultless (final_writes f d.validators d.mark.span x.done Q t) (λ ws t1. Faults (fault_at AgentFailed d.mark.span) (with_tx (run_of d v x) t1))) (λ g. Invalid)
ends_tx d f _ R Q C t = Invalid

-- whether an event says that a transaction had to run again
abbrev pub is_retry : EventKind → Bool
is_retry (Retry since c why) = true
is_retry _ = false

-- whether a transaction set or ensured the ref with this number
abbrev pub is_held : PlainTxFrame → ℕ → Bool
is_held w k = has_number w.sets k || has_number w.ensures k

-- what follows a body that waits, since it came to look at the ref whose value its world lacks
abbrev pub missing : ThreadState → Completion TxState Value → Completion ThreadState Value → Completion ThreadState Value
missing t (Completes v x) next = Invalid
missing t (Recurs vs x) next = Invalid
missing t (Faults f x) next = Invalid
missing t (Retries x) next = Invalid
missing t (Waits x) next = next
missing t (OutOfTurns x) next = OutOfTurns t
missing t Invalid next = Invalid

-- A try that had to run again, and what follows. Where the ref's value on R was no longer kept, the body came to look at it; that it wasn't
-- kept is told by the journal. Else the body came to its end on R, and the ref is one that it set or ensured, or that it commuted and didn't set.
abbrev pub again : Transacting → EventKind → World → ThreadState → Completion ThreadState Value → Completion ThreadState Value
again d (Retry since c cause.Outdated) R t next = missing t (d.lacking c.number R) next
again d (Retry since c cause.Held) R t next = over t (d.on R) (λ v x. allowed (is_held x.done c.number) next) (λ g. Invalid)
again d (Retry since c (cause.Commuted at)) R t next = over t (d.on R) (λ v x. allowed (has_number (commuted x.done) c.number) next) (λ g. Invalid)
again d _ R t next = Invalid

-- a dosync runs again until it commits or faults (Clojure's docstring of `dosync`): it eats retries, each with its cause, and then the event of its end,
-- at most k events; a retry for which turns don't suffice stays to come
abbrev pub eats_tx : ℕ → Transacting → Applies ThreadState → List SeenEvent → ThreadState → Completion ThreadState Value
eats_tx zero d f es t = Faults (fault_at RetryLimit d.mark.span) (record t { todo = es })
eats_tx (suc k) d f [] t = Waits (record t { todo = []; asks = Some 0 })
eats_tx (suc k) d f (e ∷ es) t =
    if e.book == 0
    then (if is_retry e.kind then again d e.kind e.R (record t { todo = e ∷ es }) (eats_tx k d f es t) else uneaten (e ∷ es) (ends_tx d f e.kind e.R e.Q e.C (record t { todo = es })))
    else Invalid

-- what a thread's meaning is given: the cells' definitions, how many tries a transaction has, how many turns a loop, and the functions
pub record Surroundings : Type 0 where
  pub cells : List CellDefinition
  pub tries : ℕ
  pub turns : ℕ
  pub functions : List PlainFunction

-- the forms that read, outside transactions
abbrev pub thread_look : Surroundings → LookForm → CellId → ThreadState → Completion ThreadState Value
thread_look x Deref c t = eats (home x.cells c) (λ e t1. reads c e.kind e.C t1) t.todo t
thread_look x Ensure c t = Invalid

-- a value that a cell is to get, where its validator accepts it
abbrev pub accepts : Surroundings → Applies ThreadState → CellId → Span → Value → ThreadState → Completion ThreadState Value
accepts x f c span v t = validated f (validator_at (validators_of x.cells) c.number) span v t

-- the forms that put, outside transactions
abbrev pub thread_put : Surroundings → PutForm → Span → CellId → Value → Applies ThreadState → ThreadState → Completion ThreadState Value
thread_put x RefSet span c v f t = Invalid
-- a value that the atom's validator refuses eats nothing
thread_put x Reset span c v f t =
    bind (accepts x f c span v t) (λ w t1. eats (home x.cells c) (λ e t2. resets w e.kind t2) t1.todo t1)

-- the forms that update, outside transactions
abbrev pub thread_update : Surroundings → UpdateForm → Span → CellId → Callee → List Value → Applies ThreadState → ThreadState → Completion ThreadState Value
thread_update x Alter span c callee vs f t = Invalid
thread_update x Commute span c callee vs f t = Invalid
-- what the callee gives is what the atom's validator has to accept
thread_update x Swap span c callee vs f t =
    eats (home x.cells c) (λ e t1. swaps c (λ v t2. bind (f callee (v ∷ vs) t2) (accepts x f c span)) e.kind e.R e.C t1) t.todo t

-- a form that may be outside every transaction
abbrev pub outside_form : CellForm → Completion ThreadState Value → Completion ThreadState Value
outside_form form r = allowed (may_stand (rule form).stands false) r

-- the forms of a thread, on its events
abbrev pub on_events : Surroundings → ℕ → Effects ThreadState
on_events x d = record {
  print = λ inside vs t. Completes Nil (record t { printed = t.printed ++ printed_line vs });
  look = λ form inside m v t. outside_form (form_of.Look form) (on_cell (form_of.Look form) false m.span v (thread_look x form) t);
  put = λ form inside m v w f t. outside_form (form_of.Put form) (on_cell (form_of.Put form) false m.span v (λ c t1. thread_put x form m.span c w f t1) t);
  update = λ form inside m v callee vs f t. outside_form (form_of.Update form) (on_cell (form_of.Update form) false m.span v (λ c t1. thread_update x form m.span c callee vs f t1) t);
  send = λ inside m v callee vs t. on_cell form_of.Send false m.span v (λ c t1. sends_or_holds t1.held (record { agent = c; callee = callee; args = vs; span = m.span }) m.span t1) t;
  dosync = λ inside m node env body f t. eats_tx x.tries (record { mark = m; body = node; locals = env; on = tx_meaning x.turns x.functions d node env; lacking = λ k. tx_meaning_lacking x.turns x.functions d node env (Some k); validators = validators_of x.cells }) f t.todo t;
}

-- where a body begins, with these events to come: an action's holds its sends, of which there are none yet, and a thread's holds none
abbrev pub from_events : Option (List Action) → List SeenEvent → ThreadState
from_events held es = record { todo = es; printed = []; held = held; txs = []; asks = None }

-- a body with its locals in its surroundings, outside every transaction, on these events, where sends are held or not
abbrev pub body_in : Surroundings → Option (List Action) → Tree → List Value → List SeenEvent → Completion ThreadState Value
body_in x held body locals es =
    closed (eval (on_events x (length x.functions)) (call_at (on_events x) x.turns x.functions (length x.functions)) x.turns false body locals (from_events held es))

-- the thread in its surroundings, on these events: its body, which has no locals and holds no sends
abbrev pub thread_in : Surroundings → Tree → List SeenEvent → Completion ThreadState Value
thread_in x main es = body_in x None main [] es

-- a callee, applied outside every transaction; an operation faults at this span
abbrev pub applies_in : Surroundings → Span → Applies ThreadState
applies_in x span = apply (call_at (on_events x) x.turns x.functions (length x.functions) false) span

-- an action in its surroundings, on these events: its callee on the agent's state and the arguments, with its sends held
abbrev pub action_in : Surroundings → Callee → Span → List Value → List SeenEvent → Completion ThreadState Value
action_in x callee span vs es = applies_in x span callee vs (from_events (Some []) es)

-- what surrounds a source's thread, where each loop makes at most n turns
abbrev pub around : ThreadSource → ℕ → Surroundings
around p n = record { cells = p.cells; tries = suc reruns; turns = n; functions = p.functions }

-- the thread meaning: the thread on these events, where each loop makes at most n turns
abbrev pub thread_meaning : ThreadSource → ℕ → List SeenEvent → Completion ThreadState Value
thread_meaning p n es = thread_in (around p n) p.main es

-- what surrounds an action, where each loop makes at most n turns
abbrev pub around_action : List CellDefinition → List PlainFunction → ℕ → Surroundings
around_action cells functions n = record { cells = cells; tries = suc reruns; turns = n; functions = functions }

-- The action meaning: the action on its agent's state and these events (Clojure's docstring of `send`), where the agent's validator accepts
-- what that gives, and each loop makes at most n turns. A refused state, and an operation that faults, have the span of the send.
abbrev pub action_meaning : List CellDefinition → List PlainFunction → ℕ → Action → Value → List SeenEvent → Completion ThreadState Value
action_meaning cells functions n a v es =
    let x = around_action cells functions n in
    bind (action_in x a.callee a.span (v ∷ a.args) es) (λ w t. accepts x (applies_in x a.span) a.agent a.span w t)
