-- How far a thread's events are right: up to the first one that its meaning doesn't allow.
use Rattle.std.specs.Prelude.{ℕ, zero, suc, Bool, true, false, List, [], ◌∷◌, ◌++◌, ◌==◌, Some, length, take, if◌then◌else◌}
use Rattle.txs_world_protocol.specs.SeenEvent.{SeenEvent}
use Rattle.txs_world_protocol.specs.declared.event.Cause.TheVariants as cause
use Rattle.txs_world_protocol.specs.declared.event.EventKind.{EventKind}
use Rattle.txs_world_protocol.specs.declared.event.EventKind.TheVariants.{Retry}
use Rattle.txs_frame.specs.Frame.{PlainTxFrame, has_number, commuted}
use Rattle.txs_tree_meaning.specs.Meaning.{Completion, Completes, Recurs, Faults, Retries, Waits, OutOfTurns, Invalid, Effects}
use Rattle.txs_tree_meaning.specs.Thread.{ThreadState, Transacting, is_retry, is_held, Surroundings, on_events, thread_meaning}
use Rattle.txs_tree_meaning.specs.Transaction.{TxState, tx_meaning, tx_meaning_lacking}
use Rattle.txs_tree_meaning.specs.Tree.{ThreadSource}
use Rattle.txs_value_cell.specs.Cells.{World, validators_of}
use Rattle.txs_value_data.specs.declared.value.Value.{Value}

-- whether there is no meaning: some event isn't one that the thread allows
abbrev pub is_wrong : Completion ThreadState Value → Bool
is_wrong (Completes v t) = false
is_wrong (Recurs vs t) = true
is_wrong (Faults f t) = false
is_wrong (Retries t) = true
is_wrong (Waits t) = false
is_wrong (OutOfTurns t) = false
is_wrong Invalid = true

-- how many events something that means this on events eats before the first that it doesn't allow, where it is known to allow the first of
-- these lists and the second comes behind
abbrev pub right_events : (List SeenEvent → Completion ThreadState Value) → List SeenEvent → List SeenEvent → ℕ
right_events m done [] = length done
right_events m done (e ∷ es) = if is_wrong (m (done ++ e ∷ [])) then length done else right_events m (done ++ e ∷ []) es

-- so many events a thread eats
abbrev pub eats_right : ThreadSource → ℕ → List SeenEvent → List SeenEvent → ℕ
eats_right p n done es = right_events (thread_meaning p n) done es

-- what the thread means on the events before that one
abbrev pub right_meaning : ThreadSource → ℕ → List SeenEvent → Completion ThreadState Value
right_meaning p n es = thread_meaning p n (take (eats_right p n [] es) es)

-- ---- a thread that goes no further

-- where an event isn't allowed, the thread stays as it was before it
abbrev pub up_to : ThreadState → Completion ThreadState Value → Completion ThreadState Value
up_to s (Completes v t) = Completes v t
up_to s (Recurs vs t) = Recurs vs t
up_to s (Faults f t) = Faults f t
up_to s (Retries t) = Retries t
up_to s (Waits t) = Waits t
up_to s (OutOfTurns t) = OutOfTurns t
up_to s Invalid = Waits s

-- whether a body came to its end, and this holds of what it did
abbrev pub ended_with : (PlainTxFrame → Bool) → Completion TxState Value → Bool
ended_with p (Completes v x) = p x.done
ended_with p (Recurs vs x) = false
ended_with p (Faults f x) = false
ended_with p (Retries x) = false
ended_with p (Waits x) = false
ended_with p (OutOfTurns x) = false
ended_with p Invalid = false

-- whether a body waits, since it came to look at the ref whose value its world lacks
abbrev pub has_missed : Completion TxState Value → Bool
has_missed (Completes v x) = false
has_missed (Recurs vs x) = false
has_missed (Faults f x) = false
has_missed (Retries x) = false
has_missed (Waits x) = true
has_missed (OutOfTurns x) = false
has_missed Invalid = false

-- whether a try had to run again for the cause that this says
abbrev pub passes : Transacting → EventKind → World → Bool
passes d (Retry since c cause.Outdated) R = has_missed (d.lacking c.number R)
passes d (Retry since c cause.Held) R = ended_with (λ w. is_held w c.number) (d.on R)
passes d (Retry since c (cause.Commuted at)) R = ended_with (λ w. has_number (commuted w) c.number) (d.on R)
passes d _ R = false

-- the events behind those that say that a transaction had to run again, each with its cause, at most k of them
abbrev pub behind_retries : ℕ → Transacting → List SeenEvent → List SeenEvent
behind_retries zero d es = es
behind_retries (suc k) d [] = []
behind_retries (suc k) d (e ∷ es) = if e.book == 0 then (if is_retry e.kind then (if passes d e.kind e.R then behind_retries k d es else e ∷ es) else e ∷ es) else e ∷ es

-- the forms of a thread on its events, which waits before one that it doesn't allow
abbrev pub on_right : Surroundings → ℕ → Effects ThreadState
on_right x d = record {
  print = λ inside vs t. (on_events x d).print inside vs t;
  look = λ form inside m v t. up_to t ((on_events x d).look form inside m v t);
  put = λ form inside m v w f t. up_to t ((on_events x d).put form inside m v w f t);
  update = λ form inside m v callee vs f t. up_to t ((on_events x d).update form inside m v callee vs f t);
  send = λ inside m v callee vs t. up_to t ((on_events x d).send inside m v callee vs t);
  dosync = λ inside m node env body f t.
      up_to (record t { todo = behind_retries x.tries (record { mark = m; body = node; locals = env; on = tx_meaning x.turns x.functions d node env; lacking = λ k. tx_meaning_lacking x.turns x.functions d node env (Some k); validators = validators_of x.cells }) t.todo })
      ((on_events x d).dosync inside m node env body f t);
}
