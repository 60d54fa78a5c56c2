-- What is known of a meaning: of a thread, of a transaction, of a pure callee.
use Rattle.std.specs.Prelude.{◌≡◌, ◌-◌, ℕ, zero, suc, List, [], map, length, Option, Some, None, Result, Ok, Err, ⊤}
use Rattle.txs_world_protocol.specs.SeenEvent.{SeenEvent}
use Rattle.txs_world_protocol.specs.declared.event.Outcome.{Outcome}
use Rattle.txs_world_protocol.specs.declared.event.Outcome.TheVariants.{Done, Failed}
use Rattle.txs_tree_meaning.specs.Meaning.{Completion, Completes, Recurs, Faults, Retries, Waits, OutOfTurns, Invalid}
use Rattle.txs_tree_meaning.specs.Right.{eats_right, right_meaning}
use Rattle.txs_tree_meaning.specs.Thread.{TxRun, ThreadState, thread_meaning}
use Rattle.txs_tree_meaning.specs.Transaction.{TxState}
use Rattle.txs_tree_meaning.specs.Tree.{PlainProgram, PlainThread, ThreadSource}
use Rattle.txs_tree_eval.specs.declared.meaning.Needs.{Needs}
use Rattle.txs_tree_eval.specs.declared.meaning.Needs.TheVariants.{Nothing, Event, Turns, Wrong}
use Rattle.txs_tree_eval.specs.declared.meaning.ThreadMeaning.{ThreadMeaning}
use Rattle.txs_tree_eval.specs.declared.pure_call.EvalStop.{EvalStop}
use Rattle.txs_tree_eval.specs.declared.pure_call.EvalStop.TheVariants.{Fault as AFault, Turns as FewTurns, Memory as FullMemory}
use Rattle.txs_tree_eval_node.specs.declared.state.Transacted.{Transacted}
use Rattle.txs_tree_eval_transaction.specs.declared.stop.ThreadStop.{ThreadStop}
use Rattle.txs_tree_eval_transaction.specs.declared.stop.ThreadStop.TheVariants.{Fault, Event as NoEvent, Wrong as OtherEvent, Turns as NoTurns, Memory}
use Rattle.txs_tree_eval.specs.declared.transaction.TxMeaning.{TxMeaning}
use Rattle.txs_value_data.specs.Places.{nth}
use Rattle.txs_value_data.specs.declared.value.Value.{Value}

-- the source of a thread of the program, if there is one
abbrev pub source_in : PlainProgram → Option PlainThread → Option ThreadSource
source_in p None = None
source_in p (Some t) = Some (record { functions = p.functions; cells = p.cells; main = t.body })

-- the thread at a place of a program, with the functions that it may call
abbrev pub thread_source : PlainProgram → ℕ → Option ThreadSource
thread_source p k = source_in p (nth p.threads k)

-- what is known of a transaction that was committed or refused: its result, and what it did
abbrev pub told_tx : TxRun → TxMeaning
told_tx x = record { result = Ok x.result; done = x.state.done; reads = x.state.reads; used = x.state.used }

-- which book's event is waited for, where an event is needed
abbrev pub asked : Needs → Option ℕ → Option ℕ
asked Event book = book
asked _ book = None

-- what was printed, how many events were eaten, the transactions, what is needed and of which book, and how the thread ended
pub record Account (m : ThreadMeaning) (ate : ℕ) (s : ThreadState) (lack : Needs) (end : Option Outcome) : Type 0 where
  pub printed : m.printed ≡ s.printed
  pub eaten : m.eaten ≡ ate
  pub txs : m.txs ≡ map told_tx s.txs
  pub needs : m.needs ≡ lack
  pub asks : m.asks ≡ asked lack s.asks
  pub outcome : m.outcome ≡ end

-- what a thread lacks that waits where so many events are left
abbrev pub lacking : ℕ → Needs
lacking zero = Event
lacking (suc k) = Wrong

-- what a thread needs whose body ends so where so many events are left, and its outcome
abbrev pub Concluded : Result Value ThreadStop → ℕ → Needs → Option Outcome → Type 0
Concluded (Ok v) left needs end = (needs ≡ Nothing) × (end ≡ Some Done)
Concluded (Err (Fault f)) left needs end = (needs ≡ Nothing) × (end ≡ Some (Failed f))
Concluded (Err NoEvent) left needs end = (needs ≡ lacking left) × (end ≡ None)
Concluded (Err OtherEvent) left needs end = (needs ≡ lacking left) × (end ≡ None)
Concluded (Err NoTurns) left needs end = (needs ≡ Turns) × (end ≡ None)
Concluded (Err Memory) left needs end = ⊥

-- the same of a thread on so many events whose body ends so
abbrev pub Accounts : ThreadMeaning → ℕ → ThreadState → Result Value ThreadStop → Type 0
Accounts m events s end = (lack : Needs) × (outcome : Option Outcome) × Concluded end (length s.todo) lack outcome × Account m (events - length s.todo) s lack outcome

-- the answer where a thread allows so many events, on which it means this, and not the next one: it waits there
abbrev pub TellsWrong : ThreadMeaning → ℕ → Completion ThreadState Value → Type 0
TellsWrong m right (Waits s) = Account m right s Wrong None
TellsWrong m right _ = ⊥

-- The answer on k events says how the meaning ends, with the bytes that are printed, the events that are eaten and the transactions
-- until then. A meaning at which the thread doesn't end says what it needs. If there is none, the answer is about the events before the
-- first that the thread doesn't allow: how many they are, and what it means on them. No thread ends in a recur or runs again as a whole.
abbrev pub TellsOf : ThreadMeaning → ℕ → ℕ → Completion ThreadState Value → Completion ThreadState Value → Type 0
TellsOf m k right before (Completes v s) = Account m (k - length s.todo) s Nothing (Some Done)
TellsOf m k right before (Recurs vs s) = ⊥
TellsOf m k right before (Faults f s) = Account m (k - length s.todo) s Nothing (Some (Failed f))
TellsOf m k right before (Retries s) = ⊥
TellsOf m k right before (Waits s) = Account m (k - length s.todo) s Event None
TellsOf m k right before (OutOfTurns s) = Account m (k - length s.todo) s Turns None
TellsOf m k right before Invalid = TellsWrong m right before

-- the answer for a thread on these events, with at most n turns of each loop
abbrev pub Tells : ThreadMeaning → ThreadSource → ℕ → List SeenEvent → Type 0
Tells m p n es = TellsOf m (length es) (eats_right p n [] es) (right_meaning p n es) (thread_meaning p n es)

-- what is known of a transaction that was committed or refused
abbrev pub told_run : Transacted → TxMeaning
told_run r = record { result = Ok r.result; done = r.work.done; reads = r.work.reads.items; used = r.work.used }

-- What is known of a transaction's body on a world: its value or fault, and what it did until then. Turns may not suffice, or
-- there was no memory.
abbrev pub TellsTx : Result TxMeaning EvalStop → Completion TxState Value → Type 0
TellsTx (Ok m) (Completes v t) = m ≡ record { result = Ok v; done = t.done; reads = t.reads; used = t.used }
TellsTx (Ok m) (Faults f t) = m ≡ record { result = Err f; done = t.done; reads = t.reads; used = t.used }
TellsTx (Ok m) _ = ⊥
TellsTx (Err FullMemory) c = ⊤
TellsTx (Err FewTurns) (OutOfTurns t) = ⊤
TellsTx (Err y) c = ⊥

-- nothing is waited for, and nothing is wrong
abbrev pub Waitless : {A : Type 0} → Result A ThreadStop → Type 0
Waitless (Ok v) = Unit {0}
Waitless (Err (Fault f)) = Unit {0}
Waitless (Err NoEvent) = ⊥
Waitless (Err OtherEvent) = ⊥
Waitless (Err NoTurns) = Unit {0}
Waitless (Err Memory) = Unit {0}

-- The value, the fault, and a want of turns are those of the meaning, or there was no memory for it. There is nothing
-- that the meaning may wait for.
abbrev pub PureGives : Result Value EvalStop → Completion (Unit {0}) Value → Type 0
PureGives (Ok v) c = c ≡ Completes v tt
PureGives (Err (AFault f)) c = c ≡ Faults f tt
PureGives (Err FewTurns) c = c ≡ OutOfTurns tt
PureGives (Err FullMemory) c = ⊤
