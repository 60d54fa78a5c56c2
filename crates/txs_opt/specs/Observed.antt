-- What a thread's meaning tells beside the bodies of its transactions, which an optimised program has others of.
use Rattle.std.specs.Prelude.{true, [], map}
use Rattle.txs_value_data.specs.declared.value.Value.{Value}
use Rattle.txs_value_data.specs.declared.value.Value.TheVariants.{Nil}
use Rattle.txs_tree_meaning.specs.Meaning.{Completion, Completes, Recurs, Faults, Retries, Waits, OutOfTurns, Invalid}
use Rattle.txs_tree_meaning.specs.Thread.{TxRun, ThreadState}
use Rattle.txs_tree_meaning.specs.Tree.{Tree, Const}

-- one tree for all bodies
abbrev pub some_body : Tree
some_body = Const Nil (record { span = record { from = 0; to = 0 }; wanted = true })

-- a transaction that came to its end, but for its body and locals
abbrev pub observed_run : TxRun → TxRun
observed_run x = record x { body = some_body; locals = [] }

-- the events to come, the bytes that were printed, and the transactions, but for their bodies and locals
abbrev pub observed : ThreadState → ThreadState
observed t = record t { txs = map observed_run t.txs }

-- how a thread ends, with so much of its state
abbrev pub observed_end : Completion ThreadState Value → Completion ThreadState Value
observed_end (Completes v t) = Completes v (observed t)
observed_end (Recurs vs t) = Recurs vs (observed t)
observed_end (Faults f t) = Faults f (observed t)
observed_end (Retries t) = Retries (observed t)
observed_end (Waits t) = Waits (observed t)
observed_end (OutOfTurns t) = OutOfTurns (observed t)
observed_end Invalid = Invalid
