-- What is asked, as it is told.
use Rattle.std.specs.Prelude.{ℕ, ◌-◌, List, length, Option, Some, None}
use Rattle.txs_value_data.specs.Places.{nth}
use Rattle.txs_frame.specs.Frame.{PlainTxFrame}
use Rattle.txs_tree_eval.specs.declared.transaction.TxMeaning.{TxMeaning}
use Rattle.txs_tree_eval_node.specs.Events.{seen_event, seen_events}
use Rattle.txs_tree_meaning.specs.View.{program_of}
use Rattle.txs_audit_event.specs.Meant.{doer_means, held_by}
use Rattle.txs_audit_event.specs.Transactions.{Asked}
use Rattle.txs_audit_event.specs.declared.asking.Question.{Question}

-- a question as plain data
abbrev pub asked_by : Question → Asked
asked_by x = record {
  means = doer_means (program_of x.books.now.program) x.turns x.doer;
  held = held_by x.doer;
  front = seen_events x.front.now;
  event = seen_event x.event;
}

-- what a transaction did of which this is answered, if there is one
abbrev pub meant_done : Option TxMeaning → Option PlainTxFrame
meant_done None = None
meant_done (Some m) = Some m.done

-- what the last of these transactions did
abbrev pub last_meant : List TxMeaning → Option PlainTxFrame
last_meant ms = meant_done (nth ms (length ms - 1))
