-- What is found of a transaction at the event that ended it.
use Rattle.std.specs.Prelude.{Bool, not, ◌||◌, Option, Some, None}
use Rattle.txs_world_protocol.specs.declared.event.Event.{Event}
use Rattle.txs_world_protocol.specs.declared.event.EventKind.{EventKind}
use Rattle.txs_tree_eval.specs.declared.transaction.TxMeaning.{TxMeaning}
use Rattle.txs_theorem_audit.specs.Verdict.{is_commit}
use Rattle.txs_theorem_audit.specs.Evaluated.{state_of}
use Rattle.txs_theorem_serial.specs.Serial.{is_covered}
use Rattle.txs_audit_order.specs.Kinds.{end_of}

-- what an event is that may not be there, where it ends a transaction
abbrev pub end_in : Option Event → Option EventKind
end_in None = None
end_in (Some e) = end_of e

-- whether the transaction that an event ended is covered, if it was committed
abbrev pub covered_by : EventKind → TxMeaning → Bool
covered_by d m = not (is_commit d) || is_covered (state_of m)
