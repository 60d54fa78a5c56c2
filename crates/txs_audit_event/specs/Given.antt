-- What differs of what an action came to, by how it ends.
use Rattle.std.specs.Prelude.{Bool, true, false, List, [], None, Result, Ok, Err}
use Rattle.txs_value_data.specs.declared.fault.Fault.{Fault}
use Rattle.txs_value_data.specs.declared.fault.Span.{Span}
use Rattle.txs_value_cell.specs.declared.action.Action.{Action}
use Rattle.txs_value_data.specs.declared.value.Value.{Value}
use Rattle.txs_world_protocol.specs.declared.event.Event.{Event}
use Rattle.txs_world_book.specs.Book.{first_failed}
use Rattle.txs_world_book.specs.declared.cell.StoreCell.{StoreCell}
use Rattle.txs_tree_meaning.specs.Meaning.{Completion, Completes, Recurs, Faults, Retries, Waits, OutOfTurns, Invalid}
use Rattle.txs_tree_meaning.specs.Thread.{ThreadState}
use Rattle.txs_theorem_audit.specs.Evaluated.{ActionEnd, HandedIn, LacksEvent, LacksTurns, Disallows, Unsaid}
use Rattle.txs_audit_event.specs.Transactions.{booked_what, valued_what}
use Rattle.txs_audit_event.specs.declared.what.What.{What}
use Rattle.txs_audit_event.specs.declared.what.What.TheVariants as what

-- what differs of what an action came to that ends so and holds these sends
abbrev pub gave_by : List StoreCell → List Event → Span → Result Value Fault → List Action → List Action → ActionEnd → What
gave_by cells done span new sends held (HandedIn (Ok v)) = valued_what (first_failed cells done held) span v held new sends
gave_by cells done span new sends held (HandedIn (Err f)) = booked_what span (Err f) [] new sends
gave_by cells done span new sends held LacksEvent = what.Unfinished
gave_by cells done span new sends held LacksTurns = what.Event None
gave_by cells done span new sends held Disallows = what.Event None
gave_by cells done span new sends held Unsaid = what.Event None

-- whether an action lacks turns
abbrev pub is_short_end : ActionEnd → Bool
is_short_end (HandedIn new) = false
is_short_end LacksEvent = false
is_short_end LacksTurns = true
is_short_end Disallows = false
is_short_end Unsaid = false

-- whether turns don't suffice for a meaning
abbrev pub is_open : Completion ThreadState Value → Bool
is_open (Completes v t) = false
is_open (Recurs vs t) = false
is_open (Faults f t) = false
is_open (Retries t) = false
is_open (Waits t) = false
is_open (OutOfTurns t) = true
is_open Invalid = false
