-- The events that end transactions.
use Rattle.std.specs.Prelude.{Option, Some, None, if◌then◌else◌}
use Rattle.txs_world_protocol.specs.declared.event.Event.{Event}
use Rattle.txs_world_protocol.specs.declared.event.EventKind.{EventKind}
use Rattle.txs_theorem_audit.specs.Verdict.{is_end}

-- what an event is, where it ends a transaction
abbrev pub end_of : Event → Option EventKind
end_of e = if is_end e.kind then Some e.kind else None
