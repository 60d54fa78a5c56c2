-- The long form of events: a line for each, with all its parts.
use Rattle.std.specs.Prelude.{ℕ, zero, suc, List, [], ◌∷◌, ◌++◌, length, Option, Some, None, Result, Ok, Err, codes, decimal}
use Rattle.std.specs.List.{flat_map}
use Rattle.txs_value_data.specs.Faults.{fault_name}
use Rattle.txs_value_data.specs.Operations.{op_name}
use Rattle.txs_value_data.specs.declared.fault.Fault.{Fault}
use Rattle.txs_value_data.specs.declared.fault.Span.{Span}
use Rattle.txs_value_data.specs.declared.op.Callee.{Callee}
use Rattle.txs_value_data.specs.declared.op.Callee.TheVariants.{Core, Function}
use Rattle.txs_value_cell.specs.declared.action.Action.{Action}
use Rattle.txs_value_cell.specs.declared.cell.CellDefinition.{CellDefinition}
use Rattle.txs_value_data.specs.View.{plain_of}
use Rattle.txs_value_data.specs.declared.value.CellId.{CellId}
use Rattle.txs_value_data.specs.declared.value.Value.{Value}
use Rattle.txs_world_protocol.specs.declared.event.Cause.{Cause}
use Rattle.txs_world_protocol.specs.declared.event.Cause.TheVariants.{Outdated, Held, Commuted}
use Rattle.txs_world_protocol.specs.declared.event.Event.{Event}
use Rattle.txs_world_protocol.specs.declared.event.EventKind.{EventKind}
use Rattle.txs_world_protocol.specs.declared.event.EventKind.TheVariants.{Read, Commit, Retry, Fail, Refused, Send, SendRefused, Act, Swap, Broke}
use Rattle.txs_world_protocol.specs.declared.report.Report.{Report}
use Rattle.txs_cli_report.specs.EventLines.{event_name}
use Rattle.txs_cli_events.specs.Run.{agent_of, atom_of, cell_name, event_in}
use Rattle.txs_cli_events.specs.Shown.{shown}
use Rattle.txs_cli_events.specs.declared.seen.Noted.{Noted}

-- ---- words

-- what is written for each of these, one after the other; each by its index, of which the first is this one
abbrev pub each : {A : Type 0} → (ℕ → A → List ℕ) → ℕ → List A → List ℕ
each words k [] = []
each words k (x ∷ xs) = words k x ++ each words (suc k) xs

-- a span, as `from..to`
abbrev pub span_words : Span → List ℕ
span_words span = decimal span.from ++ codes ".." ++ decimal span.to

-- where in the script it is, if that is known
abbrev pub at_words : Option Span → List ℕ
at_words None = []
at_words (Some span) = codes " at " ++ span_words span

-- what is called: `core` and the name of the operation, or `fn` and the number of the function
abbrev pub callee_words : Callee → List ℕ
callee_words (Core op) = codes " core " ++ op_name op
callee_words (Function f) = codes " fn " ++ decimal f

-- an argument, by its index: `with` is before the first
abbrev pub argument_words : ℕ → Value → List ℕ
argument_words zero v = codes " with " ++ shown (plain_of v)
argument_words (suc k) v = codes " " ++ shown (plain_of v)

-- what an action calls, and with which arguments behind the agent's state
abbrev pub call_words : Action → List ℕ
call_words a = callee_words a.callee ++ each argument_words 0 a.args

-- a value that a ref got, by its index: a colon is before the first
abbrev pub write_mark : ℕ → List ℕ
write_mark zero = codes ": "
write_mark (suc k) = codes ", "

abbrev pub write_words : List CellDefinition → ℕ → CellId × Value → List ℕ
write_words cells k w = write_mark k ++ cell_name cells w.0.number ++ codes " = " ++ shown (plain_of w.1)

-- an action that was sent: its agent, what it calls, and where the `send` is
abbrev pub sent_words : List CellDefinition → Action → List ℕ
sent_words cells a = codes "; sends " ++ cell_name cells a.agent.number ++ call_words a ++ codes " at " ++ span_words a.span

-- that an agent has failed
abbrev pub failed_words : List CellDefinition → CellId → List ℕ
failed_words cells agent = codes ": agent " ++ cell_name cells agent.number ++ codes " has failed"

-- the read point of a transaction, and the place of its last view
abbrev pub read_words : ℕ → List ℕ
read_words at = codes ", read point " ++ decimal at

abbrev pub view_words : ℕ → ℕ → List ℕ
view_words at view = read_words at ++ codes ", view " ++ decimal view

-- from where a transaction runs again: its read point; where the commutes alone are made again, the view, too
abbrev pub since_words : Cause → ℕ → List ℕ
since_words Outdated since = read_words since
since_words Held since = read_words since
since_words (Commuted at) since = view_words at since

-- why it runs again
abbrev pub cause_words : Cause → List ℕ
cause_words Outdated = codes " (outdated)"
cause_words Held = codes " (held)"
cause_words (Commuted at) = codes " (commuted)"

-- what an action gave: the agent's new state, or the fault and where it is
abbrev pub outcome_words : Result Value Fault → List ℕ
outcome_words (Ok v) = codes " gives " ++ shown (plain_of v)
outcome_words (Err fault) = codes " fails as " ++ fault_name fault.kind ++ codes " at " ++ span_words fault.span

-- ---- the parts of an event

-- what a transaction wrote and sent
abbrev pub commit_words : List CellDefinition → ℕ → ℕ → List (CellId × Value) → List Action → List ℕ
commit_words cells at view writes sends = view_words at view ++ each (write_words cells) 0 writes ++ flat_map (sent_words cells) sends

-- which cell was written meanwhile, and what it was to the transaction
abbrev pub retry_words : List CellDefinition → ℕ → CellId → Cause → List ℕ
retry_words cells since cell cause = since_words cause since ++ codes ": " ++ cell_name cells cell.number ++ codes " was written since " ++ decimal since ++ cause_words cause

-- which agent gets an action
abbrev pub send_words : List CellDefinition → Action → List ℕ
send_words cells a = codes ": " ++ cell_name cells a.agent.number ++ codes " gets" ++ call_words a

-- which action of the agent it was, what it gave, and what it sent
abbrev pub act_words : List CellDefinition → ℕ → Result Value Fault → List Action → List ℕ
act_words cells number new sends = codes ": action " ++ decimal number ++ outcome_words new ++ flat_map (sent_words cells) sends

abbrev pub parts : List CellDefinition → EventKind → List ℕ
parts cells (Read cell) = codes ": " ++ cell_name cells cell.number
parts cells (Commit at view writes sends) = commit_words cells at view writes sends
parts cells (Retry since cell cause) = retry_words cells since cell cause
parts cells (Fail at view) = view_words at view
parts cells (Refused at view agent) = view_words at view ++ failed_words cells agent
parts cells (Send action) = send_words cells action
parts cells (SendRefused agent) = failed_words cells agent
parts cells (Act agent number new sends) = act_words cells number new sends
parts cells (Swap new) = codes ": " ++ shown (plain_of new)
parts cells (Broke at) = codes ": read at " ++ decimal at

-- ---- lines

-- whose book it is: the journal, or an atom's
abbrev pub book_words : List CellDefinition → Option ℕ → List ℕ
book_words cells None = codes "journal "
book_words cells (Some k) = codes "atom " ++ cell_name cells k ++ codes " "

-- who acts: a thread by its number, or an agent by its name
abbrev pub actor_words : List CellDefinition → ℕ → Option ℕ → List ℕ
actor_words cells actor None = codes ": thread " ++ decimal actor
actor_words cells actor (Some k) = codes ": agent " ++ cell_name cells k

-- what it did and where, if there is such an event: its word, its place in the script, and its parts
abbrev pub event_words : List CellDefinition → Option Event → Option Span → List ℕ
event_words cells None at = at_words at
event_words cells (Some e) at = codes " " ++ event_name e.kind ++ at_words at ++ parts cells e.kind

-- The line of an event: its book and its index there, its actor, and what that did.
abbrev pub long_line : List CellDefinition → Report → Noted → List ℕ
long_line cells r n =
    book_words cells (atom_of cells n.event.book) ++ decimal n.event.at
    ++ actor_words cells n.actor (agent_of cells (length r.threads.items) n.actor)
    ++ event_words cells (event_in r n.event.book n.event.at) n.at ++ codes "\n"

-- the lines of these events, in their order
abbrev pub long_lines : List CellDefinition → Report → List Noted → List ℕ
long_lines cells r notes = flat_map (long_line cells r) notes
