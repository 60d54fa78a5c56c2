-- The lines that tell of a book's events.
use Rattle.std.specs.Prelude.{ℕ, suc, List, [], ◌∷◌, ◌++◌, codes, decimal}
use Rattle.txs_world_protocol.specs.declared.event.Event.{Event}
use Rattle.txs_world_protocol.specs.declared.event.EventKind.{EventKind}
use Rattle.txs_world_protocol.specs.declared.event.EventKind.TheVariants.{Read, Commit, Retry, Fail, Refused, Send, SendRefused, Act, Swap, Broke}

-- the word for what an actor did; the last two stand in atoms' books alone
abbrev pub event_name : EventKind → List ℕ
event_name (Read cell) = codes "read"
event_name (Commit at view writes sends) = codes "commit"
event_name (Retry since cell cause) = codes "retry"
event_name (Fail at view) = codes "fail"
event_name (Refused at view agent) = codes "refused"
event_name (Send action) = codes "send"
event_name (SendRefused agent) = codes "send-refused"
event_name (Act agent number new sends) = codes "act"
event_name (Swap new) = codes "swap"
event_name (Broke at) = codes "broke"

-- the line of an event: its place in the book, its actor, and what that did
abbrev pub event_line : ℕ → Event → List ℕ
event_line place e = decimal place ++ codes " " ++ decimal e.actor ++ codes " " ++ event_name e.kind ++ codes "\n"

-- a line for each of these events, of which the first is at this place
abbrev pub event_lines : ℕ → List Event → List ℕ
event_lines place [] = []
event_lines place (e ∷ es) = event_line place e ++ event_lines (suc place) es
