use Rattle.std.proofs.Common.{◌≡◌, ◌≤◌, [], drop, length}
use Rattle.txs_audit_event.specs.Lines.{line_what}
use Rattle.txs_audit_event.proofs.lines.printed_what.Given as goal

-- the first line that differs is that of the other bytes, behind so many lines and the beginning of another one
abbrev pub invariant-loop-i : goal.invariant-loop-i
invariant-loop-i l = (l.number ≤ l.i) × (l.i ≤ length l.found) × (line_what l.number l.front.items (drop l.i l.expected) (drop l.i l.found) ≡ line_what 0 [] l.expected l.found)
