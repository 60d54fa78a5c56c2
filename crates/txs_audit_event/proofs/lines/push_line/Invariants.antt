use Rattle.std.proofs.Common.{◌≡◌, ◌++◌, drop}
use Rattle.txs_audit_event.specs.Lines.{line_of}
use Rattle.txs_audit_event.proofs.lines.push_line.Given as goal

-- what is there, with what the other bytes give
abbrev pub invariant-loop-byte : goal.invariant-loop-byte
invariant-loop-byte l = l.line.items ++ line_of (drop l.byte-index l.bytes) ≡ l.fn.line.items ++ line_of l.bytes
