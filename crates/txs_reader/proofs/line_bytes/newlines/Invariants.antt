use Rattle.std.proofs.Common.{◌≡◌, ◌≤◌, take}
use Rattle.std.specs.List.{count_by}
use Rattle.txs_reader.specs.Place.{is_newline}
use Rattle.txs_reader.proofs.line_bytes.newlines.Given as goal

abbrev pub invariant-loop-byte : goal.invariant-loop-byte
invariant-loop-byte l = record { counted : l.count ≡ count_by is_newline (take l.byte-index l.bytes); few : l.count ≤ l.byte-index }
