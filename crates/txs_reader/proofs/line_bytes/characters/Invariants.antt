use Rattle.std.proofs.Common.{◌≡◌, ◌≤◌, take}
use Rattle.std.specs.List.{count_by}
use Rattle.txs_reader.specs.Place.{begins_character}
use Rattle.txs_reader.proofs.line_bytes.characters.Given as goal

abbrev pub invariant-loop-byte : goal.invariant-loop-byte
invariant-loop-byte l = record { counted : l.count ≡ count_by begins_character (take l.byte-index l.bytes); few : l.count ≤ l.byte-index }
