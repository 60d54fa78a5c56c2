use Rattle.std.proofs.Common.{◌≡◌, ◌≤◌, ◌+◌, length, take, not}
use Rattle.std.specs.List.{suffix_len}
use Rattle.txs_reader.specs.Place.{is_newline}
use Rattle.txs_reader.proofs.lines.last_line.Given as goal

abbrev pub invariant-loop-from : goal.invariant-loop-from
invariant-loop-from l = record {
  within : l.from ≤ length l.bytes;
  behind : l.from + suffix_len (λ b. not (is_newline b)) l.bytes ≡ length l.bytes + suffix_len (λ b. not (is_newline b)) (take l.from l.bytes);
}

abbrev pub decreases-loop-from : goal.decreases-loop-from
decreases-loop-from l = l.from
