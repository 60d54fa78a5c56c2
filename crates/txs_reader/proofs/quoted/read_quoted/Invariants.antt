use Rattle.std.proofs.Common.{◌<◌, ◌-◌, ◌+◌, length, get_or}
use Rattle.std.specs.Prelude.{string_bytes}
use Rattle.txs_reader.specs.Escapes.{TextUpTo}
use Rattle.txs_reader.proofs.quoted.read_quoted.Given as goal

abbrev pub invariant-loop-len : goal.invariant-loop-len
invariant-loop-len l = record {
  within : l.last < length l.script;
  small : get_or l.script l.last 0 < 128;
  so_far : TextUpTo l.script l.at (l.last + 1) (string_bytes l.text);
}

abbrev pub decreases-loop-len : goal.decreases-loop-len
decreases-loop-len l = length l.script - l.last
