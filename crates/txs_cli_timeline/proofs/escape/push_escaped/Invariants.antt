use Rattle.std.proofs.Common.{◌≡◌, ◌++◌, flat_map, string_bytes}
use Rattle.txs_cli_timeline.proofs.Texts.{bytes_of}
use Rattle.txs_cli_timeline.proofs.escape.push_escaped.Given as goal

abbrev pub invariant-loop-c : goal.invariant-loop-c
invariant-loop-c l = string_bytes l.out ≡ string_bytes l.fn.out ++ flat_map bytes_of l.yielded
