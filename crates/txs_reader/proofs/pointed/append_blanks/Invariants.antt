use Rattle.std.proofs.Common.{◌≡◌, ◌++◌, length}
use Rattle.std.specs.List.{flat_map}
use Rattle.txs_reader.specs.Extends.{Extends}
use Rattle.txs_reader.specs.Sign.{signs, blank}
use Rattle.txs_reader.proofs.pointed.append_blanks.Given as goal

abbrev pub invariant-loop-rest : goal.invariant-loop-rest
invariant-loop-rest l = record {
  kept : Extends l.fn.out.items l.out.items;
  rest : l.out.items ++ flat_map blank (signs l.rest) ≡ l.fn.out.items ++ flat_map blank (signs l.bytes);
}

abbrev pub decreases-loop-rest : goal.decreases-loop-rest
decreases-loop-rest l = length l.rest
