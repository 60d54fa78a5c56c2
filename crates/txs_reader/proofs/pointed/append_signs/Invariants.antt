use Rattle.std.proofs.Common.{◌≡◌, ◌++◌, length}
use Rattle.txs_reader.specs.Extends.{Extends}
use Rattle.txs_reader.specs.Pointed.{seen}
use Rattle.txs_reader.specs.Sign.{signs}
use Rattle.txs_reader.proofs.pointed.append_signs.Given as goal

abbrev pub invariant-loop-rest : goal.invariant-loop-rest
invariant-loop-rest l = record {
  kept : Extends l.fn.out.items l.out.items;
  rest : l.out.items ++ seen l.left (signs l.rest) ≡ l.fn.out.items ++ seen l.limit (signs l.bytes);
}

abbrev pub decreases-loop-rest : goal.decreases-loop-rest
decreases-loop-rest l = length l.rest
