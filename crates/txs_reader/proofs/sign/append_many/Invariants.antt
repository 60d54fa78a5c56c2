use Rattle.std.proofs.Common.{◌≡◌, ◌++◌, replicate}
use Rattle.txs_reader.proofs.sign.append_many.Given as goal

abbrev pub invariant-loop : goal.invariant-loop
invariant-loop l = l.out.items ≡ l.fn.out.items ++ replicate l.counter l.byte
