use Rattle.std.proofs.Common.{arith}
use Rattle.txs_value_data.proofs.NumbersLemmas.{number_at}
use Rattle.txs_value_data.proofs.equal.same_full_row.Goals as goal

pub number-requires : goal.number-requires
number-requires c = number_at c.args.a.now c.loop-i.i c.index-a-i.result c.requires.a (omega (arith, c.requires.len.0, c.loop-i-test.true)) c.index-a-i.is

pub number-requires-in-loop-i : goal.number-requires-in-loop-i
number-requires-in-loop-i c = number_at c.args.b.now c.loop-i.i c.index-b-i.result c.requires.b (omega (arith, c.requires.len.1, c.loop-i-test.true)) c.index-b-i.is
