use Rattle.txs_code_encode.proofs.SameLemmas.{agree, all_same}
use Rattle.txs_code_encode.proofs.same.same_spans.Goals as goal

pub returns : goal.returns
returns c = agree (all_same c.args.a.now c.args.b.now c.if-a-b.false c.loop-i.i c.loop-i-test.false c.loop-i.invariant)
