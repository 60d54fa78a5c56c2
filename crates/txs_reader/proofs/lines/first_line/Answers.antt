use Rattle.std.proofs.Common.{rules, arith}
use Rattle.txs_reader.specs.Place.{is_newline}
use Rattle.txs_reader.proofs.Parts.{before_first_is, before_first_all}
use Rattle.txs_reader.proofs.lines.first_line.Goals as goal

pub returns-then-byte-eq10 : goal.returns-then-byte-eq10
returns-then-byte-eq10 c = before_first_is is_newline c.args.bytes.now c.loop-i.i (omega arith) c.loop-i.invariant (λ _. search rules)

pub returns : goal.returns
returns c = before_first_all is_newline c.args.bytes.now (λ k lt. c.loop-i.invariant k (omega (arith, lt)))
