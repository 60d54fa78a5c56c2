use Rattle.std.proofs.Common.{arith}
use Rattle.txs_reader.specs.Bytes.{is_word_byte}
use Rattle.txs_reader.proofs.Runs.{run_up_to, run_to_end}
use Rattle.txs_reader.proofs.bytes.word_len.Goals as goal

pub returns-then-not-is_word_byte : goal.returns-then-not-is_word_byte
returns-then-not-is_word_byte c = run_up_to is_word_byte c.args.bytes.now c.loop-i.i (omega arith) c.loop-i.invariant (grind arith)

pub returns : goal.returns
returns c = run_to_end is_word_byte c.args.bytes.now (λ k lt. c.loop-i.invariant k (omega arith))
