use Rattle.std.proofs.Common.{not, ap, arith}
use Rattle.txs_reader.specs.Bytes.{is_line_end}
use Rattle.txs_reader.proofs.Runs.{run_up_to, run_to_end, denied}
use Rattle.txs_reader.proofs.bytes.line_len.Goals as goal

pub returns-in-Some : goal.returns-in-Some
returns-in-Some c =
    run_up_to (λ b. not (is_line_end b)) c.args.bytes.now c.in-Some.n (omega (arith, c.in-Some.ensures.0.high)) (λ k lt. denied _ (c.in-Some.ensures.0.before k (omega arith) lt)) (ap not c.in-Some.ensures.1)

pub returns-in-None : goal.returns-in-None
returns-in-None c = run_to_end (λ b. not (is_line_end b)) c.args.bytes.now (λ k lt. denied _ (c.in-None.ensures k (omega arith) lt))
