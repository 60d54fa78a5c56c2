use Rattle.std.proofs.Common.{◌≡◌, ℕ, List, true, not, ap, subst, length, arith}
use Rattle.std.proofs.lemmas.List.{take_all}
use Rattle.std.specs.List.{list_all}
use Rattle.txs_reader.specs.Bytes.{is_plain}
use Rattle.txs_reader.proofs.Runs.{run_up_to, run_to_end, denied}
use Rattle.txs_reader.proofs.bytes.plain_len.Goals as goal

pub returns-in-Some-clause-some : goal.returns-in-Some-clause-some
unfolding is_plain
returns-in-Some-clause-some c =
    (run_up_to is_plain c.args.bytes.now c.in-Some.n (omega (arith, c.in-Some.ensures.0.high)) (λ k lt. denied _ (c.in-Some.ensures.0.before k (omega arith) lt)) (ap not c.in-Some.ensures.1), omega (arith, c.in-Some.ensures.0.high))

pub returns-in-None-clause-none : goal.returns-in-None-clause-none
unfolding is_plain
returns-in-None-clause-none c =
    subst (λ (bs : List ℕ). list_all is_plain bs ≡ true) (take_all (length c.args.bytes.now) c.args.bytes.now (omega arith)) (run_to_end is_plain c.args.bytes.now (λ k lt. denied _ (c.in-None.ensures k (omega arith) lt))).each
