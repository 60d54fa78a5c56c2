use Rattle.std.proofs.Common.{arith}
use Rattle.std.proofs.lemmas.Bool.Decides.{nat_tests}
use Rattle.txs_reader.specs.Sign.{columns}
use Rattle.txs_reader.proofs.sign.columns.Goals as goal

pub returns-then-c-eq9-clause-value : goal.returns-then-c-eq9-clause-value
unfolding columns
returns-then-c-eq9-clause-value c = grind (arith, nat_tests)

pub returns-then-is_escaped-clause-value : goal.returns-then-is_escaped-clause-value
unfolding columns
returns-then-is_escaped-clause-value c = grind (arith, nat_tests)

pub returns-else-is_escaped-clause-value : goal.returns-else-is_escaped-clause-value
unfolding columns
returns-else-is_escaped-clause-value c = grind (arith, nat_tests)
