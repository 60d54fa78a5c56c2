use Rattle.std.proofs.Common.{rules, arith}
use Rattle.std.proofs.lemmas.Grind.{common_steps}
use Rattle.txs_verify.proofs.bodies.higher.Goals as goal

pub returns-then-is_more-clause-kept : goal.returns-then-is_more-clause-kept
returns-then-is_more-clause-kept c = first_of (search rules, grind (arith, common_steps))

pub returns-else-is_more-clause-roomy : goal.returns-else-is_more-clause-roomy
returns-else-is_more-clause-roomy c = first_of (search rules, grind (arith, common_steps))
