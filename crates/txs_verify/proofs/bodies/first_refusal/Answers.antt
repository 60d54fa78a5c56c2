use Rattle.std.proofs.Common.{refl, rules}
use Rattle.txs_value_cell.specs.Cells.{validators_of}
use Rattle.txs_verify.proofs.Ends.{memory_walk, walk_of_function, walk_of_validator}
use Rattle.txs_verify.proofs.bodies.first_refusal.Goals as goal

pub returns-then-eq-clause-refused : goal.returns-then-eq-clause-refused
returns-then-eq-clause-refused c = λ fs h. memory_walk fs (validators_of c.args.cells.now) c.args.refused (search rules)

pub returns-in-Ok-clause-refused : goal.returns-in-Ok-clause-refused
returns-in-Ok-clause-refused c = λ fs h. walk_of_function fs (validators_of c.args.cells.now) c.args.kinds.now c.args.kinds.now c.args.refused refl c.in-Ok.ensures.right h

pub returns-in-Err-clause-refused : goal.returns-in-Err-clause-refused
returns-in-Err-clause-refused c = λ fs h. walk_of_validator fs (validators_of c.args.cells.now) c.args.kinds.now c.args.kinds.now c.args.refused c.in-Err.impure refl (search rules) h c.in-Err.ensures.wrong
