use Rattle.std.proofs.Common.{◌≡◌, ◌<◌, ◌∙◌, arith, rules}
use Rattle.txs_value_data.specs.declared.op.Op.TheVariants.{Add}
use Rattle.txs_value_data.proofs.OperationsLemmas.{number-of_operation, op_number-below}
use Rattle.txs_value_data.proofs.op.Op.from_number.Goals as goal

pub returns-then-number-lt-COUNT : goal.returns-then-number-lt-COUNT
returns-then-number-lt-COUNT c =
    let same : c.from.result ≡ c.args.number = search rules in
    let lt : c.from.result < 27 = omega arith in
    number-of_operation c.from.result Add lt ∙ same

pub returns-else-number-lt-COUNT : goal.returns-else-number-lt-COUNT
returns-else-number-lt-COUNT c = λ op e. omega (arith, op_number-below op)
