use Rattle.std.proofs.Common.{◌<◌, sym, ap, ◌∙◌, arith}
use Rattle.txs_value_data.specs.Operations.{op_name, op_number}
use Rattle.txs_value_data.specs.declared.op.Op.TheVariants.{Add}
use Rattle.txs_value_data.proofs.OperationsLemmas.{operations-at_number, op_number-below}
use Rattle.txs_value_data.proofs.op.Op.from_name.Goals as goal

pub returns : goal.returns
returns c =
    λ op e.
    let passed : op_number op < c.loop-op.op-index = omega (arith, op_number-below op) in
    c.loop-op.invariant (op_number op) passed (sym (ap op_name (operations-at_number op Add)) ∙ e)
