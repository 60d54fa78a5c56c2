use Rattle.std.proofs.Common.{◌≢◌, ◌<◌, ℕ, get_or}
use Rattle.txs_value_data.specs.Operations.{op_name}
use Rattle.txs_value_data.specs.declared.op.Op.TheVariants.{Add}
use Rattle.txs_value_data.proofs.op.Op.from_name.Given as goal

abbrev pub invariant-loop-op : goal.invariant-loop-op
invariant-loop-op l = (k : ℕ) → k < l.op-index → op_name (get_or l.op-items k Add) ≢ l.name
