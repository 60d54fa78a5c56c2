use Rattle.std.proofs.Common.{◌≡◌, drop}
use Rattle.txs_value_apply.specs.Core.{from_left, times, arg}
use Rattle.txs_value_data.specs.declared.value.Value.TheVariants.{Int}
use Rattle.txs_value_apply.proofs.numbers.product.Given as goal

abbrev pub invariant-loop-value : goal.invariant-loop-value
invariant-loop-value l = from_left times (arg 0 l.fn.args) (drop 1 l.fn.args) ≡ from_left times (Int l.total) (drop l.value-index l.value-items)
