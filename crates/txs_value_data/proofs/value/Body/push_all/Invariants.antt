use Rattle.std.proofs.Common.{◌≡◌, ◌++◌, take}
use Rattle.txs_value_data.specs.View.{plains_of}
use Rattle.txs_value_data.proofs.value.Body.push_all.Given as goal

abbrev pub invariant-loop-value : goal.invariant-loop-value
invariant-loop-value l = l.self ≡ l.fn.self ++ plains_of (take l.value-index l.values)
