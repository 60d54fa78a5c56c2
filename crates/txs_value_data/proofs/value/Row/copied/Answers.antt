use Rattle.std.proofs.Common.{subst, sym}
use Rattle.txs_value_data.specs.Numbers.{AreNumbers}
use Rattle.txs_value_data.specs.View.{plains_of}
use Rattle.txs_value_data.proofs.value.Row.copied.Goals as goal

pub copy_numbers-requires-clause-numbers : goal.copy_numbers-requires-clause-numbers
copy_numbers-requires-clause-numbers c = subst (λ vs. AreNumbers (plains_of vs)) (sym c.as_slice.ensures.value) (c.self.invariant c.if-self.true)
