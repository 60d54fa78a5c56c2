use Rattle.std.proofs.Common.{subst}
use Rattle.txs_value_data.specs.Numbers.{AreNumbers}
use Rattle.txs_value_data.specs.View.{plains_of}
use Rattle.txs_value_data.proofs.NumbersLemmas.{numbers_back}
use Rattle.txs_value_data.proofs.row.drop_numbers.Goals as goal

pub into_number-requires : goal.into_number-requires
into_number-requires c =
    (numbers_back c.pop.new.self.items c.in-Some.item (subst (λ vs. AreNumbers (plains_of vs)) c.in-Some.ensures.items c.loop-item.invariant)).0

pub loop-item-preserved : goal.loop-item-preserved
loop-item-preserved c =
    (numbers_back c.pop.new.self.items c.in-Some.item (subst (λ vs. AreNumbers (plains_of vs)) c.in-Some.ensures.items c.loop-item.invariant)).1
