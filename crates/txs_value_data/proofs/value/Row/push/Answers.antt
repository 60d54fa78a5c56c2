use Rattle.std.proofs.Common.{subst, sym}
use Rattle.txs_value_data.specs.Numbers.{AreNumbers}
use Rattle.txs_value_data.specs.View.{plains_of}
use Rattle.txs_value_data.proofs.NumbersLemmas.{numbers_push}
use Rattle.txs_value_data.proofs.value.Row.push.Goals as goal

pub invariant_of-self : goal.invariant_of-self
invariant_of-self c = λ h. subst (λ vs. AreNumbers (plains_of vs)) (sym c.in_err-push.ensures.items) (c.self.invariant h)

pub invariant_of-self-2 : goal.invariant_of-self-2
invariant_of-self-2 c = λ h.
    let are = c.stay_numbers-are_numbers.ensures in
    subst (λ vs. AreNumbers (plains_of vs)) (sym c.in_ok-push.ensures.items) (numbers_push c.self.inside.items.items c.args.item (are.item h) (c.self.invariant (are.row h)))
