use Rattle.std.proofs.Common.{◌<◌, ap, arith, length, rules, subst, sym}
use Rattle.txs_value_data.specs.Numbers.{AreNumbers}
use Rattle.txs_value_data.specs.View.{plains_of}
use Rattle.txs_value_data.proofs.ItemsLemmas.{plains_of-set, length-plains_of}
use Rattle.txs_value_data.proofs.NumbersLemmas.{numbers_set}
use Rattle.txs_value_data.proofs.value.Row.put.Goals as goal

pub put-requires : goal.put-requires
put-requires c =
    let vs = c.self.inside.items.items in
    omega (arith, c.requires, ap length c.self.view_is, length-plains_of vs)

pub invariant_of-self : goal.invariant_of-self
invariant_of-self c = λ h.
    let are = c.stay_numbers-are_numbers.ensures in
    subst (λ vs. AreNumbers (plains_of vs)) (sym c.put.ensures) (numbers_set c.self.inside.items.items c.args.place c.args.item (are.item h) (c.self.invariant (are.row h)))

pub returns : goal.returns
returns c =
    let vs = c.self.inside.items.items in
    let lt : c.args.place < length vs = omega (arith, c.requires, ap length c.self.view_is, length-plains_of vs) in
    search (rules, plains_of-set vs c.args.place c.args.item lt)
