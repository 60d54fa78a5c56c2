use Rattle.std.proofs.Common.{◌∙◌, ap, arith, length, subst, sym, take}
use Rattle.std.proofs.lemmas.List.{length-take, take-map}
use Rattle.txs_value_data.specs.Numbers.{AreNumbers}
use Rattle.txs_value_data.specs.View.{plain_of, plains_of}
use Rattle.txs_value_data.proofs.ItemsLemmas.{length-plains_of}
use Rattle.txs_value_data.proofs.NumbersLemmas.{numbers_cut}
use Rattle.txs_value_data.proofs.value.Row.truncate.Goals as goal

pub invariant_of-self : goal.invariant_of-self
invariant_of-self c = λ h. subst (λ vs. AreNumbers (plains_of vs)) (sym c.truncate.ensures.items) (numbers_cut c.self.inside.items.items c.args.count (c.self.invariant h))

pub returns-clause-values : goal.returns-clause-values
returns-clause-values c =
    let vs = c.self.inside.items.items in
    ap plains_of c.truncate.ensures.items ∙ sym (take-map plain_of c.args.count vs) ∙ ap (λ ds. take c.args.count ds) c.self.view_is

pub returns-clause-short : goal.returns-clause-short
returns-clause-short c =
    let vs = c.self.inside.items.items in
    omega (arith, length-plains_of c.truncate.new.self.items, ap length c.truncate.ensures.items, length-take c.args.count vs)
