use Rattle.std.proofs.Common.{◌≡◌, ℕ, List, ◌≤◌, ◌-◌, ◌⊎◌, inl, inr, length, take, ap, sym, subst, ◌∙◌, rules}
use Rattle.txs_value_data.specs.Limits.{IsVector}
use Rattle.txs_value_data.specs.Numbers.{AreNumbers}
use Rattle.txs_value_data.specs.PlainValue.{PlainValue, row_depth, plain_row}
use Rattle.txs_value_data.proofs.ItemsLemmas.{IsVector-fewer, no_deeper-fewer}
use Rattle.txs_value_data.proofs.NumbersLemmas.{numbers-fewer}
use Rattle.txs_value_data.proofs.value.Items.pop.Goals as goal

-- a body that is written to, with the number beside it: the vector's own, or a copy
same_both : (a b : List PlainValue × ℕ) → (b ≡ a) ⊎ ((b.0 ≡ a.0) × (b.1 ≡ a.1)) → (b.0 ≡ a.0) × (b.1 ≡ a.1)
same_both a b (inl e) = (ap (λ p. p.0) e, ap (λ p. p.1) e)
same_both a b (inr e) = e

pub invariant_of-result : goal.invariant_of-result
invariant_of-result c =
    let kept = same_both c.self.inside.shared.value c.in_ok-kept.kept.now c.in_ok-kept.ensures.value in
    let same : c.in_ok-kept.kept.now.0 ≡ c.args.self = kept.0 ∙ c.self.view_is in
    let before : IsVector c.args.self = subst IsVector c.self.view_is c.self.invariant.0 in
    let whole : row_depth (plain_row c.args.self) ≤ c.self.inside.shared.value.1 = subst (λ ds. row_depth (plain_row ds) ≤ c.self.inside.shared.value.1) c.self.view_is c.self.invariant.1 in
    let bound : row_depth (plain_row c.args.self) ≤ c.in_ok-kept.kept.now.1 = rw kept.1 whole in
    let numbers : c.in_ok-kept.kept.now.1 ≡ 0 → AreNumbers c.args.self = λ none. subst AreNumbers c.self.view_is (c.self.invariant.2 (sym kept.1 ∙ none)) in
    let is : c.pop.new.self ≡ take (length c.args.self - 1) c.args.self = rw same at c.in_ok-pop.ensures in
    let ended : (c.make_mut.follows.lender (c.pop.new.self, c.in_ok-kept.kept.now.1)).value ≡ (c.pop.new.self, c.in_ok-kept.kept.now.1) = search (rules, c.make_mut.follows.holds (c.pop.new.self, c.in_ok-kept.kept.now.1)) in
    rw ended (
      IsVector-fewer c.args.self c.pop.new.self (length c.args.self - 1) is before,
      no_deeper-fewer c.args.self c.pop.new.self (length c.args.self - 1) c.in_ok-kept.kept.now.1 is bound,
      numbers-fewer c.args.self c.pop.new.self (length c.args.self - 1) c.in_ok-kept.kept.now.1 is numbers,
    )
