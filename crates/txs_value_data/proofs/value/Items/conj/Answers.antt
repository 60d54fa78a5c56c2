use Rattle.std.proofs.Common.{◌≡◌, ℕ, List, ◌≤◌, ◌++◌, ◌∷◌, [], ◌⊎◌, inl, inr, ap, sym, subst, ◌∙◌, rules}
use Rattle.txs_value_data.specs.Limits.{IsVector}
use Rattle.txs_value_data.specs.Numbers.{AreNumbers}
use Rattle.txs_value_data.specs.PlainValue.{PlainValue, row_depth, plain_row}
use Rattle.txs_value_data.specs.View.{plain_of}
use Rattle.txs_value_data.proofs.ItemsLemmas.{IsVector-more, no_deeper-more}
use Rattle.txs_value_data.proofs.NumbersLemmas.{numbers-more}
use Rattle.txs_value_data.proofs.value.Items.conj.Goals as goal

-- a body that is written to, with the number beside it: the vector's own, or a copy
same_both : (a b : List PlainValue × ℕ) → (b ≡ a) ⊎ ((b.0 ≡ a.0) × (b.1 ≡ a.1)) → (b.0 ≡ a.0) × (b.1 ≡ a.1)
same_both a b (inl e) = (ap (λ p. p.0) e, ap (λ p. p.1) e)
same_both a b (inr e) = e

pub invariant_of-result : goal.invariant_of-result
invariant_of-result c =
    let kept = same_both c.self.inside.shared.value c.in-Ok.kept.now c.in-Ok.ensures.value in
    let same : c.in-Ok.kept.now.0 ≡ c.args.self = kept.0 ∙ c.self.view_is in
    let before : IsVector c.args.self = subst IsVector c.self.view_is c.self.invariant.0 in
    let whole : row_depth (plain_row c.args.self) ≤ c.self.inside.shared.value.1 = subst (λ ds. row_depth (plain_row ds) ≤ c.self.inside.shared.value.1) c.self.view_is c.self.invariant.1 in
    let bound : row_depth (plain_row c.args.self) ≤ c.in-Ok.kept.now.1 = rw kept.1 whole in
    let numbers : c.in-Ok.kept.now.1 ≡ 0 → AreNumbers c.args.self = λ none. subst AreNumbers c.self.view_is (c.self.invariant.2 (sym kept.1 ∙ none)) in
    let is : c.push.new.self ≡ c.args.self ++ plain_of c.args.item ∷ [] = rw same at c.in_ok-push.ensures in
    let ended : (c.make_mut.follows.lender (c.push.new.self, c.max-kept.result)).value ≡ (c.push.new.self, c.max-kept.result) = search (rules, c.make_mut.follows.holds (c.push.new.self, c.max-kept.result)) in
    rw ended (
      IsVector-more c.args.self c.push.new.self (plain_of c.args.item) is before c.requires.room c.requires.shallow,
      no_deeper-more c.args.self c.push.new.self (plain_of c.args.item) c.in-Ok.kept.now.1 c.no_deeper-deep.result c.max-kept.result is bound c.no_deeper-deep.ensures.bound (search rules),
      numbers-more c.args.self c.push.new.self (plain_of c.args.item) c.in-Ok.kept.now.1 c.no_deeper-deep.result c.max-kept.result is numbers c.no_deeper-deep.ensures.number (search rules),
    )
