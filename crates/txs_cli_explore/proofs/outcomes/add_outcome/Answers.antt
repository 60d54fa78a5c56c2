use Rattle.std.proofs.Common.{List, inl, inr, refl, subst}
use Rattle.txs_cli_explore.specs.Outcomes.{IsListed, IsNew}
use Rattle.txs_cli_explore.specs.declared.outcomes.Outcome.{Outcome}
use Rattle.txs_cli_explore.proofs.outcomes.add_outcome.Goals as goal

pub returns-then-is_listed : goal.returns-then-is_listed
returns-then-is_listed c = inl (subst (λ (os : List Outcome). IsListed c.args.outcome os) c.as_slice.ensures.value (c.is_listed.ensures.listed c.if-is_listed.true), refl)

pub returns : goal.returns
returns c = inr (subst (λ (os : List Outcome). IsNew c.args.outcome os) c.as_slice.ensures.value (c.is_listed.ensures.new c.if-is_listed.false), c.in_ok-push.ensures.items)
