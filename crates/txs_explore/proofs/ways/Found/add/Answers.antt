use Rattle.std.proofs.Common.{◌≡◌, ◌++◌, ◌∷◌, [], inl, inr, refl, rules, subst}
use Rattle.txs_explore.specs.declared.ways.Way.{Way}
use Rattle.txs_explore.specs.Found.{HasEnding}
use Rattle.txs_explore.specs.Ways.{as_ending}
use Rattle.txs_explore.proofs.ways.Found.add.Goals as goal

pub returns-then-is_listed : goal.returns-then-is_listed
returns-then-is_listed c = inl (subst (HasEnding (as_ending c.args.ending)) c.as_slice.ensures.value (c.is_listed.ensures c.if-is_listed.true), refl)

pub returns : goal.returns
returns c =
    let way : Way = record { ending = c.args.ending; asks = c.in_ok-asks.asks } in
    let copied : c.in_ok-asks.asks.items ≡ c.args.asks.now = search rules in
    let pushed : c.push_reserved.new.self.items ≡ c.args.self.now.ways.items ++ way ∷ [] = search rules in
    inr (way, refl, copied, pushed)
