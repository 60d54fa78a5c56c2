use Rattle.std.proofs.Common.{◌≡◌, ◌∷◌, ◌++◌, [], ap, ◌∙◌, option_to_list, rules}
use Rattle.txs_frame.proofs.Phasing.{filling_begins, filling_within, filling_goes_on, filling_ends}
use Rattle.txs_frame.proofs.phase.fill_values.Goals as goal

pub loop-value-init : goal.loop-value-init
loop-value-init c = filling_begins c.args.writes.now.items c.args.values c.into_vec-left.result.items c.into_vec-left.ensures c.requires

pub index_mut-requires : goal.index_mut-requires
index_mut-requires c =
    let e : c.loop-value.left.items ≡ c.pop.new.self.items ++ c.in-Some.value ∷ [] = c.pop.ensures.items ∙ ap (λ o. c.pop.new.self.items ++ option_to_list o) c.in-Some.is in
    let lt = filling_within c.args.writes.now.items c.args.values c.loop-value.left.items c.pop.new.self.items c.in-Some.value c.loop-value.writes.items c.requires e c.loop-value.invariant in
    search (rules, lt)

pub loop-value-preserved : goal.loop-value-preserved
loop-value-preserved c =
    let e : c.loop-value.left.items ≡ c.pop.new.self.items ++ c.in-Some.value ∷ [] = c.pop.ensures.items ∙ ap (λ o. c.pop.new.self.items ++ option_to_list o) c.in-Some.is in
    let done = filling_goes_on c.args.writes.now.items c.args.values c.loop-value.left.items c.pop.new.self.items c.in-Some.value c.loop-value.writes.items c.index_mut.result.now c.requires e c.loop-value.invariant (search rules) in
    search (rules, done)

pub returns : goal.returns
returns c = filling_ends c.args.writes.now.items c.args.values c.loop-value.left.items c.loop-value.writes.items (search rules) c.loop-value.invariant
