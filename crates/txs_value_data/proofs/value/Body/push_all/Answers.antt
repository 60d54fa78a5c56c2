use Rattle.std.proofs.Common.{◌<◌, ◌++◌, length, take, rules, arith, append_assoc, ap, sym, ◌∙◌}
use Rattle.std.proofs.lemmas.List.{length-append, length-take, map_more, append-nil, take_all}
use Rattle.txs_value_data.specs.View.{plain_of, plains_of}
use Rattle.txs_value_data.proofs.ItemsLemmas.{length-plains_of}
use Rattle.txs_value_data.proofs.value.Body.push_all.Goals as goal

pub push-requires : goal.push-requires
push-requires c =
    let vs = c.args.values.now in
    let i = c.loop-value.value-index in
    omega (arith, ap length c.loop-value.invariant, length-append c.args.self.now (plains_of (take i vs)), length-plains_of (take i vs), length-take i vs, c.requires)

pub loop-value-preserved : goal.loop-value-preserved
loop-value-preserved c =
    let vs = c.args.values.now in
    let i = c.loop-value.value-index in
    let v = c.value-item.result in
    let lt : i < length vs = search rules in
    search (rules, append_assoc, map_more plain_of vs i v lt)

pub loop-value-init : goal.loop-value-init
loop-value-init c = sym (append-nil c.args.self.now)

pub returns : goal.returns
returns c =
    let out = c.loop-value-test.false in
    c.loop-value.invariant ∙ ap (λ vs. c.args.self.now ++ plains_of vs) (take_all c.loop-value.value-index c.args.values.now (omega (arith, out)))
