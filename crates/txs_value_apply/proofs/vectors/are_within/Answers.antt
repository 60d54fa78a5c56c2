use Rattle.std.proofs.Common.{refl, arith, rules}
use Rattle.txs_value_data.specs.View.{plains_of}
use Rattle.txs_value_data.proofs.ItemsLemmas.{depth_at, depth_so_far}
use Rattle.txs_value_apply.proofs.vectors.are_within.Goals as goal

pub returns-then-not-is_within : goal.returns-then-not-is_within
returns-then-not-is_within c =
    let vs = c.args.values.now in
    let le = depth_at (plains_of vs) vs c.loop-value.value-index c.value-item.result refl c.loop-value-test.true c.value-item.is in
    (λ h. absurd (search rules), λ h. c.if-not-is_within.ensures.1 (omega arith))

pub loop-value-preserved : goal.loop-value-preserved
loop-value-preserved c =
    depth_so_far c.args.values.now c.loop-value.value-index c.value-item.result c.args.limit c.loop-value-test.true c.value-item.is (c.if-not-is_within.ensures.0 refl) c.loop-value.invariant
