use Rattle.std.proofs.Common.{refl, arith, rules}
use Rattle.txs_value_data.specs.View.{plain_of}
use Rattle.txs_value_data.proofs.PlacesLemmas.{item_less, item_depth, depth_next}
use Rattle.txs_value_apply.proofs.vectors.+depth.Goals as goal

pub items_within-is_within-requires : goal.items_within-is_within-requires
items_within-is_within-requires t c = search (rules, item_less c.args.items.now c.loop-i.i (plain_of c.get.result.now) c.get.ensures)

pub items_within-returns-then-not-is_within : goal.items_within-returns-then-not-is_within
items_within-returns-then-not-is_within t c =
    let le = item_depth c.args.items.now c.loop-i.i (plain_of c.get.result.now) c.get.ensures in
    (λ h. absurd (search rules), λ h. c.if-not-is_within.ensures.1 (omega arith))

pub items_within-loop-i-preserved : goal.items_within-loop-i-preserved
items_within-loop-i-preserved t c =
    depth_next c.args.items.now c.loop-i.i (plain_of c.get.result.now) c.args.limit c.get.ensures (c.if-not-is_within.ensures.0 refl) c.loop-i.invariant
