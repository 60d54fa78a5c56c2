use Rattle.std.proofs.Common.{◌≡◌, ◌+◌, ◌∙◌, ap, drop, subst, sym}
use Rattle.txs_world.specs.Places.{place_of, is_first}
use Rattle.txs_world.proofs.Zipping.{Walks, apart_found, apart_next}
use Rattle.txs_world.proofs.slot.are_apart.Goals as goal

pub returns-then-is_first : goal.returns-then-is_first
returns-then-is_first c =
    let rest = c.loop-write.rest.now in
    let w = c.write-item.result in
    let later : c.split_at.result.1.now ≡ drop (place_of w.0.number rest) rest = c.split_at.ensures.back ∙ ap (λ k. drop k rest) c.place_for.ensures.place in
    sym (apart_found c.args.commuted.now c.args.sets.now rest c.args.commuted.now c.loop-write.write-index w c.loop-write-test.true c.write-item.is c.loop-write.invariant
    (sym (ap (is_first w.0.number) later) ∙ sym c.is_first.ensures ∙ c.if-is_first.true))

pub loop-write-preserved : goal.loop-write-preserved
loop-write-preserved c =
    let rest = c.loop-write.rest.now in
    let w = c.write-item.result in
    let i = c.loop-write.write-index in
    let later : c.split_at.result.1.now ≡ drop (place_of w.0.number rest) rest = c.split_at.ensures.back ∙ ap (λ k. drop k rest) c.place_for.ensures.place in
    subst (λ l. Walks c.args.commuted.now c.args.sets.now l c.args.commuted.now (i + 1)) (sym later)
    (apart_next c.args.commuted.now c.args.sets.now rest c.args.commuted.now i w c.loop-write-test.true c.write-item.is c.loop-write.invariant
    (sym (ap (is_first w.0.number) later) ∙ sym c.is_first.ensures ∙ c.if-is_first.false))
