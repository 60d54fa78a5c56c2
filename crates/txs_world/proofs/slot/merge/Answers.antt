use Rattle.std.proofs.Common.{◌≡◌, ◌+◌, ◌++◌, ◌∷◌, [], ◌∙◌, ap, arith, drop, sym, take}
use Rattle.txs_world.specs.Places.{place_of}
use Rattle.txs_world_book.proofs.Outcomes.{on_ok}
use Rattle.txs_world.proofs.Zipping.{merged_zips, zip_last, zip_next, zipped}
use Rattle.txs_world.proofs.slot.merge.Goals as goal

pub loop-write-init : goal.loop-write-init
loop-write-init c = ap (λ l. l ++ zipped c.args.sets.now c.args.commuted.now) c.requires.empty

pub loop-write-preserved : goal.loop-write-preserved
loop-write-preserved c =
    let sets = c.args.sets.now in
    let rest = c.loop-write.rest.now in
    let built = c.loop-write.joined.items in
    let i = c.loop-write.write-index in
    let w = c.write-item.result in
    let p = place_of w.0.number rest in
    let front : c.split_at.result.0.now ≡ take p rest = c.split_at.ensures.front ∙ ap (λ k. take k rest) c.place_for.ensures.place in
    let back : c.split_at.result.1.now ≡ drop p rest = c.split_at.ensures.back ∙ ap (λ k. drop k rest) c.place_for.ensures.place in
    let put : c.push_copy.new.copies.items ≡ (built ++ take p rest) ++ w ∷ [] = c.in_ok-push_copy.ensures ∙ ap (λ l. l ++ w ∷ []) (c.in_ok-append.ensures ∙ ap (λ l. built ++ l) front) in
    ap (λ l. l ++ zipped (drop (i + 1) sets) c.split_at.result.1.now) put
    ∙ ap (λ l. ((built ++ take p rest) ++ w ∷ []) ++ zipped (drop (i + 1) sets) l) back
    ∙ zip_next sets i w built rest (zipped sets c.args.commuted.now) c.loop-write-test.true c.write-item.is c.loop-write.invariant

pub returns : goal.returns
returns c =
    let out = c.loop-write-test.false in
    on_ok c.append-2.result _ _ (λ is. is
    ∙ zip_last c.args.sets.now c.loop-write.write-index c.loop-write.joined.items c.loop-write.rest.now (zipped c.args.sets.now c.args.commuted.now) (omega (arith, out)) c.loop-write.invariant
    ∙ sym (merged_zips c.args.sets.now c.args.commuted.now 0 c.requires.ascend c.requires.apart)) c.append-2.ensures
