use Rattle.std.proofs.Common.{◌≡◌, ◌+◌, ◌++◌, ◌∷◌, [], ◌∙◌, ap, append_assoc, sym, take, arith}
use Rattle.std.proofs.lemmas.List.{take_more, append-nil, take_all}
use Rattle.txs_world.proofs.slot.append.Goals as goal

pub loop-write-preserved : goal.loop-write-preserved
loop-write-preserved c =
    let ws = c.args.writes.now in
    let had = c.args.copies.now.items in
    let i = c.loop-write.write-index in
    let w = c.write-item.result in
    let next : take (i + 1) ws ≡ take i ws ++ w ∷ [] = take_more ws i w c.loop-write-test.true ∙ ap (λ y. take i ws ++ y ∷ []) (sym c.write-item.is) in
    c.in_ok-push_copy.ensures ∙ ap (λ l. l ++ w ∷ []) c.loop-write.invariant ∙ append_assoc had (take i ws) (w ∷ []) ∙ ap (λ l. had ++ l) (sym next)

pub loop-write-init : goal.loop-write-init
loop-write-init c = sym (append-nil c.args.copies.now.items)

pub returns : goal.returns
returns c =
    let out = c.loop-write-test.false in
    c.loop-write.invariant ∙ ap (λ l. c.args.copies.now.items ++ l) (take_all c.loop-write.write-index c.args.writes.now (omega (arith, out)))
