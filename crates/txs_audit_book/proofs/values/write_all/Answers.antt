use Rattle.std.proofs.Common.{◌≡◌, ◌+◌, ◌∷◌, [], ◌++◌, ◌∙◌, ap, drop, length, nat_lt, get_or, sym, subst, true}
use Rattle.std.proofs.lemmas.Bool.{ltb-true}
use Rattle.std.proofs.lemmas.List.{drop_more, length-set}
use Rattle.txs_world_book.proofs.Outcomes.{both}
use Rattle.txs_audit_book.specs.Moves.{AllWithin, all_below, written_all}
use Rattle.txs_audit_book.proofs.Histories.{within_put}
use Rattle.txs_audit_book.proofs.values.write_all.Goals as goal

pub write-requires : goal.write-requires
write-requires c =
    let hs = c.loop-item.histories.items in
    let ws = c.args.writes.now in
    let i = c.loop-item.item-index in
    let w = c.item-item.result in
    let here = drop_more ws i w c.loop-item-test.true ∙ ap (λ y. y ∷ drop (i + 1) ws) (sym c.item-item.is) in
    let places = subst (λ l. all_below (length hs) l ≡ true) here c.loop-item.invariant.places in
    record { there = ltb-true w.0.number (length hs) (both (nat_lt w.0.number (length hs)) (all_below (length hs) (drop (i + 1) ws)) places).0; within = c.loop-item.invariant.within w.0.number }

pub loop-item-preserved : goal.loop-item-preserved
loop-item-preserved c =
    let hs = c.loop-item.histories.items in
    let now = c.write.new.histories.items in
    let ws = c.args.writes.now in
    let n = c.args.events in
    let i = c.loop-item.item-index in
    let w = c.item-item.result in
    let inv = c.loop-item.invariant in
    let here = drop_more ws i w c.loop-item-test.true ∙ ap (λ y. y ∷ drop (i + 1) ws) (sym c.item-item.is) in
    let places = subst (λ l. all_below (length hs) l ≡ true) here inv.places in
    let is = c.in_ok-write.ensures in
    let many : length now ≡ length hs = ap length is ∙ length-set hs w.0.number (get_or hs w.0.number [] ++ (n, w.1) ∷ []) in
    record {
      places = subst (λ m. all_below m (drop (i + 1) ws) ≡ true) (sym many) (both (nat_lt w.0.number (length hs)) (all_below (length hs) (drop (i + 1) ws)) places).1;
      within = subst (AllWithin n) (sym is) (within_put n hs w.0.number w.1 inv.within);
      whole = ap (λ h. written_all n h (drop (i + 1) ws)) is ∙ sym (ap (written_all n hs) here) ∙ inv.whole;
    }
