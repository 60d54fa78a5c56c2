use Rattle.std.proofs.Common.{◌≡◌, ◌+◌, ◌∷◌, [], ◌∙◌, ap, drop, length, nat_lt, sym, subst, true}
use Rattle.std.proofs.lemmas.Bool.{ltb-true}
use Rattle.std.proofs.lemmas.List.{drop_more}
use Rattle.txs_world_book.proofs.Outcomes.{both}
use Rattle.txs_audit_book.specs.Gone.{plain_inboxes}
use Rattle.txs_audit_book.specs.Moves.{all_sent_below, entered_all}
use Rattle.txs_audit_book.proofs.Boxes.{plain_many}
use Rattle.txs_audit_book.proofs.Mailing.{entered_many}
use Rattle.txs_audit_book.proofs.inbox.send_all.Goals as goal

pub send_one-requires : goal.send_one-requires
send_one-requires c =
    let bs = c.loop-action.inboxes.items in
    let xs = c.args.actions.now in
    let i = c.loop-action.action-index in
    let x = c.action-item.result in
    let here = drop_more xs i x c.loop-action-test.true ∙ ap (λ y. y ∷ drop (i + 1) xs) (sym c.action-item.is) in
    let places = subst (λ l. all_sent_below (length bs) l ≡ true) here c.loop-action.invariant.places in
    ltb-true x.agent.number (length bs) (both (nat_lt x.agent.number (length bs)) (all_sent_below (length bs) (drop (i + 1) xs)) places).0

pub loop-action-preserved : goal.loop-action-preserved
loop-action-preserved c =
    let bs = c.loop-action.inboxes.items in
    let now = c.send_one.new.inboxes.items in
    let xs = c.args.actions.now in
    let i = c.loop-action.action-index in
    let x = c.action-item.result in
    let inv = c.loop-action.invariant in
    let here = drop_more xs i x c.loop-action-test.true ∙ ap (λ y. y ∷ drop (i + 1) xs) (sym c.action-item.is) in
    let places = subst (λ l. all_sent_below (length bs) l ≡ true) here inv.places in
    let is = c.in_ok-send_one.ensures in
    let many : length now ≡ length bs = sym (plain_many now) ∙ ap length is ∙ entered_many (plain_inboxes bs) (x ∷ []) ∙ plain_many bs in
    record {
      places = subst (λ m. all_sent_below m (drop (i + 1) xs) ≡ true) (sym many) (both (nat_lt x.agent.number (length bs)) (all_sent_below (length bs) (drop (i + 1) xs)) places).1;
      whole = ap (λ b. entered_all b (drop (i + 1) xs)) is ∙ sym (ap (entered_all (plain_inboxes bs)) here) ∙ inv.whole;
    }
