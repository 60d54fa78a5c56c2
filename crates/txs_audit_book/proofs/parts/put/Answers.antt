use Rattle.std.proofs.Common.{◌≡◌, ◌+◌, suc, ap, arith, length, refl, subst, sym, ◌∙◌}
use Rattle.txs_world_book.specs.Stands.{Marked}
use Rattle.txs_world_book.proofs.Outcomes.{on_ok}
use Rattle.txs_world_book.proofs.Sizes.{fits_next, fits_place}
use Rattle.txs_audit_book.specs.Gone.{plain_inboxes}
use Rattle.txs_audit_book.specs.Moves.{AllWithin, MayPut, mail_put}
use Rattle.txs_audit_book.proofs.Stepping.{all_within, gone_more, legal_below, may_put}
use Rattle.txs_audit_book.proofs.parts.put.Goals as goal

pub overflow_cast-events : goal.overflow_cast-events
overflow_cast-events c = fits_place (length c.args.done.now) (let few = c.requires.few in omega (arith, few))

pub overflow_add-events : goal.overflow_add-events
overflow_add-events c = fits_next (length c.args.done.now) (let few = c.requires.few in omega (arith, few))

pub put_values-requires-clause-there : goal.put_values-requires-clause-there
put_values-requires-clause-there c =
    let p = c.args.parts.now in
    let e = c.args.event.now in
    legal_below p.cells c.args.done.now e.actor (length p.histories.items) e.kind c.requires.gone.many c.requires.legal

pub put_values-requires-clause-within : goal.put_values-requires-clause-within
put_values-requires-clause-within c =
    let p = c.args.parts.now in
    let one : suc (length c.args.done.now) ≡ length c.args.done.now + 1 = omega arith in
    subst (λ n. AllWithin n p.histories.items) one (all_within p.cells p.histories.items (plain_inboxes p.inboxes.items) p.views.items p.tries.items c.args.done.now c.requires.gone)

pub put_mail-requires : goal.put_mail-requires
put_mail-requires c =
    let p = c.args.parts.now in
    let e = c.args.event.now in
    subst (λ l. MayPut l (plain_inboxes p.inboxes.items) e.kind) (sym c.as_slice.ensures)
    (may_put p.cells p.histories.items (plain_inboxes p.inboxes.items) p.views.items p.tries.items c.args.done.now e.actor e.kind c.requires.gone c.requires.legal)

pub returns-clause-gone : goal.returns-clause-gone
returns-clause-gone c =
    let p = c.args.parts.now in
    let e = c.args.event.now in
    let n = length c.args.done.now + 1 in
    let one : n ≡ suc (length c.args.done.now) = omega arith in
    on_ok c.mark-2.result _ _ (λ tries.
    gone_more p.cells p.histories.items c.put_values.new.histories.items (plain_inboxes p.inboxes.items) (plain_inboxes c.put_mail.new.inboxes.items) p.views.items p.tries.items c.mark.new.stands.items c.mark-2.new.stands.items
    c.args.done.now _ e.actor n e.kind c.requires.gone c.requires.few c.requires.legal one c.in_ok-put_values.ensures
    (c.in_ok-put_mail.ensures ∙ ap (λ l. mail_put l n e.kind (plain_inboxes p.inboxes.items)) c.as_slice.ensures)
    c.in_ok-mark.ensures (subst (λ b. Marked b e.actor n p.tries.items c.mark-2.new.stands.items) c.is_no_redo.ensures tries) refl) c.mark-2.ensures
