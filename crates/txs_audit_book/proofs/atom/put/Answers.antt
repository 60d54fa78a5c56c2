use Rattle.std.proofs.Common.{◌≡◌, ◌+◌, suc, arith, length, refl}
use Rattle.txs_world_book.proofs.Outcomes.{on_ok}
use Rattle.txs_world_book.proofs.Sizes.{fits_next, fits_place}
use Rattle.txs_audit_book.proofs.Swapping.{gone_swaps}
use Rattle.txs_audit_book.proofs.atom.put.Goals as goal

pub overflow_cast-events : goal.overflow_cast-events
overflow_cast-events c = fits_place (length c.args.done.now) (let few = c.requires.few in omega (arith, few))

pub overflow_add-events : goal.overflow_add-events
overflow_add-events c = fits_next (length c.args.done.now) (let few = c.requires.few in omega (arith, few))

pub returns : goal.returns
returns c =
    let s = c.args.swaps.now in
    let e = c.args.event.now in
    let n = length c.args.done.now + 1 in
    let one : n ≡ suc (length c.args.done.now) = omega arith in
    on_ok c.mark.result _ _ (λ marks. gone_swaps s.swaps c.put_swap.new.swaps s.views.items c.mark.new.stands.items c.args.done.now _ e.actor n e.kind c.requires.gone one c.in_ok-put_swap.ensures marks refl) c.mark.ensures
