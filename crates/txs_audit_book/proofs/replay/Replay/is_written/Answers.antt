use Rattle.std.proofs.Common.{◌≤◌, ◌<◌, ◌∙◌, ap, arith, length, nat_lt, subst, sym, take}
use Rattle.txs_world_book.specs.Book.{written}
use Rattle.txs_audit_book.specs.Gone.{plain_inboxes}
use Rattle.txs_audit_book.specs.Replayed.{PlainReplay}
use Rattle.txs_audit_book.proofs.Reading.{moved_read}
use Rattle.txs_audit_book.proofs.replay.Replay.is_written.Goals as goal

pub index-requires : goal.index-requires
index-requires c =
    let p = c.self.inside.parts in
    let in_cells : c.args.number < length p.cells = subst (λ (r : PlainReplay). c.args.number < length r.cells) (sym c.self.view_is) c.requires.there in
    let many = c.self.invariant.many in
    let size = p.histories.ok.0 in
    omega (arith, in_cells, many, size, c.from-place.ensures)

pub returns : goal.returns
returns c =
    let x = c.self.inside in
    let p = x.parts in
    let in_cells : c.args.number < length p.cells = subst (λ (r : PlainReplay). c.args.number < length r.cells) (sym c.self.view_is) c.requires.there in
    let many = c.self.invariant.many in
    let lt : c.from-place.result < length p.histories.items = omega (arith, in_cells, many, c.from-place.ensures) in
    let within : c.args.events ≤ length x.book.now = subst (λ (r : PlainReplay). c.args.events ≤ length r.book) (sym c.self.view_is) c.requires.within in
    ap (nat_lt c.args.since) c.index_in.ensures
    ∙ moved_read p.cells p.histories.items (plain_inboxes p.inboxes.items) p.views.items p.tries.items x.book.now c.self.invariant c.args.number c.from-place.result c.args.since c.args.events c.index.result.now c.from-place.ensures lt within c.index.ensures
    ∙ ap (λ (r : PlainReplay). written c.args.number c.args.since (take c.args.events r.book)) c.self.view_is
