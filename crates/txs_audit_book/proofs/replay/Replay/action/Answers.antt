use Rattle.std.proofs.Common.{◌<◌, arith, length, subst, sym}
use Rattle.txs_audit_book.specs.Replayed.{PlainReplay}
use Rattle.txs_audit_book.proofs.Reading.{boxes_many}
use Rattle.txs_audit_book.proofs.replay.Replay.action.Goals as goal

pub index-inbox-requires : goal.index-inbox-requires
index-inbox-requires c =
    let x = c.self.inside in
    let p = x.parts in
    let in_cells : c.args.number < length p.cells = subst (λ (r : PlainReplay). c.args.number < length r.cells) (sym c.self.view_is) c.requires in
    let many = boxes_many p.cells p.histories.items p.inboxes.items p.views.items p.tries.items x.book.now c.self.invariant in
    let size = p.inboxes.ok.0 in
    omega (arith, in_cells, many, size, c.from.ensures)
