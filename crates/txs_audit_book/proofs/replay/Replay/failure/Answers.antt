use Rattle.std.proofs.Common.{◌<◌, ◌∙◌, ap, arith, length, subst, sym}
use Rattle.txs_audit_book.specs.Replayed.{PlainReplay, failure_there}
use Rattle.txs_audit_book.proofs.Reading.{boxes_many, inbox_is}
use Rattle.txs_audit_book.proofs.replay.Replay.failure.Goals as goal

pub index-requires : goal.index-requires
index-requires c =
    let x = c.self.inside in
    let p = x.parts in
    let in_cells : c.args.number < length p.cells = subst (λ (r : PlainReplay). c.args.number < length r.cells) (sym c.self.view_is) c.requires in
    let many = boxes_many p.cells p.histories.items p.inboxes.items p.views.items p.tries.items x.book.now c.self.invariant in
    let size = p.inboxes.ok.0 in
    omega (arith, in_cells, many, size, c.from.ensures)

pub returns : goal.returns
returns c =
    let x = c.self.inside in
    let p = x.parts in
    let in_cells : c.args.number < length p.cells = subst (λ (r : PlainReplay). c.args.number < length r.cells) (sym c.self.view_is) c.requires in
    (inbox_is p.cells p.histories.items p.inboxes.items p.views.items p.tries.items x.book.now c.self.invariant c.args.number c.from.result c.index.result.now in_cells c.from.ensures c.index.ensures).fault
    ∙ ap (λ (r : PlainReplay). failure_there r c.args.number) c.self.view_is
