use Rattle.std.proofs.Common.{◌≡◌, arith, subst, sym, true}
use Rattle.txs_world_book.specs.Book.{has_cell, opening}
use Rattle.txs_world.specs.Inboxes.{plain_inboxes}
use Rattle.txs_world.specs.Store.{PlainStore}
use Rattle.txs_world.proofs.Kept.{cell_in}
use Rattle.txs_world.proofs.Storing.{slot_read, newest_read}
use Rattle.txs_world.proofs.Versions.{some_kept}
use Rattle.txs_world.proofs.store.Store.newest.Goals as goal

pub newest-requires : goal.newest-requires
newest-requires c =
    let x = c.self.inside in
    let s = c.args.self.now in
    some_kept (opening s.cells) s.book c.args.cell.number c.index.result.now
    (slot_read s x.cells x.threads x.slots.items (plain_inboxes x.inboxes.items) x.journal.views.items x.journal.tries.items x.journal.book.items c.from.result c.index.result.now c.args.cell
    c.self.view_is c.self.invariant c.requires c.from.ensures c.index.ensures)

pub returns : goal.returns
returns c =
    let x = c.self.inside in
    let s = c.args.self.now in
    newest_read (opening s.cells) s.book c.args.cell.number c.index.result.now c.newest.result.now
    (slot_read s x.cells x.threads x.slots.items (plain_inboxes x.inboxes.items) x.journal.views.items x.journal.tries.items x.journal.book.items c.from.result c.index.result.now c.args.cell
    c.self.view_is c.self.invariant c.requires c.from.ensures c.index.ensures)
    c.newest.ensures

pub index-requires : goal.index-requires
index-requires c =
    let x = c.self.inside in
    let in_cells = cell_in x.cells c.args.cell (subst (λ (s : PlainStore). has_cell s.cells c.args.cell ≡ true) (sym c.self.view_is) c.requires) in
    let many = c.self.invariant.many in
    let is = c.from.ensures in
    let size = x.slots.ok.0 in
    omega (arith, in_cells, many, is, size)
