use Rattle.std.proofs.Common.{◌∙◌, ap, nat_lt, arith}
use Rattle.txs_audit_book.proofs.Reading.{written_read}
use Rattle.txs_world.proofs.Kept.{ref_in}
use Rattle.txs_audit_book.proofs.parts.Parts.is_written.Goals as goal

pub index-requires : goal.index-requires
index-requires c =
    let in_cells = ref_in c.args.self.now.cells c.args.cell c.requires.there in
    let many = c.requires.gone.many in
    let is = c.from.ensures in
    omega (arith, in_cells, many, is)

pub returns : goal.returns
returns c =
    let p = c.args.self.now in
    let in_cells = ref_in p.cells c.args.cell c.requires.there in
    ap (nat_lt c.args.since) c.latest.ensures
    ∙ written_read p.cells p.histories.items p.inboxes.items p.views.items p.tries.items c.args.done.now c.requires.gone c.args.cell.number c.from.result c.args.since c.index.result.now in_cells c.from.ensures c.index.ensures
