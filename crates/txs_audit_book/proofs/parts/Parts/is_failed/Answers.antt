use Rattle.std.proofs.Common.{◌∙◌, arith}
use Rattle.txs_audit_book.proofs.Reading.{boxes_many, failed_read}
use Rattle.txs_world.proofs.Kept.{agent_in}
use Rattle.txs_audit_book.proofs.parts.Parts.is_failed.Goals as goal

pub index-requires : goal.index-requires
index-requires c =
    let p = c.args.self.now in
    let in_cells = agent_in p.cells c.args.agent c.requires.there in
    let many = boxes_many p.cells p.histories.items p.inboxes.items p.views.items p.tries.items c.args.done.now c.requires.gone in
    let is = c.from.ensures in
    omega (arith, in_cells, many, is)

pub returns : goal.returns
returns c =
    let p = c.args.self.now in
    let in_cells = agent_in p.cells c.args.agent c.requires.there in
    c.is_some.ensures ∙ failed_read p.cells p.histories.items p.inboxes.items p.views.items p.tries.items c.args.done.now c.requires.gone c.args.agent c.from.result c.index.result.now in_cells c.from.ensures c.index.ensures
