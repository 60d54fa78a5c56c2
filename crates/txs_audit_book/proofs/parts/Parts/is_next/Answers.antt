use Rattle.std.proofs.Common.{◌≡◌, arith, length}
use Rattle.txs_world_book.specs.Book.{mail_after}
use Rattle.txs_audit_book.specs.Gone.{plain_inbox}
use Rattle.txs_audit_book.proofs.Reading.{boxes_many, inbox_is, next_waits, none_waits}
use Rattle.txs_world.proofs.Kept.{agent_in}
use Rattle.txs_audit_book.proofs.parts.Parts.is_next.Goals as goal

pub index-inbox-requires : goal.index-inbox-requires
index-inbox-requires c =
    let p = c.args.self.now in
    let in_cells = agent_in p.cells c.args.agent c.requires.there in
    let many = boxes_many p.cells p.histories.items p.inboxes.items p.views.items p.tries.items c.args.done.now c.requires.gone in
    let size = p.inboxes.ok.0 in
    omega (arith, in_cells, many, size, c.from.ensures)

pub returns-then-inbox-len : goal.returns-then-inbox-len
returns-then-inbox-len c =
    let p = c.args.self.now in
    let b = c.index-inbox.result.now in
    let in_cells = agent_in p.cells c.args.agent c.requires.there in
    let size = b.sent.ok.0 in
    let many : c.len.result ≡ length b.sent.items = omega (arith, c.len.ensures, size) in
    next_waits (mail_after p.cells c.args.done.now c.args.agent.number) (plain_inbox b) c.args.number c.len.result
    (inbox_is p.cells p.histories.items p.inboxes.items p.views.items p.tries.items c.args.done.now c.requires.gone c.args.agent.number c.from.result b in_cells c.from.ensures c.index-inbox.ensures) many c.if-inbox-len.true

pub returns-else-inbox-len : goal.returns-else-inbox-len
returns-else-inbox-len c =
    let p = c.args.self.now in
    let b = c.index-inbox.result.now in
    let in_cells = agent_in p.cells c.args.agent c.requires.there in
    let size = b.sent.ok.0 in
    let many : c.len.result ≡ length b.sent.items = omega (arith, c.len.ensures, size) in
    none_waits (mail_after p.cells c.args.done.now c.args.agent.number) (plain_inbox b) c.args.number c.len.result
    (inbox_is p.cells p.histories.items p.inboxes.items p.views.items p.tries.items c.args.done.now c.requires.gone c.args.agent.number c.from.result b in_cells c.from.ensures c.index-inbox.ensures) many c.if-inbox-len.false
