use Rattle.txs_audit_book.specs.Gone.{plain_inboxes}
use Rattle.txs_audit_book.proofs.Reading.{gone_open}
use Rattle.txs_audit_book.proofs.parts.open_parts.Goals as goal

pub returns-clause-gone : goal.returns-clause-gone
returns-clause-gone c =
    gone_open c.in_ok-cells.cells c.as_slice.result.now c.as_slice-2.result.now c.in_ok-histories.histories.items (plain_inboxes c.in_ok-inboxes.inboxes.items) c.new.result.items c.new-2.result.items
    c.as_slice.ensures c.as_slice-2.ensures c.in_ok-histories.ensures c.in_ok-inboxes.ensures c.new.ensures.items c.new-2.ensures.items
