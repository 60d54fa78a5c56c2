use Rattle.std.proofs.Common.{◌∙◌, sym}
use Rattle.std.proofs.lemmas.List.{at_drop_all}
use Rattle.txs_audit_order.specs.Sent.{with_events}
use Rattle.txs_audit_order.proofs.Sending.{are_senders}
use Rattle.txs_audit_order.proofs.senders.all_senders.Goals as goal

pub returns : goal.returns
returns c =
    let rows = c.loop-i.rows.items in
    are_senders c.args.cells c.args.book.now rows (sym (at_drop_all (with_events rows c.loop-i.i) c.args.book.now c.loop-i.i c.loop-i-test.false) ∙ c.loop-i.invariant)
