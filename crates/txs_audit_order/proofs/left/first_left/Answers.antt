use Rattle.std.proofs.Common.{◌∙◌, arith, length}
use Rattle.txs_audit_order.proofs.Nearing.{left_more}
use Rattle.txs_audit_order.proofs.left.first_left.Goals as goal

pub loop-book-preserved : goal.loop-book-preserved
loop-book-preserved c =
    let is = c.number_at.ensures in
    let past = c.if-number_at-many.false in
    left_more c.args.lengths.now c.args.cut.now c.loop-book.book (length c.args.lengths.now) c.loop-book-test.true (omega (arith, is, past)) ∙ c.loop-book.invariant
