use Rattle.std.proofs.Common.{◌∙◌, length, sym}
use Rattle.txs_audit_order.proofs.Passing.{first_more}
use Rattle.txs_audit_order.proofs.taking.first_free.Goals as goal

pub loop-book-preserved : goal.loop-book-preserved
loop-book-preserved c =
    first_more c.args.lengths.now c.args.rows.now c.args.cut.now c.loop-book.book (length c.args.lengths.now) c.loop-book-test.true (sym c.may_take.ensures ∙ c.if-may_take.false) ∙ c.loop-book.invariant
