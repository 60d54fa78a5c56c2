use Rattle.std.proofs.Common.{◌+◌, ◌∷◌, ◌++◌, [], ◌∙◌, ap, sym, arith, take}
use Rattle.std.proofs.lemmas.List.{take_more, length-take-le}
use Rattle.txs_audit_order.specs.Rows.{with_index}
use Rattle.txs_audit_order.proofs.Naming.{rows_more}
use Rattle.txs_audit_order.proofs.trace_rows.rows_of.Goals as goal

pub loop-i-preserved : goal.loop-i-preserved
loop-i-preserved c =
    let e = c.index-book-i.result in
    let book = c.args.book.now in
    let i = c.loop-i.i in
    let lt = c.loop-i-test.true in
    rows_more c.args.actors (take i book) (take (i + 1) book) e c.loop-i.rows.items c.add_index.new.rows.items i c.loop-i.invariant (sym (length-take-le i book (omega (arith, lt))))
    (c.in_ok-add_index.ensures ∙ ap (λ a. with_index c.loop-i.rows.items a i) c.from.ensures) (take_more book i e lt ∙ ap (λ y. take i book ++ y ∷ []) (sym c.index-book-i.is))
