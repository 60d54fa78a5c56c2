use Rattle.std.proofs.Common.{◌∙◌, [], get_or, subst}
use Rattle.std.proofs.lemmas.List.{get_or_read}
use Rattle.txs_audit_order.specs.Waiting.{IsWait}
use Rattle.txs_audit_order.proofs.Nearing.{waits_more}
use Rattle.txs_audit_order.proofs.left.all_waits.Goals as goal

pub loop-book-preserved : goal.loop-book-preserved
loop-book-preserved c =
    let rows = c.args.rows.now in
    let cut = c.args.cut.now in
    let b = c.loop-book.book in
    let lt = c.loop-book-test.true in
    let w = c.wait_of.result in
    let row = c.as_slice.ensures ∙ get_or_read rows b c.index-rows-book.result lt c.index-rows-book.is [] in
    record {
      room = c.push_reserved.ensures.capacity ∙ c.loop-book.invariant.room;
      waits = waits_more rows cut c.loop-book.waits.items c.push_reserved.new.self.items b w lt c.loop-book.invariant.waits
          (subst (λ k. IsWait (get_or rows b []) cut k w) c.number_at.ensures (subst (λ r. IsWait r cut c.number_at.result w) row c.wait_of.ensures)) c.push_reserved.ensures.items;
    }
