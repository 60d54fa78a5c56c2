use Rattle.std.proofs.Common.{◌∙◌, Some, ap, sym}
use Rattle.txs_audit_order.proofs.Lending.{got}
use Rattle.txs_audit_event.specs.declared.what.What.TheVariants as what
use Rattle.txs_audit_event.proofs.Writing.{sent_here, sent_on}
use Rattle.txs_audit_event.proofs.commits.sent_what.Goals as goal

pub returns-then-not-is_sent_at : goal.returns-then-not-is_sent_at
returns-then-not-is_sent_at c =
    let l = c.loop-i in
    let x = c.index-meant-i in
    let ys = c.args.found.now in
    let span = c.args.span in
    ap Some c.in_ok-another.ensures ∙ ap (λ o. Some (what.Sends l.i (Some x.result) o span)) (got ys l.i c.get.result c.get.ensures.lookup.3)
    ∙ sym (sent_here span c.args.meant.now ys l.i l.i x.result c.loop-i-test.true (sym x.is) (sym c.is_sent_at.ensures ∙ c.if-not-is_sent_at.true)) ∙ l.invariant

pub loop-i-preserved : goal.loop-i-preserved
loop-i-preserved c =
    let l = c.loop-i in
    let x = c.index-meant-i in
    sent_on c.args.span c.args.meant.now c.args.found.now l.i l.i x.result c.loop-i-test.true (sym x.is) (sym c.is_sent_at.ensures ∙ c.if-not-is_sent_at.false) ∙ l.invariant
