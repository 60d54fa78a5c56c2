use Rattle.std.proofs.Common.{◌+◌, ◌∙◌, ap, get_or, length, refl}
use Rattle.std.proofs.lemmas.List.{length_push}
use Rattle.txs_audit_order.proofs.Naming.{all_push}
use Rattle.txs_audit_order.proofs.trace_lists.zeros.Goals as goal

pub loop-i-init : goal.loop-i-init
loop-i-init c = record { many = ap length c.new-all.ensures.items; each = λ n. ap (λ l. get_or l n 0) c.new-all.ensures.items }

pub loop-i-preserved : goal.loop-i-preserved
loop-i-preserved c =
    let all = c.loop-i.all.items in
    let inv = c.loop-i.invariant in
    let is = c.in_ok-push.ensures.items in
    record {
      many = ap length is ∙ length_push all 0 ∙ ap (λ k. k + 1) inv.many;
      each = λ n. ap (λ l. get_or l n 0) is ∙ all_push all 0 0 inv.each refl n;
    }
