use Rattle.std.proofs.Common.{◌+◌, ◌∙◌, [], ap, arith, get_or, length}
use Rattle.std.proofs.lemmas.List.{length_push}
use Rattle.txs_audit_order.proofs.Naming.{all_push}
use Rattle.txs_audit_order.proofs.trace_rows.empty_rows.Goals as goal

pub loop-i-init : goal.loop-i-init
loop-i-init c = record { many = ap length c.new-rows.ensures.items; each = λ a. ap (λ l. get_or l a []) c.new-rows.ensures.items }

pub loop-i-preserved : goal.loop-i-preserved
loop-i-preserved c =
    let rows = c.loop-i.rows.items in
    let inv = c.loop-i.invariant in
    let is = c.in_ok-push.ensures.items in
    record {
      many = ap length is ∙ length_push rows c.new.result ∙ ap (λ k. k + 1) inv.many;
      each = λ a. ap (λ l. get_or l a []) is ∙ all_push rows c.new.result [] inv.each c.new.ensures a;
    }

pub returns : goal.returns
returns c =
    let inv = c.loop-i.invariant in
    let many = inv.many in
    let end = c.loop-i.auto._i-end in
    record { many = omega (arith, many, end, c.loop-i-test.false); each = λ a lt. inv.each a }
