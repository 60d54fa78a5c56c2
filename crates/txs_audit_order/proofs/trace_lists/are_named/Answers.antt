use Rattle.std.proofs.Common.{◌≡◌, ◌<◌, ◌+◌, ◌&&◌, ◌==◌, ◌∙◌, [], ap, arith, drop, false, get_or, length, sym, true}
use Rattle.txs_audit_order.specs.Named.{all_named}
use Rattle.txs_audit_order.proofs.Naming.{is_equal, is_other, row_read}
use Rattle.txs_audit_order.proofs.Tracing.{named_end, named_step}
use Rattle.txs_audit_order.proofs.trace_lists.are_named.Goals as goal

pub returns-then-as_slice-many : goal.returns-then-as_slice-many
returns-then-as_slice-many c =
    let all = c.args.all.now in
    let named = c.args.named.now in
    let a = c.args.actor in
    let i = c.loop-i.i in
    let less : i < length named = c.loop-i-test.true in
    let as_many = c.requires.many in
    let lt : i < length all = omega (arith, less, as_many) in
    let row = row_read all i a c.index-all-i.result c.as_slice-rows.result.now c.index-rows-actor.result c.as_slice.result.now lt c.requires.rows c.index-all-i.is c.as_slice-rows.ensures c.index-rows-actor.is c.as_slice.ensures in
    let wrong : (length (get_or (get_or all i []) a []) == get_or named i 0) ≡ false = is_other (length (get_or (get_or all i []) a [])) (get_or named i 0) (length c.as_slice.result.now) (ap length row) c.if-as_slice-many.true in
    sym (sym c.loop-i.invariant ∙ named_step a all named i lt less ∙ ap (λ b. b && all_named a (drop (i + 1) all) (drop (i + 1) named)) wrong)

pub loop-i-preserved : goal.loop-i-preserved
loop-i-preserved c =
    let all = c.args.all.now in
    let named = c.args.named.now in
    let a = c.args.actor in
    let i = c.loop-i.i in
    let less : i < length named = c.loop-i-test.true in
    let as_many = c.requires.many in
    let lt : i < length all = omega (arith, less, as_many) in
    let row = row_read all i a c.index-all-i.result c.as_slice-rows.result.now c.index-rows-actor.result c.as_slice.result.now lt c.requires.rows c.index-all-i.is c.as_slice-rows.ensures c.index-rows-actor.is c.as_slice.ensures in
    let right : (length (get_or (get_or all i []) a []) == get_or named i 0) ≡ true = is_equal (length (get_or (get_or all i []) a [])) (get_or named i 0) (sym (ap length row) ∙ c.if-as_slice-many.false) in
    sym (named_step a all named i lt less ∙ ap (λ b. b && all_named a (drop (i + 1) all) (drop (i + 1) named)) right) ∙ c.loop-i.invariant

pub returns : goal.returns
returns c = sym (named_end c.args.actor c.args.all.now c.args.named.now c.loop-i.i c.loop-i-test.false) ∙ c.loop-i.invariant
