use Rattle.std.proofs.Common.{◌≤◌, rules, subst}
use Rattle.std.proofs.lemmas.Bool.{both_ways}
use Rattle.txs_value_data.specs.View.{plain_of}
use Rattle.txs_code_encode.proofs.SameLemmas.{agree, differ}
use Rattle.txs_code_encode.proofs.WrittenLemmas.{item_less, item_writable, writable_all, writable_next}
use Rattle.txs_code_encode.proofs.small.+writable.Goals as goal

pub are_writable-is_writable-requires : goal.are_writable-is_writable-requires
are_writable-is_writable-requires t c =
    let less = item_less c.args.items.now c.loop-i.i (plain_of c.get.result.now) c.get.ensures in
    search (rules, less)

pub are_writable-returns-then-not-is_writable : goal.are_writable-returns-then-not-is_writable
are_writable-returns-then-not-is_writable t c =
    let item = item_writable c.args.items.now c.loop-i.i (plain_of c.get.result.now) c.get.ensures in
    differ (λ all. both_ways c.is_writable.result c.if-not-is_writable.true (c.is_writable.ensures.1 (item all)))

pub are_writable-loop-i-preserved : goal.are_writable-loop-i-preserved
are_writable-loop-i-preserved t c =
    writable_next c.args.items.now c.loop-i.i (plain_of c.get.result.now) c.get.ensures c.loop-i.invariant (c.is_writable.ensures.0 c.if-not-is_writable.false)

pub are_writable-returns : goal.are_writable-returns
are_writable-returns t c =
    let all = subst (λ n. n ≤ c.loop-i.i) c.len-i-end.ensures.value c.loop-i-test.false in
    agree (writable_all c.args.items.now c.loop-i.i all c.loop-i.invariant)
