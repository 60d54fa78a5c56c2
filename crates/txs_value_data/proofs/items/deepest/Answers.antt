use Rattle.std.proofs.Common.{◌≡◌, ◌≤◌, max, take, rules, arith}
use Rattle.txs_value_data.specs.PlainValue.{depth, row_depth, plain_row}
use Rattle.txs_value_data.specs.View.{plain_of, plains_of}
use Rattle.txs_value_data.proofs.ItemsLemmas.{depth_so_far}
use Rattle.txs_value_data.proofs.NumbersLemmas.{numbers_so_far}
use Rattle.txs_value_data.proofs.items.deepest.Goals as goal

pub loop-value-preserved : goal.loop-value-preserved
loop-value-preserved c =
    let vs = c.args.values.now in
    let i = c.loop-value.value-index in
    let v = c.value-item.result in
    let n = c.max-deep.result in
    let top : n ≡ max c.no_deeper.result c.loop-value.deep = search rules in
    let one : depth (plain_of v) ≤ n = search rules in
    let before : row_depth (plain_row (plains_of (take i vs))) ≤ n = omega (arith, top, c.loop-value.invariant.0) in (
      depth_so_far vs i v n c.loop-value-test.true c.value-item.is one before,
      λ none. numbers_so_far vs i v c.loop-value-test.true c.value-item.is (c.no_deeper.ensures.number (omega (arith, top, none))) (c.loop-value.invariant.1 (omega (arith, top, none))),
    )
