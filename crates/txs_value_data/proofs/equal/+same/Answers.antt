use Rattle.std.proofs.Common.{◌≡◌, ◌<◌, suc, length, refl, sym, ◌∙◌, arith, rules}
use Rattle.txs_value_data.specs.PlainValue.{plain_size, row_size}
use Rattle.txs_value_data.specs.View.{plain_of, plains_of}
use Rattle.txs_value_data.proofs.ItemsLemmas.{item_falls}
use Rattle.txs_value_data.proofs.NumbersLemmas.{row_length, row_falls, rows_here, rows_next}
use Rattle.txs_value_data.proofs.equal.+same.Goals as goal

pub same_items-same_row-requires : goal.same_items-same_row-requires
same_items-same_row-requires t c =
    let len : length c.args.a.now ≡ length c.args.b.now = sym c.len-count.ensures.value ∙ c.if-count-len.false ∙ c.len.ensures.value in
    let fall : row_size (plains_of c.row.result.now) < suc (row_size c.args.a.now) = omega (arith, row_falls c.args.a.now c.args.b.now len c.loop-i.i c.row.result.now c.row-in-loop-i.result.now c.row.ensures c.row-in-loop-i.ensures) in
    let lengths = row_length c.args.a.now c.args.b.now len c.loop-i.i c.row.result.now c.row-in-loop-i.result.now c.row.ensures c.row-in-loop-i.ensures in
    search (rules, fall, lengths)

pub same_items-returns-then-not-same_row : goal.same_items-returns-then-not-same_row
same_items-returns-then-not-same_row t c =
    let len : length c.args.a.now ≡ length c.args.b.now = sym c.len-count.ensures.value ∙ c.if-count-len.false ∙ c.len.ensures.value in
    let here = rows_here c.args.a.now c.args.b.now len c.loop-i.i c.row.result.now c.row-in-loop-i.result.now c.row.ensures c.row-in-loop-i.ensures in
    (λ h. absurd (search rules), λ e. c.if-not-same_row.ensures.1 (here e))

pub same_items-loop-i-preserved : goal.same_items-loop-i-preserved
same_items-loop-i-preserved t c =
    let len : length c.args.a.now ≡ length c.args.b.now = sym c.len-count.ensures.value ∙ c.if-count-len.false ∙ c.len.ensures.value in
    rows_next c.args.a.now c.args.b.now len c.loop-i.i c.row.result.now c.row-in-loop-i.result.now c.row.ensures c.row-in-loop-i.ensures (c.if-not-same_row.ensures.0 refl) c.loop-i.invariant

pub same_row-same-requires : goal.same_row-same-requires
same_row-same-requires t c =
    let fall : plain_size (plain_of c.index-a-i.result) < row_size (plains_of c.args.a.now) = item_falls (plains_of c.args.a.now) c.args.a.now c.loop-i.i c.index-a-i.result refl c.loop-i-test.true c.index-a-i.is in
    search (rules, fall)
