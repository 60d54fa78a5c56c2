use Rattle.std.proofs.Common.{refl, rules}
use Rattle.txs_value_data.proofs.NumbersLemmas.{row_length, row_numbers, rows_here, rows_next}
use Rattle.txs_value_data.proofs.equal.same_numbers.Goals as goal

pub same_number_row-requires-clause-a : goal.same_number_row-requires-clause-a
same_number_row-requires-clause-a c = row_numbers c.args.a.now c.loop-i.i c.row.result.now c.row.ensures c.requires.a

pub same_number_row-requires-clause-b : goal.same_number_row-requires-clause-b
same_number_row-requires-clause-b c = row_numbers c.args.b.now c.loop-i.i c.row-in-loop-i.result.now c.row-in-loop-i.ensures c.requires.b

pub same_number_row-requires-clause-len : goal.same_number_row-requires-clause-len
same_number_row-requires-clause-len c = row_length c.args.a.now c.args.b.now c.requires.len c.loop-i.i c.row.result.now c.row-in-loop-i.result.now c.row.ensures c.row-in-loop-i.ensures

pub returns-then-not-same_number_row : goal.returns-then-not-same_number_row
returns-then-not-same_number_row c =
    let here = rows_here c.args.a.now c.args.b.now c.requires.len c.loop-i.i c.row.result.now c.row-in-loop-i.result.now c.row.ensures c.row-in-loop-i.ensures in
    (λ h. absurd (search rules), λ e. c.if-not-same_number_row.ensures.1 (here e))

pub loop-i-preserved : goal.loop-i-preserved
loop-i-preserved c =
    rows_next c.args.a.now c.args.b.now c.requires.len c.loop-i.i c.row.result.now c.row-in-loop-i.result.now c.row.ensures c.row-in-loop-i.ensures (c.if-not-same_number_row.ensures.0 refl) c.loop-i.invariant
