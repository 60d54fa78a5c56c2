use Rattle.std.proofs.lemmas.Bool.{both_ways}
use Rattle.txs_value_data.specs.View.{plain_of}
use Rattle.txs_code_decode.specs.ValueForm.{IsWritable}
use Rattle.txs_code_decode.proofs.FormLemmas.{all_at}
use Rattle.txs_code_encode.proofs.SameLemmas.{agree, differ}
use Rattle.txs_code_encode.proofs.WrittenLemmas.{all_next, all_whole}
use Rattle.txs_code_encode.proofs.small.are_cells.Goals as goal

pub returns-then-not-is_writable : goal.returns-then-not-is_writable
returns-then-not-is_writable c =
    let l = c.loop-cell in
    differ (λ all. both_ways c.is_writable.result c.if-not-is_writable.true (c.is_writable.ensures.1 (all_at (λ c. IsWritable (plain_of c.opening)) c.args.cells.now l.cell-index c.cell-item.result all c.loop-cell-test.true c.cell-item.is)))

pub loop-cell-preserved : goal.loop-cell-preserved
loop-cell-preserved c =
    let l = c.loop-cell in
    all_next (λ c. IsWritable (plain_of c.opening)) c.args.cells.now l.cell-index c.cell-item.result c.loop-cell-test.true c.cell-item.is l.invariant (c.is_writable.ensures.0 c.if-not-is_writable.false)

pub returns : goal.returns
returns c = agree (all_whole (λ c. IsWritable (plain_of c.opening)) c.args.cells.now c.loop-cell.cell-index c.loop-cell-test.false c.loop-cell.invariant)
