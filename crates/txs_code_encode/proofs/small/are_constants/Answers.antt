use Rattle.std.proofs.lemmas.Bool.{both_ways}
use Rattle.txs_value_data.specs.View.{plain_of}
use Rattle.txs_code_decode.specs.ValueForm.{IsWritable}
use Rattle.txs_code_decode.proofs.FormLemmas.{all_at}
use Rattle.txs_code_encode.proofs.SameLemmas.{agree, differ}
use Rattle.txs_code_encode.proofs.WrittenLemmas.{all_next, all_whole}
use Rattle.txs_code_encode.proofs.small.are_constants.Goals as goal

pub returns-then-not-is_writable : goal.returns-then-not-is_writable
returns-then-not-is_writable c =
    let l = c.loop-value in
    differ (λ all. both_ways c.is_writable.result c.if-not-is_writable.true (c.is_writable.ensures.1 (all_at (λ v. IsWritable (plain_of v)) c.args.values.now l.value-index c.value-item.result all c.loop-value-test.true c.value-item.is)))

pub loop-value-preserved : goal.loop-value-preserved
loop-value-preserved c =
    let l = c.loop-value in
    all_next (λ v. IsWritable (plain_of v)) c.args.values.now l.value-index c.value-item.result c.loop-value-test.true c.value-item.is l.invariant (c.is_writable.ensures.0 c.if-not-is_writable.false)

pub returns : goal.returns
returns c = agree (all_whole (λ v. IsWritable (plain_of v)) c.args.values.now c.loop-value.value-index c.loop-value-test.false c.loop-value.invariant)
