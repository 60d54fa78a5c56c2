use Rattle.std.proofs.Common.{length}
use Rattle.std.specs.Int.{w32, to_be_bytes}
use Rattle.txs_value_data.specs.View.{plain_of}
use Rattle.txs_code_decode.specs.ValueForm.{IsWritable}
use Rattle.txs_code_decode.specs.CellForm.{constant_bytes}
use Rattle.txs_code_decode.proofs.FormLemmas.{all_at}
use Rattle.txs_code_encode.proofs.WrittenLemmas.{flat_done, flat_next}
use Rattle.txs_code_encode.proofs.encoding.put_constants.Goals as goal

pub put_value-requires : goal.put_value-requires
put_value-requires c = all_at (λ v. IsWritable (plain_of v)) c.args.constants.now c.loop-constant.constant-index c.constant-item.result c.requires.writable c.loop-constant-test.true c.constant-item.is

pub loop-constant-preserved : goal.loop-constant-preserved
loop-constant-preserved c =
    flat_next constant_bytes c.args.constants.now c.loop-constant.constant-index c.constant-item.result c.args.out.now.items (to_be_bytes w32 (length c.args.constants.now)) c.loop-constant.out.items c.put_value.new.out.items c.loop-constant-test.true c.constant-item.is c.loop-constant.invariant c.in_ok-put_value.ensures

pub returns : goal.returns
returns c =
    flat_done constant_bytes c.args.constants.now c.loop-constant.constant-index c.args.out.now.items (to_be_bytes w32 (length c.args.constants.now)) c.loop-constant.out.items c.loop-constant-test.false c.loop-constant.invariant
