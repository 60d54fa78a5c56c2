use Rattle.std.proofs.Common.{◌≡◌, ◌<◌, ◌∙◌, ap, sym, rules, arith}
use Rattle.txs_value_data.specs.Places.{nth}
use Rattle.txs_code_decode.specs.InstrForm.{opcodes}
use Rattle.txs_code_decode.specs.declared.opcode.Opcode.TheVariants.{Const}
use Rattle.txs_code_decode.proofs.Lists.{nth_is, nth_past}
use Rattle.txs_code_decode.proofs.opcode.Opcode.from_byte.Goals as goal

pub returns-then-byte-lt25 : goal.returns-then-byte-lt25
returns-then-byte-lt25 c =
    let same : c.from.result ≡ c.args.byte = search rules in
    let lt : c.from.result < 25 = omega arith in
    sym (nth_is opcodes c.from.result Const lt) ∙ ap (nth opcodes) same

pub returns-else-byte-lt25 : goal.returns-else-byte-lt25
returns-else-byte-lt25 c = sym (nth_past opcodes c.args.byte (omega arith))
