use Rattle.std.proofs.Common.{◌≡◌, ◌-◌, length}
use Rattle.txs_code_decode.specs.CodeForm.{paired}
use Rattle.txs_code_decode.specs.Format.{many_at}
use Rattle.txs_code_decode.specs.InstrForm.{placed_format}
use Rattle.txs_code_decode.proofs.Many.{with_front}
use Rattle.txs_code_decode.proofs.instrs.instrs_at.Given as goal

abbrev pub invariant-loop : goal.invariant-loop
invariant-loop l =
    record {
      told : with_front (paired l.body.instrs.items l.body.spans.items) (many_at (placed_format l.constants l.functions).read (l.count - l.counter) l.rest) ≡ many_at (placed_format l.constants l.functions).read l.count l.bytes;
      as_many : length l.body.spans.items ≡ length l.body.instrs.items;
    }
