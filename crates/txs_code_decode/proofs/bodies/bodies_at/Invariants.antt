use Rattle.std.proofs.Common.{◌≡◌, ◌-◌}
use Rattle.txs_code_decode.specs.CodeForm.{body_format, instructions}
use Rattle.txs_code_decode.specs.Format.{sharing_at}
use Rattle.txs_code_decode.proofs.Many.{with_front}
use Rattle.txs_code_decode.proofs.bodies.bodies_at.Given as goal

abbrev pub invariant-loop : goal.invariant-loop
invariant-loop l =
    with_front l.bodies.items (sharing_at instructions (body_format l.thread l.constants l.functions) (l.count - l.counter) l.left l.rest) ≡ sharing_at instructions (body_format l.thread l.constants l.functions) l.count l.limit l.bytes
